-- `size` meets its contract: from EOT it is two. Else the first ending decides; none stands in what is held before its last four bytes, and none counts past 256.
use mathlib.Core.Path.{sym, ◌∙◌}
use Prim.Native.Nat.{◌+◌, ◌-◌, ◌≤◌, ◌<◌}
use native.Mathlib.Omega.{arith}
use lib.ListN.{length, take, length-take}
use Rattle.framer.specs.Framing.{is_ending}
use Rattle.line.proofs.FirstLaws.{first-within}
use Rattle.framer.proofs.HeldLaws.{held-short, size-eot, size-held, size-comes}
use Rattle.framer.proofs.size.Goals as goal
use Rattle.framer.proofs.size.Goals.{Joined-n-lt-TAIL, Start, After-seek, then-n-lt-TAIL, else-n-lt-TAIL}

-- an ending is looked for from one of the last four bytes on
last_four : (c : Joined-n-lt-TAIL) → (1 ≤ c.if-n-lt-TAIL.from) × (c.if-n-lt-TAIL.from ≤ length c.args.held.now - 5 + 1)
last_four c = elim c.if-n-lt-TAIL.branch [ then-n-lt-TAIL w ↦ omega arith | else-n-lt-TAIL w ↦ omega arith ]

-- what is held has at most 255 bytes
short : (c : Start) → length c.args.held.now < 256
short c = held-short c.args.held.now c.requires.0

-- the place that was found in what comes lies within the part that was searched
within : (c : After-seek) → c.seek.result ≤ c.min-most.result
within c =
    let bytes = c.args.bytes.now in
    let most = c.min-most.result in
    omega (arith, c.seek.ensures, first-within is_ending (take most bytes), length-take most bytes)

pub returns-then-held-eq-EOT : goal.returns-then-held-eq-EOT
returns-then-held-eq-EOT c = sym (size-eot c.args.held.now c.args.bytes.now c.requires.1 c.if-held-eq-EOT.true)

pub returns-then-end-n : goal.returns-then-end-n
returns-then-end-n c =
    let (least, most) = last_four (goal.at.returns-then-end-n c).Joined-n-lt-TAIL in
    c.min.ensures ∙ sym (size-held c.args.held.now c.args.bytes.now c.requires.0 c.requires.1 c.if-held-eq-EOT.false c.if-n-lt-TAIL.from least most c.seek-end.result c.seek-end.ensures c.if-end-n.true)

pub returns : goal.returns
returns c =
    let (least, most) = last_four (goal.at.returns c).Joined-n-lt-TAIL in
    let found = size-comes c.args.held.now c.args.bytes.now c.requires.0 c.requires.1 c.if-held-eq-EOT.false c.if-n-lt-TAIL.from least most c.seek-end.result c.seek-end.ensures c.if-end-n.false c.min-most.result c.min-most.ensures in
    c.min-2.ensures ∙ rw c.seek.ensures (omega arith)

pub overflow_sub-n : goal.overflow_sub-n
overflow_sub-n c = omega (arith, short (goal.at.overflow_sub-n c).Start)

pub overflow_add-n : goal.overflow_add-n
overflow_add-n c =
    let here = goal.at.overflow_add-n c in
    omega (arith, within here.After-seek, c.min-most.ensures, short here.Start)

pub overflow_add-n-2 : goal.overflow_add-n-2
overflow_add-n-2 c =
    let here = goal.at.overflow_add-n-2 c in
    omega (arith, within here.After-seek, c.min-most.ensures, short here.Start)
