-- `put_page` meets its contract: each text is put behind those before it, and all together are the lines.
use Prim.Native.Nat.{◌+◌, ◌≤◌}
use native.Mathlib.Omega.{arith}
use lib.ListN.{length}
use Rattle.export.proofs.ExportLaws.{adds_room, adds_more, page_texts}
use Rattle.export.proofs.put_page.Goals as goal
use Rattle.export.proofs.put_page.Goals.{After-put_text-first, After-put_text-second, After-put_text-third, After-put_text-fourth}

-- the room that is left behind each text
first : (c : After-put_text-first) → c.put_text-first.result + (length c.args.pager.now + length c.args.message.now + 15) ≤ length c.put_text-first.new.out
first c = adds_room c.put_text-first.ensures _ (omega arith)

second : (c : After-put_text-second) → c.put_text-second.result + (length c.args.message.now + 15) ≤ length c.put_text-second.new.out
second c = adds_room c.put_text-second.ensures _ (omega (arith, first (goal.at.After-put_text-second c).After-put_text-first))

third : (c : After-put_text-third) → c.put_text-third.result + (length c.args.message.now + 8) ≤ length c.put_text-third.new.out
third c = adds_room c.put_text-third.ensures _ (omega (arith, second (goal.at.After-put_text-third c).After-put_text-second))

fourth : (c : After-put_text-fourth) → c.put_text-fourth.result + 8 ≤ length c.put_text-fourth.new.out
fourth c = adds_room c.put_text-fourth.ensures _ (omega (arith, third (goal.at.After-put_text-fourth c).After-put_text-third))

pub put_text-second-requires : goal.put_text-second-requires
put_text-second-requires c = omega (arith, first (goal.at.put_text-second-requires c).After-put_text-first)

pub put_text-third-requires : goal.put_text-third-requires
put_text-third-requires c = omega (arith, second (goal.at.put_text-third-requires c).After-put_text-second)

pub put_text-fourth-requires : goal.put_text-fourth-requires
put_text-fourth-requires c = omega (arith, third (goal.at.put_text-fourth-requires c).After-put_text-third)

pub put_text-requires : goal.put_text-requires
put_text-requires c = omega (arith, fourth (goal.at.put_text-requires c).After-put_text-fourth)

pub returns : goal.returns
returns c =
    let a = c.args in
    let at = goal.at.returns c in
    let four = adds_more c.put_text-fourth.ensures (omega (arith, third at.After-put_text-third)) c.put_text.ensures in
    let three = adds_more c.put_text-third.ensures (omega (arith, second at.After-put_text-second)) four in
    let two = adds_more c.put_text-second.ensures (omega (arith, first at.After-put_text-first)) three in
    rw (page_texts a.pager.now a.message.now) at (adds_more c.put_text-first.ensures (omega arith) two)
