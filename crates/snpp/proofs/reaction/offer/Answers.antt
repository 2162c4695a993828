-- `offer` meets its contract: what is over 2,000 characters is not admitted; else pager ID, CR, message and CR, laid one behind the other, are the transaction that is offered.
use mathlib.Core.List.{List, [], ◌∷◌, ◌++◌}
use mathlib.Core.Path.{◌≡◌, refl, sym}
use Prim.Native.Nat.{ℕ, ◌+◌, ◌-◌, ◌≤◌}
use native.Mathlib.Omega.{arith}
use borrow.Rule.Slice.PartMut.{put_mid}
use lib.ListN.{length, drop, replicate, set, length-append, length-replicate}
use Rattle.line.proofs.AllLaws.{all-bytes}
use Rattle.line.proofs.CopyLaws.{copied-behind}
use Rattle.line.proofs.LaidLaws.{laid-snoc, laid-start}
use Rattle.line.specs.Answer.{Laid, overlay}
use Rattle.line.specs.Character.{CR}
use Rattle.snpp.proofs.OfferLaws.{page-length, page-joined, pager-printable, page-legal, offers-long, offers-admitted}
use Rattle.snpp.specs.Reaction.{page_of}
use borrow.Author.Rules.{rules}
use Rattle.snpp.proofs.reaction.offer.Goals as goal

-- the array before it is written to
abbrev zeros : List ℕ
zeros = replicate 2000 0

zeros-length : length zeros ≡ 2000
zeros-length = length-replicate {A = ℕ} 2000 0

-- a pager ID and a message that fit in the array
module _ (p m : List ℕ) (fits : length p + length m + 2 ≤ 2000) where
  -- the pager ID and its CR are laid
  first : {one : List ℕ} → one ≡ overlay p zeros → Laid (p ++ CR ∷ []) (length p + 1) zeros (set one (length p) CR)
  first {one} e =
      let laid : Laid p (length p) zeros one = record { counts = refl; leaves = e } in
      laid-snoc (length p + 1) CR laid (omega (arith, zeros-length)) refl

  -- the whole page is laid
  whole : {out two : List ℕ} → let n = length p + 1 in Laid (p ++ CR ∷ []) n zeros out → two ≡ m →
      Laid (page_of p m) (length p + length m + 2) zeros (set (put_mid n (length p + length m + 2 - 1 - n) out two) (length p + length m + 2 - 1) CR)
  whole {out} {two} front e =
      let n = length p + 1 in
      let laid : Laid ((p ++ CR ∷ []) ++ m) (length p + length m + 2 - 1) zeros (put_mid n (length p + length m + 2 - 1 - n) out two) =
      record {
        counts = omega (arith, length-append (p ++ CR ∷ []) m, front.counts);
        leaves = copied-behind (p ++ CR ∷ []) m zeros out two n _ front.leaves (sym front.counts) (omega arith) e;
      } in
      rw (page-joined p m) at (laid-snoc (length p + length m + 2) CR laid (omega (arith, zeros-length)) (omega arith))

pub returns-then-n-gt-MOST_INFORMATION : goal.returns-then-n-gt-MOST_INFORMATION
returns-then-n-gt-MOST_INFORMATION c =
    let a = c.args in
    let p = c.requires in
    offers-long a.longest a.pagers.now a.journal.now a.length a.pager.now a.message.now (all-bytes _ c.type_inv.journal) p.4 p.0 (rw page-length c.if-n-gt-MOST_INFORMATION.true)

pub returns : goal.returns
returns c =
    let a = c.args in
    let p = c.requires in
    let fits = c.if-n-gt-MOST_INFORMATION.false in
    let lies : c.copy_from_slice.new.self ++ drop (length a.pager.now) zeros ≡ overlay a.pager.now zeros = unfold overlay in rw c.copy_from_slice.ensures.after refl in
    let front = first a.pager.now a.message.now fits lies in
    let long = page-length a.pager.now a.message.now in
    let good = page-legal a.pager.now a.message.now (pager-printable a.pager.now p.1) p.2 (omega arith) in
    rw c.unwrap_or.ensures
    (offers-admitted a.longest a.pagers.now a.journal.now a.length a.pager.now a.message.now (all-bytes a.journal.now (search rules)) p.4 good
    (rw (laid-start (whole a.pager.now a.message.now fits front c.copy_from_slice-2.ensures.after)) at c.admit.ensures))
