-- What is gone, as statements about lists: one record with so many newer ones, or those for a pager number; the others stay, in their order,
-- and number and bytes are less by just what is gone.
use mathlib.Core.Bool.{Bool, true, false, ◌&&◌, Bool-discrete, and-eq-true_iff}
use mathlib.Core.List.{List, [], ◌∷◌, ◌++◌, append-nil, filter, reverse, reverse-reverse}
use mathlib.Core.Logic.{ite}
use mathlib.Core.Path.{◌≡◌, refl, sym, ap, ◌∙◌}
use Prim.Native.Nat.{ℕ, suc, ◌+◌, ◌-◌, ◌<◌}
use native.Mathlib.Omega.{arith}
use borrow.Author.Tests.{leb-true}
use lib.Dec.{leb}
use lib.ListN.{length, get_or, take, drop, length-append, length-reverse}
use lib.Seq.{length-take-le}
use Rattle.line.proofs.OutcomeLaws.{met}
use Rattle.line.specs.Answer.{done}
use Rattle.journal.proofs.RecordLaws.{record_length}
use Rattle.journal.specs.Encoding.{record_of, records_of, keeps_limits}
use Rattle.journal.specs.Storage.{transactions}
use Rattle.admission.specs.Content.{is_for}
use Rattle.delete.specs.Deletion.{without_newest}
use Rattle.delete.proofs.KeptLaws.{size_back, size_back_lem, cut_at, split_at, others}

-- one record is gone, the n-th of these; the others stay, in their order
pub record Gone (n : ℕ) (before after : List (List ℕ)) : Type 0 where
  pub newer : List (List ℕ)
  pub gone : List ℕ
  pub older : List (List ℕ)
  pub was : before ≡ newer ++ gone ∷ older
  pub left : after ≡ newer ++ older
  pub nth : n ≡ length newer + 1

-- without the n-th from the newest: counted from there, that one is gone and no other
pub newest_gone : (n : ℕ) (ts ks : List (List ℕ)) → without_newest n ts ≡ done ks → Gone n (reverse ts) (reverse ks)
unfolding without_newest
newest_gone n ts ks h =
    let (test, made) = met (leb 1 n && leb n (length ts)) 9 _ ks h in
    let (low, high) = (and-eq-true_iff (leb 1 n) (leb n (length ts))).0 test in
    let rs : List (List ℕ) = reverse ts in
    let k : ℕ = n - 1 in
    let some = leb-true 1 n low in
    let inside : k < length rs = rw length-reverse (omega (arith, leb-true n (length ts) high)) in
    let newer : List (List ℕ) = take k rs in
    let older : List (List ℕ) = drop (suc k) rs in
    let split : rs ≡ newer ++ get_or rs k [] ∷ older = split_at rs k inside in
    let nth : n ≡ length newer + 1 = omega (arith, length-take-le k rs (omega arith)) in
    let whole : reverse (newer ++ get_or rs k [] ∷ older) ≡ ts = ap reverse (sym split) ∙ reverse-reverse ts in
    let cut : take (length ts - n) ts ++ drop (length ts - n + 1) ts ≡ ks = cc in
    let same : reverse (newer ++ older) ≡ ks = sym (cut_at newer (get_or rs k []) older n nth) ∙ ap (λ us. take (length us - n) us ++ drop (length us - n + 1) us) whole ∙ cut in
    record { newer = newer; gone = get_or rs k []; older = older; was = split; left = ap reverse (sym same) ∙ reverse-reverse (newer ++ older); nth = nth }

-- ── Room ──

-- number and bytes are less by just those of the records that are gone
pub record GivenBack (before after gone : List (List ℕ)) : Type 0 where
  pub count : length before ≡ length after + length gone
  pub bytes : length (records_of before) ≡ length (records_of after) + length (records_of gone)

-- then the room for a transaction is that of a journal with so many records and bytes fewer
pub room_back : (ts ks gone : List (List ℕ)) (t : List ℕ) → GivenBack ts ks gone → transactions.room ks t ≡ keeps_limits (length ts - length gone) (length (records_of ts) - length (records_of gone)) (length t)
room_back ts ks gone t g =
    let count : length ts - length gone ≡ length ks = omega (arith, g.count) in
    let bytes : length (records_of ts) - length (records_of gone) ≡ length (records_of ks) = omega (arith, g.bytes) in
    rw (count, bytes)

-- one record among others
one-gone : (newer : List (List ℕ)) (t : List ℕ) (older : List (List ℕ)) → size_back (newer ++ t ∷ older) ≡ size_back (newer ++ older) + (length t + 2)
one-gone [] t older = size_back_lem t older
one-gone (u ∷ newer) t older = rw (size_back_lem u (newer ++ t ∷ older), size_back_lem u (newer ++ older)) (omega (arith, one-gone newer t older))

-- the n-th from the newest gives back its own room
pub newest_back : (n : ℕ) (ts ks : List (List ℕ)) (h : without_newest n ts ≡ done ks) → GivenBack ts ks ((newest_gone n ts ks h).gone ∷ [])
unfolding records_of
newest_back n ts ks h =
    let g = newest_gone n ts ks h in
    let was = ap length g.was ∙ length-append g.newer (g.gone ∷ g.older) in
    let left = ap length g.left ∙ length-append g.newer g.older in
    let size : size_back (reverse ts) ≡ size_back (reverse ks) + (length g.gone + 2) = rw (g.was, g.left) (one-gone g.newer g.gone g.older) in
    record {
      count = omega (arith, length-reverse ts, length-reverse ks);
      bytes = rw append-nil (rw (reverse-reverse ts, reverse-reverse ks, ← record_length g.gone) at size);
    }

-- the records for a pager number
abbrev pub those : ℕ → List (List ℕ) → List (List ℕ)
those m ts = filter (λ t. Bool-discrete (is_for m t) true) ts

-- they give back theirs
pub pager-back : (m : ℕ) (ts : List (List ℕ)) → GivenBack ts (others m ts) (those m ts)
unfolding records_of
pager-back m [] = record { count = refl; bytes = refl }
pager-back m (t ∷ ts) = go (is_for m t) (pager-back m ts)
  where
    go : (b : Bool) → GivenBack ts (others m ts) (those m ts) →
        GivenBack (t ∷ ts) (ite {C = List (List ℕ)} (Bool-discrete b false) (t ∷ others m ts) (others m ts)) (ite {C = List (List ℕ)} (Bool-discrete b true) (t ∷ those m ts) (those m ts))
    go true g = record { count = omega (arith, g.count); bytes = rw (length-append (record_of t) (records_of ts), length-append (record_of t) (records_of (those m ts))) (omega (arith, g.bytes)) }
    go false g = record { count = omega (arith, g.count); bytes = rw (length-append (record_of t) (records_of ts), length-append (record_of t) (records_of (others m ts))) (omega (arith, g.bytes)) }
