-- Laws of the checksum: it is one character more folded over the text, in any division into pieces, and twelve bits hold it all the way.
use mathlib.Core.List.{List, [], ◌∷◌, ◌++◌, foldl, foldl-append, flatten}
use mathlib.Core.Path.{◌≡◌, refl, sym, ap, ◌∙◌}
use Prim.Native.Nat.{ℕ, ◌+◌, ◌%◌, ◌<◌}
use native.Mathlib.Omega.{arith}
use Rattle.block.specs.Checksum.{value_sum, checksum, added}

-- of the sum only the lowest twelve bits count
pub added_low : (sum c : ℕ) → added (sum % 4096) c ≡ added sum c
added_low sum c = omega arith

-- from a sum of twelve bits on, folding adds the values, modulo 4,096
fold-sum : (sum : ℕ) (cs : List ℕ) → sum < 4096 → foldl added sum cs ≡ (sum + value_sum cs) % 4096
unfolding value_sum
fold-sum sum [] h = omega arith
fold-sum sum (c ∷ cs) h = omega (arith, fold-sum (added sum c) cs (omega arith))

-- twelve bits hold the sum, however many characters are added
pub fold-fits : (sum : ℕ) (cs : List ℕ) → sum < 4096 → foldl added sum cs < 4096
fold-fits sum cs h = omega (arith, fold-sum sum cs h)

-- the checksum is the fold from nought
pub fold-checksum : (cs : List ℕ) → foldl added 0 cs ≡ checksum cs
fold-checksum cs = omega (arith, fold-sum 0 cs (omega arith))

-- one character more behind a text
pub checksum-more : (cs : List ℕ) (c : ℕ) → checksum (cs ++ c ∷ []) ≡ added (checksum cs) c
checksum-more cs c = sym (fold-checksum (cs ++ c ∷ [])) ∙ foldl-append added 0 cs (c ∷ []) ∙ ap (λ sum. added sum c) (fold-checksum cs)

-- piece after piece is the same as all at once
fold_pieces : (sum : ℕ) (ps : List (List ℕ)) → foldl (foldl added) sum ps ≡ foldl added sum (flatten ps)
unfolding flatten
fold_pieces sum [] = refl
fold_pieces sum (p ∷ ps) = fold_pieces (foldl added sum p) ps ∙ sym (foldl-append added sum p (flatten ps))

-- the characters of a text, brought in any division into pieces, fold to the checksum of the whole
pub pieces_checksum : (ps : List (List ℕ)) → foldl (foldl added) 0 ps ≡ checksum (flatten ps)
pieces_checksum ps = fold_pieces 0 ps ∙ fold-checksum (flatten ps)
