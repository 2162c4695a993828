-- Laws of the reader's tests at a place of a text: what begins there, what ends there, and where the whole lines end.
use Rattle.std.specs.Prelude.{Option, Some, None, if◌then◌else◌}
use Rattle.std.specs.Option.{MatchOption, unwrap_or}
use Rattle.std.specs.List.{starts_with}
use denote.Ref.{Bor}
use lib.Pointwise.{pointwise}
use mathlib.Core.Bool.{Bool, true, false, ◌&&◌, ◌||◌, false≢true, and-true, or-false}
use mathlib.Core.List.{List, [], ◌∷◌}
use mathlib.Core.Path.{◌≡◌, refl, sym, ap, ◌∙◌}
use Prim.Native.Nat.{ℕ, suc, ◌+◌, ◌-◌, ◌≤◌, ◌<◌}
use native.Mathlib.Numerals.{add-one}
use native.Mathlib.Omega.{arith}
use borrow.Author.Tests.{eqb-true}
use lib.Dec.{eqb, eqb-suc-zero}
use lib.ListN.{length, get_or, take, drop, length-take, length-drop}
use lib.Seq.{drop-cons, take_all}
use Rattle.line.specs.Character.{CR, LF, printable}
use Rattle.line.specs.Test.{same}
use Rattle.line.proofs.SameLaws.{eqb_turned, same_equal, same-pointwise}
use Rattle.reply.specs.Reading.{begins, finishes, rest_after}

-- what begins a text is no longer than it
pub begins-fits : (start text : List ℕ) → begins start text ≡ true → length start ≤ length text
begins-fits start text h = omega (arith, length-take (length start) text, ap length (same_equal (take (length start) text) start h))

-- a text does not begin with what is longer
pub begins-short : (start text : List ℕ) → length text < length start → false ≡ begins start text
begins-short start text h = go (begins start text) refl
  where
    go : (b : Bool) → begins start text ≡ b → false ≡ b
    go true e = absurd (omega (arith, begins-fits start text e))
    go false e = refl

-- `strip_prefix` and `starts_with` test so
pub stripped-begins : (start text : List ℕ) → pointwise eqb (take (length start) text) start ≡ begins start text
stripped-begins start text = same-pointwise (take (length start) text) start

same_turned : (xs ys : List ℕ) → pointwise eqb xs ys ≡ same ys xs
unfolding same
same_turned [] [] = refl
same_turned [] (y ∷ ys) = refl
same_turned (x ∷ xs) [] = refl
same_turned (x ∷ xs) (y ∷ ys) = rw (eqb_turned x y, same_turned xs ys)

pub starts-begins : (start text : List ℕ) → starts_with eqb text start ≡ begins start text
starts-begins start text = same_turned start (take (length start) text)

-- a slice from a place on is what stands there
pub rest_of : (text : List ℕ) (n : ℕ) → take (length text - n) (drop n text) ≡ drop n text
rest_of text n = take_all (length text - n) (drop n text) (omega (arith, length-drop n text))

-- nothing is left of an empty text
pub empty-same : (text : List ℕ) → same text [] ≡ eqb (length text) 0
unfolding same
empty-same [] = refl
empty-same (c ∷ text) = sym (eqb-suc-zero (length text))

-- a space finishes nothing
space_on : (text : List ℕ) → begins (0x20 ∷ []) text ≡ true → finishes text ≡ false
unfolding same
space_on [] h = absurd (false≢true h)
space_on (c ∷ text) h = let e = eqb-true c 0x20 (simp and-true at h) in rw e

-- a space at the start may be taken off: what is left decides
pub space-passed : (rest : Bor (List ℕ)) (r : Option (Bor (List ℕ))) →
    MatchOption r (pointwise eqb (take 1 rest.now) (0x20 ∷ []) ≡ false) (λ x. (pointwise eqb (take 1 rest.now) (0x20 ∷ []) ≡ true) × (x.now ≡ drop 1 rest.now) × (length x.now + 1 ≡ length rest.now)) →
    finishes (unwrap_or r rest).now ≡ (finishes rest.now || begins (0x20 ∷ []) rest.now && finishes (drop 1 rest.now))
space-passed rest None m = let no = sym (stripped-begins (0x20 ∷ []) rest.now) ∙ m in rw (no, or-false)
space-passed rest (Some x) m =
    let yes = sym (stripped-begins (0x20 ∷ []) rest.now) ∙ m.0 in
    rw (yes, space_on rest.now yes, m.1)

-- a choice by two tests, whose ways differ by the first alone, where one of them holds
taken : {A : Type 0} (f : Bool → A) (x : A) (a b : Bool) → (a || b) ≡ true → (if a then f true else if b then f false else x) ≡ f a
taken f x true b e = refl
taken f x false true e = refl
taken f x false false e = absurd (false≢true e)

-- the same where neither holds
left : {A : Type 0} (f : Bool → A) (x : A) (a b : Bool) → (a || b) ≡ false → (if a then f true else if b then f false else x) ≡ x
left f x true b e = absurd (false≢true (sym e))
left f x false true e = absurd (false≢true (sym e))
left f x false false e = refl

-- the loop over the whole lines, at the character at i: `whole` is what follows them all
module _ (whole text : List ℕ) (rest i : ℕ) (ended : Bool) (met : whole ≡ rest_after (drop rest text) ended (drop i text)) (here : i < length text) where
  -- a character of a line
  pub line-goes-on : printable (get_or text i 0) ≡ true → whole ≡ rest_after (drop rest text) (eqb (get_or text i 0) CR) (drop (i + 1) text)
  unfolding rest_after
  line-goes-on p = met ∙ rw (add-one, drop-cons text i 0 here, p, no_cr (eqb (get_or text i 0) CR) refl)
    where
      no_cr : (b : Bool) → eqb (get_or text i 0) CR ≡ b → eqb (get_or text i 0) CR ≡ false
      no_cr true e = absurd (false≢true (rw (eqb-true (get_or text i 0) CR e) at p))
      no_cr false e = e

  -- the line ends, or the LF behind its CR
  pub line-ends : printable (get_or text i 0) ≡ false → (eqb (get_or text i 0) CR || ended && eqb (get_or text i 0) LF) ≡ true →
      whole ≡ rest_after (drop (i + 1) text) (eqb (get_or text i 0) CR) (drop (i + 1) text)
  unfolding rest_after
  line-ends p e =
      met ∙ rw (add-one, drop-cons text i 0 here, p)
      (taken (λ b. rest_after (drop (suc i) text) b (drop (suc i) text)) (drop rest text) (eqb (get_or text i 0) CR) (ended && eqb (get_or text i 0) LF) e)

  -- no line can have the character
  pub lines-over : printable (get_or text i 0) ≡ false → (eqb (get_or text i 0) CR || ended && eqb (get_or text i 0) LF) ≡ false → drop rest text ≡ whole
  unfolding rest_after
  lines-over p e =
      sym (met ∙ rw (drop-cons text i 0 here, p)
      (left (λ b. rest_after (drop (suc i) text) b (drop (suc i) text)) (drop rest text) (eqb (get_or text i 0) CR) (ended && eqb (get_or text i 0) LF) e))
