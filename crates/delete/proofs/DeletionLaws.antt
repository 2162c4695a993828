-- A deletion by its tests, and the state behind it.
use Rattle.std.specs.Prelude.{Result, Ok, Err, if◌then◌else◌}
use mathlib.Core.Bool.{Bool, true, false}
use mathlib.Core.List.{List}
use mathlib.Core.Path.{◌≡◌, refl}
use Prim.Native.Nat.{ℕ}
use native.Mathlib.Omega.{arith}
use lib.ListN.{length}
use Rattle.line.specs.Answer.{Outcome, done, refused, map_done, and_then, outcome_of}
use Rattle.line.specs.declared.answer.Refusal.{Refusal}
use Rattle.journal.specs.Encoding.{encode}
use Rattle.journal.specs.Storage.{decode_in, size_of}
use Rattle.central.specs.Lent.{state_of, whole_of}
use Rattle.central.specs.declared.state.Control.{Control}
use Rattle.central.specs.declared.state.State.{State}
use Rattle.delete.specs.Deletion.{is_open, rests_in_range, without_newest, deletable, state_over}
use Rattle.delete.specs.Inner.{allowed, behind, deleted_chosen, without}
use Rattle.delete.specs.declared.choice.Choice.{Choice}
use Rattle.delete.specs.declared.choice.Choice.TheVariants.{Nothing}

-- ── The tests ──

module _ (choice : Choice) (s : State) (b : List ℕ) where
  -- a state out of range is refused
  pub out_of_range : rests_in_range s.stage s.failures s.length ≡ false → deleted_chosen choice s b ≡ refused 9
  unfolding deletable
  out_of_range e = rw e

  -- in range, the journal is tested, and then what is allowed is left out
  pub in_range_lem : rests_in_range s.stage s.failures s.length ≡ true → and_then (decode_in b s.journal) (without (allowed s.stage choice)) ≡ deleted_chosen choice s b
  unfolding deletable without_newest
  in_range_lem e = rw e (go (is_open s.stage) (decode_in b s.journal))
    where
      go : (x : Bool) (o : Outcome (List (List ℕ))) → and_then o (without (if x then Nothing else choice)) ≡ and_then (and_then o (λ ts. if x then refused 9 else done ts)) (without choice)
      go x (refused n) = refl
      go true (done ts) = refl
      go false (done ts) = refl

-- ── The state ──

-- the state behind the answer
pub behind-over : (k : Control) (w : Result ℕ Refusal) (array : List ℕ) (o : Outcome (List (List ℕ))) → outcome_of w ≡ map_done length (map_done encode o) → (whole_of (behind k w) array).state ≡ state_over (state_of k array) o
unfolding size_of
behind-over k (Ok n) array (done ts) e =
    let same : n ≡ length (encode ts) = cc in
    rw same
behind-over k (Err q) array (refused m) e = refl
behind-over k (Ok n) array (refused m) e = let z : ◌≡◌ {A = ℕ} 0 1 = cc in absurd (omega arith)
behind-over k (Err q) array (done ts) e = let z : ◌≡◌ {A = ℕ} 0 1 = cc in absurd (omega arith)
