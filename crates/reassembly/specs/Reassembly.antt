-- Joining blocks to a transaction again, a block at a time, in a lent buffer.
use Rattle.std.specs.Prelude.{Bool, true, false, not, ◌&&◌, List, [], ◌∷◌, ◌++◌, ◌≡◌, ℕ, ◌+◌, ◌-◌, leb, ltb, length, take, Result, if◌then◌else◌}
use Rattle.line.specs.Answer.{Outcome, done, refused, map_done, and_then, outcome_of, output, overlay}
use Rattle.line.specs.declared.answer.Refusal.{Refusal}
use Rattle.line.specs.Character.{textual}
use Rattle.line.specs.Test.{all}
use Rattle.line.specs.Transaction.{ends_in_cr}
use Rattle.block.specs.Block.{Segment, read_block}
use Rattle.block.specs.Segments.{continues}
use Rattle.reassembly.specs.declared.Reassembly.{Reassembly}

-- what has been joined so far: it lies at the start of the buffer (R-4.1)
abbrev pub so_far : Reassembly → List ℕ → List ℕ
so_far r buffer = take r.length buffer

-- a saved state in range: at most 2,000 characters of 20 to 7E and CR, that end in CR where the transaction is complete.
-- That is what the start can lead to, and nothing else (`Reached`) (R-4.3)
abbrev pub in_range : Reassembly → List ℕ → Bool
in_range r buffer = leb r.length 2000 && all textual (so_far r buffer) && (if r.complete then ends_in_cr (so_far r buffer) else true)

-- a state and what has been joined
pub record Progress : Type 0 where
  pub state : Reassembly
  pub joined : List ℕ

-- one segment more: a block after ETX is 6 (R-4.1)
abbrev pub join : Reassembly → List ℕ → Segment → Outcome Progress
join r buffer g =
    if r.complete then refused 6
    else
    done
    (record {
      state = record { length = r.length + length g.info; complete = not (continues g.ending) };
      joined = so_far r buffer ++ g.info;
    })

-- one block more: 9 where the state is out of range, 1 where the buffer is short of 2,000, 2 where it would be over 2,000 in
-- all; then 2 to 6 as the reader has them (R-4.1, R-4.2)
unfoldable pub join_block : Reassembly → List ℕ → List ℕ → Outcome Progress
join_block r buffer s =
    if not (in_range r buffer) then refused 9
    else if ltb (length buffer) 2000 then refused 1
    else if ltb 2000 (r.length + (length s - 6)) then refused 2
    else and_then (read_block s) (join r buffer)

-- what a step of reassembly owes: the next state, and the buffer with what is joined at its start and all else kept (R-4.1)
pub record Joined (o : Outcome Progress) (r : Result Reassembly Refusal) (before after : List ℕ) : Type 0 where
  pub answers : outcome_of r ≡ map_done (λ p. p.state) o
  pub leaves : after ≡ overlay (output (map_done (λ p. p.joined) o)) before

-- ── From the start on ──

-- where reassembly starts (R-4.1)
abbrev pub start : Reassembly
start = record { length = 0; complete = false }

-- block after block, until one is refused (R-4.4)
unfoldable pub rejoin : Reassembly → List ℕ → List (List ℕ) → Outcome Progress
rejoin r buffer [] = done (record { state = r; joined = so_far r buffer })
rejoin r buffer (s ∷ ss) = and_then (join_block r buffer s) (λ p. rejoin p.state (overlay p.joined buffer) ss)

-- a state with the buffer that goes with it, to which the start leads:
-- the start itself with any buffer, and what a block that is joined leaves (R-4.3)
pub data Reached : Reassembly → List ℕ → Type 0 where
  begun : (buffer : List ℕ) → Reached start buffer
  onward : {r : Reassembly} {buffer : List ℕ} {p : Progress} → Reached r buffer → (s : List ℕ) → join_block r buffer s ≡ done p →
      Reached p.state (overlay p.joined buffer)
