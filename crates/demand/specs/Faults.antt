-- Faults as damage (document 01, "The run"): a fault (the paper's fate) for each transmission, 0 to 8.
use Rattle.std.specs.Prelude.{List, [], ◌∷◌, ℕ, ◌/◌, ◌%◌, eqb, if◌then◌else◌}
use Rattle.line.specs.Parity.{flip_top}
use Rattle.demand.specs.Run.{Damage, whole, nothing, other, Transit, Damages, Inputs, Ends, start, string, answer, exchange}

-- a string with bit 7 of its first byte flipped (R-10.6)
abbrev pub garbled : List ℕ → List ℕ
garbled [] = []
garbled (b ∷ bs) = flip_top b ∷ bs

-- the damage of a fault to a string: 0 whole, 1 garbled, 2 lost (R-10.6)
abbrev pub damage : ℕ → List ℕ → Damage
damage fault bytes = if eqb fault 0 then whole else if eqb fault 1 then other (garbled bytes) else nothing

-- over any journal type
module _ {J : Type 0} where
  -- the damage to one transmission: 3 times the fault of the string plus the fault of its answer (R-10.6)
  abbrev pub damages : Inputs J → ℕ → Ends J → Transit
  damages i fault e =
      let d = damage (fault / 3) (string i e) in
      record { out = d; back = damage (fault % 3) (answer i d e) }

  -- the list of damage that faults make from here on (R-10.6)
  unfoldable pub damages_from : Inputs J → List ℕ → Ends J → Damages
  damages_from i [] e = []
  damages_from i (f ∷ fs) e = damages i f e ∷ damages_from i fs (exchange i (damages i f e) e)

  -- the list of damage that faults make along their run (R-10.6)
  abbrev pub faulted : Inputs J → List ℕ → Damages
  faulted i faults = damages_from i faults (start i)
