-- Laws of driving: from a state in range all pieces can be fed, and whatever pieces the same bytes come in, the strings handed over and the state left are the same.
-- Two neighbouring pieces can be fed as one, so all can, and one piece drives in one way only. And whole strings come out one by one.
use mathlib.Core.Bool.{true}
use mathlib.Core.List.{List, [], ◌∷◌, ◌++◌, flatten, append_assoc, append-nil, Memᴰ}
use Rattle.std.specs.Prelude.{None, Some}
use mathlib.Core.Path.{◌≡◌, refl, sym, ap, subst, ◌∙◌}
use Prim.Native.Nat.{ℕ, zero, suc, ◌+◌, ◌≤◌}
use native.Mathlib.Omega.{arith}
use lib.ListN.{length, drop, length-append, length-drop}
use lib.Seq.{drop-append-le, drop-append-add, drop-append_seam}
use Rattle.line.specs.Answer.{done}
use Rattle.line.specs.Test.{before_first}
use Rattle.framer.specs.Framing.{is_opening, Feeding, fed, unfinished, Whole}
use Rattle.framer.specs.Inner.{later}
use Rattle.framer.specs.State.{state_of, held_in, in_range, fed_to}
use Rattle.framer.specs.Driver.{Drives, over, spent, waits, hands}
use Rattle.framer.specs.declared.Framer.{Framer}
use Rattle.framer.proofs.FramingLaws.{fed-later, fed_sooner, fed_skipped, skipped_later, fed-held, held-longer}
use Rattle.framer.proofs.StateLaws.{tested-done, done-tested, state-holds, state_in_range_lem, range-held, range-state}
use Rattle.framer.proofs.WholeLaws.{Comes, waiting, handing, fed-comes, whole-fed}

-- ── One piece ──

-- the state of what is held is fed as what is held is
pub fed-state : (h p : List ℕ) (room : ℕ) → unfinished h ≡ true → 256 ≤ room → fed_to (state_of h) p room ≡ done (fed h p)
fed-state h p room u r = tested-done (state_of h) room (fed (held_in (state_of h)) p) (state_in_range_lem h u) r ∙ rw (state-holds h)

-- and what was fed is that
state-fed : (h p : List ℕ) (room : ℕ) (f : Feeding) → fed_to (state_of h) p room ≡ done f → fed h p ≡ f
state-fed h p room f e = let (_, _, same) = done-tested (state_of h) room (fed (held_in (state_of h)) p) f e in rw (state-holds h) at same

-- ── Pieces, over what is held ──

-- the same as `Drives`, over the bytes held in the place of states
data Runs : List ℕ → List (List ℕ) → List (List ℕ) → List ℕ → Type 0 where
  ends : {h : List ℕ} → Runs h [] [] h
  goes : {h h' p : List ℕ} {ps ss : List (List ℕ)} {f : Feeding} → fed h p ≡ f → f.string ≡ None → Runs f.held ps ss h' → Runs h (p ∷ ps) ss h'
  gives : {h h' p x : List ℕ} {ps ss : List (List ℕ)} {f : Feeding} → fed h p ≡ f → f.string ≡ Some x → Runs f.held (drop f.used p ∷ ps) ss h' → Runs h (p ∷ ps) (x ∷ ss) h'

-- a piece that is fed to what another left of a string, fed behind that other
behind : {x h' q : List ℕ} {qs ss : List (List ℕ)} → Runs x (q ∷ qs) ss h' → (h p : List ℕ) → fed h (p ++ q) ≡ later (length p) (fed x q) → Runs h ((p ++ q) ∷ qs) ss h'
behind (goes {f = f} e n rest) h p same = goes {f = later (length p) f} (same ∙ ap (later (length p)) e) n rest
behind {h'} {q} {qs} (gives {ss = ss} {f = f} e n rest) h p same =
    let left : Runs f.held (drop (length p + f.used) (p ++ q) ∷ qs) ss h' = rw (drop-append-add p q f.used) rest in
    gives {f = later (length p) f} (same ∙ ap (later (length p)) e) n left

-- what is left can be held
pub held-going : (h p : List ℕ) (f : Feeding) → unfinished h ≡ true → fed h p ≡ f → unfinished f.held ≡ true
unfolding unfinished
held-going h p f u e = go (fed-comes h p u)
  where
    go : Comes h p → unfinished f.held ≡ true
    go (waiting held is going) = rw (← e, is) going
    go (handing s used is whole least most) = rw (← e, is)

-- no more bytes are used than came
fed-within : (h p : List ℕ) (f : Feeding) → unfinished h ≡ true → fed h p ≡ f → f.used ≤ length p
fed-within h p f u e = go (fed-comes h p u)
  where
    go : Comes h p → f.used ≤ length p
    go (waiting held is going) = rw (← e, is) (omega arith)
    go (handing s used is whole least most) = rw (← e, is) most

-- two neighbouring pieces as one
joined : {h h' p q : List ℕ} {qs ss : List (List ℕ)} → Runs h (p ∷ q ∷ qs) ss h' → unfinished h ≡ true → Runs h ((p ++ q) ∷ qs) ss h'
joined {h} {p = p} {q = q} (goes {f = f} e n rest) u = behind rest h p (fed-later h p q u (rw e n) ∙ rw e)
joined {h} {h'} {p} {q} {qs} (gives {x = x} {ss = ss} {f = f} e n rest) u =
    let most = fed-within h p f u e in
    let left : Runs f.held (drop f.used (p ++ q) ∷ qs) ss h' = rw (drop-append-le f.used p q most) (joined rest (held-going h p f u e)) in
    gives (fed_sooner h p q x u (rw e n) ∙ e) n left

-- all pieces as one
one : {h h' p : List ℕ} (ps : List (List ℕ)) {ss : List (List ℕ)} → Runs h (p ∷ ps) ss h' → unfinished h ≡ true → Runs h ((p ++ flatten ps) ∷ []) ss h'
unfolding flatten
one {p = p} [] r u = rw (append-nil p) r
one {p = p} (q ∷ ps) r u = rw (← append_assoc) (one ps (joined r u) u)

-- nothing fed leaves all as it is
pub fed-nothing : (h : List ℕ) → unfinished h ≡ true → fed h [] ≡ record { string = None; used = 0; held = h }
unfolding before_first
fed-nothing [] u = fed_skipped [] refl
fed-nothing (b ∷ bs) u =
    let h = b ∷ bs in
    let longer = held-longer h [] u (omega arith) in
    fed-held h [] u (omega arith) (omega arith) ∙ rw (append-nil h)

-- pieces run in one way only
same-run : {h h₁ h₂ : List ℕ} {ps ss₁ ss₂ : List (List ℕ)} → Runs h ps ss₁ h₁ → Runs h ps ss₂ h₂ → (ss₁ ≡ ss₂) × (h₁ ≡ h₂)
same-run ends ends = (refl, refl)
same-run {h₂} {ss₂} (goes {ps = ps} {f = f} e n rest) (goes {f = g} e₂ n₂ rest₂) =
    let left : Runs f.held ps ss₂ h₂ = subst (λ k. Runs k.held ps ss₂ h₂) (sym e₂ ∙ e) rest₂ in
    same-run rest left
same-run (goes e n rest) (gives e₂ n₂ rest₂) = let z : ◌≡◌ {A = ℕ} 0 1 = cc in absurd (omega arith)
same-run (gives e n rest) (goes e₂ n₂ rest₂) = let z : ◌≡◌ {A = ℕ} 0 1 = cc in absurd (omega arith)
same-run {h₂} (gives {p = p} {ps = ps} {f = f} e n rest) (gives {ss = ss} {f = g} e₂ n₂ rest₂) =
    let left : Runs f.held (drop f.used p ∷ ps) ss h₂ = subst (λ k. Runs k.held (drop k.used p ∷ ps) ss h₂) (sym e₂ ∙ e) rest₂ in
    let (strings, held) = same-run rest left in
    (cc, held)

-- the pieces can be run
abbrev Run : List ℕ → List (List ℕ) → Type 0
Run h ps = (ss : List (List ℕ)) × (h' : List ℕ) × (unfinished h' ≡ true) × Runs h ps ss h'

-- with so many turns, of which each takes a piece or a byte
abbrev Enough : ℕ → Type 0
Enough n = (h : List ℕ) (ps : List (List ℕ)) → unfinished h ≡ true → length ps + length (flatten ps) ≤ n → Run h ps

-- one turn more
more : (n : ℕ) → Enough n → Enough (suc n)
unfolding flatten unfinished
more n further h [] u enough = ([], h, u, ends)
more n further h (p ∷ ps) u enough = go (fed-comes h p u)
  where
    go : Comes h p → Run h (p ∷ ps)
    go (waiting held is going) =
        let (ss, h', u', r) = further held ps going (omega (arith, length-append p (flatten ps))) in
        (ss, h', u', goes is refl r)
    go (handing x used is whole least most) =
        let fewer = length-append (drop used p) (flatten ps) in
        let (ss, h', u', r) = further [] (drop used p ∷ ps) refl (omega (arith, length-append p (flatten ps), length-drop used p)) in
        (x ∷ ss, h', u', gives is refl r)

runs : (n : ℕ) → Enough n
runs zero h [] u enough = ([], h, u, ends)
runs zero h (p ∷ ps) u enough = absurd (omega arith)
runs (suc n) h ps u enough = more n (runs n) h ps u enough

-- ── Pieces, over states ──

-- what is driven is run
drives_runs : {s s' : Framer} {ps ss : List (List ℕ)} → Drives s ps ss s' → (h : List ℕ) → unfinished h ≡ true → s ≡ state_of h → (h' : List ℕ) × (s' ≡ state_of h') × Runs h ps ss h'
drives_runs over h u e = (h, e, ends)
drives_runs (spent rest) h u e =
    let (h', e', r) = drives_runs rest h u e in
    (h', e', goes (fed-nothing h u) refl r)
drives_runs (waits {p = p} {f = f} room fits n rest) h u e =
    let is = state-fed h p room f (rw e at fits) in
    let (h', e', r) = drives_runs rest f.held (held-going h p f u is) refl in
    (h', e', goes is n r)
drives_runs (hands {p = p} {f = f} room fits n rest) h u e =
    let is = state-fed h p room f (rw e at fits) in
    let (h', e', r) = drives_runs rest f.held (held-going h p f u is) refl in
    (h', e', gives is n r)

-- what is run is driven
runs_drives : {h h' : List ℕ} {ps ss : List (List ℕ)} → Runs h ps ss h' → unfinished h ≡ true → Drives (state_of h) ps ss (state_of h')
runs_drives ends u = over
runs_drives {h} (goes {p = p} {f = f} e n rest) u = waits 256 (fed-state h p 256 u (omega arith) ∙ ap done e) n (runs_drives rest (held-going h p f u e))
runs_drives {h} (gives {p = p} {f = f} e n rest) u = hands 256 (fed-state h p 256 u (omega arith) ∙ ap done e) n (runs_drives rest (held-going h p f u e))

-- all pieces as one, none as an empty one
run_flat : {h h' : List ℕ} (ps : List (List ℕ)) {ss : List (List ℕ)} → Runs h ps ss h' → unfinished h ≡ true → Runs h (flatten ps ∷ []) ss h'
unfolding flatten
run_flat {h} [] ends u = goes (fed-nothing h u) refl ends
run_flat (p ∷ ps) r u = one ps r u

module _ (s : Framer) (ranged : in_range s ≡ true) (sized : length s.held ≡ 256) where
  -- from a state in range every piece can be fed, and the state left is in range
  pub driven : (ps : List (List ℕ)) → (ss : List (List ℕ)) × (s' : Framer) × (in_range s' ≡ true) × Drives s ps ss s'
  driven ps =
      let h = held_in s in
      let going = range-held s ranged in
      let (ss, h', u, r) = runs (length ps + length (flatten ps)) h ps going (omega arith) in
      (ss, state_of h', state_in_range_lem h' u, subst (λ x. Drives x ps ss (state_of h')) (sym (range-state s ranged sized)) (runs_drives r going))

  -- however the same bytes are divided into pieces, also empty ones, the strings handed over and the state left are the same
  pub division : {ps qs ss ts : List (List ℕ)} {s' t' : Framer} → flatten ps ≡ flatten qs → Drives s ps ss s' → Drives s qs ts t' → (ss ≡ ts) × (s' ≡ t')
  division {ps} {qs} {ts = ts} same d e =
      let h = held_in s in
      let going = range-held s ranged in
      let is = range-state s ranged sized in
      let (h₁, is₁, r₁) = drives_runs d h going is in
      let (h₂, is₂, r₂) = drives_runs e h going is in
      let other : Runs h (flatten ps ∷ []) ts h₂ = rw same (run_flat qs r₂ going) in
      let (strings, held) = same-run (run_flat ps r₁ going) other in
      (strings, is₁ ∙ ap state_of held ∙ sym is₂)

  -- feeding the pieces in order is feeding them as one
  pub drives_flat : {ps ss : List (List ℕ)} {s' : Framer} → Drives s ps ss s' → Drives s (flatten ps ∷ []) ss s'
  drives_flat {ps} {ss} d =
      let h = held_in s in
      let going = range-held s ranged in
      let is = range-state s ranged sized in
      let (h', is', r) = drives_runs d h going is in
      rw (is, is') (runs_drives (run_flat ps r going) going)

-- ── Whole strings, met with nothing held ──

module _ {q : List ℕ} {ps ss : List (List ℕ)} {s' : Framer} (rest : Drives (state_of []) (q ∷ ps) ss s') where
  -- a whole string comes out first and unaltered, and what comes behind it comes out as if alone
  pub whole_drives : {s : List ℕ} → Whole s → Drives (state_of []) ((s ++ q) ∷ ps) (s ∷ ss) s'
  unfolding unfinished
  whole_drives {s} w =
      let behind : Drives (state_of []) (drop (length s) (s ++ q) ∷ ps) ss s' = rw (drop-append_seam s q) rest in
      hands 256 (fed-state [] (s ++ q) 256 refl (omega arith) ∙ ap done (whole-fed w q)) refl behind

  -- bytes before it that begin no string are skipped
  pub skipped_drives : (p : List ℕ) → before_first is_opening p ≡ length p → Drives (state_of []) ((p ++ q) ∷ ps) ss s'
  unfolding unfinished
  skipped_drives p none-opens =
      let (h', is, r) = drives_runs rest [] refl refl in
      rw is (runs_drives (behind r [] p (skipped_later p none-opens q)) refl)

-- nothing fed
nothing_drives : Drives (state_of []) ([] ∷ []) [] (state_of [])
nothing_drives = spent over

-- it comes out alone, and nothing is held behind it
pub whole_alone : {s : List ℕ} → Whole s → Drives (state_of []) (s ∷ []) (s ∷ []) (state_of [])
whole_alone {s} w = rw (append-nil s) at (whole_drives nothing_drives w)

-- whole strings one behind the other come out as they are, and nothing is held behind them
pub wholes_drive : (ss : List (List ℕ)) → ((s : List ℕ) → Memᴰ s ss → Whole s) → Drives (state_of []) (flatten ss ∷ []) ss (state_of [])
unfolding flatten
wholes_drive [] each = nothing_drives
wholes_drive (s ∷ ss) each = whole_drives (wholes_drive ss (λ x m. each x (Memᴰ.tail m))) (each s (Memᴰ.head refl))
