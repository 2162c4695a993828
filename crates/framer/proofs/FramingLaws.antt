-- Laws of feeding. How long a string is to be does not change by bytes that come behind its end, and never falls to what is held; so bytes that come in two pieces
-- are fed as if they came in one (`fed-later`, `fed_sooner`). And feeding as the code does it.
use Rattle.std.specs.Prelude.{if◌then◌else◌}
use mathlib.Core.Bool.{Bool, true, false, and-eq-true_iff}
use mathlib.Core.List.{List, [], ◌∷◌, ◌++◌, append_assoc}
use mathlib.Core.Logic.{⊎_elim}
use Rattle.std.specs.Prelude.{None, Some}
use mathlib.Core.Path.{◌≡◌, refl, sym, ap, ◌∙◌}
use Prim.Native.Nat.{ℕ, suc, ◌+◌, ◌-◌, ◌≤◌, ◌<◌, min}
use native.Mathlib.Nat.{eq-or-lt_of_le}
use native.Mathlib.Numerals.{add-one}
use native.Mathlib.Omega.{arith}
use borrow.Author.Tests.{le-leb, lt-leb, leb-true, leb-false, ltb-true, lt-ltb}
use lib.Dec.{leb, ltb}
use lib.ListN.{length, get_or, take, drop, length-append, length-drop}
use lib.Seq.{take-append-le, drop-append-le, drop-append-add, drop-cons, drop-length, take-append-add}
use Rattle.line.specs.Character.{EOT}
use Rattle.line.proofs.OutcomeLaws.{choice}
use Rattle.line.specs.Test.{before_first}
use Rattle.framer.specs.Framing.{is, is_opening, is_ending, size, Feeding, fed, unfinished}
use Rattle.framer.specs.Inner.{later}
use Rattle.line.proofs.FirstLaws.{first-within, first_passes, first_absent, first-behind, first-kept, first_least}

-- ── How long a string is to be ──

-- two characters at least, 256 at most
pub size_bounds : (t : List ℕ) → (2 ≤ size t) × (size t ≤ 256)
unfolding size
size_bounds t = choice (λ n. (2 ≤ n) × (n ≤ 256)) (is EOT (get_or t 0 0)) (λ _. omega arith) (λ _. omega arith)

-- it goes by the first byte, and by the first ending behind it
pub size-first : (b : ℕ) (bs : List ℕ) → size (b ∷ bs) ≡ (if is EOT b then 2 else min 256 (before_first is_ending bs + 6))
unfolding size
size-first b bs = refl

-- a string that goes on still goes on by as much, whatever comes
pub size_grows : (b : ℕ) (bs u : List ℕ) → size (b ∷ bs) ≤ size (b ∷ bs ++ u)
size_grows b bs u = rw (size-first b bs, size-first b (bs ++ u)) (go (is EOT b) (first_least is_ending bs u))
  where
    go : (t : Bool) → before_first is_ending bs ≤ before_first is_ending (bs ++ u) → (if t then 2 else min 256 (before_first is_ending bs + 6)) ≤ (if t then 2 else min 256 (before_first is_ending (bs ++ u) + 6))
    go true h = omega arith
    go false h = omega arith

-- and one that has ended is as long as it was
pub size-kept : (b : ℕ) (bs u : List ℕ) → size (b ∷ bs) ≤ length (b ∷ bs) → size (b ∷ bs ++ u) ≡ size (b ∷ bs)
unfolding size
size-kept b bs u h = go (is EOT b) (first_least is_ending bs u) h
  where
    go : (t : Bool) → before_first is_ending bs ≤ before_first is_ending (bs ++ u) → (if t then 2 else min 256 (before_first is_ending bs + 6)) ≤ length (b ∷ bs) →
        (if t then 2 else min 256 (before_first is_ending (bs ++ u) + 6)) ≡ (if t then 2 else min 256 (before_first is_ending bs + 6))
    go true grows h = refl
    go false grows h = ⊎_elim (λ none. omega arith) (λ found. rw (first-kept is_ending bs u found)) (eq-or-lt_of_le (first-within is_ending bs))

-- a string that is handed over later is longer than what is held now
pub size-longer : (b : ℕ) (bs u : List ℕ) → length (b ∷ bs) < size (b ∷ bs) → length (b ∷ bs) < size (b ∷ bs ++ u)
size-longer b bs u h = omega (arith, size_grows b bs u)

-- ── Feeding ──

-- feeding, where so many bytes are skipped and t is left of what is held and what comes, n and m bytes; a string has ended there or not
abbrev pub chosen : Bool → ℕ → List ℕ → ℕ → ℕ → Feeding
chosen ended skipped t n m =
    if ended then record { string = Some (take (size t) t); used = skipped + size t - n; held = [] } else record { string = None; used = m; held = t }

abbrev pub fed_from : ℕ → List ℕ → ℕ → ℕ → Feeding
fed_from skipped t n m = chosen (leb (size t) (length t)) skipped t n m

-- feeding is that, by the place of the first STX or EOT
pub fed_from_lem : (h p : List ℕ) (k : ℕ) (t : List ℕ) → before_first is_opening (h ++ p) ≡ k → drop k (h ++ p) ≡ t → fed h p ≡ fed_from k t (length h) (length p)
unfolding fed
fed_from_lem h p k t e d = rw (e, d)

module _ (k : ℕ) (t : List ℕ) (n m : ℕ) where
  -- no string yet: the string is to be longer than what is left, which is held
  from_none : (fed_from k t n m).string ≡ None → (length t < size t) × (fed_from k t n m ≡ record { string = None; used = m; held = t })
  from_none = go (leb (size t) (length t)) refl
    where
      go : (b : Bool) → leb (size t) (length t) ≡ b → (chosen b k t n m).string ≡ None → (length t < size t) × (chosen b k t n m ≡ record { string = None; used = m; held = t })
      go true e h = let z : ◌≡◌ {A = ℕ} 0 1 = cc in absurd (omega arith)
      go false e h = (leb-false (size t) (length t) e, refl)

  -- a string: what is left is at least as long as it is to be
  from_some : (s : List ℕ) → (fed_from k t n m).string ≡ Some s →
      (size t ≤ length t) × (fed_from k t n m ≡ record { string = Some (take (size t) t); used = k + size t - n; held = [] })
  from_some s = go (leb (size t) (length t)) refl
    where
      go : (b : Bool) → leb (size t) (length t) ≡ b → (chosen b k t n m).string ≡ Some s →
          (size t ≤ length t) × (chosen b k t n m ≡ record { string = Some (take (size t) t); used = k + size t - n; held = [] })
      go true e h = (leb-true (size t) (length t) e, refl)
      go false e h = let z : ◌≡◌ {A = ℕ} 0 1 = cc in absurd (omega arith)

-- a string that begins at once is left whole
pub opens-first : (b : ℕ) (bs : List ℕ) → is_opening b ≡ true → before_first is_opening (b ∷ bs) ≡ 0
unfolding before_first
opens-first b bs e = rw e

-- what can be held begins so
pub held-opens : (b : ℕ) (bs : List ℕ) → unfinished (b ∷ bs) ≡ true → (is_opening b ≡ true) × (length (b ∷ bs) < size (b ∷ bs))
unfolding unfinished
held-opens b bs h =
    let (opens, short) = (and-eq-true_iff (is_opening b) (ltb (length (b ∷ bs)) (size (b ∷ bs)))).0 h in
    (opens, ltb-true _ _ short)

-- and what begins so, and is shorter than it is to be, can be held
pub held-begun : (b : ℕ) (bs : List ℕ) → is_opening b ≡ true → length (b ∷ bs) < size (b ∷ bs) → unfinished (b ∷ bs) ≡ true
unfolding unfinished
held-begun b bs opens short = rw (opens, lt-ltb _ _ short)

-- the same feeding, from a place so many bytes on
from_later : (k : ℕ) (t : List ℕ) (n m k' n' m' x : ℕ) → m ≡ x + m' → k + size t - n ≡ x + (k' + size t - n') → fed_from k t n m ≡ later x (fed_from k' t n' m')
from_later k t n m k' n' m' x e u = go (leb (size t) (length t))
  where
    go : (b : Bool) → chosen b k t n m ≡ later x (chosen b k' t n' m')
    go true = rw u
    go false = rw e

-- ── Bytes in two pieces ──

-- nothing is held, and nothing that begins a string comes
module _ (p : List ℕ) (none-opens : before_first is_opening p ≡ length p) where
  -- nothing is held then
  pub fed_skipped : fed [] p ≡ record { string = None; used = length p; held = [] }
  unfolding fed size before_first
  fed_skipped = rw (none-opens, drop-length)

  -- what comes behind is fed to nothing
  pub skipped_later : (q : List ℕ) → fed [] (p ++ q) ≡ later (length p) (fed [] q)
  skipped_later q =
      let k = before_first is_opening q in
      let place : before_first is_opening (p ++ q) ≡ length p + k = first-behind is_opening p q (first_absent is_opening p none-opens) in
      fed_from_lem [] (p ++ q) (length p + k) (drop k q) place (drop-append-add p q k) ∙
      from_later (length p + k) (drop k q) 0 (length (p ++ q)) k 0 (length q) (length p) (length-append p q) (omega arith) ∙
      ap (later (length p)) (sym (fed_from_lem [] q k (drop k q) refl refl))

-- where a string begins in what is held and what comes
pub data Beginning (h p : List ℕ) : Type 0 where
  -- nothing is held, and nothing that begins one comes
  nowhere : h ≡ [] → before_first is_opening p ≡ length p → Beginning h p
  -- at k, with b, and bs stands behind it
  somewhere : (k b : ℕ) (bs : List ℕ) → before_first is_opening (h ++ p) ≡ k → k < length (h ++ p) → drop k (h ++ p) ≡ b ∷ bs → is_opening b ≡ true → Beginning h p

pub beginning : (h p : List ℕ) → unfinished h ≡ true → Beginning h p
beginning [] p u = ⊎_elim (nowhere refl)
    (λ inside. let k = before_first is_opening p in somewhere k (get_or p k 0) (drop (suc k) p) refl inside (drop-cons p k 0 inside) (first_passes is_opening p inside))
    (eq-or-lt_of_le (first-within is_opening p))
beginning (b ∷ bs) p u = let opens = (held-opens b bs u).0 in somewhere 0 b (bs ++ p) (opens-first b (bs ++ p) opens) (omega arith) refl opens

-- it begins at k, with b, and bs stands behind it
module _ (h p : List ℕ) (k b : ℕ) (bs : List ℕ) (place : before_first is_opening (h ++ p) ≡ k) (inside : k < length (h ++ p)) (left : drop k (h ++ p) ≡ b ∷ bs) (opens : is_opening b ≡ true) where
  -- what comes behind does not change where it begins
  fed-more : (q : List ℕ) → fed h (p ++ q) ≡ fed_from k (b ∷ bs ++ q) (length h) (length (p ++ q))
  fed-more q =
      let kept : before_first is_opening (h ++ (p ++ q)) ≡ k = rw (← append_assoc) (first-kept is_opening (h ++ p) q (rw place inside) ∙ place) in
      let behind : drop k (h ++ (p ++ q)) ≡ b ∷ bs ++ q = rw (← append_assoc, drop-append-le k (h ++ p) q (omega arith), left) in
      fed_from_lem h (p ++ q) k (b ∷ bs ++ q) kept behind

  -- it goes on: what comes behind is fed to what is held of it
  begun-later : (fed h p).string ≡ None → (q : List ℕ) → ((fed h p).held ≡ b ∷ bs) × (fed h (p ++ q) ≡ later (length p) (fed (b ∷ bs) q))
  begun-later e q =
      let t = b ∷ bs ++ q in
      let now = fed_from_lem h p k (b ∷ bs) place left in
      let (short, is) = from_none k (b ∷ bs) (length h) (length p) (rw now at e) in
      let next : fed (b ∷ bs) q ≡ fed_from 0 t (length (b ∷ bs)) (length q) = fed_from_lem (b ∷ bs) q 0 t (opens-first b (bs ++ q) opens) refl in
      let longer = size-longer b bs q short in
      let count : length (b ∷ bs) + k ≡ length h + length p = omega (arith, length-drop k (h ++ p), ap length left, length-append h p) in
      let used : k + size t - length h ≡ length p + (0 + size t - length (b ∷ bs)) = omega arith in
      let same = from_later k t (length h) (length (p ++ q)) 0 (length (b ∷ bs)) (length q) (length p) (length-append p q) used in
      (ap (λ f. f.held) (now ∙ is), fed-more q ∙ same ∙ ap (later (length p)) (sym next))

  -- it has ended: what comes behind changes nothing
  begun_sooner : (s : List ℕ) → (fed h p).string ≡ Some s → (q : List ℕ) → fed h (p ++ q) ≡ fed h p
  begun_sooner s e q =
      let now = fed_from_lem h p k (b ∷ bs) place left in
      let (ended, is) = from_some k (b ∷ bs) (length h) (length p) s (rw now at e) in
      let within : size (b ∷ bs) ≤ length (b ∷ bs ++ q) = omega (arith, length-append (b ∷ bs) q) in
      fed-more q ∙ rw (size-kept b bs q ended, le-leb (size (b ∷ bs)) (length (b ∷ bs ++ q)) within, take-append-le (size (b ∷ bs)) (b ∷ bs) q ended) (sym (now ∙ is))

-- bytes that completed no string, and bytes behind them: as if these had come to what is held
pub fed-later : (h p q : List ℕ) → unfinished h ≡ true → (fed h p).string ≡ None → fed h (p ++ q) ≡ later (length p) (fed (fed h p).held q)
fed-later h p q u e = go (beginning h p u)
  where
    go : Beginning h p → fed h (p ++ q) ≡ later (length p) (fed (fed h p).held q)
    go (nowhere none-held none-opens) = rw (none-held, fed_skipped p none-opens) (skipped_later p none-opens q)
    go (somewhere k b bs place inside left opens) = let (held, is) = begun-later h p k b bs place inside left opens e q in rw held is

-- bytes that completed a string, and bytes behind them: these change nothing
pub fed_sooner : (h p q s : List ℕ) → unfinished h ≡ true → (fed h p).string ≡ Some s → fed h (p ++ q) ≡ fed h p
fed_sooner h p q s u e = go (beginning h p u)
  where
    go : Beginning h p → fed h (p ++ q) ≡ fed h p
    go (nowhere none-held none-opens) = let z : ◌≡◌ {A = ℕ} 0 1 = cc (fed_skipped p none-opens) in absurd (omega arith)
    go (somewhere k b bs place inside left opens) = begun_sooner h p k b bs place inside left opens s e q

-- ── As the code feeds ──

-- behind what is held nothing is skipped
fed-on : (h p : List ℕ) → unfinished h ≡ true → 1 ≤ length h → fed h p ≡ fed_from 0 (h ++ p) (length h) (length p)
fed-on [] p u some-held = absurd (omega arith)
fed-on (b ∷ bs) p u some-held = fed_from_lem (b ∷ bs) p 0 (b ∷ bs ++ p) (opens-first b (bs ++ p) (held-opens b bs u).0) refl

-- and the string is longer than that
pub held-longer : (h p : List ℕ) → unfinished h ≡ true → 1 ≤ length h → length h < size (h ++ p)
held-longer [] p u some-held = absurd (omega arith)
held-longer (b ∷ bs) p u some-held = size-longer b bs p (held-opens b bs u).1

module _ (h p : List ℕ) (u : unfinished h ≡ true) (some-held : 1 ≤ length h) where
  -- the string wants more than these: they are held too
  pub fed-held : length p < size (h ++ p) - length h → fed h p ≡ record { string = None; used = length p; held = h ++ p }
  fed-held few = fed-on h p u some-held ∙ rw (lt-leb (size (h ++ p)) (length (h ++ p)) (omega (arith, length-append h p)))

  -- it takes as many as it wants, and is handed over
  pub fed-handed : size (h ++ p) - length h ≤ length p →
      fed h p ≡ record { string = Some (h ++ take (size (h ++ p) - length h) p); used = size (h ++ p) - length h; held = [] }
  fed-handed enough =
      let n = size (h ++ p) - length h in
      let longer = held-longer h p u some-held in
      let size_is : size (h ++ p) ≡ length h + n = omega arith in
      let string : take (size (h ++ p)) (h ++ p) ≡ h ++ take n p = ap (λ k. take k (h ++ p)) size_is ∙ take-append-add h p n in
      let used : 0 + size (h ++ p) - length h ≡ n = omega arith in
      fed-on h p u some-held ∙ rw (le-leb (size (h ++ p)) (length (h ++ p)) (omega (arith, length-append h p)), string, used)

-- nothing is held, and what comes begins a string and goes on
pub fed_alone : (b : ℕ) (bs : List ℕ) → is_opening b ≡ true → length (b ∷ bs) < size (b ∷ bs) → fed [] (b ∷ bs) ≡ record { string = None; used = length (b ∷ bs); held = b ∷ bs }
fed_alone b bs opens short = fed_from_lem [] (b ∷ bs) 0 (b ∷ bs) (opens-first b bs opens) refl ∙ rw (lt-leb (size (b ∷ bs)) (length (b ∷ bs)) short)

-- nothing is held: bytes before the first STX or EOT are skipped, and a string begins with that
pub fed-opened : (p : List ℕ) (k : ℕ) → k ≡ before_first is_opening p → k < length p → fed [] p ≡ later (k + 1) (fed (get_or p k 0 ∷ []) (drop (k + 1) p))
fed-opened p k is-k inside =
    let rest = drop (k + 1) p in
    let b = get_or p k 0 in
    let t : drop k p ≡ b ∷ rest = drop-cons p k 0 inside ∙ rw add-one in
    let opens : is_opening b ≡ true = rw is-k (first_passes is_opening p (rw is-k at inside)) in
    let count : length p ≡ k + 1 + length rest = omega (arith, length-drop (k + 1) p) in
    let used : k + size (b ∷ rest) - 0 ≡ k + 1 + (0 + size (b ∷ rest) - 1) = omega (arith, size_bounds (b ∷ rest)) in
    fed_from_lem [] p k (b ∷ rest) (sym is-k) t ∙ from_later k (b ∷ rest) 0 (length p) 0 1 (length rest) (k + 1) count used ∙
    ap (later (k + 1)) (sym (fed_from_lem (b ∷ []) rest 0 (b ∷ rest) (opens-first b rest opens) refl))
