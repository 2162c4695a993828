-- Laws of hearing: what the entry device sends is recognized as meant, an odd first byte is noise, a logon has one form, and a block that is heard is right for its ending.
use Rattle.std.specs.Prelude.{if◌then◌else◌}
use mathlib.Core.Bool.{Bool, true, false, false≢true, ◌&&◌, and-eq-true_iff}
use mathlib.Core.List.{List, [], ◌∷◌, ◌++◌, map}
use mathlib.Core.Path.{◌≡◌, refl, sym, ap, ◌∙◌}
use Prim.Native.Nat.{ℕ, ◌+◌, ◌-◌, ◌≤◌, ◌<◌}
use native.Mathlib.Omega.{arith}
use borrow.Author.Tests.{le-leb, leb-true}
use lib.Dec.{leb, ltb, eqb}
use lib.ListN.{length, take, drop, length-append, take-append-drop}
use lib.Seq.{take_at, drop_at, drop-drop}
use Rattle.line.proofs.SameLaws.{same_equal}
use Rattle.line.proofs.ParityLaws.{flip_odd, with_off}
use Rattle.line.specs.Answer.{Outcome, done, refused}
use Rattle.line.specs.Character.{CR, EOT, ESC, seven, alphanumeric}
use Rattle.line.specs.Parity.{even, with_parity, flip_top, parity_off}
use Rattle.line.specs.Test.{all, same}
use Rattle.line.specs.Text.{bytes_of}
use Rattle.block.proofs.FrameLaws.{write_read, read_write}
use Rattle.block.specs.Block.{Segment, block_of, right, read_block}
use Rattle.block.specs.declared.frame.Ending.{Ending}
use Rattle.line.proofs.OutcomeLaws.{choice}
use Rattle.central.specs.Hearing.{Heard, silence, noise, hello, hello_again, logon, bye, block, misfit, middle, logs_on, heard_block, recognized, heard_text, heard}
use Rattle.central.specs.declared.state.Stage.{Stage}
use Rattle.central.specs.declared.state.Stage.TheVariants.{Idle, Logon, Block}

-- the empty string is silence
pub heard-empty : (stage : Stage) → heard stage [] ≡ silence
unfolding heard
heard-empty stage = refl

-- a string that begins with an odd byte is recognized by no stage
pub odd_noise : (stage : Stage) (b : ℕ) (bs : List ℕ) → even b ≡ false → heard stage (b ∷ bs) ≡ noise
unfolding heard parity_off all
odd_noise stage b bs e = choice (λ o. heard_text stage o ≡ noise) (ltb 256 (length (b ∷ bs))) (λ long. refl) (λ fits. rw e)

-- nor is one whose first byte, an even one, had bit 7 flipped
pub flipped_noise : (stage : Stage) (b : ℕ) (bs : List ℕ) → b < 0x100 → even b ≡ true → heard stage (flip_top b ∷ bs) ≡ noise
flipped_noise stage b bs h e = odd_noise stage (flip_top b) bs (flip_odd b h e)

-- a text sent with parity is heard as the text
pub sent-heard : (stage : Stage) (text : List ℕ) → all seven text ≡ true → length text ≤ 256 → 1 ≤ length text → heard stage (map with_parity text) ≡ recognized stage text
unfolding heard
sent-heard stage [] h l s = absurd (omega arith)
sent-heard stage (c ∷ cs) h l s = ap (heard_text stage) (with_off (c ∷ cs) 256 h l)

-- ESC, 3 to 9 letters or digits and CR are heard as a logon
pub text-heard : (text : List ℕ) → 3 ≤ length text → length text ≤ 9 → all alphanumeric text ≡ true → recognized Logon (ESC ∷ text ++ CR ∷ []) ≡ logon text
unfolding recognized same
text-heard text s l h =
    let t : List ℕ = ESC ∷ text ++ CR ∷ [] in
    let long : length (text ++ CR ∷ []) ≡ length text + 1 = length-append text (CR ∷ []) in
    let inner : middle t ≡ text = take_at text (CR ∷ []) (length t - 2) (omega arith) in
    let last : drop (length t - 1) t ≡ CR ∷ [] = drop_at (ESC ∷ text) (CR ∷ []) (length t - 1) (omega arith) in
    rw (le-leb 5 (length t) (omega arith), le-leb (length t) 11 (omega arith), inner, h, last)

-- and nothing else is
pub heard-text : (t text : List ℕ) → recognized Logon t ≡ logon text → (t ≡ ESC ∷ text ++ CR ∷ []) × (3 ≤ length text) × (length text ≤ 9) × (all alphanumeric text ≡ true)
unfolding recognized
heard-text t text h = go (same t (CR ∷ [])) (logs_on t) refl h
  where
    go : (b d : Bool) → logs_on t ≡ d → (if b then hello_again else if d then logon (middle t) else noise) ≡ logon text →
        (t ≡ ESC ∷ text ++ CR ∷ []) × (3 ≤ length text) × (length text ≤ 9) × (all alphanumeric text ≡ true)
    go true d e h = absurd (false≢true cc)
    go false false e h = absurd (false≢true cc)
    go false true e h =
        let n = length t in
        let (four, end) = (and-eq-true_iff (leb 5 n && leb n 11 && same (take 1 t) (ESC ∷ []) && all alphanumeric (middle t)) (same (drop (n - 1) t) (CR ∷ []))).0 e in
        let (three, letters) = (and-eq-true_iff (leb 5 n && leb n 11 && same (take 1 t) (ESC ∷ [])) (all alphanumeric (middle t))).0 four in
        let (two, first) = (and-eq-true_iff (leb 5 n && leb n 11) (same (take 1 t) (ESC ∷ []))).0 three in
        let (least, most) = (and-eq-true_iff (leb 5 n) (leb n 11)).0 two in
        let short = leb-true 5 n least in
        let long = leb-true n 11 most in
        let from : 1 + (n - 2) ≡ n - 1 = omega arith in
        let rest : drop 1 t ≡ middle t ++ drop (n - 1) t = sym (take-append-drop (n - 2) (drop 1 t)) ∙ ap (λ l. middle t ++ l) (drop-drop (n - 2) 1 t ∙ rw from) in
        let whole : t ≡ ESC ∷ middle t ++ CR ∷ [] =
        sym (take-append-drop 1 t) ∙ ap (λ l. l ++ drop 1 t) (same_equal (take 1 t) (ESC ∷ []) first) ∙ ap (λ l. ESC ∷ l) (rest ∙ ap (λ l. middle t ++ l) (same_equal (drop (n - 1) t) (CR ∷ []) end)) in
        let same_text : middle t ≡ text = cc in
        let count : length t ≡ length text + 2 = ap length whole ∙ rw (length-append, same_text) (omega arith) in
        (rw same_text at whole, omega arith, omega arith, rw same_text at letters)

-- a logon is heard as its name and password
pub logon-heard : (password : List ℕ) → length password ≤ 6 → all alphanumeric password ≡ true → recognized Logon (ESC ∷ bytes_of "PG1" ++ password ++ CR ∷ []) ≡ logon (bytes_of "PG1" ++ password)
unfolding all
logon-heard password l h = text-heard (bytes_of "PG1" ++ password) (omega arith) (omega arith) h

-- a block is heard as its information and its ending
pub block-heard : (info : List ℕ) (e : Ending) → length info ≤ 250 → right info e ≡ true → recognized Block (block_of info e) ≡ block (record { info = info; ending = e })
unfolding recognized same block_of
block-heard info e l h = ap heard_block (write_read info e l h)

-- what is heard is a block only if the outcome of reading is
abbrev Reads : Outcome Segment → Segment → Heard Block → Type 0
Reads o g x = x ≡ block g → o ≡ done g

-- a text recognized as a block reads as one
recognized-read : (t : List ℕ) (g : Segment) → Reads (read_block t) g (recognized Block t)
unfolding recognized
recognized-read t g = choice (Reads (read_block t) g) (same t (EOT ∷ CR ∷ [])) (λ _ e. cc) (λ _. go (read_block t))
  where
    go : (o : Outcome Segment) → Reads o g (heard_block o)
    go (done f) = λ e. cc
    go (refused n) = choice (Reads (refused n) g) (eqb n 6) (λ _ e. cc) (λ _ e. cc)

-- a string heard as a block is, without parity, a block that reads
pub heard-read : (string : List ℕ) (g : Segment) → heard Block string ≡ block g → (t : List ℕ) × (parity_off string 256 ≡ done t) × (read_block t ≡ done g)
unfolding heard
heard-read [] g e = let z : ◌≡◌ {A = ℕ} 0 1 = cc in absurd (omega arith)
heard-read (b ∷ bs) g e = go (parity_off (b ∷ bs) 256) e
  where
    go : (o : Outcome (List ℕ)) → heard_text Block o ≡ block g → (t : List ℕ) × (o ≡ done t) × (read_block t ≡ done g)
    go (done t) e = (t, refl, recognized-read t g e)
    go (refused n) e = let z : ◌≡◌ {A = ℕ} 0 1 = cc in absurd (omega arith)

-- ── What is heard where it is a block ──

-- what is said of a block, said of what was heard where that is one
abbrev pub OfBlock : (Segment → Type 0) → {stage : Stage} → Heard stage → Type 0
OfBlock Q silence = Unit {0}
OfBlock Q noise = Unit {0}
OfBlock Q hello = Unit {0}
OfBlock Q hello_again = Unit {0}
OfBlock Q (logon text) = Unit {0}
OfBlock Q bye = Unit {0}
OfBlock Q (block g) = Q g
OfBlock Q misfit = Unit {0}

-- a block that is heard is right for its ending
pub heard-right : (stage : Stage) (string : List ℕ) → OfBlock (λ g. right g.info g.ending ≡ true) (heard stage string)
heard-right stage string = go stage (heard stage string) refl
  where
    go : (stage : Stage) (h : Heard stage) → heard stage string ≡ h → OfBlock (λ g. right g.info g.ending ≡ true) h
    go stage silence e = tt
    go stage noise e = tt
    go Idle hello e = tt
    go Logon hello_again e = tt
    go Logon (logon text) e = tt
    go Block bye e = tt
    go Block misfit e = tt
    go Block (block g) e =
        let (t, _, read) = heard-read string g e in
        (read_write t g read).2
