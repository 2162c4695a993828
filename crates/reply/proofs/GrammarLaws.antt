-- The reader is the grammar: what it recognizes a text as is what the text means, and it recognizes every text that means something.
use Rattle.std.specs.Prelude.{Some, None, if◌then◌else◌}
use mathlib.Core.Bool.{Bool, true, false, not, false≢true, and-eq-true_iff}
use mathlib.Core.List.{List, [], ◌∷◌, ◌++◌, map, append_assoc}
use mathlib.Core.Path.{◌≡◌, refl}
use Prim.Native.Nat.{ℕ, ◌<◌}
use lib.Count.{ones}
use lib.Dec.{ltb}
use lib.ListN.{length, drop}
use borrow.Author.Tests.{ltb-false, le-ltb}
use Rattle.line.specs.Answer.{done, refused}
use Rattle.line.specs.Character.{ACK, CR, EOT, ESC, NAK, RS}
use Rattle.line.specs.Parity.{even, seven_bits, with_parity, flip_top, parity_off}
use Rattle.line.specs.Test.{all, same}
use Rattle.line.specs.Text.{bytes_of}
use Rattle.line.proofs.ParityLaws.{flip_odd}
use Rattle.reply.specs.Grammar.{LineEnd, Lines, line, Code, ack, nak, rs, eot, Means, reply, acceptance, request, Recognizes}
use Rattle.reply.specs.Reading.{Reply, rest_after, after_lines, ends, begins, closes, requests, accepts, code_read, text_read, recognized_in, reply_read}
use Rattle.reply.specs.declared.Meaning.{Meaning}
use Rattle.reply.specs.declared.Meaning.TheVariants.{IdRequest, Acceptance, Ack, Nak, Rs, Eot}
use Rattle.reply.proofs.LinesLaws.{lines_split, end-split, lines-passed, no_line}
use Rattle.reply.proofs.TestLaws.{begins-split, closes-split, requests-split, ends-end, code_read_lem, code_no_line, request-read, end_only, prompt_closes, end-begins}

-- a choice recognized as m: by its test, or by the others
tried : {text : List ℕ} {k m : Meaning} {others : Reply} (test : Bool) →
    (test ≡ true → Means k text) → (others ≡ Some m → Means m text) → (if test then Some k else others) ≡ Some m → Means m text
tried {k} {m} true f g h = let e : k ≡ m = cc in rw e at (f refl)
tried false f g h = g h

-- lines, then what passes the test of one code
closes-means : {before code : List ℕ} {m : Meaning} (rest : List ℕ) → Lines before → Code m code → closes code rest ≡ true → Means m (before ++ rest)
closes-means {code} rest l c h =
    let (end, e, q) = closes-split code rest h in
    rw (q, ← append_assoc) (reply l c e)

-- lines, then ACK and what passes the test of the rest of an acceptance
accepts-means : {before : List ℕ} (rest : List ℕ) → Lines before → accepts rest ≡ true → Means Acceptance (before ++ rest)
unfolding accepts
accepts-means {before} rest l h =
    let (start, close) = (and-eq-true_iff (begins (ACK ∷ CR ∷ []) rest) _).0 h in
    let whole = begins-split (ACK ∷ CR ∷ []) rest start in
    rw whole (go (drop 2 rest) (rw whole at close))
  where
    go : (rest : List ℕ) → closes (ESC ∷ bytes_of "[p") (after_lines (CR ∷ rest)) ≡ true → Means Acceptance (before ++ ACK ∷ CR ∷ rest)
    go rest close =
        let (end, between, e, b, q) = end-split rest in
        let (end', e', q') = closes-split (ESC ∷ bytes_of "[p") (after_lines (CR ∷ rest)) close in
        rw (q, q') (simp append_assoc (simp append_assoc at (acceptance l e b e')))

-- lines, then what is recognized behind them
code_means : {before : List ℕ} (rest : List ℕ) (m : Meaning) → Lines before → code_read rest ≡ Some m → Means m (before ++ rest)
unfolding code_read
code_means rest m l =
    tried _ (closes-means rest l ack) (
    tried _ (closes-means rest l nak) (
    tried _ (closes-means rest l rs) (
    tried _ (closes-means rest l eot) (
    tried _ (accepts-means rest l) (λ h. absurd (false≢true cc))))))

-- sound: what is recognized is what the text means
pub read-means : (text : List ℕ) (m : Meaning) → text_read text ≡ Some m → Means m text
unfolding text_read
read-means text m =
    tried (requests text)
    (λ h. let (space, close, s, c, e) = requests-split text h in rw e (request s c))
    (λ h. let (before, l, e) = lines_split text in rw e (code_means (after_lines text) m l h))

-- what is recognized behind the lines is recognized: such a text is no ID request
behind-read : (text : List ℕ) (m : Meaning) → code_read (after_lines text) ≡ Some m → text_read text ≡ Some m
unfolding text_read
behind-read text m h = go (requests text) refl
  where
    go : (b : Bool) → requests text ≡ b → (if b then Some IdRequest else code_read (after_lines text)) ≡ Some m
    go true r =
        let (space, close, s, c, e) = requests-split text r in
        let (_, n) = request-read s c in
        cc
    go false r = h

-- ACK and the end of its line, with the rest of an acceptance behind the lines, is recognized: the text does not end with that line
accepted-read : {end : List ℕ} (text : List ℕ) → begins (CR ∷ []) text ≡ true → LineEnd end → after_lines text ≡ ESC ∷ bytes_of "[p" ++ end → code_read (ACK ∷ text) ≡ Some Acceptance
unfolding code_read accepts same
accepted-read text start e q = go (ends text) refl
  where
    go : (b : Bool) → ends text ≡ b → code_read (ACK ∷ text) ≡ Some Acceptance
    go true h = let n = end_only (ends-end text h) in cc
    go false h = rw (h, start, q, prompt_closes e)

-- complete: what a text means is what it is recognized as
pub means-read : {text : List ℕ} {m : Meaning} → Means m text → text_read text ≡ Some m
unfolding text_read all
means-read (reply {m} {before} {code} {end} l c e) =
    behind-read _ m (rw (append_assoc, lines-passed (code ++ end) l (code_no_line end c) false) (code_read_lem c e))
means-read (acceptance {before} {end} {between} {end'} l e b e') =
    let prompt : List ℕ = ESC ∷ bytes_of "[p" ++ end' in
    let rest : List ℕ = end ++ (between ++ prompt) in
    let q = simp append_assoc at (lines-passed prompt (line [] refl e b) (no_line ESC (bytes_of "[p" ++ end') refl refl refl) false) in
    behind-read _ Acceptance
    (simp append_assoc
    (rw (lines-passed (ACK ∷ rest) l (no_line ACK rest refl refl refl) false)
    (accepted-read rest (end-begins (between ++ prompt) e) e' q)))
means-read (request s c) = rw (request-read s c).0

-- sound, off the line
pub recognized : (bytes : List ℕ) (m : Meaning) → reply_read bytes ≡ Some m → Recognizes m bytes
unfolding reply_read parity_off
recognized bytes m = go (ltb 256 (length bytes)) (all even bytes) refl refl
  where
    go : (long right : Bool) → ltb 256 (length bytes) ≡ long → all even bytes ≡ right →
        recognized_in (if long then refused 1 else if not right then refused 3 else done (map seven_bits bytes)) ≡ Some m → Recognizes m bytes
    go true right l p h = absurd (false≢true cc)
    go false true l p h = record { within = ltb-false 256 (length bytes) l; parity = p; means = read-means (map seven_bits bytes) m h }
    go false false l p h = absurd (false≢true cc)

-- complete, off the line
pub recognizes : {bytes : List ℕ} {m : Meaning} → Recognizes m bytes → reply_read bytes ≡ Some m
unfolding reply_read parity_off
recognizes {bytes} r = rw (le-ltb 256 (length bytes) r.within, r.parity) (means-read r.means)

-- bytes off the line have at most one meaning
pub one_meaning : {bytes : List ℕ} {m m' : Meaning} → Recognizes m bytes → Recognizes m' bytes → m ≡ m'
one_meaning r r' = cc (recognizes r, recognizes r')

-- nothing came: it is not recognized
pub empty-unrecognized : reply_read [] ≡ None
unfolding reply_read parity_off all text_read requests code_read accepts same rest_after
empty-unrecognized = refl

-- a first byte of odd parity: the string is not recognized
pub odd_unrecognized : (b : ℕ) (bs : List ℕ) → even b ≡ false → reply_read (b ∷ bs) ≡ None
unfolding reply_read parity_off all
odd_unrecognized b bs h = rw h (go (ltb 256 (length (b ∷ bs))))
  where
    go : (long : Bool) → recognized_in (if long then refused 1 else refused 3) ≡ None
    go true = refl
    go false = refl

-- nor is one with parity whose first byte had its bit 7 flipped
pub flipped_unrecognized : (b : ℕ) (bs : List ℕ) → b < 0x100 → even b ≡ true → reply_read (flip_top b ∷ bs) ≡ None
flipped_unrecognized b bs l e = odd_unrecognized (flip_top b) bs (flip_odd b l e)

-- what a central writes, with parity, is recognized as meant
pub record WrittenRead : Type 0 where
  pub id_request-read : reply_read (map with_parity (bytes_of "ID=" ++ CR ∷ [])) ≡ Some IdRequest
  pub acceptance-read : reply_read (map with_parity (CR ∷ ACK ∷ CR ∷ ESC ∷ bytes_of "[p" ++ CR ∷ [])) ≡ Some Acceptance
  pub ack-read : reply_read (map with_parity (CR ∷ ACK ∷ CR ∷ [])) ≡ Some Ack
  pub nak-read : reply_read (map with_parity (CR ∷ NAK ∷ CR ∷ [])) ≡ Some Nak
  pub rs-read : reply_read (map with_parity (CR ∷ RS ∷ CR ∷ [])) ≡ Some Rs
  pub eot-read : reply_read (map with_parity (CR ∷ ESC ∷ EOT ∷ CR ∷ [])) ≡ Some Eot

-- it is, by computation
pub written_read : WrittenRead
unfolding reply_read parity_off all text_read requests code_read accepts same rest_after ones
written_read = record { id_request-read = refl; acceptance-read = refl; ack-read = refl; nak-read = refl; rs-read = refl; eot-read = refl }
