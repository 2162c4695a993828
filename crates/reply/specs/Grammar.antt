-- What the entry device may read, as a grammar (document 01, "What the desk may read").
use Rattle.std.specs.Prelude.{true, List, [], ◌∷◌, ◌++◌, map, ◌≡◌, ℕ, ◌≤◌, length}
use Rattle.line.specs.Character.{ACK, CR, EOT, ESC, LF, NAK, RS, printable}
use Rattle.line.specs.Parity.{even, seven_bits}
use Rattle.line.specs.Test.{all}
use Rattle.line.specs.Text.{bytes_of}
use Rattle.reply.specs.declared.Meaning.{Meaning}
use Rattle.reply.specs.declared.Meaning.TheVariants.{IdRequest, Acceptance, Ack, Nak, Rs, Eot}

-- how a line ends: CR or CR LF (R-5.1)
pub data LineEnd : List ℕ → Type 0 where
  cr : LineEnd (CR ∷ [])
  crlf : LineEnd (CR ∷ LF ∷ [])

-- 0 or more lines, each of 0 or more characters 20 to 7E, then CR or CR LF (R-5.1)
pub data Lines : List ℕ → Type 0 where
  none : Lines []
  line : (text : List ℕ) {end rest : List ℕ} → all printable text ≡ true → LineEnd end → Lines rest → Lines (text ++ end ++ rest)

-- the four codes (R-5.2)
pub data Code : Meaning → List ℕ → Type 0 where
  ack : Code Ack (ACK ∷ [])
  nak : Code Nak (NAK ∷ [])
  rs : Code Rs (RS ∷ [])
  eot : Code Eot (ESC ∷ EOT ∷ [])

-- an optional space (R-5.4)
pub data Space : List ℕ → Type 0 where
  none : Space []
  one : Space (0x20 ∷ [])

-- nothing, CR or CR LF (R-5.4)
pub data Close : List ℕ → Type 0 where
  nothing : Close []
  ended : {end : List ℕ} → LineEnd end → Close end

-- what a text without parity means (R-5.2, R-5.3, R-5.4)
pub data Means : Meaning → List ℕ → Type 0 where
  -- a reply: lines, then one code, then CR or CR LF, and nothing more
  reply : {m : Meaning} {before code end : List ℕ} → Lines before → Code m code → LineEnd end → Means m (before ++ code ++ end)
  -- a logon acceptance: lines, ACK and its CR or CR LF, lines, then ESC `[p` and CR or CR LF
  acceptance : {before end between end' : List ℕ} → Lines before → LineEnd end → Lines between → LineEnd end' →
      Means Acceptance (before ++ ACK ∷ [] ++ end ++ between ++ ESC ∷ bytes_of "[p" ++ end')
  -- an ID request: `ID=`, an optional space, then nothing, CR or CR LF
  request : {space close : List ℕ} → Space space → Close close → Means IdRequest (bytes_of "ID=" ++ space ++ close)

-- what bytes off the line mean: at most 256 of them, each of even parity (R-5.5)
pub record Recognizes (m : Meaning) (bytes : List ℕ) : Type 0 where
  pub within : length bytes ≤ 256
  pub parity : all even bytes ≡ true
  pub means : Means m (map seven_bits bytes)
