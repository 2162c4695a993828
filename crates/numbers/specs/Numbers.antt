-- Document 01's starred numbers ("Numbers to hold it to"), as one table under one statement, `AllHold table`, which
-- `proofs/Numbers` proves.
use Rattle.std.specs.Prelude.{List, [], ◌∷◌, ◌++◌, map, ◌≡◌, ℕ, Some, None, length, replicate}
use Rattle.line.specs.Character.{STX, ETX, EOT, ACK, LF, CR, NAK, ETB, RS, US}
use Rattle.line.specs.Parity.{with_parity}
use Rattle.line.specs.Text.{bytes_of}
use Rattle.block.specs.Block.{Segment, block_of, check_in, ending_character, summed}
use Rattle.block.specs.Checksum.{value_sum}
use Rattle.block.specs.Segments.{segment}
use Rattle.block.specs.declared.frame.Ending.TheVariants.{Etx}
use Rattle.segmentation.specs.Segmentation.{segmentation, segment_at}
use Rattle.journal.specs.Encoding.{encode}
use Rattle.reply.specs.Reading.{Reply, reply_read}
use Rattle.reply.specs.declared.Meaning.TheVariants.{Ack, Rs}

-- a row: what the definitions give, and what the document says
pub data Row : Type 0 where
  number : ℕ → ℕ → Row
  bytes : List ℕ → List ℕ → Row
  reply : Reply → Reply → Row

-- the two sides of a row are equal
abbrev pub Holds : Row → Type 0
Holds (number x y) = x ≡ y
Holds (bytes xs ys) = xs ≡ ys
Holds (reply r s) = r ≡ s

-- every row holds (R-12.1)
abbrev pub AllHold : List Row → Type 0
AllHold [] = Unit {0}
AllHold (row ∷ rows) = Holds row × AllHold rows

-- ── What the rows speak of ──

-- the information of two fields
abbrev pub fields : List ℕ → List ℕ → List ℕ
fields one two = one ++ CR ∷ two ++ CR ∷ []

-- the sum that a block's check carries, before it is reduced
abbrev pub sum_of : Segment → ℕ
sum_of g = value_sum (summed g.info g.ending)

-- a block as written
abbrev pub written : Segment → List ℕ
written g = block_of g.info g.ending

-- the check characters of a block, as they stand in it
abbrev pub check_of : Segment → List ℕ
check_of g = check_in (written g)

-- the characters that the blocks of a transaction end with
abbrev pub endings_of : List ℕ → List ℕ
endings_of info = map (λ g. ending_character g.ending) (segmentation info)

-- what is read where these characters come off the line
abbrev pub read_of : List ℕ → Reply
read_of text = reply_read (map with_parity text)

-- a page: `123`, `ABC`
abbrev pub page : List ℕ
page = fields (bytes_of "123") (bytes_of "ABC")

-- a tone page: `7`, empty
abbrev pub tone : List ℕ
tone = fields (bytes_of "7") []

-- 249 `~`, CR
abbrev pub tildes : List ℕ
tildes = replicate 249 0x7E ++ CR ∷ []

-- field `1` and so many `A`
abbrev pub long_page : ℕ → List ℕ
long_page n = fields (bytes_of "1") (replicate n 0x41)

-- field 1 of 249 characters, then field 2
abbrev pub long_number : List ℕ
long_number = fields (replicate 249 0x39) (bytes_of "X")

-- the table (R-12.1)
unfoldable pub table : List Row
table =
    -- "123, ABC: sum 379, check `17;`"
    number (sum_of (segment page Etx)) 379 ∷
    bytes (check_of (segment page Etx)) (bytes_of "17;") ∷
    -- "7, empty: sum 86, check `056`"
    number (sum_of (segment tone Etx)) 86 ∷
    bytes (check_of (segment tone Etx)) (bytes_of "056") ∷
    -- "249 `~`, CR, ETX: sum 31,392, check `::0`"
    number (sum_of (segment tildes Etx)) 31392 ∷
    bytes (check_of (segment tildes Etx)) (bytes_of "::0") ∷
    -- "Field `1` and 247 `A`: 250 characters, one block"
    number (length (long_page 247)) 250 ∷
    number (length (segmentation (long_page 247))) 1 ∷
    -- "248 `A`: two; the first ends US with check `?57`, the second is CR alone with check `012`"
    number (length (segmentation (long_page 248))) 2 ∷
    bytes (endings_of (long_page 248)) (US ∷ ETX ∷ []) ∷
    bytes (check_of (segment_at (long_page 248) 0)) (bytes_of "?57") ∷
    bytes (segment_at (long_page 248) 1).info (CR ∷ []) ∷
    bytes (check_of (segment_at (long_page 248) 1)) (bytes_of "012") ∷
    -- "Field 1 of 249 characters, then field 2: the first block ends ETB"
    bytes (endings_of long_number) (ETB ∷ ETX ∷ []) ∷
    -- "On the line STX is 82, `1` B1, CR 8D, ETX 03, `C` C3, NAK 95, EOT 84"
    bytes (map with_parity (STX ∷ 0x31 ∷ CR ∷ ETX ∷ 0x43 ∷ NAK ∷ EOT ∷ [])) (0x82 ∷ 0xB1 ∷ 0x8D ∷ 0x03 ∷ 0xC3 ∷ 0x95 ∷ 0x84 ∷ []) ∷
    -- "Book of 123, ABC: 31 32 33 0D 41 42 43 0D 00 08 00 01 00 0A; the empty book: four zeros"
    bytes (encode (page ∷ [])) (0x31 ∷ 0x32 ∷ 0x33 ∷ 0x0D ∷ 0x41 ∷ 0x42 ∷ 0x43 ∷ 0x0D ∷ 0x00 ∷ 0x08 ∷ 0x00 ∷ 0x01 ∷ 0x00 ∷ 0x0A ∷ []) ∷
    bytes (encode []) (0 ∷ 0 ∷ 0 ∷ 0 ∷ []) ∷
    -- "ACK CR is ACK; CR ACK is unread; `OK` CR RS CR LF is RS; ACK CR CR is unread"
    reply (read_of (ACK ∷ CR ∷ [])) (Some Ack) ∷
    reply (read_of (CR ∷ ACK ∷ [])) None ∷
    reply (read_of (bytes_of "OK" ++ CR ∷ RS ∷ CR ∷ LF ∷ [])) (Some Rs) ∷
    reply (read_of (ACK ∷ CR ∷ CR ∷ [])) None ∷ []
