-- Document 01's three runs, by computation: pager list 123, job 123/ABC then 9/X, limits 0; and the late device's final verdicts, which higher limits do not keep.
use mathlib.Core.List.{List, [], ◌∷◌, ◌++◌}
use mathlib.Core.Path.{◌≡◌, refl}
use Prim.Native.Nat.{ℕ}
use lib.Count.{ones}
use Rattle.line.specs.Character.{CR}
use Rattle.line.specs.Parity.{parity_off}
use Rattle.line.specs.Test.{all, same}
use Rattle.line.specs.Text.{bytes_of}
use Rattle.line.specs.Transaction.{ends_in_cr}
use Rattle.block.specs.Block.{block_of, agrees, framed, summing, read_block}
use Rattle.block.specs.Checksum.{value_sum, check_characters}
use Rattle.segmentation.specs.Segmentation.{segmentation_by, segments_by}
use Rattle.segmentation.specs.declared.way.Way.TheVariants.{Filled}
use Rattle.journal.specs.Encoding.{record_of, records_of}
use Rattle.journal.specs.Storage.{transactions}
use Rattle.reply.specs.Reading.{rest_after, requests, accepts, code_read, text_read, reply_read}
use Rattle.admission.specs.Content.{number_from, first_field, field_count, listed, content, admits}
use Rattle.central.specs.Hearing.{recognized, heard}
use Rattle.central.specs.Reaction.{reacts}
use Rattle.device.specs.Bound.{job_blocks}
use Rattle.device.specs.Reaction.{segments_of, moves}
use Rattle.device.specs.declared.state.Confirmation.{Confirmation}
use Rattle.device.specs.declared.state.Confirmation.TheVariants.{Early, Late}
use Rattle.device.specs.declared.state.Verdict.{Verdict}
use Rattle.device.specs.declared.state.Verdict.TheVariants.{Accepted, Rejected, Unconfirmed, Deferred, Unsent, InDoubt}
use Rattle.demand.specs.Faults.{damages_from, faulted}
use Rattle.demand.specs.Final.{settled_in}
use Rattle.demand.specs.Run.{Inputs, Ends, Outcome, responds, follows, exchange, after, final, outcome}

-- 123/ABC
abbrev stored : List ℕ
stored = bytes_of "123" ++ CR ∷ bytes_of "ABC" ++ CR ∷ []

-- 9/X, whose pager is not listed
abbrev unlisted : List ℕ
unlisted = bytes_of "9" ++ CR ∷ bytes_of "X" ++ CR ∷ []

-- the job of both, into an empty journal, with D = 0 and this C
abbrev inputs : Confirmation → ℕ → Inputs (List (List ℕ))
inputs confirmation c =
    record {
      job = stored ∷ unlisted ∷ [];
      device = record { password = record { characters = 0x41 ∷ 0x31 ∷ 0 ∷ 0 ∷ 0 ∷ 0 ∷ []; length = 2 }; retries = 0; way = Filled; confirmation = confirmation };
      rules = record { password = bytes_of "A1"; longest = 2000; retries = c; pagers = 123 ∷ []; storage = transactions };
      journal = [];
    }

-- both ends of its run over a list of faults
unfoldable ended : Confirmation → ℕ → List ℕ → Ends (List (List ℕ))
unfolding after exchange responds follows damages_from heard recognized reacts moves job_blocks reply_read text_read code_read requests accepts rest_after same all parity_off ones block_of agrees framed summing read_block value_sum check_characters segments_of segmentation_by segments_by record_of records_of number_from first_field field_count listed content admits ends_in_cr
ended confirmation c faults = final (inputs confirmation c) (faulted (inputs confirmation c) faults)

-- what an early device's comes to
abbrev faulty : List ℕ → Outcome (List (List ℕ))
faulty faults = outcome (ended Early 0 faults)

-- the final verdicts of a late device's
abbrev late : ℕ → List ℕ → List Verdict
late c faults = settled_in (inputs Late c) (ended Late c faults)

-- clean
without_faults : faulty [] ≡ record { verdicts = Accepted ∷ Rejected ∷ []; journal = stored ∷ []; transmissions = 5 }
unfolding ended
without_faults = refl

-- the first block's reply garbled
reply-garbled : faulty (0 ∷ 0 ∷ 1 ∷ []) ≡ record { verdicts = Unconfirmed ∷ Unsent ∷ []; journal = stored ∷ []; transmissions = 3 }
unfolding ended
reply-garbled = refl

-- the first block garbled
block-garbled : faulty (0 ∷ 0 ∷ 3 ∷ []) ≡ record { verdicts = Deferred ∷ Unsent ∷ []; journal = []; transmissions = 3 }
unfolding ended
block-garbled = refl

-- late and clean: the close confirms
late-clean : late 0 [] ≡ Accepted ∷ Rejected ∷ []
unfolding ended
late-clean = refl

-- late, the close's string garbled: a central with C = 0 hangs up, and its ESC EOT confirms
close_garbled : late 0 (0 ∷ 0 ∷ 0 ∷ 0 ∷ 3 ∷ []) ≡ Accepted ∷ Rejected ∷ []
unfolding ended
close_garbled = refl

-- the same fault under a higher limit, C = 1: NAK, which the device may not answer, so the accepted one is in doubt
close_doubted : late 1 (0 ∷ 0 ∷ 0 ∷ 0 ∷ 3 ∷ []) ≡ InDoubt ∷ Rejected ∷ []
unfolding ended
close_doubted = refl
