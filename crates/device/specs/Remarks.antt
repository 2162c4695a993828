-- The remarks that a step reports: those in the reply that it has just read (document 02, wish 5).
use Rattle.std.specs.Prelude.{List, ℕ, Option, Some, None}
use Rattle.reply.specs.Reading.{reply_read, Reply}
use Rattle.reply.specs.Remarks.{remarks_of}
use Rattle.reply.specs.declared.remarks.Remarks.{Remarks}
use Rattle.device.specs.Reaction.{block_reply}
use Rattle.device.specs.declared.reaction.Code.{Code}
use Rattle.device.specs.declared.state.Step.{Step}
use Rattle.device.specs.declared.state.Step.TheVariants.{Opening, Logon, Sending, Closing, Stopped}

-- a reply to a block: as it was read where the step reads a code in it, else unread (R-6.5, R-6.13)
abbrev pub counted_by : Option Code → Reply → Reply
counted_by (Some code) r = r
counted_by None r = None

-- a reply as a step counts it: to a block an ID request and an acceptance are unread; a stopped device reads none (R-6.13)
abbrev pub counted_as : Step → Reply → Reply
counted_as (Opening p) r = r
counted_as (Logon p) r = r
counted_as (Sending p) r = counted_by (block_reply r) r
counted_as (Closing p) r = r
counted_as Stopped r = None

-- the remarks that a step reports of the bytes that it has read (R-6.13)
abbrev pub remarks_at : Step → List ℕ → Option Remarks
remarks_at step bytes = remarks_of (counted_as step (reply_read bytes)) bytes
