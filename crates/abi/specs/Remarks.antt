-- The remarks in a reply as a record of numbers.
use Rattle.std.specs.Prelude.{Option, Some, None}
use Rattle.reply.specs.Remarks.{span}
use Rattle.reply.specs.declared.remarks.Remarks as Reply
use Rattle.reply.specs.declared.remarks.Span.{Span}
use Rattle.abi.specs.declared.remarks.Remarks.{Remarks}

-- the record of the lines before a code, and of the last that begins with `ID`, where there is one (R-13.1)
abbrev pub lines_as : Span → Option Span → Remarks
lines_as lines (Some id) = record { found = 2; lines = lines; id = id }
lines_as lines None = record { found = 1; lines = lines; id = span 0 0 }

-- the record of remarks: 0 no places, 1 the lines before the code, 2 also one that begins with `ID`; what there is not is 0 (R-13.1)
abbrev pub remarks_as : Option Reply.Remarks → Remarks
remarks_as (Some r) = lines_as r.lines r.id_line
remarks_as None = record { found = 0; lines = span 0 0; id = span 0 0 }
