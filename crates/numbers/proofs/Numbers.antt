-- Every row of the table of document 01's numbers holds: both sides compute to the same.
use mathlib.Core.Path.{refl}
use lib.Count.{ones}
use Rattle.line.specs.Parity.{parity_off}
use Rattle.line.specs.Test.{all, same}
use Rattle.line.specs.Transaction.{ends_in_cr}
use Rattle.block.specs.Block.{block_of}
use Rattle.block.specs.Checksum.{value_sum, check_characters}
use Rattle.segmentation.specs.Segmentation.{segmentation, segments_by}
use Rattle.journal.specs.Encoding.{encode, record_of, records_of}
use Rattle.reply.specs.Reading.{rest_after, requests, accepts, code_read, text_read, reply_read}
use Rattle.numbers.specs.Numbers.{AllHold, table}

-- the table holds, a `refl` a row
pub numbers_hold : AllHold table
unfolding table block_of parity_off all same ends_in_cr value_sum check_characters segmentation segments_by encode record_of records_of rest_after requests accepts code_read text_read reply_read ones
numbers_hold = (refl, (refl, (refl, (refl, (refl, (refl, (refl, (refl, (refl, (refl, (refl, (refl, (refl, (refl, (refl, (refl, (refl, (refl, (refl, (refl, (refl, tt)))))))))))))))))))))
