-- The numbers of replies.
use Rattle.std.specs.Prelude.{ℕ, Some, None}
use Rattle.reply.specs.Reading.{Reply}
use Rattle.reply.specs.declared.Meaning.{Meaning}
use Rattle.reply.specs.declared.Meaning.TheVariants.{IdRequest, Acceptance, Ack, Nak, Rs, Eot}

-- the number of a meaning
abbrev pub meaning_number : Meaning → ℕ
meaning_number IdRequest = 1
meaning_number Acceptance = 2
meaning_number Ack = 3
meaning_number Nak = 4
meaning_number Rs = 5
meaning_number Eot = 6

-- the number of a reply: 0 where nothing is recognized
abbrev pub reply_number : Reply → ℕ
reply_number (Some m) = meaning_number m
reply_number None = 0
