-- The password of a logon.
use Rattle.std.specs.Prelude.{Bool, ◌&&◌, List, ℕ, leb, take}
use Rattle.line.specs.Character.{alphanumeric}
use Rattle.line.specs.Test.{all}
use Rattle.line.specs.declared.password.Password.{Password}

-- the characters of a password (R-1.9)
abbrev pub password_text : Password → List ℕ
password_text p = take p.length p.characters

-- 0 to 6 letters and digits (R-1.9)
abbrev pub password_in_range : Password → Bool
password_in_range p = leb p.length 6 && all alphanumeric (password_text p)
