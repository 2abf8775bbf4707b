-- Texts as bytes: quoted ones by the codes of their characters, and numbers by their decimal digits.
use Rattle.std.specs.Prelude.{ℕ, zero, suc, ◌+◌, ◌-◌, ◌*◌, ◌/◌, ◌%◌, List, [], ◌∷◌, ◌++◌, ltb, if◌then◌else◌}
use Prim.Native.Char.{code}
use Prim.Native.String.{String, [] as none, ◌∷◌ as ◌then◌}

-- the codes of a text's characters
abbrev pub codes : String → List ℕ
codes none = []
codes (c then text) = code c ∷ codes text

-- the last decimal digit of n
abbrev pub digit : ℕ → List ℕ
digit n = (48 + n % 10) ∷ []

-- the decimal digits of n, the last k of them where there are more
unfoldable pub digits : ℕ → ℕ → List ℕ
digits zero n = []
digits (suc k) n = (if ltb n 10 then [] else digits k (n / 10)) ++ digit n

-- the value of a row of decimal digits, read from the left after digits of the value `before`; a digit's code is 48
-- plus its value
abbrev pub value_behind : ℕ → List ℕ → ℕ
value_behind before [] = before
value_behind before (d ∷ digits) = value_behind (10 * before + (d - 48)) digits

-- twenty digits hold every number of 64 bits
abbrev pub most_digits : ℕ
most_digits = 20

-- a number of 64 bits in decimal, without leading zeros
abbrev pub decimal : ℕ → List ℕ
decimal n = digits most_digits n

-- a word, then a number
abbrev pub numbered : String → ℕ → List ℕ
numbered word n = codes word ++ decimal n

-- the texts of 0 to k - 1, one after another
unfoldable pub each_text : (ℕ → List ℕ) → ℕ → List ℕ
each_text text zero = []
each_text text (suc k) = each_text text k ++ text k
