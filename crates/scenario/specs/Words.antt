-- A line of a scenario: what is read of it, and its words.
use Rattle.std.specs.Prelude.{ℕ, zero, suc, ◌-◌, Bool, true, false, ◌&&◌, ◌||◌, List, [], ◌∷◌, leb, length, take, drop, if◌then◌else◌}
use Rattle.std.specs.List.{position_or_len}
use Rattle.search.specs.Words.{◌is◌, ◌isn't◌}
use Rattle.search.specs.Texts.{value_behind}
use Rattle.input.specs.Layout.{byte}
use Rattle.input.specs.Words.{within}

-- ---- the codes of the characters that matter in a line
abbrev pub tab : ℕ
tab = 9

abbrev pub carriage_return : ℕ
carriage_return = 13

abbrev pub space : ℕ
space = 32

abbrev pub hash : ℕ
hash = 35

abbrev pub at_sign : ℕ
at_sign = 64

-- the length of a line without a carriage return at its end
unfoldable pub unended_length : List ℕ → ℕ
unended_length line = if byte line (length line - 1) is carriage_return then length line - 1 else length line

-- what is read of a line: all before its remark, without that carriage return
unfoldable pub said : List ℕ → List ℕ
said line =
    let unended = take (unended_length line) line in
    take (position_or_len (λ c. c is hash) unended) unended

-- a space or a tab
abbrev pub is_blank : ℕ → Bool
is_blank c = c is space || c is tab

-- how many blanks l begins with
unfoldable pub blanks : List ℕ → ℕ
blanks [] = 0
blanks (c ∷ l) = if is_blank c then suc (blanks l) else 0

-- how many characters l begins with that are not blank
unfoldable pub letters : List ℕ → ℕ
letters [] = 0
letters (c ∷ l) = if is_blank c then 0 else suc (letters l)

-- l from its first word on
abbrev pub trimmed : List ℕ → List ℕ
trimmed l = drop (blanks l) l

-- the first word of l
abbrev pub first_word : List ℕ → List ℕ
first_word l = take (letters (trimmed l)) (trimmed l)

-- l after its first word
abbrev pub behind : List ℕ → List ℕ
behind l = drop (letters (trimmed l)) (trimmed l)

-- word k of l, from 0 on; past the last one it is empty
unfoldable pub word : ℕ → List ℕ → List ℕ
word zero l = first_word l
word (suc k) l = word k (behind l)

-- ---- what a word is
-- two words are the same
unfoldable pub are_same : List ℕ → List ℕ → Bool
are_same [] [] = true
are_same [] (d ∷ m) = false
are_same (c ∷ l) [] = false
are_same (c ∷ l) (d ∷ m) = c is d && are_same l m

-- a decimal digit
abbrev pub is_digit : ℕ → Bool
is_digit c = within 48 c 57

-- a word of digits only
unfoldable pub are_digits : List ℕ → Bool
are_digits [] = true
are_digits (c ∷ l) = is_digit c && are_digits l

-- w is a decimal number, at most `most`
unfoldable pub is_number : ℕ → List ℕ → Bool
is_number most w = length w isn't 0 && are_digits w && leb (value_behind 0 w) most
