-- What stands behind an item's name, word after word: what is wrong, or what the item says. Assumes nothing.
use Rattle.std.proofs.Common.{◌≡◌, ◌≢◌, ℕ, zero, suc, ◌<◌, Bool, true, false, not, List, [], ◌∷◌, length, get_or, take, refl, arith, Result, Ok, Err, ne_eqb, eqb-true}
use Rattle.std.specs.Prelude.{if◌then◌else◌}
use Rattle.search.specs.Words.{◌is◌}
use Rattle.numbers.specs.Rows.{Row, ◌when◌, ◌otherwise◌, first_of}
use Rattle.scenario.specs.Words.{is_blank, blanks, letters, first_word, behind, word}
use Rattle.scenario.specs.Items.{unknown, no_more, one, not_one, argument_of, item_count, entry_at, sort_at, wrong_rows, item_behind}
use Rattle.scenario.specs.Reads.{said_by, said_with}
use Rattle.scenario.specs.Named.{place}
use Rattle.scenario.specs.declared.Item.{Item}
use Rattle.scenario.specs.declared.Item.TheVariants.{Wrong}
use Rattle.scenario.specs.declared.items.Name.{Name}
use Rattle.scenario.specs.declared.items.Name.TheVariants.{Processors, Start, Task, Resource, Pair, Arrive, Finish, Request, Complete, Pass, Event, Block}

-- ---- behind the last word there is none
behind_none : (l : List ℕ) → length (first_word l) ≡ 0 → behind l ≡ []
unfolding blanks letters
behind_none [] z = refl
behind_none (c ∷ l) z = go (is_blank c) refl (behind_none l)
  where
    go : (b : Bool) → is_blank c ≡ b → (length (first_word l) ≡ 0 → behind l ≡ []) → behind (c ∷ l) ≡ []
    go true e rest = rw e (rest (rw e at z))
    go false e rest = let never : suc (length (take (letters l) l)) ≡ 0 = rw (e, e) at z in absurd (omega arith)

-- a word that is no word more is empty
ended : (w : List ℕ) → (argument_of no_more w).right ≡ true → length w ≡ 0
unfolding argument_of
ended w r = go (length w is 0) refl r
  where
    go : (b : Bool) → (length w is 0) ≡ b → (if b then one 0 else not_one).right ≡ true → length w ≡ 0
    go true e r = eqb-true (length w) 0 e
    go false e r = cc

-- ---- what is wrong, row after row, or the item
abbrev out : List Row → Item → Item
out rows item = if first_of rows is 0 then item else Wrong (first_of rows)

out_on : (sort : ℕ) (right : Bool) (later : List Row) (item : Item) → sort ≢ 0
    → out (sort when not right otherwise later) item ≡ (if right then out later item else Wrong sort)
out_on sort true later item n = refl
out_on sort false later item n = rw (ne_eqb sort 0 n)

-- the rows of words of these sorts, and then of no word more
abbrev rows_of : List ℕ → ℕ → List ℕ → List Row
rows_of sorts zero rest = []
rows_of [] (suc n) rest =
    no_more when not (argument_of no_more (first_word rest)).right otherwise rows_of [] n (behind rest)
rows_of (sort ∷ sorts) (suc n) rest =
    sort when not (argument_of sort (first_word rest)).right otherwise rows_of sorts n (behind rest)

-- the values of words of these sorts
abbrev values_of : List ℕ → List ℕ → List ℕ
values_of [] rest = []
values_of (sort ∷ sorts) rest = (argument_of sort (first_word rest)).value ∷ values_of sorts (behind rest)

-- past the last word every row passes
none_wrong : (n : ℕ) → first_of (rows_of [] n []) ≡ 0
unfolding blanks letters argument_of
none_wrong zero = refl
none_wrong (suc n) = none_wrong n

-- what is said by words of these sorts, with no word more
abbrev pub told : Result (Item × List ℕ) ℕ → Item
told (Ok (item, rest)) = if (argument_of no_more (first_word rest)).right then item else Wrong no_more
told (Err sort) = Wrong sort

abbrev IsSorts : List ℕ → Type 0
IsSorts [] = Unit {0}
IsSorts (sort ∷ sorts) = (sort ≢ 0) × IsSorts sorts

rows_told : (sorts : List ℕ) (n : ℕ) (says : List ℕ → Item) (rest : List ℕ) → length sorts < n → IsSorts sorts
    → out (rows_of sorts n rest) (says (values_of sorts rest)) ≡ told (said_by sorts says rest)
unfolding said_by
rows_told sorts zero says rest h s = absurd (omega arith)
rows_told [] (suc n) says rest h s = go (argument_of no_more (first_word rest)).right refl
  where
    go : (b : Bool) → (argument_of no_more (first_word rest)).right ≡ b
        → out (rows_of [] (suc n) rest) (says []) ≡ told (Ok (says [], rest))
    go true e = rw (e, behind_none rest (ended (first_word rest) e), none_wrong n)
    go false e = rw e
rows_told (sort ∷ sorts) (suc n) says rest h s =
    go (argument_of sort (first_word rest)).right refl
    (rows_told sorts n (λ values. says ((argument_of sort (first_word rest)).value ∷ values)) (behind rest)
    (omega arith) s.1)
  where
    more : List ℕ → Item
    more values = says ((argument_of sort (first_word rest)).value ∷ values)

    go : (b : Bool) → (argument_of sort (first_word rest)).right ≡ b
        → out (rows_of sorts n (behind rest)) (says (values_of (sort ∷ sorts) rest))
        ≡ told (said_by sorts more (behind rest))
        → out (rows_of (sort ∷ sorts) (suc n) rest) (says (values_of (sort ∷ sorts) rest))
        ≡ told (said_by (sort ∷ sorts) says rest)
    go true e later = rw e later
    go false e later = rw (e, ne_eqb sort 0 s.0)

-- ---- each item of the table
told_at : (i : ℕ) (rest : List ℕ) → length (entry_at i).sorts < 5 → IsSorts (entry_at i).sorts
    → out (rows_of (entry_at i).sorts 5 rest) ((entry_at i).says (λ k. get_or (values_of (entry_at i).sorts rest) k 0))
    ≡ told (said_with i rest)
unfolding said_with
told_at i rest h s = rows_told (entry_at i).sorts 5 (λ values. (entry_at i).says (λ k. get_or values k 0)) rest h s

pub behind_is : (name : Name) (rest : List ℕ) → item_behind (place name) rest ≡ told (said_with (place name) rest)
unfolding item_behind wrong_rows entry_at sort_at word
behind_is Processors rest = told_at 0 rest (omega arith) (omega arith, tt)
behind_is Start rest = told_at 1 rest (omega arith) (omega arith, tt)
behind_is Task rest = told_at 2 rest (omega arith) (omega arith, tt)
behind_is Resource rest = told_at 3 rest (omega arith) (omega arith, tt)
behind_is Pair rest = told_at 4 rest (omega arith) (omega arith, (omega arith, tt))
behind_is Arrive rest = told_at 5 rest (omega arith) (omega arith, (omega arith, tt))
behind_is Finish rest = told_at 6 rest (omega arith) (omega arith, (omega arith, tt))
behind_is Request rest = told_at 7 rest (omega arith) (omega arith, (omega arith, (omega arith, tt)))
behind_is Complete rest = told_at 8 rest (omega arith) (omega arith, (omega arith, (omega arith, tt)))
behind_is Pass rest = told_at 9 rest (omega arith) (omega arith, tt)
behind_is Event rest = told_at 10 rest (omega arith) (omega arith, (omega arith, (omega arith, (omega arith, tt))))
behind_is Block rest = told_at 11 rest (omega arith) tt

pub behind_unknown : (rest : List ℕ) → item_behind item_count rest ≡ Wrong unknown
unfolding item_behind wrong_rows
behind_unknown rest = refl
