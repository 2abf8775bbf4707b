-- The table of totals against the records: what it begins with, what a record set and an event's ticks change. Assumes
-- nothing.
use Rattle.std.proofs.Common.{◌≡◌, ℕ, zero, suc, ◌+◌, ◌*◌, ◌/◌, ◌%◌, ◌<◌, ◌≤◌, Bool, true, false, ltb, List, length, get_or, set, sym, refl, ap, ◌∙◌, add-one, arith, length-set, get_or-set_other, get_or-set_same, eq-eqb, ne_eqb}
use native.Mathlib.Decide.{ℕ_discrete, dec_lt}
use Rattle.std.specs.Prelude.{if◌then◌else◌}
use Rattle.search.specs.Words.{◌isn't◌}
use Rattle.search.specs.Table.{table}
use Rattle.search.proofs.Tables.{table_length, table_at, table_of, table_same}
use Rattle.processors.specs.declared.Processors.{Processors}
use Rattle.numbers.specs.Limits.{most_tasks}
use Rattle.protocol.specs.Records.{total_count, no_task, with_totals}
use Rattle.protocol.specs.Words.{absent, sum, task, stand}
use Rattle.protocol.specs.Situations.{total_for}
use Rattle.protocol.specs.Events.{counting, charged}
use Rattle.protocol.specs.declared.Task.{Task}
use Rattle.protocol.specs.declared.State.{State}
use Rattle.locking.specs.Totals.{all_totals, row_of, counted, totals_in, place_by, total_by, total_with, added_at, added_for, charged_at, charged_to, CanCharge, CanChargeTask}
use Rattle.protocol.proofs.Events.Times.{total_low}
use Rattle.locking.proofs.Charging.{at_sum}
use Rattle.locking.proofs.Places.{total_by_place}

-- ---- the records with the totals of the table
-- each of them
abbrev pub record_in : List Task → List ℕ → ℕ → Task
record_in ts w t = with_totals (row_of w t) (get_or ts t no_task)

pub counted_length : (ts : List Task) (w : List ℕ) → length (counted ts w) ≡ most_tasks
unfolding counted
counted_length ts w = table_length (record_in ts w) most_tasks

pub counted_at : (ts : List Task) (w : List ℕ) (t : ℕ) → t < most_tasks → get_or (counted ts w) t no_task ≡ with_totals (row_of w t) (get_or ts t no_task)
unfolding counted
counted_at ts w t h = table_at (record_in ts w) most_tasks t no_task h

-- a list with such records at its places
counted_of : (ts : List Task) (w : List ℕ) (l : List Task) → length l ≡ most_tasks
    → ((t : ℕ) → t < most_tasks → get_or l t no_task ≡ with_totals (row_of w t) (get_or ts t no_task)) → l ≡ counted ts w
unfolding counted
counted_of ts w l h at = table_of (record_in ts w) l most_tasks no_task h at

-- a record set
pub counted_set : (ts : List Task) (w : List ℕ) (t : ℕ) (x : Task) → t < most_tasks → length ts ≡ most_tasks
    → counted (set ts t x) w ≡ set (counted ts w) t (with_totals (row_of w t) x)
counted_set ts w t x h l =
    sym (counted_of (set ts t x) w (set (counted ts w) t y) (length-set (counted ts w) t y ∙ counted_length ts w) at)
  where
    y : Task
    y = with_totals (row_of w t) x

    at : (u : ℕ) → u < most_tasks → get_or (set (counted ts w) t y) u no_task ≡ with_totals (row_of w u) (get_or (set ts t x) u no_task)
    at u g = elim (ℕ_discrete u t) [
      | yes e ↦ rw (e, get_or-set_same (counted ts w) t y no_task (omega (arith, counted_length ts w)), get_or-set_same ts t x no_task (omega arith))
      | no d ↦ rw (get_or-set_other (counted ts w) t u y no_task d, get_or-set_other ts t u x no_task d) (counted_at ts w u g)
    ]

-- ---- the table of the totals in the records
-- each of its numbers
abbrev pub total_in : List Task → ℕ → ℕ
total_in ts k = get_or (get_or ts (k / total_count) no_task).totals (k % total_count) 0

totals_at : (ts : List Task) (t i : ℕ) → t < most_tasks → i < total_count → get_or (totals_in ts) (total_count * t + i) 0 ≡ get_or (get_or ts t no_task).totals i 0
unfolding totals_in
totals_at ts t i h g =
    let q : (total_count * t + i) / total_count ≡ t = omega arith in
    let r : (total_count * t + i) % total_count ≡ i = omega arith in
    table_at (total_in ts) all_totals (total_count * t + i) 0 (omega arith) ∙ rw (q, r)

totals_row : (ts : List Task) (t : ℕ) → t < most_tasks → length (get_or ts t no_task).totals ≡ total_count → (get_or ts t no_task).totals ≡ row_of (totals_in ts) t
totals_row ts t h l = table_of (λ i. get_or (totals_in ts) (total_count * t + i) 0) (get_or ts t no_task).totals total_count 0 l (λ i g. sym (totals_at ts t i h g))

pub counted_start : (ts : List Task) → length ts ≡ most_tasks → ((t : ℕ) → length (get_or ts t no_task).totals ≡ total_count) → counted ts (totals_in ts) ≡ ts
counted_start ts l rows = sym (counted_of ts (totals_in ts) ts l (λ t h. ap (λ w. with_totals w (get_or ts t no_task)) (totals_row ts t h (rows t))))

-- ---- n added at place j
added_length : (a j n : ℕ) (l : List ℕ) → length (added_for a j n l) ≡ length l
added_length a j n l = go (a isn't absent)
  where
    go : (b : Bool) → length (if b then set l j (get_or l j 0 + n) else l) ≡ length l
    go true = length-set l j (get_or l j 0 + n)
    go false = refl

added_other : (a j n : ℕ) (l : List ℕ) (k : ℕ) → ((a ≡ absent → ⊥) → k ≡ j → ⊥) → get_or (added_for a j n l) k 0 ≡ get_or l k 0
added_other a j n l k d = elim (ℕ_discrete a absent) [
  | yes e ↦ rw (eq-eqb a absent e)
  | no g ↦ rw (ne_eqb a absent g) (get_or-set_other l j k (get_or l j 0 + n) 0 (d g))
]

-- lists that agree at place j and at place k agree there afterwards
added_same : (a j n : ℕ) (l m : List ℕ) (k : ℕ) → j < length l → length l ≡ length m → get_or l j 0 ≡ get_or m j 0 → get_or l k 0 ≡ get_or m k 0
    → get_or (added_for a j n l) k 0 ≡ get_or (added_for a j n m) k 0
added_same a j n l m k h s e f = go (a isn't absent)
  where
    go : (b : Bool) → get_or (if b then set l j (get_or l j 0 + n) else l) k 0 ≡ get_or (if b then set m j (get_or m j 0 + n) else m) k 0
    go false = f
    go true = elim (ℕ_discrete k j) [
      | yes g ↦ rw (g, get_or-set_same l j (get_or l j 0 + n) 0 h, get_or-set_same m j (get_or m j 0 + n) 0 (omega arith), e)
      | no d ↦ get_or-set_other l j k (get_or l j 0 + n) 0 d ∙ f ∙ sym (get_or-set_other m j k (get_or m j 0 + n) 0 d)
    ]

-- ---- an event's ticks charged
-- each pending task has a total, by whatever rule
abbrev pub Totalled : List ℕ → (ℕ → ℕ) → Type 0
Totalled stands total = (t : ℕ) → (get_or stands t absent ≡ absent → ⊥) → total t < total_count

module _ (n : ℕ) (stands : List ℕ) (total : ℕ → ℕ) where
  pub charged_length : (w : List ℕ) (m : ℕ) → length (charged_to n stands total w m) ≡ length w
  unfolding charged_to
  charged_length w zero = refl
  charged_length w (suc m) = added_length (get_or stands m absent) (total_count * m + total m) n (charged_to n stands total w m) ∙ charged_length w m

module _ (n : ℕ) (stands : List ℕ) (total : ℕ → ℕ) (low : Totalled stands total) where
  -- the rows from m on are as they were
  pub charged_kept : (w : List ℕ) (m k : ℕ) → total_count * m ≤ k → get_or (charged_to n stands total w m) k 0 ≡ get_or w k 0
  unfolding charged_to
  charged_kept w zero k h = refl
  charged_kept w (suc m) k h =
      added_other (get_or stands m absent) (total_count * m + total m) n (charged_to n stands total w m) k (λ g e. absurd (omega (arith, low m g, e)))
      ∙ charged_kept w m k (omega arith)

  -- the row of a task below m is as with its own ticks alone
  charged_own : (w : List ℕ) (m t k : ℕ) → length w ≡ all_totals → m ≤ most_tasks → t < m → total_count * t ≤ k → k < total_count * suc t
      → get_or (charged_to n stands total w m) k 0 ≡ get_or (charged_at n stands total t w) k 0
  unfolding charged_to
  charged_own w zero t k l b h f g = absurd (omega arith)
  charged_own w (suc m) t k l b h f g =
      let before = charged_to n stands total w m in
      elim (ℕ_discrete t m) [
        | yes e ↦ rw e (last (omega (arith, e)))
        | no d ↦ added_other (get_or stands m absent) (total_count * m + total m) n before k (λ _ e. absurd (omega (arith, e))) ∙ charged_own w m t k l (omega arith) (omega arith) f g
      ]
    where
      last : total_count * m ≤ k → get_or (charged_at n stands total m (charged_to n stands total w m)) k 0 ≡ get_or (charged_at n stands total m w) k 0
      last q = elim (ℕ_discrete (get_or stands m absent) absent) [
        | yes e ↦ rw (eq-eqb (get_or stands m absent) absent e) (charged_kept w m k q)
        | no d ↦ added_same (get_or stands m absent) (total_count * m + total m) n (charged_to n stands total w m) w k (omega (arith, low m d, charged_length n stands total w m)) (charged_length n stands total w m) (charged_kept w m (total_count * m + total m) (omega arith)) (charged_kept w m k q)
      ]

-- a row of the table set is the row set
row_set : (w : List ℕ) (t i x : ℕ) → length w ≡ all_totals → t < most_tasks → i < total_count → set (row_of w t) i x ≡ row_of (set w (total_count * t + i) x) t
row_set w t i x l h g =
    table_of (λ j. get_or (set w (total_count * t + i) x) (total_count * t + j) 0) (set (row_of w t) i x) total_count 0 (length-set (row_of w t) i x ∙ long) at
  where
    row : ℕ → ℕ
    row j = get_or w (total_count * t + j) 0

    long : length (row_of w t) ≡ total_count
    long = table_length row total_count

    at : (j : ℕ) → j < total_count → get_or (set (row_of w t) i x) j 0 ≡ get_or (set w (total_count * t + i) x) (total_count * t + j) 0
    at j f = elim (ℕ_discrete j i) [
      | yes e ↦ rw (e, get_or-set_same (row_of w t) i x 0 (omega (arith, long)), get_or-set_same w (total_count * t + i) x 0 (omega arith))
      | no d ↦ rw (get_or-set_other (row_of w t) i j x 0 d, get_or-set_other w (total_count * t + i) (total_count * t + j) x 0 (λ e. d (omega arith))) (table_at row total_count j 0 f)
    ]

-- a record with its own row charged
own_record : (w : List ℕ) (t a i n : ℕ) (x : Task) → length w ≡ all_totals → t < most_tasks → ((a ≡ absent → ⊥) → i < total_count)
    → (if a isn't absent then counting i n (with_totals (row_of w t) x) else with_totals (row_of w t) x) ≡ with_totals (row_of (added_for a (total_count * t + i) n w) t) x
own_record w t a i n x l h low = elim (ℕ_discrete a absent) [
  | yes e ↦ rw (eq-eqb a absent e)
  | no d ↦ rw (ne_eqb a absent d) (ap (λ r. with_totals r x) (
      ap (λ y. set (row_of w t) i (y + n)) (table_at (λ j. get_or w (total_count * t + j) 0) total_count i 0 (low d)) ∙ row_set w t i (get_or w (total_count * t + i) 0 + n) l h (low d)))
]

module _ (n : ℕ) (stands : List ℕ) (total : ℕ → ℕ) (low : Totalled stands total) where
  -- the row of a task below m
  charged_row : (w : List ℕ) (m t : ℕ) → length w ≡ all_totals → m ≤ most_tasks → t < m → row_of (charged_at n stands total t w) t ≡ row_of (charged_to n stands total w m) t
  charged_row w m t l b h =
      table_same (λ i. get_or (charged_at n stands total t w) (total_count * t + i) 0) (λ i. get_or (charged_to n stands total w m) (total_count * t + i) 0) total_count
      (λ i g. sym (charged_own n stands total low w m t (total_count * t + i) l b h (omega arith) (omega arith)))

  -- that of another
  kept_row : (w : List ℕ) (m t : ℕ) → m ≤ t → row_of w t ≡ row_of (charged_to n stands total w m) t
  kept_row w m t h =
      table_same (λ i. get_or w (total_count * t + i) 0) (λ i. get_or (charged_to n stands total w m) (total_count * t + i) 0) total_count
      (λ i g. sym (charged_kept n stands total low w m (total_count * t + i) (omega arith)))

-- what is known of a state whose ticks are charged in the table: its records, the numbers of its standings, that no
-- task from m on has a job, and the total of each task below m
pub record Charging (s : State) (ts : List Task) (w stands : List ℕ) (total : ℕ → ℕ) (m : ℕ) : Type 0 where
  pub recorded : s.tasks ≡ counted ts w
  pub whole : length w ≡ all_totals
  pub stood : stands ≡ table (stand s) most_tasks
  pub few : m ≤ most_tasks
  pub quiet : (t : ℕ) → m ≤ t → t < most_tasks → stand s t ≡ absent
  pub low : Totalled stands total
  pub totalled : (t : ℕ) → t < m → total_for s t ≡ total t

module _ (s : State) (ts : List Task) (w stands : List ℕ) (total : ℕ → ℕ) (n m : ℕ) (C : Charging s ts w stands total m) where
  -- each record of the state, charged
  charged_task : (t : ℕ) → t < most_tasks
      → (if stand s t isn't absent then counting (total_for s t) n (task s t) else task s t) ≡ with_totals (row_of (charged_to n stands total w m) t) (get_or ts t no_task)
  charged_task t h =
      let x = get_or ts t no_task in
      let own : task s t ≡ with_totals (row_of w t) x = ap (λ (y : List Task). get_or y t no_task) C.recorded ∙ counted_at ts w t h in
      let stood : get_or stands t absent ≡ stand s t = ap (λ (y : List ℕ). get_or y t absent) C.stood ∙ table_at (stand s) most_tasks t absent h in
      elim (dec_lt t m) [
        | yes g ↦ rw (C.totalled t g, own, ← stood) (own_record w t (get_or stands t absent) (total t) n x C.whole h (C.low t) ∙ ap (λ r. with_totals r x) (charged_row n stands total C.low w m t C.whole C.few g))
        | no g ↦ rw (eq-eqb (stand s t) absent (C.quiet t (omega arith) h)) (own ∙ ap (λ r. with_totals r x) (kept_row n stands total C.low w m t (omega arith)))
      ]

  pub counted_charged : (charged n s).tasks ≡ counted ts (charged_to n stands total w m)
  unfolding charged counted
  counted_charged = table_same (λ t. if stand s t isn't absent then counting (total_for s t) n (task s t) else task s t) (record_in ts (charged_to n stands total w m)) most_tasks charged_task

-- no number of the table is past a bound of each task's sum
pub counted_low : (s : State) (ts : List Task) (w : List ℕ) → s.tasks ≡ counted ts w → (b : ℕ) → ((t : ℕ) → t < most_tasks → sum (task s t).totals ≤ b)
    → (k : ℕ) → k < all_totals → get_or w k 0 ≤ b
counted_low s ts w e b sums k h =
    let t = k / total_count in
    let i = k % total_count in
    let place : total_count * t + i ≡ k = omega arith in
    let own : (task s t).totals ≡ row_of w t = ap (λ (y : List Task). (get_or y t no_task).totals) e ∙ ap (λ (y : Task). y.totals) (counted_at ts w t (omega arith)) in
    let read : get_or (task s t).totals i 0 ≡ get_or w k 0 = ap (λ (y : List ℕ). get_or y i 0) own ∙ table_at (λ j. get_or w (total_count * t + j) 0) total_count i 0 (omega arith) ∙ ap (λ (j : ℕ). get_or w j 0) place in
    omega (arith, read, at_sum (task s t).totals i, sums t (omega arith))

-- ---- the loops of the code
module _ (n : ℕ) (stands : List ℕ) (total : ℕ → ℕ) (w : List ℕ) (t : ℕ) where
  -- the table before task t is charged
  pub charge_can : Totalled stands total → CanCharge w n → t < most_tasks → CanChargeTask (charged_to n stands total w t) n t
  charge_can low can h = record {
    whole = charged_length n stands total w t ∙ can.whole;
    inside = h;
    fits = λ i g. rw (charged_kept n stands total low w t (total_count * t + i) (omega arith)) (can.fits (total_count * t + i) (omega arith));
  }

  -- and after it, pending or not
  charge_pending : (get_or stands t absent ≡ absent → ⊥) → added_at (total_count * t + total t) n (charged_to n stands total w t) ≡ charged_to n stands total w (t + 1)
  unfolding charged_to
  charge_pending some = rw (add-one t, ne_eqb (get_or stands t absent) absent some)

  pub charge_absent : get_or stands t absent ≡ absent → charged_to n stands total w t ≡ charged_to n stands total w (t + 1)
  unfolding charged_to
  charge_absent none = rw (add-one t, eq-eqb (get_or stands t absent) absent none)

-- by who is ahead of each suspended job, a pending task has a total
pub with_low : (stands ahead : List ℕ) (p : Processors) → Totalled stands (total_with stands ahead p)
with_low stands ahead p t h = total_low (get_or stands t absent) t p _ h

-- the place of a task, read off their table
pub place_at : (p : Processors) (places : List ℕ) → places ≡ table (place_by p) most_tasks → (t : ℕ) → t < most_tasks → get_or places t 0 ≡ place_by p t
place_at p places e t h = ap (λ (l : List ℕ). get_or l t 0) e ∙ table_at (place_by p) most_tasks t 0 h

module _ (n : ℕ) (stands ahead : List ℕ) (p : Processors) (w : List ℕ) (t : ℕ) where
  -- a pending task charged by its place
  pub charge_turn : (place total : ℕ) (before : List ℕ) → place ≡ place_by p t → before ≡ charged_to n stands (total_with stands ahead p) w t
      → total ≡ total_by (get_or stands t absent) place (ltb (get_or ahead t 0) p.count) → (get_or stands t absent ≡ absent → ⊥)
      → added_at (total_count * t + total) n before ≡ charged_to n stands (total_with stands ahead p) w (t + 1)
  charge_turn place total before e f g some =
      rw (g, f, e, total_by_place (get_or stands t absent) t p (ltb (get_or ahead t 0) p.count) some) (charge_pending n stands (total_with stands ahead p) w t some)
