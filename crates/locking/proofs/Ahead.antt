-- How many tasks outrank each suspended one: loops that count for all and that correct where one task changed. Assumes
-- nothing.
use Rattle.std.proofs.Common.{◌≡◌, ℕ, ◌+◌, ◌-◌, ◌<◌, ◌≤◌, Bool, true, false, ◌&&◌, ◌≢◌, List, length, get_or, set, refl, ◌∙◌, arith, length-set, get_or-set_other, get_or-set_same}
use native.Mathlib.Decide.{ℕ_discrete}
use Rattle.std.specs.Prelude.{if◌then◌else◌}
use Rattle.search.specs.Words.{◌is◌, ◌isn't◌}
use Rattle.search.proofs.Pigeons.{how_many_change, how_many_most, how_many_some}
use Rattle.search.proofs.Tests.{tests, never}
use Rattle.numbers.specs.Limits.{most_tasks}
use Rattle.protocol.specs.Words.{absent, suspended}
use Rattle.locking.specs.Ranking.{is_lower, ahead_of, Ranked, RankedBut}

module _ (stands own : List ℕ) (count : ℕ) where
  -- at most all outrank a task
  ahead_most : (t : ℕ) → ahead_of stands own count t ≤ count
  ahead_most t = how_many_most (λ u. is_lower (get_or stands u absent) (get_or own u 0) (get_or own t 0)) count

  -- ---- counted for the tasks below k
  pub record RankedTo (k : ℕ) (ahead : List ℕ) : Type 0 where
    pub long : length ahead ≡ most_tasks
    pub at : (u : ℕ) → u < k → get_or stands u absent ≡ suspended → get_or ahead u 0 ≡ ahead_of stands own count u

  pub ranked_none : (ahead : List ℕ) → length ahead ≡ most_tasks → RankedTo 0 ahead
  ranked_none ahead h = record { long = h; at = λ u g. absurd (omega arith) }

  pub ranked_turn : (k : ℕ) (ahead : List ℕ) → k < most_tasks → RankedTo k ahead
      → RankedTo (k + 1) (set ahead k (ahead_of stands own count k))
  ranked_turn k ahead h r = record {
    long = length-set ahead k (ahead_of stands own count k) ∙ r.long;
    at = λ u g s. elim (ℕ_discrete u k) [
      | yes e ↦ rw e (get_or-set_same ahead k (ahead_of stands own count k) 0 (omega (arith, r.long)))
      | no d ↦ get_or-set_other ahead k u (ahead_of stands own count k) 0 d ∙ r.at u (omega arith) s
    ];
  }

  -- one that is not suspended has no count
  pub ranked_past : (k : ℕ) (ahead : List ℕ) → get_or stands k absent ≢ suspended → RankedTo k ahead
      → RankedTo (k + 1) ahead
  ranked_past k ahead n r = record {
    long = r.long;
    at = λ u g s. elim (ℕ_discrete u k) [ yes e ↦ absurd (n (rw e at s)) | no d ↦ r.at u (omega arith) s ];
  }

  pub ranked_all : (ahead : List ℕ) → RankedTo count ahead → Ranked stands own count ahead
  ranked_all ahead r = record { long = r.long; at = r.at }

  -- ---- right for all but t
  pub ranked_but : (t : ℕ) (ahead : List ℕ) → Ranked stands own count ahead → RankedBut stands own count t ahead
  ranked_but t ahead r = record { long = r.long; at = λ u h d. r.at u h }

  pub ranked_counted : (t : ℕ) (ahead : List ℕ) → t < most_tasks → RankedBut stands own count t ahead
      → Ranked stands own count (set ahead t (ahead_of stands own count t))
  ranked_counted t ahead h r = record {
    long = length-set ahead t (ahead_of stands own count t) ∙ r.long;
    at = λ u g s. elim (ℕ_discrete u t) [
      | yes e ↦ rw e (get_or-set_same ahead t (ahead_of stands own count t) 0 (omega (arith, r.long)))
      | no d ↦ get_or-set_other ahead t u (ahead_of stands own count t) 0 d ∙ r.at u g d s
    ];
  }

  pub ranked_awake : (t : ℕ) (ahead : List ℕ) → get_or stands t absent ≢ suspended → RankedBut stands own count t ahead
      → Ranked stands own count ahead
  ranked_awake t ahead n r = record {
    long = r.long;
    at = λ u g s. elim (ℕ_discrete u t) [ yes e ↦ absurd (n (rw e at s)) | no d ↦ r.at u g d s ];
  }

-- ---- corrected for the tasks below k, where t had another standing number and rank
less_and_more : (b c : Bool) (x y : ℕ) → (b ≡ true → 0 < x) → x + (if c then 1 else 0) ≡ y + (if b then 1 else 0)
    → (x - (if b then 1 else 0)) + (if c then 1 else 0) ≡ y
less_and_more true true x y h e = omega (arith, h refl)
less_and_more true false x y h e = omega (arith, h refl)
less_and_more false true x y h e = omega arith
less_and_more false false x y h e = omega arith

module _ (stands own : List ℕ) (count t was before : ℕ) where
  -- a task other than t that is suspended
  abbrev another : ℕ → Bool
  another u = get_or stands u absent is suspended && u isn't t

  pub record Corrected (k : ℕ) (ahead : List ℕ) : Type 0 where
    pub long : length ahead ≡ most_tasks
    pub new : (u : ℕ) → u < k → u ≢ t → get_or stands u absent ≡ suspended → get_or ahead u 0 ≡ ahead_of stands own count u
    pub old : (u : ℕ) → k ≤ u → u < count → u ≢ t → get_or stands u absent ≡ suspended
        → get_or ahead u 0 ≡ ahead_of (set stands t was) (set own t before) count u

  pub corrected_none : (ahead : List ℕ) → RankedBut (set stands t was) (set own t before) count t ahead
      → Corrected 0 ahead
  corrected_none ahead r = record {
    long = r.long;
    new = λ u h. absurd (omega arith);
    old = λ u h g d s. r.at u g d (get_or-set_other stands t u was absent d ∙ s);
  }

  module _ (below : t < count) (stood : t < length stands) (ranked : t < length own) where
    -- t is ahead of u, and was ahead of u
    abbrev is_ahead_lem : ℕ → Bool
    is_ahead_lem u = is_lower (get_or stands t absent) (get_or own t 0) (get_or own u 0)

    abbrev was_ahead : ℕ → Bool
    was_ahead u = is_lower was before (get_or own u 0)

    was_at : (u : ℕ) → u ≢ t
        → is_lower (get_or (set stands t was) t absent) (get_or (set own t before) t 0) (get_or (set own t before) u 0)
        ≡ was_ahead u
    was_at u d = rw (
      get_or-set_same stands t was absent stood,
      get_or-set_same own t before 0 ranked,
      get_or-set_other own t u before 0 d,
    )

    change : (u : ℕ) → u ≢ t → ahead_of (set stands t was) (set own t before) count u + (if is_ahead_lem u then 1 else 0)
        ≡ ahead_of stands own count u + (if was_ahead u then 1 else 0)
    change u d =
        rw (was_at u d) at
        (how_many_change
        (λ v. is_lower (get_or (set stands t was) v absent) (get_or (set own t before) v 0) (get_or (set own t before) u 0))
        (λ v. is_lower (get_or stands v absent) (get_or own v 0) (get_or own u 0)) t count below
        (λ v h e. rw (
          get_or-set_other stands t v was absent e,
          get_or-set_other own t v before 0 e,
          get_or-set_other own t u before 0 d,
        )))

    lost : (u : ℕ) → u ≢ t → was_ahead u ≡ true → 0 < ahead_of (set stands t was) (set own t before) count u
    lost u d e =
        how_many_some
        (λ v. is_lower (get_or (set stands t was) v absent) (get_or (set own t before) v 0) (get_or (set own t before) u 0))
        t count below (was_at u d ∙ e)

    -- what a correction asks for
    pub corrected_lost : (k : ℕ) (ahead : List ℕ) → k < count → another k ≡ true → Corrected k ahead
        → is_lower was before (get_or own k 0) ≡ true → 0 < get_or ahead k 0
    corrected_lost k ahead h a r e =
        let i = simp tests at a in
        omega (arith, r.old k (omega arith) h i.1 i.0, lost k i.1 e)

    pub corrected_low : (k : ℕ) (ahead : List ℕ) → k < count → another k ≡ true → Corrected k ahead
        → get_or ahead k 0 ≤ count
    corrected_low k ahead h a r =
        let i = simp tests at a in
        omega (arith, r.old k (omega arith) h i.1 i.0, ahead_most (set stands t was) (set own t before) count k)

    pub corrected_turn : (k : ℕ) (ahead : List ℕ) → k < count → count ≤ most_tasks → another k ≡ true → Corrected k ahead
        → Corrected (k + 1) (set ahead k ((get_or ahead k 0 - (if is_lower was before (get_or own k 0) then 1 else 0))
        + (if is_lower (get_or stands t absent) (get_or own t 0) (get_or own k 0) then 1 else 0)))
    corrected_turn k ahead h m a r =
        let i = simp tests at a in
        let x = (get_or ahead k 0 - (if is_lower was before (get_or own k 0) then 1 else 0))
        + (if is_lower (get_or stands t absent) (get_or own t 0) (get_or own k 0) then 1 else 0) in
        let here : x ≡ ahead_of stands own count k =
        less_and_more (was_ahead k) (is_ahead_lem k) (get_or ahead k 0) (ahead_of stands own count k)
        (corrected_lost k ahead h a r) (rw (r.old k (omega arith) h i.1 i.0) (change k i.1)) in
        record {
          long = length-set ahead k x ∙ r.long;
          new = λ u g e z. elim (ℕ_discrete u k) [
            | yes q ↦ rw q (get_or-set_same ahead k x 0 (omega (arith, r.long)) ∙ here)
            | no d ↦ get_or-set_other ahead k u x 0 d ∙ r.new u (omega arith) e z
          ];
          old = λ u g l e z. get_or-set_other ahead k u x 0 (λ q. absurd (omega (arith, q)))
              ∙ r.old u (omega arith) l e z;
        }

  -- t itself and one that is not suspended have no correction
  pub corrected_past : (k : ℕ) (ahead : List ℕ) → another k ≡ false → Corrected k ahead → Corrected (k + 1) ahead
  corrected_past k ahead n r = record {
    long = r.long;
    new = λ u g e z. elim (ℕ_discrete u k) [
      | yes i ↦ never n (simp tests (rw i at z, rw i at e))
      | no i ↦ r.new u (omega arith) e z
    ];
    old = λ u g l e z. r.old u (omega arith) l e z;
  }

  pub corrected_all : (ahead : List ℕ) → Corrected count ahead → RankedBut stands own count t ahead
  corrected_all ahead r = record { long = r.long; at = λ u h. r.new u h }
