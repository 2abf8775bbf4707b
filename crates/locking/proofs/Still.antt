-- An edit after which no job arrives, finishes or suspends, and a hand-over, leave who outranks whom as it was. Assumes
-- nothing.
use Rattle.std.proofs.Common.{◌≡◌, ℕ, zero, suc, ◌<◌, Bool, true, false, ◌&&◌, ◌||◌, ltb, ◌≢◌, List, length, get_or, set, sym, refl, ap, ◌∙◌, subst, arith, get_or-set_other, get_or-set_same, eq-eqb, ne_eqb}
use native.Mathlib.Decide.{ℕ_discrete}
use lib.Seq.{set-get_or}
use Rattle.std.specs.Prelude.{if◌then◌else◌}
use Rattle.search.specs.Words.{◌is◌, ◌isn't◌}
use Rattle.search.proofs.Pigeons.{how_many_same}
use Rattle.numbers.specs.Limits.{nobody}
use Rattle.queue.specs.Waiting.{appended}
use Rattle.input.specs.Kinds.{short, arrival, finish, request as asking, completion}
use Rattle.input.specs.declared.Event.{Event}
use Rattle.protocol.specs.Words.{absent, suspended, standing_no}
use Rattle.protocol.specs.Records.{with_standing}
use Rattle.protocol.specs.Locks.{opening, closing, lock_of}
use Rattle.protocol.specs.declared.Standing.TheVariants.{Waiting}
use Rattle.protocol.specs.declared.Task.{Task}
use Rattle.protocol.specs.declared.Group.{Group}
use Rattle.priorities.specs.Bounds.{rank_by}
use Rattle.locking.specs.Edits.{Edit, stay, arrive, leave, open_in, keeping, requesting, completing, editing, handing}
use Rattle.locking.specs.Ranking.{Ranked}

-- ---- the tables with t's standing a and rank r: t is pending as before, suspended only if it was, of the same rank
same_none : (a b : ℕ) → (a ≡ absent → b ≡ absent) → (b ≡ absent → a ≡ absent) → (a isn't absent) ≡ (b isn't absent)
same_none a b f g = elim (ℕ_discrete a absent) [
  | yes x ↦ rw (eq-eqb a absent x, eq-eqb b absent (f x))
  | no x ↦ rw (ne_eqb a absent x, ne_eqb b absent (λ q. x (g q)))
]

module _ (stands own : List ℕ) (count t a r : ℕ) (ahead : List ℕ) (inside : t < length stands)
    (goes : a ≡ absent → get_or stands t absent ≡ absent) (comes : get_or stands t absent ≡ absent → a ≡ absent)
    (suspends : a ≡ suspended → get_or stands t absent ≡ suspended)
    (ranked : r ≡ get_or own t 0) where
  pends_as : (u : ℕ) → (get_or stands u absent isn't absent) ≡ (get_or (set stands t a) u absent isn't absent)
  pends_as u = elim (ℕ_discrete u t) [
    | yes h ↦ rw (h, get_or-set_same stands t a absent inside) (same_none (get_or stands t absent) a comes goes)
    | no n ↦ rw (get_or-set_other stands t u a absent n)
  ]

  suspends_as : (u : ℕ) → get_or (set stands t a) u absent ≡ suspended → get_or stands u absent ≡ suspended
  suspends_as u w = elim (ℕ_discrete u t) [
    | yes h ↦ ap (λ (v : ℕ). get_or stands v absent) h
        ∙ suspends
        (sym (get_or-set_same stands t a absent inside) ∙ ap (λ (v : ℕ). get_or (set stands t a) v absent) (sym h) ∙ w)
    | no n ↦ sym (get_or-set_other stands t u a absent n) ∙ w
  ]

  pub ranked_still : Ranked stands own count ahead → Ranked (set stands t a) (set own t r) count ahead
  ranked_still R = subst (λ (l : List ℕ). Ranked (set stands t a) l count ahead)
      (sym (ap (set own t) ranked ∙ set-get_or own t 0)) (record {
        long = R.long;
        at = λ u l w. R.at u l (suspends_as u w) ∙ how_many_same _ _ count
            (λ i _. ap (λ (b : Bool). b && ltb (get_or own i 0) (get_or own u 0)) (pends_as i));
      })

-- ---- a task's record x, and y after it: the same deadline, with a job as before, suspended only if it was
pub record Still (x y : Task) : Type 0 where
  pub deadline : y.deadline ≡ x.deadline
  pub goes : standing_no y.standing ≡ absent → standing_no x.standing ≡ absent
  pub comes : standing_no x.standing ≡ absent → standing_no y.standing ≡ absent
  pub suspends : standing_no y.standing ≡ suspended → standing_no x.standing ≡ suspended

-- stored at t, it leaves who is ahead
pub still_ranked : (stands own : List ℕ) (count t : ℕ) (ahead : List ℕ) (x y : Task) → t < length stands
    → get_or stands t absent ≡ standing_no x.standing → get_or own t 0 ≡ rank_by x.deadline t
    → Still x y → Ranked stands own count ahead
    → Ranked (set stands t (standing_no y.standing)) (set own t (rank_by y.deadline t)) count ahead
still_ranked stands own count t ahead x y inside stood ranked S =
    ranked_still stands own count t (standing_no y.standing) (rank_by y.deadline t) ahead inside
    (λ q. stood ∙ S.goes q) (λ q. S.comes (sym stood ∙ q)) (λ q. stood ∙ S.suspends q)
    (ap (λ (n : ℕ). rank_by n t) S.deadline ∙ sym ranked)

-- the same standing
same_still : (x y : Task) → y.deadline ≡ x.deadline → y.standing ≡ x.standing → Still x y
same_still x y d h = record {
  deadline = d;
  goes = λ q. sym (ap standing_no h) ∙ q;
  comes = λ q. ap standing_no h ∙ q;
  suspends = λ q. sym (ap standing_no h) ∙ q;
}

-- a request that suspends nobody: granted, or the job spins
requested_still : (kinds : List ℕ) (x : Task) (y : Group) (t r : ℕ) → standing_no x.standing ≢ absent
    → (requesting kinds x y t r).turn ≢ leave → Still x (requesting kinds x y t r).task
unfolding requesting
requested_still kinds x y t r pending = go (open_in kinds x r || y.holder is nobody)
  where
    queued : ℕ → Edit
    queued k = keeping (with_standing (Waiting (lock_of k r)) x)
        (record { holder = y.holder; queue = appended y.queue t }) (if k is short then stay else leave)

    spins : (k : ℕ) → (queued k).turn ≢ leave → Still x (queued k).task
    spins zero h = record {
      deadline = refl;
      goes = λ q. absurd (omega (arith, q));
      comes = λ q. absurd (pending q);
      suspends = λ q. absurd (omega (arith, q));
    }
    spins (suc k) h = absurd (h (rw (ne_eqb (suc k) short (λ q. omega (arith, q)))))

    granted : Edit
    granted = keeping (opening r x) (record { holder = t; queue = y.queue }) stay

    go : (b : Bool) → (if b then granted else queued (get_or kinds r 0)).turn ≢ leave
        → Still x (if b then granted else queued (get_or kinds r 0)).task
    go true h = same_still x (opening r x) refl refl
    go false h = spins (get_or kinds r 0) h

completed_still : (kinds : List ℕ) (x : Task) (y : Group) (r : ℕ) → Still x (completing kinds x y r).task
unfolding completing
completed_still kinds x y r = go (open_in kinds (closing x) r) refl
  where
    go : (b : Bool) → open_in kinds (closing x) r ≡ b → Still x (completing kinds x y r).task
    go true h = rw h (same_still x (closing x) refl refl)
    go false h = rw h (same_still x (closing x) refl refl)

-- an event that makes nobody arrive, resume, finish or suspend; who asks has a job
pub edited_still : (kinds : List ℕ) (due clock : ℕ) (x : Task) (y : Group) (e : Event)
    → (e.kind ≡ asking → standing_no x.standing ≢ absent)
    → (editing kinds due clock x y e).turn ≢ arrive → (editing kinds due clock x y e).turn ≢ leave
    → Still x (editing kinds due clock x y e).task
unfolding editing
edited_still kinds due clock x y e pending = elim (ℕ_discrete e.kind arrival) [
  | yes k ↦ rw (eq-eqb e.kind arrival k) (λ a l. absurd (a refl))
  | no a ↦ elim (ℕ_discrete e.kind finish) [
    | yes k ↦ rw (ne_eqb e.kind arrival a, eq-eqb e.kind finish k) (λ a l. absurd (l refl))
    | no f ↦ elim (ℕ_discrete e.kind asking) [
      | yes k ↦ rw (ne_eqb e.kind arrival a, ne_eqb e.kind finish f, eq-eqb e.kind asking k)
          (λ a l. requested_still kinds x y e.task e.resource (pending k) l)
      | no r ↦ elim (ℕ_discrete e.kind completion) [
        | yes k ↦ rw (
          ne_eqb e.kind arrival a,
          ne_eqb e.kind finish f,
          ne_eqb e.kind asking r,
          eq-eqb e.kind completion k,
        ) (λ a l. completed_still kinds x y e.resource)
        | no q ↦ rw (
          ne_eqb e.kind arrival a,
          ne_eqb e.kind finish f,
          ne_eqb e.kind asking r,
          ne_eqb e.kind completion q,
        ) (λ a l. same_still x x refl refl)
      ]
    ]
  ]
]

-- who is handed a group waited, and is active
pub handed_still : (x : Task) (y : Group) (turn next : ℕ) → standing_no x.standing ≢ absent
    → Still x (handing x y turn next).task
unfolding handing
handed_still x y turn next pending = record {
  deadline = refl;
  goes = λ q. absurd (omega (arith, q));
  comes = λ q. absurd (pending q);
  suspends = λ q. absurd (omega (arith, q));
}
