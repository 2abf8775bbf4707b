-- A short request's place: each completion of an outermost request at the group moves it up by exactly one, and nothing else moves
-- it; until it holds the group, it spins for what it asked. Assumes nothing.
use Prim.Native.Nat.{ℕ, zero, suc, ◌+◌, ◌<◌, ◌≤◌}
use mathlib.Core.Path.{◌≡◌, refl, sym, ap, subst, ◌∙◌}
use mathlib.Core.Bool.{Bool, true, false, not, ◌&&◌}
use mathlib.Core.List.{List, [], ◌∷◌}
use mathlib.Core.Logic.{◌≢◌}
use native.Mathlib.Omega.{arith}
use native.Mathlib.Decide.{ℕ_discrete}
use lib.ListN.{length}
use borrow.Author.Tests.{eq-eqb, ne_eqb, not-true}
use Rattle.std.specs.Prelude.{if◌then◌else◌}
use Rattle.search.specs.Words.{◌is◌}
use Rattle.search.proofs.Tests.{tests, never, any_below_same}
use Rattle.queue.specs.Tidy.{Tidy}
use Rattle.processors.specs.declared.Processors.{Processors}
use Rattle.numbers.specs.Limits.{most_tasks, most_resources, nobody}
use Rattle.input.specs.Kinds.{short, request as asking, completion}
use Rattle.input.specs.Words.{kind}
use Rattle.setups.specs.Naming.{group_of}
use Rattle.input.specs.declared.Setup.{Setup}
use Rattle.input.specs.declared.Event.{Event}
use Rattle.setups.proofs.Accepted.{accepted_iff}
use Rattle.protocol.specs.Words.{spinning, group, stand, asked, depth, holder, len}
use Rattle.protocol.specs.Ranks.{short_open}
use Rattle.protocol.specs.Refusals.{step_of, judge}
use Rattle.protocol.specs.Locks.{open_of_kind, closes}
use Rattle.protocol.specs.Edited.{request_edit, complete_edit, edited}
use Rattle.protocol.specs.Records.{with_processors}
use Rattle.protocol.specs.Events.{Prefers, charged, Move, moved, step_by, run_by}
use Rattle.protocol.specs.Demands.{Before, hands_over, completions, ShortQueue}
use Rattle.protocol.specs.declared.State.{State}
use Rattle.protocol.proofs.Sound.Statements.{Grouped, Steady, Sound, Asks}
use Rattle.protocol.proofs.Edits.Equations.{same_group, with_group_lem, opens_view, closes_view}
use Rattle.protocol.proofs.Events.Branches.{request_edit_by}
use Rattle.protocol.proofs.Events.Edited.{Does, step_does, by_edit}
use Rattle.protocol.proofs.Edits.Locks.{pending_in}
use Rattle.protocol.proofs.Jobs.Modes.{short_same}
use Rattle.protocol.proofs.Events.Times.{same_lines}
use Rattle.protocol.proofs.Demands.Waiting.{few_at_short}
use Rattle.protocol.proofs.Events.Kept.{kind_none, queued}
use Rattle.protocol.proofs.Sound.Begin.{accepted_grouped}
use Rattle.protocol.proofs.Demands.Places.{request_before, inner_before, outer_before, outer_up, same_before}
use Rattle.protocol.proofs.Events.Step.{row11, row12, grouped, steady_of, same_of, asks_of, ends_of, edited_by, sound_served, refused_by, step_sound_by, step_setup_by}
use Rattle.protocol.proofs.Demands.StillWaiting.{Same, step_stays}

-- ---- an accepted event
module _ (s : State) (e : Event) (Q : Sound s) (ok : judge s e ≡ 0) where
  abbrev s₁ : State
  s₁ = charged (step_of s e) s

  abbrev t : ℕ
  t = e.task

  abbrev r : ℕ
  r = e.resource

  g_in : (asking ≤ e.kind) × (e.kind ≤ completion) → group_of s.setup r < most_resources
  g_in k = let G = grouped s e Q ok in omega (arith, G.low r (row12 s e Q ok k), G.few_resources)

  g_there : (asking ≤ e.kind) × (e.kind ≤ completion) → group_of s.setup r < length s₁.groups
  g_there k = omega (arith, g_in k, (steady_of s e Q ok).sized.groups)

  tidy : (a : ℕ) → Tidy (group s₁ a).queue
  tidy = (steady_of s e Q ok).blank.queues

  -- whether the completed request was the outermost does not turn on the ticks
  same_open : e.kind ≡ completion → open_of_kind s.setup (closes t s₁) t r ≡ open_of_kind s.setup (closes t s) t r
  unfolding open_of_kind
  same_open k =
      let S = Q.steady in
      let S₁ = steady_of s e Q ok in
      let same = same_of s e Q ok t in
      let A = ends_of s e Q ok k in
      let g-low = g_in (omega arith) in
      let t_in : t < most_tasks = omega (arith, row11 s e Q ok (omega arith), (grouped s e Q ok).few_tasks) in
      let E = closes_view s.setup s S.sized S.blank (group_of s.setup r) g-low t A.left t_in (sym same.deep ∙ A.some) (S.locks.tasks t).opened.few in
      let E₁ = closes_view s.setup s₁ S₁.sized S₁.blank (group_of s.setup r) g-low t A.left t_in A.some (S₁.locks.tasks t).opened.few in
      let deep : depth (closes t s₁) t ≡ depth (closes t s) t = omega (arith, E.deep, E₁.deep, same.deep) in
      rw deep (any_below_same _ _ _ (λ i l. ap (λ (x : ℕ). kind s.setup x is kind s.setup r) (E₁.old i (omega arith) ∙ same.requested i ∙ sym (E.old i l))))

  -- what the test says of an accepted completion
  hands_is : e.kind ≡ completion → (g : ℕ) (b : Bool) → hands_over s e g ≡ b → (group_of s.setup r is g && not (open_of_kind s.setup (closes t s₁) t r)) ≡ b
  unfolding hands_over
  hands_is k g b q = rw (same_open k) (rw (eq-eqb _ _ ok, eq-eqb _ _ k) at q)

  module _ (s' : State) (D : Does s e s') (g w n : ℕ) where
    aged : (m : ℕ) → Before s g w m → Before s₁ g w m
    aged = same_before s s₁ (same_lines s (step_of s e) Q.steady.sized) g w

    -- what the event does to the groups decides
    place_of : Before (edited s.setup e s₁) g w n → Before s' g w n
    place_of y = by_edit (λ x. Before x g w n) s e s' D (λ p. same_before _ _ (with_group_lem s.setup (edited s.setup e s₁) p) g w n y)

    place_kept : w ≢ nobody → hands_over s e g ≡ false → Before s g w n → Before s' g w n
    place_kept some q x =
        let y = aged n x in
        place_of (edited_by s e Q ok (λ z. Before z g w n)
        (λ _. same_before s₁ _ (λ b. same_group s₁ _ b refl) g w n y)
        (λ _. same_before s₁ _ (λ b. same_group s₁ _ b refl) g w n y)
        (λ k. request_before s.setup t r s₁ (g_there (omega arith)) tidy (steady_of s e Q ok) (asks_of s e Q ok k) g w n some y)
        (λ k. completed (g_there (omega arith)) (hands_is k g false q) y (open_of_kind s.setup (closes t s₁) t r) refl)
        (λ _. y))
      where
        completed : group_of s.setup r < length s₁.groups → (group_of s.setup r is g && not (open_of_kind s.setup (closes t s₁) t r)) ≡ false → Before s₁ g w n
            → (b : Bool) → open_of_kind s.setup (closes t s₁) t r ≡ b → Before (complete_edit s.setup t r s₁) g w n
        completed l q y true z = inner_before s.setup t r s₁ l tidy z g w n y
        completed l q y false z = outer_before s.setup t r s₁ l tidy z g w n (λ i. never (rw (eq-eqb _ _ (sym i), z) at q) refl) y

    place_up : hands_over s e g ≡ true → Before s g w (suc n) → Before s' g w n
    unfolding hands_over
    place_up q x =
        let z = simp tests at q in
        let k : e.kind ≡ completion = z.0.0.1 in
        let g-is : group_of s.setup r ≡ g = z.0.1 in
        let outer = same_open k ∙ not-true _ z.1 in
        place_of (edited_by s e Q ok (λ z. Before z g w n) (λ y. absurd (omega arith)) (λ y. absurd (omega arith)) (λ y. absurd (omega arith))
        (λ _. subst (λ (a : ℕ). Before s₁ a w (suc n) → Before (complete_edit s.setup t r s₁) a w n) g-is (outer_up s.setup t r s₁ (g_there (omega arith)) tidy outer w n) (aged (suc n) x))
        (λ y. absurd (omega arith)))

-- ---- any event
waits_of : (s : State) (g w n : ℕ) → Sound s → n ≢ 0 → Before s g w n → spinning ≤ stand s w
waits_of s g w zero Q d x = absurd (d refl)
waits_of s g w (suc n) Q d x = subst (λ (v : ℕ). spinning ≤ stand s v) x.1 ((Q.steady.locks.groups g).queued n x.0).0

-- by how many places e moves who waits at g
abbrev hop : State → Event → ℕ → ℕ
hop s e g = if hands_over s e g then 1 else 0

idle : (s : State) (e : Event) (g : ℕ) → judge s e ≢ 0 → hands_over s e g ≡ false
unfolding hands_over
idle s e g d = rw (ne_eqb _ _ d)

step_place : (pick : Prefers) (s : State) (e : Event) (g w n : ℕ) → Sound s → w ≢ nobody → Before s g w (hop s e g + n)
    → Before (step_by pick s e).state g w n × (n ≢ 0 → Same s (step_by pick s e).state w)
step_place pick s e g w n Q some x = elim (ℕ_discrete (judge s e) 0) [
  | yes ok ↦
      let y = go ok (hands_over s e g) refl x in
      (y, λ d. step_stays s e Q ok _ (step_does pick s e ok) w (waits_of s g w (hop s e g + n) Q (λ z. d (omega arith)) x) (waits_of _ g w n (step_sound_by pick s e Q) d y))
  | no d ↦ rw (refused_by pick s e d) (subst (Before s g w) (let z : 0 + n ≡ n = omega arith in z) (rw (idle s e g d) at x), λ _. (refl, refl))
]
  where
    go : judge s e ≡ 0 → (b : Bool) → hands_over s e g ≡ b → Before s g w (hop s e g + n) → Before (step_by pick s e).state g w n
    go ok true q y = place_up s e Q ok _ (step_does pick s e ok) g w n q (subst (Before s g w) (let z : 1 + n ≡ suc n = omega arith in z) (rw q at y))
    go ok false q y = place_kept s e Q ok _ (step_does pick s e ok) g w n some q (subst (Before s g w) (let z : 0 + n ≡ n = omega arith in z) (rw q at y))

-- ---- any events: up by as many places as there were completions
run_place : (ms : List Move) (s : State) (g w n : ℕ) → Sound s → w ≢ nobody → Before s g w (completions s ms g + n)
    → Before (run_by s ms) g w n × (n ≢ 0 → Same s (run_by s ms) w)
unfolding run_by completions
run_place [] s g w n Q some x = (subst (Before s g w) (let z : 0 + n ≡ n = omega arith in z) x, λ _. (refl, refl))
run_place (m ∷ ms) s g w n Q some x =
    let e = m.event in
    let k = completions (moved s m) ms g in
    let y = step_place m.prefers s e g w (k + n) Q some (subst (Before s g w) (let z : (hop s e g + k) + n ≡ hop s e g + (k + n) = omega arith in z) x) in
    let z = run_place ms (moved s m) g w n (step_sound_by m.prefers s e Q) some y.0 in
    (z.0, λ d. let a = y.1 (λ q. d (omega arith)) in let b = z.1 d in (b.0 ∙ a.0, b.1 ∙ a.1))

-- ---- a short request with no other short one open
-- how many are before t, fewer than m; where there are some, t spins for r
record Found (c : Setup) (m t r : ℕ) (s : State) : Type 0 where
  found : ℕ
  few : found < m
  place : Before s (group_of c r) t found
  spins : found ≢ 0 → (stand s t ≡ spinning) × (asked s t ≡ r)

-- of a state with the same tasks and groups
found_with : (c : Setup) (m t r : ℕ) (s : State) (p : Processors) → Found c m t r s → Found c m t r (with_processors p s)
unfolding stand asked
found_with c m t r s p F = record { found = F.found; few = F.few; place = same_before s _ (with_group_lem c s p) _ t F.found F.place; spins = F.spins }

-- if fewer than m wait at a held group
abbrev Finds : Setup → ℕ → ℕ → ℕ → State → Type 0
Finds c m t r s = (holder s (group_of c r) ≢ nobody → len s (group_of c r) < m) → Found c m t r s

module _ (c : Setup) (G : Grouped c) (s : State) (S : Steady c s) (t r : ℕ) (A : Asks c s t r) (is-short : kind c r ≡ short) (outer : open_of_kind c s t r ≡ false) where
  asks_found : (m : ℕ) → 0 < m → Finds c m t r (request_edit c t r s)
  asks_found m some = request_edit_by c t r s (Finds c m t r)
      (λ _ few.
      let E = opens_view c s S.sized S.blank (group_of c r) (omega (arith, G.low r A.inside, G.few_resources)) t r (pending_in c G s nobody t S.locks (λ z. omega (arith, A.acts.act))) A.room in
      record { found = 0; few = some; place = E.holds; spins = λ d. absurd (d refl) })
      (λ _ busy few.
      let E = queued c G s S t r A busy (kind_none c s t r outer) in
      let l = few (λ y. busy (sym E.holds ∙ y)) in
      record { found = suc (len s (group_of c r)); few = omega (arith, l, E.long); place = (omega (arith, E.long), E.last); spins = λ _. (omega (arith, E.stood), E.wants) })

-- in a sound state
few_of : (s : State) → Sound s → (g : ℕ) → kind s.setup g ≡ short → holder s g ≢ nobody → len s g < s.setup.processors
few_of s Q g k busy = omega (arith, few_at_short s.setup (accepted_grouped s.setup Q.setup) s Q.steady (sound_served s Q) g k busy, Q.count)

short_outer : (c : Setup) (s : State) (t r : ℕ) → kind c r ≡ short → short_open c s t ≡ false → open_of_kind c s t r ≡ false
unfolding open_of_kind short_open
short_outer c s t r k h = rw k h

module _ (s : State) (pick : Prefers) (e : Event) (Q : Sound s) (ok : judge s e ≡ 0) (ask : e.kind ≡ asking) (is-short : kind s.setup e.resource ≡ short)
    (none : short_open s.setup s e.task ≡ false) where
  short_found : Found s.setup s.setup.processors e.task e.resource (step_by pick s e).state
  unfolding charged holder len
  short_found =
      let c = s.setup in
      let t = e.task in
      let r = e.resource in
      let m = c.processors in
      let s₁ = charged (step_of s e) s in
      let s' = (step_by pick s e).state in
      let G = grouped s e Q ok in
      let same = same_of s e Q ok t in
      let kept = step_setup_by pick s e Q in
      let short-group : kind c (group_of c r) ≡ short = G.alike r (row12 s e Q ok (omega arith)) ∙ is-short in
      by_edit (Finds c m t r) s e s' (step_does pick s e ok) (λ p few. found_with c m t r _ p (edited_by s e Q ok (Finds c m t r)
      (λ y. absurd (omega arith)) (λ y. absurd (omega arith))
      (λ k. asks_found c G s₁ (steady_of s e Q ok) t r (asks_of s e Q ok k) is-short (short_outer c s₁ t r is-short
      (short_same c s s₁ t (λ i l q. (i, omega (arith, same.deep), ap (kind c) (same.requested i) ∙ q)) (λ i l q. (i, omega (arith, same.deep), ap (kind c) (sym (same.requested i)) ∙ q)) ∙ none))
      m ((accepted_iff c).0 Q.setup).processors.0)
      (λ y. absurd (omega arith)) (λ y. absurd (omega arith)) few))
      (λ busy. omega (arith, few_of s' (step_sound_by pick s e Q) (group_of c r) (ap (λ (x : Setup). kind x (group_of c r)) kept ∙ short-group) busy, ap (λ (x : Setup). x.processors) kept))

  pub short_queue : ShortQueue s pick e s.setup.processors
  short_queue =
      let F = short_found in
      let s' = (step_by pick s e).state in
      let g = group_of s.setup e.resource in
      let t = e.task in
      record {
        found = F.found;
        few = F.few;
        later = λ ms n q.
            let z = run_place ms s' g t n (step_sound_by pick s e Q) (λ y. omega (arith, row11 s e Q ok (omega arith), (grouped s e Q ok).few_tasks)) (subst (Before s' g t) (sym q) F.place) in
            (z.0, λ d. let a = z.1 d in let b = F.spins (λ y. d (omega arith)) in (a.0 ∙ b.0, a.1 ∙ b.1));
      }
