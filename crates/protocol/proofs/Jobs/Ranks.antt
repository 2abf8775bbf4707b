-- Effective ranks: what they are, when they stay, and that those of runnable jobs are apart. Assumes nothing.
use Prim.Native.Nat.{ℕ, zero, suc, ◌<◌, ◌≤◌}
use mathlib.Core.Path.{◌≡◌, refl, sym, ap, ◌∙◌}
use mathlib.Core.Logic.{◌≢◌, ◌⊎◌, inl, inr, ⊎_elim, ◌↔◌}
use mathlib.Core.Bool.{◌&&◌}
use native.Mathlib.Omega.{arith}
use native.Mathlib.Decide.{ℕ_discrete, dec_lt}
use Rattle.search.specs.Words.{◌is◌}
use Rattle.search.proofs.Firsts.{First, first_law}
use Rattle.search.proofs.Tests.{tests, never}
use Rattle.numbers.specs.Limits.{most_tasks, nobody}
use Rattle.input.specs.Kinds.{long}
use Rattle.input.specs.Words.{kind}
use Rattle.setups.specs.Naming.{group_of}
use Rattle.input.specs.declared.Setup.{Setup}
use Rattle.protocol.specs.Words.{spinning, suspended, stand, asked, deadline, depth, request, holder, len, waiter}
use Rattle.protocol.specs.Ranks.{own, least_of, long_held, effective}
use Rattle.protocol.specs.declared.State.{State}
use Rattle.protocol.proofs.Sound.Statements.{Grouped, LocksBut, SameGroup}
use Rattle.protocol.proofs.Edits.Locks.{pending_in, no_queue}

-- ---- the least
record Least (f : ℕ → ℕ) (n a e : ℕ) : Type 0 where
  low : e ≤ a
  all : (i : ℕ) → i < n → e ≤ f i
  one : (e ≡ a) ⊎ ((i : ℕ) × (i < n) × (e ≡ f i))

least_law : (f : ℕ → ℕ) (n a : ℕ) → Least f n a (least_of f n a)
unfolding least_of
least_law f zero a = record { low = omega arith; all = λ i h. absurd (omega arith); one = inl refl }
least_law f (suc n) a =
    let r = least_law f n a in
    record {
      low = omega (arith, r.low);
      all = λ i h. elim (ℕ_discrete i n) [ yes e ↦ omega (arith, ap f e) | no d ↦ omega (arith, r.all i (omega arith)) ];
      one = elim (dec_lt (f n) (least_of f n a)) [
        | yes h ↦ inr (n, omega arith, omega arith)
        | no h ↦ ⊎_elim (λ z. inl (omega arith)) (λ z. inr (z.0, omega (arith, z.1), omega (arith, z.2))) r.one
      ];
    }

-- ---- own ranks: earlier deadline, then lower task number; so two tasks' are apart
pub own_order : (s : State) (t u : ℕ) → t < 256 → u < 256 → (own s t < own s u) ↔ ((deadline s t < deadline s u) ⊎ ((deadline s t ≡ deadline s u) × (t < u)))
unfolding own
own_order s t u a b = (
  λ h. elim (dec_lt (deadline s t) (deadline s u)) [ yes y ↦ inl y | no y ↦ inr (omega arith, omega arith) ],
  ⊎_elim (λ z. omega arith) (λ z. omega arith),
)

pub own_apart : (s : State) (t u : ℕ) → t < 256 → u < 256 → own s t ≡ own s u → t ≡ u
unfolding own
own_apart s t u a b e = omega arith

-- w waits at a long group that u holds
pub record Behind (c : Setup) (s : State) (u w : ℕ) : Type 0 where
  pub group : ℕ
  pub place : ℕ
  pub is_long_lem : kind c group ≡ long
  pub held : holder s group ≡ u
  pub below : place < len s group
  pub there : waiter s group place ≡ w

pub record Effective (c : Setup) (s : State) (u e : ℕ) : Type 0 where
  pub low : e ≤ own s u
  pub all : (w : ℕ) → Behind c s u w → e ≤ own s w
  pub one : (e ≡ own s u) ⊎ ((w : ℕ) × Behind c s u w × (e ≡ own s w))

module _ (c : Setup) (G : Grouped c) (s : State) (x : ℕ) (L : LocksBut c s x) where
  -- a held group is one of the table
  pub held_in : (g : ℕ) → holder s g ≢ nobody → (g < c.resources) × (holder s g < c.tasks)
  held_in g h =
      let k = (L.groups g).held h in
      let T = L.tasks (holder s g) in
      let r = T.opened.held k.0 k.1 in
      (omega (arith, G.low _ r.0, k.2), T.inside (λ z. omega (arith, T.none z, k.1)))

  -- a job holds one long group at most
  one_long : (t g a : ℕ) → t ≢ nobody → kind c g ≡ long → kind c a ≡ long → holder s g ≡ t → holder s a ≡ t → g ≡ a
  one_long t g a t_in kg ka hg ha =
      let K = (L.tasks t).opened in
      let y : (i : ℕ) × (i < depth s t) × (group_of c (request s t i) ≡ g) = rw hg at ((L.groups g).held (λ e. t_in (sym hg ∙ e))) in
      let z : (i : ℕ) × (i < depth s t) × (group_of c (request s t i) ≡ a) = rw ha at ((L.groups a).held (λ e. t_in (sym ha ∙ e))) in
      let ky = sym (G.alike _ (K.held y.0 y.1).0) ∙ ap (kind c) y.2 ∙ kg in
      let kz = sym (G.alike _ (K.held z.0 z.1).0) ∙ ap (kind c) z.2 ∙ ka in
      sym y.2 ∙ K.one_group y.0 z.0 y.1 z.1 (ky ∙ sym kz) ∙ z.2

  -- the long group found is long and t's, and there is none before it
  long_found : (t : ℕ) → First (λ g. kind c g is long && holder s g is t) 0 c.resources (long_held c s t)
  unfolding long_held
  long_found t = first_law (λ g. kind c g is long && holder s g is t) 0 c.resources

  long_is : (t : ℕ) → long_held c s t < c.resources → (kind c (long_held c s t) ≡ long) × (holder s (long_held c s t) ≡ t)
  long_is t h = simp tests at ((long_found t).here (omega arith))

  long_before : (t g : ℕ) → kind c g ≡ long → holder s g ≡ t → long_held c s t ≤ g
  long_before t g k h = elim (dec_lt g (long_held c s t)) [
    | yes y ↦ never ((long_found t).before g (omega arith) y) (simp tests (k, h))
    | no y ↦ omega arith
  ]

  pub effective_law : (t : ℕ) → t ≢ nobody → Effective c s t (effective c s t)
  unfolding effective
  effective_law t t_in =
      let g = long_held c s t in
      let R = least_law (λ i. own s (waiter s g i)) (len s g) (own s t) in
      record {
        low = R.low;
        all = λ w B.
            let in_table = held_in B.group (λ e. t_in (sym B.held ∙ e)) in
            let l : g < c.resources = omega (arith, long_before t B.group B.is_long_lem B.held, in_table.0) in
            let e : B.group ≡ g = one_long t _ _ t_in B.is_long_lem (long_is t l).0 B.held (long_is t l).1 in
            let q : waiter s g B.place ≡ w = ap (λ (a : ℕ). waiter s a B.place) (sym e) ∙ B.there in
            omega (arith, R.all B.place (omega (arith, ap (len s) e, B.below)), ap (own s) q);
        one = ⊎_elim (λ z. inl z) (λ z.
            let l : g < c.resources = elim (dec_lt g c.resources) [ yes y ↦ y | no y ↦ absurd (omega (arith, no_queue c G s x g L (omega arith), z.1)) ] in
            inr (waiter s g z.0, record { group = g; place = z.0; is_long_lem = (long_is t l).0; held = (long_is t l).1; below = z.1; there = refl }, z.2)) R.one;
      }

  -- who waits at a long group sleeps
  pub sleeps : (u w : ℕ) (B : Behind c s u w) → (stand s w ≡ suspended) × (group_of c (asked s w) ≡ B.group)
  sleeps u w B =
      let k : (spinning ≤ stand s w) × (group_of c (asked s w) ≡ B.group) = rw B.there at ((L.groups B.group).queued B.place B.below) in
      let W = (L.tasks w).waits k.0 in
      (omega (arith, W.kinds, G.alike _ W.inside, ap (kind c) k.1, B.is_long_lem), k.1)

  -- the rank of a job is its own or that of a sleeper; so two jobs that do not sleep have different ranks
  pub ranks_apart : (u v : ℕ) → u < most_tasks → v < most_tasks → stand s u ≢ suspended → stand s v ≢ suspended → effective c s u ≡ effective c s v → u ≡ v
  ranks_apart u v hu hv su sv e =
      ⊎_elim
      (λ y. ⊎_elim
      (λ z. own_apart s u v (omega arith) (omega arith) (sym y ∙ e ∙ z))
      (λ z. let n = task_in z.0 v z.1 in
      absurd (su (ap (stand s) (own_apart s u z.0 (omega arith) (omega arith) (sym y ∙ e ∙ z.2)) ∙ (sleeps v z.0 z.1).0))) (E v hv))
      (λ y. let m = task_in y.0 u y.1 in ⊎_elim
      (λ z. absurd (sv (ap (stand s) (own_apart s v y.0 (omega arith) (omega arith) (sym z ∙ sym e ∙ y.2)) ∙ (sleeps u y.0 y.1).0)))
      (λ z.
      let n = task_in z.0 v z.1 in
      let w : y.0 ≡ z.0 = own_apart s y.0 z.0 (omega arith) (omega arith) (sym y.2 ∙ e ∙ z.2) in
      let g : y.1.group ≡ z.1.group = sym (sleeps u y.0 y.1).1 ∙ ap (λ (i : ℕ). group_of c (asked s i)) w ∙ (sleeps v z.0 z.1).1 in
      sym y.1.held ∙ ap (holder s) g ∙ z.1.held) (E v hv)) (E u hu)
    where
      E : (t : ℕ) → t < most_tasks → (effective c s t ≡ own s t) ⊎ ((w : ℕ) × Behind c s t w × (effective c s t ≡ own s w))
      E t h = (effective_law t (omega arith)).one

      task_in : (w t : ℕ) → Behind c s t w → w < most_tasks
      task_in w t B = pending_in c G s x w L (λ z. omega (arith, (sleeps t w B).0))

-- ---- effective ranks that stay
same_back : (s s' : State) (a : ℕ) → SameGroup s s' a → SameGroup s' s a
same_back s s' a E = record { holds = sym E.holds; long = sym E.long; line = λ i. sym (E.line i) }

-- who waits behind u at a group that stays waits there still, and did before
pub behind_still : (c : Setup) (s s' : State) (u w : ℕ) (B : Behind c s u w) → SameGroup s s' B.group → Behind c s' u w
behind_still c s s' u w B E = record { group = B.group; place = B.place; is_long_lem = B.is_long_lem; held = E.holds ∙ B.held; below = omega (arith, E.long, B.below); there = E.line _ ∙ B.there }

pub behind_before : (c : Setup) (s s' : State) (u w : ℕ) (B : Behind c s' u w) → SameGroup s s' B.group → Behind c s u w
behind_before c s s' u w B E = behind_still c s' s u w B (same_back s s' _ E)

abbrev pub Keeps : State → State → ℕ → ℕ → Type 0
Keeps s s' u g = SameGroup s s' g ⊎ (((holder s g ≢ u) × (holder s' g ≢ u)) ⊎ ((len s g ≡ 0) × (len s' g ≡ 0)))

-- u's rank is the same where the same jobs wait behind it
module _ (c : Setup) (G : Grouped c) (s s' : State) (x y : ℕ) (L : LocksBut c s x) (L' : LocksBut c s' y) where
  rank_by_lem : (u : ℕ) → u ≢ nobody → own s' u ≡ own s u → ((w : ℕ) → Behind c s u w → own s' w ≡ own s w)
      → ((w : ℕ) → Behind c s u w → Behind c s' u w) → ((w : ℕ) → Behind c s' u w → Behind c s u w) → effective c s' u ≡ effective c s u
  rank_by_lem u u_in mine theirs to from =
      let E = effective_law c G s x L u u_in in
      let F = effective_law c G s' y L' u u_in in
      let le : effective c s' u ≤ effective c s u = ⊎_elim (λ z. omega (arith, F.low)) (λ z. omega (arith, F.all z.0 (to z.0 z.1), theirs z.0 z.1, z.2)) E.one in
      let ge : effective c s u ≤ effective c s' u = ⊎_elim (λ z. omega (arith, E.low)) (λ z. let B = from z.0 z.1 in omega (arith, E.all z.0 B, theirs z.0 B, z.2)) F.one in
      omega arith

  pub rank_same : (u : ℕ) → u ≢ nobody → own s' u ≡ own s u → ((w : ℕ) → Behind c s u w → own s' w ≡ own s w) → ((g : ℕ) → kind c g ≡ long → Keeps s s' u g) → effective c s' u ≡ effective c s u
  rank_same u u_in mine theirs keep = rank_by_lem u u_in mine theirs
      (λ w B. ⊎_elim (behind_still c s s' u w B) (⊎_elim (λ d. absurd (d.0 B.held)) (λ d. absurd (omega (arith, B.below)))) (keep B.group B.is_long_lem))
      (λ w B. ⊎_elim (behind_before c s s' u w B) (⊎_elim (λ d. absurd (d.1 B.held)) (λ d. absurd (omega (arith, B.below)))) (keep B.group B.is_long_lem))
