-- The lengths of the arrays in a state, from its type. Assumes nothing.
use Rattle.std.proofs.Common.{◌≡◌, ℕ, zero, suc, ◌<◌, List, [], ◌∷◌, length, get_or, refl, w16}
use mir.Val.{Val}
use borrow.Author.Rules.{elem_Fits}
use base.Fml.{Fml}
use denote.Array.{each}
use denote.Shadow.{shadow}
use Rattle.queue.specs.Limits.{capacity}
use Rattle.queue.specs.Waiting.{empty}
use Rattle.input.specs.Words.{period}
use Rattle.protocol.specs.contracts.Task as task-type
use Rattle.protocol.specs.contracts.Group as group-type
use Rattle.protocol.specs.contracts.State as state-type
use Rattle.numbers.specs.Limits.{most_requests}
use Rattle.protocol.specs.Records.{no_task, no_group, total_count}
use Rattle.protocol.specs.declared.Task.{Task}
use Rattle.protocol.specs.declared.Group.{Group}
use Rattle.protocol.specs.declared.State.{State}
use Rattle.protocol.proofs.Sound.Reflect.{Shaped}

-- what holds of each element of an array, and of what is read past its end, holds at any index
each_at : {A : Type 0} (own : A → List Val → Fml) (P : A → Type 0) → ((x : A) (u : Val) → shadow (own x (u ∷ [])) → P x)
    → (xs : List A) (us : List Val) → shadow (each A own xs us) → (y : A) → P y → (i : ℕ) → P (get_or xs i y)
each_at own P holds [] us h y past i = past
each_at own P holds (x ∷ xs) [] h y past i = absurd h
each_at own P holds (x ∷ xs) (u ∷ us) h y past zero = holds x u h.0
each_at own P holds (x ∷ xs) (u ∷ us) h y past (suc i) = each_at own P holds xs us h.1 y past i

-- what owning a record of a task, or of a group, tells
abbrev owns_task : Task → List Val → Fml
owns_task x = (task-type.the_field).row.own_val ((task-type.the_field).into x)

abbrev owns_group : Group → List Val → Fml
owns_group x = (group-type.the_field).row.own_val ((group-type.the_field).into x)

requests_long : (x : Task) (u : Val) → shadow (owns_task x (u ∷ [])) → length x.requests ≡ most_requests
requests_long x u h = h.1.1.1.1.1.1.0.1.0.1

totals_long : (x : Task) (u : Val) → shadow (owns_task x (u ∷ [])) → length x.totals ≡ total_count
totals_long x u h = h.1.1.1.1.1.1.1.1.0.1.0.1

queue_long : (x : Group) (u : Val) → shadow (owns_group x (u ∷ [])) → length x.queue.tasks ≡ capacity
queue_long x u h = h.1.1.1.0.1.1.0.1.0.1

pub shaped : (s : State) (vs : List Val) → shadow ((state-type.the_field).row.own_val ((state-type.the_field).into s) vs) → Shaped s
unfolding empty
shaped s vs h =
    let tasks = h.1.1.1.1.0.1 in
    let groups = h.1.1.1.1.1.0.1 in
    let on = h.1.1.1.1.1.1.0.1.1 in
    record {
      sized = record {
        tasks = tasks.0.1;
        groups = groups.0.1;
        requests = each_at owns_task (λ (x : Task). length x.requests ≡ most_requests) requests_long s.tasks _ tasks.1 no_task refl;
        totals = each_at owns_task (λ (x : Task). length x.totals ≡ total_count) totals_long s.tasks _ tasks.1 no_task refl;
      };
      processors = record { links = on.1.0.1.0.1; runnings = on.1.1.0.1.0.1 };
      queues = each_at owns_group (λ (x : Group). length x.queue.tasks ≡ capacity) queue_long s.groups _ groups.1 no_group refl;
    }

pub periods_short : (s : State) (vs : List Val) → shadow ((state-type.the_field).row.own_val ((state-type.the_field).into s) vs) → (t : ℕ) → period s.setup t < 65536
periods_short s vs h t = (elem_Fits w16 w16 s.setup.periods _ t h.1.1.0.1.1.1.1.1.1.1.0.1.1 tt).fits
