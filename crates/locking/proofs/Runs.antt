-- What `play` does with a part is a run of its events. Assumes nothing.
use Rattle.std.proofs.Common.{◌≡◌, ℕ, zero, suc, ◌<◌, List, [], ◌∷◌, sym, refl, ap, ◌∙◌, arith}
use Rattle.search.specs.Table.{table}
use Rattle.search.proofs.Tables.{table_at, table_front}
use Rattle.input.specs.Layout.{event_in, event_count, events_in}
use Rattle.protocol.specs.Events.{run_by, step, run, reply_at}
use Rattle.protocol.specs.declared.State.{State}
use Rattle.protocol.proofs.Events.Step.{run_join}
use Rattle.locking.specs.Playing.{played_to, reply_to}

module _ (s : State) (part : List ℕ) where
  -- the state after the first n events
  played_run : (n : ℕ) → played_to s part n ≡ run s (table (event_in part) n)
  unfolding played_to step run run_by table
  played_run zero = refl
  played_run (suc n) = ap (λ (x : State). (step x (event_in part n)).state) (played_run n) ∙ sym (run_join s (table (event_in part) n) (event_in part n ∷ []))

  -- the state after a part is `run` of its events
  pub played_runs : played_to s part (event_count part) ≡ run s (events_in part)
  played_runs = played_run (event_count part)

  -- what is written of event n is of the n-th reply
  pub played_snapshots : (n : ℕ) → n < event_count part → reply_to s part n ≡ reply_at s (events_in part) n
  played_snapshots n l = rw (table_front (event_in part) n (event_count part) (omega arith), table_at (event_in part) (event_count part) n _ l, played_run n)
