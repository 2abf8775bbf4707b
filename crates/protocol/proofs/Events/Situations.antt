-- What a job's situation, and the refusal that it gives, say of the job. Assumes nothing.
use Prim.Native.Nat.{ℕ, ◌<◌}
use mathlib.Core.Path.{◌≡◌, refl}
use mathlib.Core.Logic.{◌≢◌}
use native.Mathlib.Omega.{arith}
use native.Mathlib.Decide.{ℕ_discrete, dec_lt}
use borrow.Author.Tests.{eq-eqb, ne_eqb, lt-ltb, le-ltb}
use Rattle.search.proofs.Tests.{tests, and_iff}
use Rattle.numbers.specs.Limits.{most_processors}
use Rattle.processors.specs.Words.{link_of, run_of}
use Rattle.scheduler.proofs.Laws.{runs_there, runs_nowhere}
use Rattle.protocol.specs.Words.{absent, spinning, suspended, stand}
use Rattle.protocol.specs.Situations.{situation, situation_refusal}
use Rattle.protocol.specs.Demands.{IsOff}
use Rattle.protocol.specs.declared.Situation.{Situation}
use Rattle.protocol.specs.declared.Situation.TheVariants.{NoJob, Running, Spinning, LinkedOnly, Ready, Suspended}
use Rattle.protocol.specs.declared.State.{State}

module _ (s : State) (t : ℕ) where
  -- situation by situation, with what each says of the job
  situation_by : (P : Situation → Type 0)
      → (stand s t ≡ absent → P NoJob)
      → (stand s t ≡ suspended → P Suspended)
      → (stand s t ≡ spinning → run_of s.processors t < most_processors → P Spinning)
      → (stand s t ≢ spinning → run_of s.processors t < most_processors → P Running)
      → (IsOff s t → P LinkedOnly)
      → (IsOff s t → P Ready)
      → P (situation s t)
  unfolding situation
  situation_by P gone asleep spins runs linked ready =
      let p = s.processors in
      elim (ℕ_discrete (stand s t) absent) [
        | yes e ↦ rw (eq-eqb _ _ e) (gone e)
        | no d ↦ rw (ne_eqb _ _ d) (elim (ℕ_discrete (stand s t) suspended) [
          | yes e ↦ rw (eq-eqb _ _ e) (asleep e)
          | no f ↦ rw (ne_eqb _ _ f) (elim (dec_lt (run_of p t) most_processors) [
            | yes l ↦ rw (lt-ltb _ _ l) (elim (ℕ_discrete (stand s t) spinning) [ yes e ↦ rw (eq-eqb _ _ e) (spins e l) | no g ↦ rw (ne_eqb _ _ g) (runs g l) ])
            | no l ↦ let off : IsOff s t = (rw (ne_eqb _ _ d, ne_eqb _ _ f), runs_nowhere p t (omega arith)) in
                rw (le-ltb (run_of p t) most_processors (omega arith)) (elim (dec_lt (link_of p t) most_processors) [ yes m ↦ rw (lt-ltb _ _ m) (linked off) | no m ↦ rw (le-ltb (link_of p t) most_processors (omega arith)) (ready off) ])
          ])
        ])
      ]

  -- what refuses nothing: a job that is on a processor and does not spin
  pub unhindered : situation_refusal (situation s t) ≢ 18 → situation_refusal (situation s t) ≢ 26 → situation_refusal (situation s t) ≢ 19 → situation_refusal (situation s t) ≢ 20
      → (stand s t ≢ spinning) × (run_of s.processors t < most_processors)
  unhindered = situation_by
      (λ x. situation_refusal x ≢ 18 → situation_refusal x ≢ 26 → situation_refusal x ≢ 19 → situation_refusal x ≢ 20
      → (stand s t ≢ spinning) × (run_of s.processors t < most_processors))
      (λ _ a b c d. absurd (omega arith)) (λ _ a b c d. absurd (omega arith)) (λ _ _ a b c d. absurd (omega arith)) (λ still on _ _ _ _. (still, on))
      (λ _ a b c d. absurd (omega arith)) (λ _ a b c d. absurd (omega arith))

  -- 26 is of a suspended job
  pub only_suspended : situation_refusal (situation s t) ≡ 26 → stand s t ≡ suspended
  only_suspended = situation_by (λ x. situation_refusal x ≡ 26 → stand s t ≡ suspended)
      (λ _ e. absurd (omega arith)) (λ h _. h) (λ _ _ e. absurd (omega arith)) (λ _ _ e. absurd (omega arith)) (λ _ e. absurd (omega arith)) (λ _ e. absurd (omega arith))

  pub of_suspended : stand s t ≡ suspended → situation_refusal (situation s t) ≡ 26
  unfolding situation
  of_suspended h = rw h

  -- 19 is of a runnable one on no processor
  pub only_off : situation_refusal (situation s t) ≡ 19 → IsOff s t
  only_off = situation_by (λ x. situation_refusal x ≡ 19 → IsOff s t)
      (λ _ e. absurd (omega arith)) (λ _ e. absurd (omega arith)) (λ _ _ e. absurd (omega arith)) (λ _ _ e. absurd (omega arith)) (λ h _. h) (λ h _. h)

  pub of_off : IsOff s t → situation_refusal (situation s t) ≡ 19
  of_off h =
      let up : (stand s t ≢ absent) × (stand s t ≢ suspended) = simp (tests, and_iff) at h.0 in
      let nowhere : run_of s.processors t < most_processors → ⊥ = λ l. h.1 _ l (runs_there s.processors t l) in
      situation_by (λ x. situation_refusal x ≡ 19)
      (λ e. absurd (up.0 e)) (λ e. absurd (up.1 e)) (λ _ l. absurd (nowhere l)) (λ _ l. absurd (nowhere l)) (λ _. refl) (λ _. refl)
