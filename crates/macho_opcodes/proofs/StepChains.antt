-- Steps that follow each other: there is one way only from a place to a later one.
use Rattle.std.proofs.Common.{◌≡◌, ℕ, ◌≤◌, List, [], ◌∷◌, ◌++◌, Option, Some, refl, sym, ap, ◌∙◌, arith}
use Rattle.macho_opcodes.specs.Steps.{step_at, AreStepsFrom}
use Rattle.macho_opcodes.specs.declared.step.Opcodes.{Opcodes}
use Rattle.macho_opcodes.specs.declared.step.Step.{Step}
use Rattle.macho_opcodes.proofs.Within.{step_within}

-- one read gives one step, and one place past it
pub same_step : (read : Option (Step × ℕ)) (first second : Step) (after past : ℕ) → read ≡ Some (first, after) → read ≡ Some (second, past)
    → (first ≡ second) × (after ≡ past)
same_step read first second after past is also =
    let same : ◌≡◌ {A = Step × ℕ} (first, after) (second, past) = cc in
    (ap (λ (r : Step × ℕ). r.0) same, ap (λ (r : Step × ℕ). r.1) same)

module _ (of : Opcodes) (stream : List ℕ) where
  -- steps do not go back
  pub steps_rise : (steps : List Step) (start next : ℕ) → AreStepsFrom of stream start steps next → start ≤ next
  steps_rise [] start next is = omega arith
  steps_rise (first ∷ steps) start next (after, at, rest) =
      let within = step_within of stream start first after at in
      let more = steps_rise steps after next rest in omega arith

  -- one step more
  pub steps_more : (steps : List Step) (start place : ℕ) (more : Step) (next : ℕ) → AreStepsFrom of stream start steps place
      → step_at of stream place ≡ Some (more, next) → AreStepsFrom of stream start (steps ++ more ∷ []) next
  steps_more [] start place more next is at = (next, rw is at, refl)
  steps_more (first ∷ steps) start place more next (after, here, rest) at = (after, here, steps_more steps after place more next rest at)

  -- a chain to a later place goes on where one to an earlier place ends
  pub steps_on : (short long : List Step) (start place next : ℕ) → AreStepsFrom of stream start short place → AreStepsFrom of stream start long next → place ≤ next
      → (rest : List Step) × AreStepsFrom of stream place rest next × (long ≡ short ++ rest)
  steps_on [] long start place next is far less = (long, rw (sym is) far, refl)
  steps_on (first ∷ short) [] start place next (after, at, rest) is less =
      let within = step_within of stream start first after at in
      let more = steps_rise short after place rest in absurd (omega arith)
  steps_on (first ∷ short) (second ∷ long) start place next (after, at, near) (past, there, far) less =
      let (same, equal) = same_step _ first second after past at there in
      let (rest, on, is) = steps_on short long after place next near (rw equal far) less in
      (rest, on, ap (λ (steps : List Step). second ∷ steps) is ∙ ap (λ (s : Step). s ∷ (short ++ rest)) (sym same))
