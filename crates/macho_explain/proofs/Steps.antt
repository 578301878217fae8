-- The steps of a stream on the way to one of its opcodes.
use Rattle.std.proofs.Common.{◌≡◌, ℕ, ◌≤◌, ◌<◌, ◌⊎◌, List, [], ◌∷◌, Option, Some, inl, inr, arith}
use Rattle.std.specs.Prelude.{MatchOption}
use Rattle.macho_opcodes.specs.Steps.{step_at, AreSteps, AreStepsFrom}
use Rattle.macho_opcodes.specs.declared.step.Opcodes.{Opcodes}
use Rattle.macho_opcodes.specs.declared.step.Step.{Step}
use Rattle.macho_opcodes.proofs.StepChains.{steps_on, steps_rise}
use Rattle.macho_explain.proofs.Found.{found_as}

-- steps that come up to a later place have one at an earlier one
pub steps_go_on : (of : Opcodes) (stream : List ℕ) (short long : List Step) (place next : ℕ) → AreSteps of stream short place → AreSteps of stream long next → place < next
    → (first : Step) × (after : ℕ) × (step_at of stream place ≡ Some (first, after)) × (after ≤ next)
steps_go_on of stream short long place next near far less = let (rest, on, is) = steps_on of stream short long 0 place next near far (omega (arith, less)) in first rest on
  where
    first : (rest : List Step) → AreStepsFrom of stream place rest next → (first : Step) × (after : ℕ) × (step_at of stream place ≡ Some (first, after)) × (after ≤ next)
    first [] same = absurd (let none : ⊥ = omega (arith, same, less) in none)
    first (step ∷ rest) (after, at, on) = (step, after, at, steps_rise of stream rest after next on)

-- what is found in the last of three streams, where nothing is in the others
pub in_last : {X : Type 0} (O A B C : Type 0) (F G : X → Type 0) (found : Option X) → ¬ (O × A) → ¬ (O × B) → MatchOption found (¬ (O × C)) F
    → ((x : X) → F x → G x) → MatchOption found (¬ (O × (A ⊎ B ⊎ C))) G
in_last O A B C F G found one two three more =
    found_as (¬ (O × C)) (¬ (O × (A ⊎ B ⊎ C))) F G found
    (λ none (opens, has). elim has [ inl a ↦ one (opens, a) | inr rest ↦ elim rest [ inl b ↦ two (opens, b) | inr c ↦ none (opens, c) ] ]) more three
