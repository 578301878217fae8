-- The steps of a stream as a list, and the opcodes that write.
use Rattle.std.proofs.Common.{◌≡◌, ◌⊎◌, ℕ, zero, suc, ◌+◌, ◌-◌, ◌≤◌, ◌<◌, ◌==◌, List, [], ◌∷◌, ◌++◌, length, slice_get, Option, Some, None, refl, sym, ap, ◌∙◌, subst, arith, inl, inr}
use Rattle.std.specs.Option.{option_map_or, option_and_then, option_to_list}
use Rattle.std.proofs.lemmas.Bool.{cases_Bool}
use Rattle.std.proofs.lemmas.Option.{slice_get_past, same_Some}
use Rattle.macho_opcodes.specs.Steps.{opcode_step, step_at, AreStepsFrom}
use Rattle.macho_opcodes.specs.declared.step.Opcodes.{Opcodes}
use Rattle.macho_opcodes.specs.declared.step.Step.{Step}
use Rattle.macho_opcodes.specs.declared.step.Step.TheVariants as step
use Rattle.macho_opcodes.proofs.Within.{step_within}
use Rattle.macho_fixups.specs.Walks.{followed, steps_up_to, steps_from, write_from, writes_of, writes_from, step_of}
use Rattle.macho_fixups.specs.declared.walk.Walk.{Walk}
use Rattle.macho_fixups.specs.declared.walk.Write.{Write}

-- a step that writes is what its write says
said_write : (walk : Walk) (said : Step) (write : Write) → write_from walk said ≡ Some write → followed walk said ≡ followed write.walk (step_of write)
said_write walk (step.Write count skip) write is = elim (cases_Bool (count == 0)) [
  | inl none ↦ let wrong : None ≡ Some write = rw none at is in absurd (cc)
  | inr some ↦
      let found : Some (record { walk = walk; count = count; skip = skip }) ≡ Some write = rw some at is in
      ap (λ (w : Write). followed w.walk (step_of w)) (same_Some _ write found)
]
said_write walk other write is = absurd (cc)

module _ (of : Opcodes) (stream : List ℕ) where
  -- no opcode says anything past the end
  pub past_end : (place : ℕ) → length stream ≤ place → step_at of stream place ≡ None
  unfolding step_at
  past_end place past = ap (option_and_then (λ byte. opcode_step of stream byte (place + 1))) (slice_get_past stream place past)

  -- as many as there are bytes are enough
  enough : (most more place : ℕ) → length stream - place ≤ most → length stream - place ≤ more → steps_up_to most of stream place ≡ steps_up_to more of stream place
  enough zero zero place few less = refl
  enough zero (suc more) place few less = sym (ap (λ read. option_map_or (λ (said : Step × ℕ). said.0 ∷ steps_up_to more of stream said.1) read []) (past_end place (omega arith)))
  enough (suc most) zero place few less = ap (λ read. option_map_or (λ (said : Step × ℕ). said.0 ∷ steps_up_to most of stream said.1) read []) (past_end place (omega arith))
  enough (suc most) (suc more) place few less = by (λ after rises. enough most more after (omega arith) (omega arith)) (step_at of stream place) refl
    where
      by : ((after : ℕ) → place < after → steps_up_to most of stream after ≡ steps_up_to more of stream after)
          → (read : Option (Step × ℕ)) → step_at of stream place ≡ read
          → option_map_or (λ (said : Step × ℕ). said.0 ∷ steps_up_to most of stream said.1) read []
          ≡ option_map_or (λ (said : Step × ℕ). said.0 ∷ steps_up_to more of stream said.1) read []
      by later None at = refl
      by later (Some said) at =
          ap (λ (steps : List Step). said.0 ∷ steps) (later said.1 (step_within of stream place said.0 said.1 at).0)

  module _ (place : ℕ) where
    -- the step at a place is the first from there on
    pub first_step : (said : Step) (after : ℕ) → step_at of stream place ≡ Some (said, after)
        → steps_from of stream place ≡ said ∷ steps_from of stream after
    first_step said after at =
        let within = step_within of stream place said after at in
        let some : length stream - place ≡ suc (length stream - place - 1) = omega arith in
        ap (λ most. steps_up_to most of stream place) some
        ∙ (ap (λ read. option_map_or (λ (said : Step × ℕ). said.0 ∷ steps_up_to (length stream - place - 1) of stream said.1) read []) at
        ∙ ap (λ (steps : List Step). said ∷ steps) (enough (length stream - place - 1) (length stream - after) after (omega arith) (omega arith)))

    -- no step follows where no opcode says anything
    pub no_step : step_at of stream place ≡ None → steps_from of stream place ≡ []
    no_step none =
        enough (length stream - place) (suc (length stream - place)) place (omega arith) (omega arith)
        ∙ ap (λ read. option_map_or (λ (said : Step × ℕ). said.0 ∷ steps_up_to (length stream - place) of stream said.1) read []) none

    -- the same of the opcodes that write
    pub first_write : (walk : Walk) (said : Step) (after : ℕ) → step_at of stream place ≡ Some (said, after)
        → writes_from of stream place walk ≡ option_to_list (write_from walk said) ++ writes_from of stream after (followed walk said)
    first_write walk said after at = ap (writes_of walk) (first_step said after at)

    pub no_write : (walk : Walk) → step_at of stream place ≡ None → writes_from of stream place walk ≡ []
    no_write walk none = ap (writes_of walk) (no_step none)

    -- a step that writes begins the opcodes that write, and any other step is passed
    pub write_found : (walk : Walk) (said : Step) (after : ℕ) (write : Write) → step_at of stream place ≡ Some (said, after) → write_from walk said ≡ Some write
        → writes_from of stream place walk ≡ write ∷ writes_from of stream after (followed write.walk (step_of write))
    write_found walk said after write at is =
        first_write walk said after at
        ∙ (ap (λ found. option_to_list found ++ writes_from of stream after (followed walk said)) is
        ∙ ap (λ (set : Walk). write ∷ writes_from of stream after set) (said_write walk said write is))

    pub write_passed : (walk : Walk) (said : Step) (after : ℕ) → step_at of stream place ≡ Some (said, after) → write_from walk said ≡ None
        → writes_from of stream place walk ≡ writes_from of stream after (followed walk said)
    write_passed walk said after at none =
        first_write walk said after at ∙ ap (λ found. option_to_list found ++ writes_from of stream after (followed walk said)) none

  -- the steps up to a place, after which no opcode says anything, are all of them
  pub all_steps : (steps : List Step) (start next : ℕ) → AreStepsFrom of stream start steps next → step_at of stream next ≡ None
      → steps_from of stream start ≡ steps
  all_steps [] start next are none = no_step start (subst (λ (n : ℕ). step_at of stream n ≡ None) (sym are) none)
  all_steps (first ∷ steps) start next (after, at, rest) none =
      first_step start first after at ∙ ap (λ (others : List Step). first ∷ others) (all_steps steps after next rest none)
