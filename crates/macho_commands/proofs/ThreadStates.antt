-- The states of a thread, one after the other, and the state with registers.
use Rattle.std.proofs.Common.{◌≡◌, ◌↔◌, ◌∙◌, ℕ, ◌≤◌, ◌<◌, List, [], ◌∷◌, ◌++◌, length, filter, true, false, Option, None, Some, refl, sym, ap, subst, arith}
use Rattle.std.specs.Option.{is_some}
use Rattle.std.proofs.lemmas.Bool.{false≢true}
use Rattle.std.proofs.lemmas.List.{append-nil}
use Rattle.macho_commands.specs.States.{state_end, FollowStates, has_registers}

-- the state that was found, if there is one
abbrev pub listed : Option ℕ → List ℕ
listed None = []
listed (Some state) = state ∷ []

-- of the one found, and the states that follow from the start on, this is the state with registers
abbrev pub IsLeft : ℕ → List ℕ → ℕ → Option ℕ → ℕ → Type 0
IsLeft cputype bytes start found state =
    (states : List ℕ) × FollowStates bytes start states
    × (listed found ++ filter (has_registers cputype bytes) states ≡ state ∷ [])

module _ (cputype : ℕ) (bytes : List ℕ) where
  -- the first of the states that follow, where more bytes do
  pub first_state : (start : ℕ) (states : List ℕ) → start < length bytes → FollowStates bytes start states
      → (state_end bytes start ≤ length bytes) × (rest : List ℕ) × (states ≡ start ∷ rest) × FollowStates bytes (state_end bytes start) rest
  first_state start [] more follow = absurd (omega (arith, follow))
  first_state start (state ∷ rest) more (at, inside, follow) =
      (subst (λ s. state_end bytes s ≤ length bytes) at inside, rest, ap (λ s. s ∷ rest) at, subst (λ s. FollowStates bytes (state_end bytes s) rest) at follow)

  -- the state here has no registers
  pub passed_state : (start : ℕ) (found : Option ℕ) (state : ℕ) → start < length bytes → state_end bytes start ≤ length bytes → has_registers cputype bytes start ≡ false
      → IsLeft cputype bytes (state_end bytes start) found state ↔ IsLeft cputype bytes start found state
  passed_state start found state more inside none = (
    λ (states, follow, is). (start ∷ states, (refl, inside, follow), rw none is),
    λ (states, follow, is).
        let (within, rest, same, after) = first_state start states more follow in
        let there = subst (λ ss. listed found ++ filter (has_registers cputype bytes) ss ≡ state ∷ []) same is in
        (rest, after, rw none at there),
  )

  -- it has, and none had before
  pub found_state : (start state : ℕ) → start < length bytes → state_end bytes start ≤ length bytes → has_registers cputype bytes start ≡ true
      → IsLeft cputype bytes (state_end bytes start) (Some start) state ↔ IsLeft cputype bytes start None state
  found_state start state more inside some = (
    λ (states, follow, is). (start ∷ states, (refl, inside, follow), rw some is),
    λ (states, follow, is).
        let (within, rest, same, after) = first_state start states more follow in
        let there = subst (λ ss. filter (has_registers cputype bytes) ss ≡ state ∷ []) same is in
        (rest, after, rw some at there),
  )

  -- it has, and another had before
  pub second_state : (start other state : ℕ) → start < length bytes → has_registers cputype bytes start ≡ true → ¬ IsLeft cputype bytes start (Some other) state
  second_state start other state more some (states, follow, is) =
      let (within, rest, same, after) = first_state start states more follow in
      let there = subst (λ ss. other ∷ filter (has_registers cputype bytes) ss ≡ state ∷ []) same is in
      let two : length (other ∷ start ∷ filter (has_registers cputype bytes) rest) ≡ 1 = ap length (rw some at there) in
      absurd (omega (arith, two))

  -- it ends past the command
  pub no_state : (start : ℕ) (found : Option ℕ) (state : ℕ) → start < length bytes → ¬ (state_end bytes start ≤ length bytes) → ¬ IsLeft cputype bytes start found state
  no_state start found state more past (states, follow, is) = past (first_state start states more follow).0

  -- all were passed
  pub ended_states : (start : ℕ) (found : Option ℕ) (state : ℕ) → start ≡ length bytes → (found ≡ Some state) ↔ IsLeft cputype bytes start found state
  ended_states start found state ended = (
    λ is. ([], ended, append-nil (listed found) ∙ ap listed is),
    λ (states, follow, is). ends states found follow is,
  )
    where
      ends : (states : List ℕ) (o : Option ℕ) → FollowStates bytes start states → listed o ++ filter (has_registers cputype bytes) states ≡ state ∷ [] → o ≡ Some state
      ends [] None follow is = let none : 0 ≡ 1 = ap length is in absurd (omega (arith, none))
      ends [] (Some s) follow is = ap head is
        where
          head : List ℕ → Option ℕ
          head [] = None
          head (x ∷ xs) = Some x
      ends (s ∷ rest) o (at, inside, follow) is = absurd (omega (arith, at, inside, ended))

pub was_some : (found : Option ℕ) → is_some found ≡ true → (state : ℕ) × (found ≡ Some state)
was_some None is = absurd (false≢true is)
was_some (Some state) is = (state, refl)

pub was_none : (found : Option ℕ) → is_some found ≡ false → found ≡ None
was_none None is = refl
was_none (Some state) is = absurd (false≢true (sym is))
