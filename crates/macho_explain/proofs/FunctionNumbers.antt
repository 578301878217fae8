-- The numbers of function starts on the way to one of them.
use Rattle.std.proofs.Common.{◌≡◌, ℕ, ◌≤◌, ◌<◌, List, [], ◌∷◌, Option, Some, ap, subst, sym, arith}
use Rattle.std.specs.Prelude.{IsSomeAnd, None}
use Rattle.macho_fields.specs.Image.{commands_of}
use Rattle.macho_fields.specs.Segment.{base_of}
use Rattle.macho_tables.specs.Numbers.{unsigned_at}
use Rattle.macho_tables.specs.StartNumbers.{AreNumbers, AreNumbersFrom, IsStartAt}
use Rattle.macho_tables.proofs.StartNumbers.{number_within}
use Rattle.macho_explain.specs.Compared.{HasFunction}

-- an image with no base has no function
pub no_function : (image table : List ℕ) (offset : ℕ) → base_of image (commands_of image) ≡ None → ¬ HasFunction image table offset
no_function image table offset none has = subst (λ (o : Option ℕ). IsSomeAnd o (λ base. (function : ℕ) × IsStartAt table base offset function)) none has

-- one read gives one number, and one place past it
pub same_number : (read : Option (ℕ × ℕ)) (number other after past : ℕ) → read ≡ Some (number, after) → read ≡ Some (other, past) → (number ≡ other) × (after ≡ past)
same_number read number other after past is also =
    let same : ◌≡◌ {A = ℕ × ℕ} (number, after) (other, past) = cc in
    (ap (λ (r : ℕ × ℕ). r.0) same, ap (λ (r : ℕ × ℕ). r.1) same)

module _ (table : List ℕ) where
  rises : (numbers : List ℕ) (start next : ℕ) → AreNumbersFrom table start numbers next → start ≤ next
  rises [] start next is = omega arith
  rises (first ∷ numbers) start next (after, at, some, rest) =
      let within = number_within table start first after at in
      let more = rises numbers after next rest in omega (arith, within.0, more)

  -- numbers that come up to a later place have one at an earlier one
  on : (short long : List ℕ) (start place next : ℕ) → AreNumbersFrom table start short place → AreNumbersFrom table start long next → place < next
      → (first : ℕ) × (after : ℕ) × (unsigned_at table place ≡ Some (first, after)) × (0 < first) × (after ≤ next)
  on [] [] start place next is far less = absurd (let none : ⊥ = omega (arith, is, far, less) in none)
  on [] (first ∷ long) start place next is (after, at, some, rest) less = (first, after, rw (sym is) at, some, rises long after next rest)
  on (first ∷ short) [] start place next (after, at, some, rest) is less =
      let within = number_within table start first after at in
      let more = rises short after place rest in absurd (let none : ⊥ = omega (arith, within.0, more, less, is) in none)
  on (first ∷ short) (second ∷ long) start place next (after, at, some, near) (past, there, one, far) less =
      let (same, equal) = same_number _ first second after past at there in
      on short long after place next near (rw equal far) less

  pub numbers_go_on : (short long : List ℕ) (place next : ℕ) → AreNumbers table short place → AreNumbers table long next → place < next
      → (first : ℕ) × (after : ℕ) × (unsigned_at table place ≡ Some (first, after)) × (0 < first) × (after ≤ next)
  numbers_go_on short long place next near far less = on short long 0 place next near far less
