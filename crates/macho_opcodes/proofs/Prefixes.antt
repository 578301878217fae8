-- What an opcode says does not depend on the bytes after its operands.
use Rattle.std.proofs.Common.{◌≡◌, ℕ, ◌+◌, ◌-◌, ◌≤◌, ◌<◌, ◌==◌, ◌&&◌, ◌⊎◌, ◌++◌, Bool, true, false, List, length, take, drop, get_or, slice_get, Option, Some, None, refl, sym, ap, ◌∙◌, subst, arith, inl, inr, length-drop, length-append}
use Rattle.std.specs.Prelude.{cond, nat_lt, nat_le, ℤ}
use Rattle.std.specs.List.{position_or_len}
use Rattle.std.specs.Option.{option_map, option_and_then}
use Rattle.std.proofs.lemmas.Bool.{cases_Bool, lt-ltb, ltb-true, le-leb, leb-true, and_parts}
use Rattle.std.proofs.lemmas.List.{get_or_append_left, take-append-le, drop-append-le, length-take}
use Rattle.std.proofs.lemmas.List.Sums.{position_or_len_is, fails_before_first, passes_at_first}
use Rattle.std.proofs.lemmas.Option.{slice_get_within, slice_get-get_or, get_or_from_slice_get}
use Rattle.macho_fields.specs.Field.{string_from}
use Rattle.macho_tables.specs.Numbers.{number_bytes, unsigned_at, signed_at}
use Rattle.macho_opcodes.specs.Steps.{with_number, with_count_and_skip, with_addend, with_name, IsLastOpcode, opcode_step, step_at}
use Rattle.macho_opcodes.specs.declared.step.Opcodes.{Opcodes}
use Rattle.macho_opcodes.specs.declared.step.Step.{Step}
use Rattle.macho_opcodes.specs.declared.step.Step.TheVariants as step
use Rattle.macho_opcodes.proofs.OpcodeCases.{Operands, opcode_alike}
use Rattle.macho_tables.proofs.NumberEnds.{IsWithin, unsigned_within}

-- the first byte that passes is the same in a longer list
position_same : (p : ℕ → Bool) (xs ys : List ℕ) → position_or_len p xs < length xs → position_or_len p (xs ++ ys) ≡ position_or_len p xs
position_same p xs ys less =
    let count = length-append xs ys in
    position_or_len_is p (xs ++ ys) (position_or_len p xs) 0 (omega (arith, count))
    (λ k below. ap p (get_or_append_left xs ys 0 k (omega arith)) ∙ fails_before_first p xs k 0 below)
    (λ inside. ap p (get_or_append_left xs ys 0 (position_or_len p xs) less) ∙ passes_at_first p xs 0 less)

given : (b : Bool) (bytes found : List ℕ) → cond b (Some bytes) None ≡ Some found → (b ≡ true) × (bytes ≡ found)
given true bytes found is = (refl, cc)
given false bytes found is = absurd (cc)

number_same : (xs ys found : List ℕ) → number_bytes xs ≡ Some found → number_bytes (xs ++ ys) ≡ Some found
unfolding number_bytes
number_same xs ys found is =
    let pass = λ (byte : ℕ). nat_lt byte 0x80 in
    let size = position_or_len pass xs + 1 in
    let (fits, bytes) = given (nat_le size (length xs) && nat_le size 10) (take size xs) found is in
    let (inside, few) = and_parts (nat_le size (length xs)) (nat_le size 10) fits in
    let whole : size ≤ length xs = leb-true size (length xs) inside in
    let count = length-append xs ys in
    let longer : nat_le size (length (xs ++ ys)) ≡ true = le-leb size (length (xs ++ ys)) (omega (arith, whole, count)) in
    let same : position_or_len pass (xs ++ ys) ≡ position_or_len pass xs = position_same pass xs ys (omega (arith, whole)) in
    rw (same, longer, few, take-append-le size xs ys whole) (ap Some bytes)

module _ (xs ys : List ℕ) where
  -- numbers
  and_then_same : {X : Type 0} (F : List ℕ → Option X) (place : ℕ) → place ≤ length xs → (read : Option (List ℕ)) → number_bytes (drop place xs) ≡ read → (r : X)
      → option_and_then F read ≡ Some r → option_and_then F (number_bytes (drop place (xs ++ ys))) ≡ Some r
  and_then_same F place inside None is r some = absurd (cc)
  and_then_same F place inside (Some bytes) is r some = rw (drop-append-le place xs ys inside, number_same (drop place xs) ys bytes is) some

  unsigned_same : (place : ℕ) → place ≤ length xs → (r : ℕ × ℕ) → unsigned_at xs place ≡ Some r → unsigned_at (xs ++ ys) place ≡ Some r
  unfolding unsigned_at
  unsigned_same place inside r is = and_then_same _ place inside (number_bytes (drop place xs)) refl r is

  signed_same : (place : ℕ) → place ≤ length xs → (r : ℤ × ℕ) → signed_at xs place ≡ Some r → signed_at (xs ++ ys) place ≡ Some r
  unfolding signed_at
  signed_same place inside r is = and_then_same _ place inside (number_bytes (drop place xs)) refl r is

  -- what is read of the bytes is read of the longer ones, except the last opcode
  record Same (Last : Type 0) (x y : Option (Step × ℕ)) : Type 0 where
    same : (r : Step × ℕ) → x ≡ Some r → Last ⊎ (y ≡ Some r)

  module _ (Last : Type 0) (next : ℕ) (inside : next ≤ length xs) where
    equal : (x : Option (Step × ℕ)) → Same Last x x
    equal x = record { same = λ r is. inr is }

    num_by : (say : ℕ → Step) (place : ℕ) → place ≤ length xs → (read : Option (ℕ × ℕ)) → unsigned_at xs place ≡ read → (r : Step × ℕ) → option_map (λ n. (say n.0, n.1)) read ≡ Some r
        → with_number say (xs ++ ys) place ≡ Some r
    num_by say place within None is r some = absurd (cc)
    num_by say place within (Some n) is r some = rw (unsigned_same place within n is) some

    num : (say : ℕ → Step) → Same Last (with_number say xs next) (with_number say (xs ++ ys) next)
    num say = record { same = λ r is. inr (num_by say next inside (unsigned_at xs next) refl r is) }

    number_ends : (count : ℕ × ℕ) → unsigned_at xs next ≡ Some count → count.1 ≤ length xs
    number_ends count is = (subst (IsWithin xs next) is (unsigned_within xs next inside)).1

    nums_by : (read : Option (ℕ × ℕ)) → unsigned_at xs next ≡ read → (r : Step × ℕ) → option_and_then (λ count. with_number (step.Write count.0) xs count.1) read ≡ Some r
        → with_count_and_skip (xs ++ ys) next ≡ Some r
    nums_by None is r some = absurd (cc)
    nums_by (Some count) is r some =
        let within = number_ends count is in
        rw (unsigned_same next inside count is) (num_by (step.Write count.0) count.1 within (unsigned_at xs count.1) refl r some)

    nums : Same Last (with_count_and_skip xs next) (with_count_and_skip (xs ++ ys) next)
    nums = record { same = λ r is. inr (nums_by (unsigned_at xs next) refl r is) }

    added_by : (read : Option (ℤ × ℕ)) → signed_at xs next ≡ read → (r : Step × ℕ) → option_map (λ n. (step.SetAddend n.0, n.1)) read ≡ Some r → with_addend (xs ++ ys) next ≡ Some r
    added_by None is r some = absurd (cc)
    added_by (Some n) is r some = rw (signed_same next inside n is) some

    added : Same Last (with_addend xs next) (with_addend (xs ++ ys) next)
    added = record { same = λ r is. inr (added_by (signed_at xs next) refl r is) }

    -- a name ends at the same zero byte
    name_there : (flags end : ℕ) (r : Step × ℕ) → cond (nat_lt end (length xs)) (Some (step.SetSymbol (record { start = next; len = end + 1 - next }) flags, end + 1)) None ≡ Some r
        → (end < length xs) × (◌≡◌ {A = Option (Step × ℕ)} (Some (step.SetSymbol (record { start = next; len = end + 1 - next }) flags, end + 1)) (Some r))
    name_there flags end r is = elim (cases_Bool (nat_lt end (length xs))) [
      | inl t ↦ (ltb-true end (length xs) t, rw t at is)
      | inr f ↦ let none = rw f at is in absurd (cc)
    ]

    name_end : position_or_len (λ byte. byte == 0) (drop next xs) < length (drop next xs) → length (string_from next (xs ++ ys)) ≡ length (string_from next xs)
    name_end first =
        rw (drop-append-le next xs ys inside, position_same (λ byte. byte == 0) (drop next xs) ys first, take-append-le (position_or_len (λ byte. byte == 0) (drop next xs)) (drop next xs) ys (omega (arith, first))) refl

    name_longer : (flags : ℕ) (r : Step × ℕ) → with_name flags xs next ≡ Some r → with_name flags (xs ++ ys) next ≡ Some r
    name_longer flags r is =
        let rest = drop next xs in
        let (less, found) = name_there flags (next + length (string_from next xs)) r is in
        let size = length-drop next xs in
        let count = length-take (position_or_len (λ byte. byte == 0) rest) rest in
        let first : position_or_len (λ byte. byte == 0) (drop next xs) < length (drop next xs) = omega (arith, less, size, count) in
        let more = length-append xs ys in
        let within : nat_lt (next + length (string_from next xs)) (length (xs ++ ys)) ≡ true = lt-ltb _ _ (omega (arith, less, more)) in
        rw (name_end first, within) found

    named : (flags : ℕ) → Same Last (with_name flags xs next) (with_name flags (xs ++ ys) next)
    named flags = record { same = λ r is. inr (name_longer flags r is) }

  -- the opcodes
  operands_same : (Last : Type 0) (next : ℕ) → next ≤ length xs → Operands (Same Last) xs (xs ++ ys) next
  operands_same Last next inside = record {
    none = equal Last next inside None;
    plain = λ s is. equal Last next inside (Some (s, next));
    number = λ say each. num Last next inside say;
    numbers = nums Last next inside;
    addend = added Last next inside;
    name = λ flags. named Last next inside flags;
  }

  opcode_same : (of : Opcodes) (next byte : ℕ) → next ≤ length xs → Same (IsLastOpcode of byte) (opcode_step of xs byte next) (opcode_step of (xs ++ ys) byte next)
  opcode_same of next byte inside =
      opcode_alike (Same (IsLastOpcode of byte)) xs (xs ++ ys) next (operands_same (IsLastOpcode of byte) next inside) byte of (λ last. record { same = λ r is. inl last })

  byte_there : (place byte : ℕ) → slice_get xs place ≡ Some byte → slice_get (xs ++ ys) place ≡ Some byte
  byte_there place byte is =
      let inside = slice_get_within xs place byte is in
      let count = length-append xs ys in
      let less : place < length (xs ++ ys) = omega (arith, inside, count) in
      slice_get-get_or (xs ++ ys) place 0 less ∙ ap Some (get_or_append_left xs ys 0 place inside ∙ get_or_from_slice_get xs place byte 0 is)

  step_by : (of : Opcodes) (place : ℕ) (byte : Option ℕ) → slice_get xs place ≡ byte → (r : Step × ℕ) → option_and_then (λ b. opcode_step of xs b (place + 1)) byte ≡ Some r
      → IsLastOpcode of (get_or xs place 0) ⊎ (option_and_then (λ b. opcode_step of (xs ++ ys) b (place + 1)) (slice_get (xs ++ ys) place) ≡ Some r)
  step_by of place None is r some = absurd (cc)
  step_by of place (Some byte) is r some =
      let inside = slice_get_within xs place byte is in
      elim ((opcode_same of (place + 1) byte (omega arith)).same r some) [
        | inl last ↦ inl (subst (IsLastOpcode of) (sym (get_or_from_slice_get xs place byte 0 is)) last)
        | inr same ↦ inr (rw (byte_there place byte is) same)
      ]

  pub step_same : (of : Opcodes) (place : ℕ) (r : Step × ℕ) → step_at of xs place ≡ Some r → IsLastOpcode of (get_or xs place 0) ⊎ (step_at of (xs ++ ys) place ≡ Some r)
  unfolding step_at
  step_same of place r is = step_by of place (slice_get xs place) refl r is
