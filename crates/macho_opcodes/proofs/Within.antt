-- An opcode and its operands lie in the stream.
use Rattle.std.proofs.Common.{◌≡◌, ℕ, ◌+◌, ◌≤◌, ◌<◌, ◌==◌, List, length, drop, slice_get, Option, Some, None, inl, inr, refl, subst, arith}
use Rattle.std.specs.List.{list_all}
use Rattle.std.specs.Option.{option_map, option_and_then}
use Rattle.std.proofs.lemmas.Bool.{cases_lt, lt-ltb, le-ltb}
use Rattle.std.proofs.lemmas.Option.{slice_get_within}
use Rattle.macho_fields.specs.Field.{string_from}
use Rattle.macho_tables.proofs.NumberEnds.{IsWithin, either, unsigned_within, signed_within}
use Rattle.macho_opcodes.specs.Steps.{with_number, with_count_and_skip, with_addend, with_name, last_step, opcode_step, step_at}
use Rattle.macho_opcodes.specs.declared.step.Opcodes.{Opcodes}
use Rattle.macho_opcodes.specs.declared.step.Step.{Step}
use Rattle.macho_opcodes.specs.declared.step.Step.TheVariants as step
use Rattle.macho_opcodes.proofs.OpcodeCases.{Operands, opcode_alike}

further : {X : Type 0} (stream : List ℕ) (next later : ℕ) → next ≤ later → (read : Option (X × ℕ)) → IsWithin stream later read → IsWithin stream next read
further stream next later less None is = tt
further stream next later less (Some r) is = (omega arith, is.1)

module _ (stream : List ℕ) (next : ℕ) (inside : next ≤ length stream) where
  plain : (s : Step) → IsWithin stream next (Some (s, next))
  plain s = (omega arith, inside)

  -- The operands
  mapped : {X Y : Type 0} (f : X → Y) (read : Option (X × ℕ)) → IsWithin stream next read → IsWithin stream next (option_map (λ r. (f r.0, r.1)) read)
  mapped f None is = tt
  mapped f (Some r) is = is

  number : (say : ℕ → Step) → IsWithin stream next (with_number say stream next)
  number say = mapped say _ (unsigned_within stream next inside)

  addend : IsWithin stream next (with_addend stream next)
  addend = mapped step.SetAddend _ (signed_within stream next inside)

  name : (flags : ℕ) → IsWithin stream next (with_name flags stream next)
  name flags =
      let zero = next + length (string_from next stream) in
      elim (cases_lt zero (length stream)) [
        | inl less ↦ rw (lt-ltb zero (length stream) less) (omega arith, omega arith)
        | inr more ↦ rw (le-ltb zero (length stream) more) tt
      ]

  last : IsWithin stream next (last_step stream next)
  last = either stream next (list_all (λ byte. byte == 0) (drop next stream)) _ _ (inside, omega arith) tt

skip_within : (stream : List ℕ) (next : ℕ) → next ≤ length stream → (read : Option (ℕ × ℕ)) → IsWithin stream next read
    → IsWithin stream next (option_and_then (λ count. with_number (step.Write count.0) stream count.1) read)
skip_within stream next inside None is = tt
skip_within stream next inside (Some count) is = further stream next count.1 is.0 _ (number stream count.1 is.1 (step.Write count.0))

count_and_skip : (stream : List ℕ) (next : ℕ) → next ≤ length stream → IsWithin stream next (with_count_and_skip stream next)
count_and_skip stream next inside = skip_within stream next inside _ (unsigned_within stream next inside)

-- The opcodes

operands_within : (stream : List ℕ) (next : ℕ) → next ≤ length stream → Operands (λ x y. IsWithin stream next x) stream stream next
operands_within stream next inside = record {
  none = tt;
  plain = λ s is. plain stream next inside s;
  number = λ say each. number stream next inside say;
  numbers = count_and_skip stream next inside;
  addend = addend stream next inside;
  name = λ flags. name stream next inside flags;
}

opcode_within : (of : Opcodes) (stream : List ℕ) (next : ℕ) → next ≤ length stream → (byte : ℕ) → IsWithin stream next (opcode_step of stream byte next)
opcode_within of stream next inside byte =
    opcode_alike (λ x y. IsWithin stream next x) stream stream next (operands_within stream next inside) byte of (λ is. last stream next inside)

byte_within : (of : Opcodes) (stream : List ℕ) (place : ℕ) (byte : Option ℕ) → slice_get stream place ≡ byte
    → IsWithin stream (place + 1) (option_and_then (λ b. opcode_step of stream b (place + 1)) byte)
byte_within of stream place None is = tt
byte_within of stream place (Some byte) is =
    let inside = slice_get_within stream place byte is in opcode_within of stream (place + 1) (omega arith) byte

step_at_within : (of : Opcodes) (stream : List ℕ) (place : ℕ) → IsWithin stream (place + 1) (step_at of stream place)
unfolding step_at
step_at_within of stream place = byte_within of stream place _ refl

-- the step at a place ends past it, in the stream
pub step_within : (of : Opcodes) (stream : List ℕ) (place : ℕ) (next : Step) (after : ℕ) → step_at of stream place ≡ Some (next, after)
    → (place < after) × (after ≤ length stream)
step_within of stream place next after at =
    let within : IsWithin stream (place + 1) (Some (next, after)) = subst (IsWithin stream (place + 1)) at (step_at_within of stream place) in
    (omega arith, within.1)
