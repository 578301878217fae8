-- A step names one of the first 16 segments alone, since it has four bits for it.
use Rattle.std.proofs.Common.{◌≡◌, ◌↔◌, ℕ, ◌+◌, ◌<◌, ◌==◌, Bool, true, false, List, [], ◌∷◌, length, drop, fold, slice_get, Option, Some, None, MatchOption, refl, subst, arith, inl, inr}
use Rattle.std.specs.Prelude.{cond, nat_lt, ℤ}
use Rattle.std.specs.List.{list_all}
use Rattle.std.specs.Option.{option_map, option_and_then}
use Rattle.std.proofs.lemmas.Bool.{cases_Bool}
use Rattle.macho_fields.specs.Field.{string_from}
use Rattle.macho_opcodes.specs.Cursor.{start, moved, cursor_after}
use Rattle.macho_tables.specs.Limits.{AreRooms}
use Rattle.macho_tables.specs.Numbers.{unsigned_at, signed_at}
use Rattle.macho_opcodes.specs.Steps.{with_number, opcode_step, step_at, AreStepsFrom, AreSteps}
use Rattle.macho_opcodes.specs.Streams.{EndsInRoom, WritesOutside, reach}
use Rattle.macho_opcodes.specs.declared.cursor.Cursor.{Cursor}
use Rattle.macho_opcodes.specs.declared.step.Opcodes.{Opcodes}
use Rattle.macho_opcodes.specs.declared.step.Step.{Step}
use Rattle.macho_opcodes.specs.declared.step.Step.TheVariants as step
use Rattle.macho_opcodes.proofs.OpcodeCases.{IsNearStep, Operands, opcode_alike}

-- what an opcode says, if it says something, is a step with such a segment
abbrev Near : Option (Step × ℕ) → Type 0
Near read = MatchOption read (Unit {0}) (λ r. IsNearStep r.0)

known : (b : Bool) (s : Step) (next : ℕ) → IsNearStep s → Near (cond b (Some (s, next)) None)
known true s next is = is
known false s next is = tt

num : (say : ℕ → Step) → ((n : ℕ) → IsNearStep (say n)) → (read : Option (ℕ × ℕ)) → Near (option_map (λ r. (say r.0, r.1)) read)
num say each None = tt
num say each (Some r) = each r.0

skips : (stream : List ℕ) (read : Option (ℕ × ℕ)) → Near (option_and_then (λ count. with_number (step.Write count.0) stream count.1) read)
skips stream None = tt
skips stream (Some count) = num (step.Write count.0) (λ n. tt) (unsigned_at stream count.1)

added : (read : Option (ℤ × ℕ)) → Near (option_map (λ number. (step.SetAddend number.0, number.1)) read)
added None = tt
added (Some r) = tt

operands_near : (stream : List ℕ) (next : ℕ) → Operands (λ x y. Near x) stream stream next
operands_near stream next = record {
  none = tt;
  plain = λ s is. is;
  number = λ say each. num say each (unsigned_at stream next);
  numbers = skips stream (unsigned_at stream next);
  addend = added (signed_at stream next);
  name = λ flags. known (nat_lt (next + length (string_from next stream)) (length stream)) (step.SetSymbol _ flags) _ tt;
}

opcode_near : (of : Opcodes) (stream : List ℕ) (next byte : ℕ) → Near (opcode_step of stream byte next)
opcode_near of stream next byte =
    opcode_alike (λ x y. Near x) stream stream next (operands_near stream next) byte of
    (λ is. known (list_all (λ b. b == 0) (drop next stream)) step.Done (length stream) tt)

byte_near : (of : Opcodes) (stream : List ℕ) (place : ℕ) (byte : Option ℕ) → Near (option_and_then (λ b. opcode_step of stream b (place + 1)) byte)
byte_near of stream place None = tt
byte_near of stream place (Some byte) = opcode_near of stream (place + 1) byte

at_near : (of : Opcodes) (stream : List ℕ) (place : ℕ) → Near (step_at of stream place)
unfolding step_at
at_near of stream place = byte_near of stream place (slice_get stream place)

step_near : (of : Opcodes) (stream : List ℕ) (place : ℕ) (next : Step) (after : ℕ) → step_at of stream place ≡ Some (next, after) → IsNearStep next
step_near of stream place next after at = subst Near at (at_near of stream place)

-- the segment that is set, if one is, is one of the first 16
abbrev pub IsNear : Option ℕ → Type 0
IsNear segment = (s : ℕ) → segment ≡ Some s → s < 16

moved_near : (cursor : Cursor) (next : Step) → IsNear cursor.segment → IsNearStep next → IsNear (moved cursor next).segment
moved_near cursor step.Done near is = λ s wrong. cc
moved_near cursor (step.SetSegment segment offset) near is = λ s same. let at : segment ≡ s = cc in subst (λ n. n < 16) at is
moved_near cursor (step.Write count skip) near is = elim (cases_Bool (count == 0)) [ inl t ↦ rw t near | inr f ↦ rw f near ]
moved_near cursor other near is = near

steps_near : (of : Opcodes) (stream : List ℕ) (steps : List Step) (from next : ℕ) (cursor : Cursor) → AreStepsFrom of stream from steps next → IsNear cursor.segment
    → IsNear (fold moved cursor steps).segment
steps_near of stream [] from next cursor is near = near
steps_near of stream (first ∷ steps) from next cursor (after, at, rest) near =
    steps_near of stream steps after next (moved cursor first) rest (moved_near cursor first near (step_near of stream from first after at))

pub cursor_near : (of : Opcodes) (stream : List ℕ) (steps : List Step) (place : ℕ) → AreSteps of stream steps place → IsNear (cursor_after steps).segment
cursor_near of stream steps place are = steps_near of stream steps 0 place start are (λ s wrong. cc)

-- of such a segment the room is among the first 16
module _ (rooms found : List ℕ) (are : AreRooms rooms found) where
  ends_same : (segment : Option ℕ) → IsNear segment → (end : ℕ) → EndsInRoom found segment end ↔ EndsInRoom rooms segment end
  ends_same None near end = (λ wrong. wrong, λ wrong. wrong)
  ends_same (Some s) near end =
      let same = are s (near s refl) in (λ less. omega (arith, same, less), λ less. omega (arith, same, less))

  pub outside_same : (cursor : Cursor) → IsNear cursor.segment → (done : ℕ) (next : Step) → WritesOutside found cursor done next ↔ WritesOutside rooms cursor done next
  outside_same cursor near done (step.Write count skip) =
      let ends = ends_same cursor.segment near (reach cursor.offset count skip) in
      (λ (more, not). (more, λ inside. not (ends.1 inside)), λ (more, not). (more, λ inside. not (ends.0 inside)))
  outside_same cursor near done other = (λ wrong. wrong, λ wrong. wrong)
