-- The names that opcodes set lie in their stream.
use Rattle.std.proofs.Common.{◌≡◌, ℕ, ◌+◌, ◌≤◌, ◌==◌, Bool, true, false, List, [], ◌∷◌, length, drop, fold, slice_get, Option, Some, None, MatchOption, subst, arith, inl, inr}
use Rattle.std.specs.Prelude.{cond, nat_lt, ℤ, bit_and}
use Rattle.std.specs.List.{list_all}
use Rattle.std.specs.Option.{option_map, option_and_then}
use Rattle.std.proofs.lemmas.Bool.{cases_Bool, ltb-true}
use Rattle.macho_fields.specs.Field.{string_from}
use Rattle.macho_spans.specs.Span.{end_of}
use Rattle.macho_spans.specs.declared.span.Span.{Span}
use Rattle.macho_tables.specs.Numbers.{unsigned_at, signed_at}
use Rattle.macho_opcodes.specs.Cursor.{start, moved, cursor_after}
use Rattle.macho_opcodes.specs.Steps.{with_number, with_name, pointer_type, special_step, last_step, rebase_step, bind_step, opcode_step, step_at, AreStepsFrom, AreSteps}
use Rattle.macho_opcodes.specs.declared.cursor.Cursor.{Cursor}
use Rattle.macho_opcodes.specs.declared.step.Opcodes.{Opcodes}
use Rattle.macho_opcodes.specs.declared.step.Opcodes.TheVariants as opcodes
use Rattle.macho_opcodes.specs.declared.step.Step.{Step}
use Rattle.macho_opcodes.specs.declared.step.Step.TheVariants as step

module _ (stream : List ℕ) where
  abbrev pub IsNameIn : Step → Type 0
  IsNameIn (step.SetSymbol name flags) = end_of name ≤ length stream
  IsNameIn other = Unit {0}

  abbrev Says : Option (Step × ℕ) → Type 0
  Says read = MatchOption read (Unit {0}) (λ r. IsNameIn r.0)

  case : (b : Bool) (x y : Option (Step × ℕ)) → Says x → Says y → Says (cond b x y)
  case true x y first second = first
  case false x y first second = second

  num : (say : ℕ → Step) → ((n : ℕ) → IsNameIn (say n)) → (read : Option (ℕ × ℕ)) → Says (option_map (λ r. (say r.0, r.1)) read)
  num say each None = tt
  num say each (Some r) = each r.0

  skips : (read : Option (ℕ × ℕ)) → Says (option_and_then (λ count. with_number (step.Write count.0) stream count.1) read)
  skips None = tt
  skips (Some count) = num (step.Write count.0) (λ n. tt) (unsigned_at stream count.1)

  added : (read : Option (ℤ × ℕ)) → Says (option_map (λ number. (step.SetAddend number.0, number.1)) read)
  added None = tt
  added (Some r) = tt

  named : (flags next : ℕ) → Says (with_name flags stream next)
  named flags next =
      let zero = next + length (string_from next stream) in
      elim (cases_Bool (nat_lt zero (length stream))) [ inl t ↦ rw t (let less = ltb-true zero (length stream) t in omega (arith, less)) | inr f ↦ rw f tt ]

  special : (imm : ℕ) → IsNameIn (special_step imm)
  special imm = elim (cases_Bool (imm == 0)) [ inl t ↦ rw t tt | inr f ↦ rw f tt ]

  last : (next : ℕ) → Says (last_step stream next)
  last next = case (list_all (λ byte. byte == 0) (drop next stream)) _ _ tt tt

  module _ (byte next : ℕ) where
    pointer : (wanted imm : ℕ) → Says (pointer_type wanted imm next)
    pointer wanted imm = case (imm == wanted) _ _ tt tt

    rebase_says : Says (rebase_step stream byte next)
    unfolding rebase_step
    rebase_says =
        let is_code = λ (code : ℕ). bit_and byte 0xf0 == code in
        let imm = bit_and byte 0x0f in
        case (is_code 0x0) _ _ (last next)
        (case (is_code 0x10) _ _ (pointer 1 imm)
        (case (is_code 0x20) _ _ (num (step.SetSegment imm) (λ n. tt) (unsigned_at stream next))
        (case (is_code 0x30) _ _ (num step.AddOffset (λ n. tt) (unsigned_at stream next))
        (case (is_code 0x40) _ _ tt
        (case (is_code 0x50) _ _ tt
        (case (is_code 0x60) _ _ (num (λ count. step.Write count 0) (λ n. tt) (unsigned_at stream next))
        (case (is_code 0x70) _ _ (num (step.Write 1) (λ n. tt) (unsigned_at stream next))
        (case (is_code 0x80) _ _ (skips (unsigned_at stream next)) tt))))))))

    bind_says : Says (bind_step stream byte next)
    unfolding bind_step
    bind_says =
        let is_code = λ (code : ℕ). bit_and byte 0xf0 == code in
        let imm = bit_and byte 0x0f in
        case (is_code 0x10) _ _ tt
        (case (is_code 0x20) _ _ (num step.SetLibrary (λ n. tt) (unsigned_at stream next))
        (case (is_code 0x30) _ _ (special imm)
        (case (is_code 0x40) _ _ (named imm next)
        (case (is_code 0x50) _ _ (pointer 1 imm)
        (case (is_code 0x60) _ _ (added (signed_at stream next))
        (case (is_code 0x70) _ _ (num (step.SetSegment imm) (λ n. tt) (unsigned_at stream next))
        (case (is_code 0x80) _ _ (num step.AddOffset (λ n. tt) (unsigned_at stream next))
        (case (is_code 0x90) _ _ tt
        (case (is_code 0xa0) _ _ (num (step.Write 1) (λ n. tt) (unsigned_at stream next))
        (case (is_code 0xb0) _ _ tt
        (case (is_code 0xc0) _ _ (skips (unsigned_at stream next)) tt)))))))))))

    opcode_says : (of : Opcodes) → Says (opcode_step of stream byte next)
    opcode_says opcodes.Rebase = rebase_says
    opcode_says opcodes.Bind = case (bit_and byte 0xf0 == 0) _ _ (last next) bind_says
    opcode_says opcodes.LazyBind = case (bit_and byte 0xf0 == 0) _ _ tt bind_says

  byte_says : (of : Opcodes) (place : ℕ) (byte : Option ℕ) → Says (option_and_then (λ b. opcode_step of stream b (place + 1)) byte)
  byte_says of place None = tt
  byte_says of place (Some byte) = opcode_says byte (place + 1) of

  at_says : (of : Opcodes) (place : ℕ) → Says (step_at of stream place)
  unfolding step_at
  at_says of place = byte_says of place (slice_get stream place)

  step_says : (of : Opcodes) (place : ℕ) (next : Step) (after : ℕ) → step_at of stream place ≡ Some (next, after) → IsNameIn next
  step_says of place next after at = subst Says at (at_says of place)

  -- the name that is set, if one is, lies in the stream
  abbrev pub IsNamed : Option Span → Type 0
  IsNamed name = (n : Span) → name ≡ Some n → end_of n ≤ length stream

  moved_named : (cursor : Cursor) (next : Step) → IsNamed cursor.name → IsNameIn next → IsNamed (moved cursor next).name
  moved_named cursor step.Done near is = λ n wrong. absurd (cc)
  moved_named cursor (step.SetSymbol name flags) near is = λ n same. let at : name ≡ n = cc in subst (λ (m : Span). end_of m ≤ length stream) at is
  moved_named cursor (step.Write count skip) near is = elim (cases_Bool (count == 0)) [ inl t ↦ rw t near | inr f ↦ rw f near ]
  moved_named cursor other near is = near

  steps_named : (of : Opcodes) (steps : List Step) (from next : ℕ) (cursor : Cursor) → AreStepsFrom of stream from steps next → IsNamed cursor.name
      → IsNamed (fold moved cursor steps).name
  steps_named of [] from next cursor is near = near
  steps_named of (first ∷ steps) from next cursor (after, at, rest) near =
      steps_named of steps after next (moved cursor first) rest (moved_named cursor first near (step_says of from first after at))

  pub cursor_named : (of : Opcodes) (steps : List Step) (place : ℕ) → AreSteps of stream steps place → IsNamed (cursor_after steps).name
  cursor_named of steps place are = steps_named of steps 0 place start are (λ n wrong. absurd (cc))
