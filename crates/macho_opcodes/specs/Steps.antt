-- The streams of opcodes: what each opcode says. A stream is the list of its bytes, and a place is an
-- offset in it. (mach-o/loader.h: REBASE_OPCODE_.., BIND_OPCODE_..)
use Rattle.std.specs.Prelude.{◌≡◌, ℕ, ◌+◌, ◌-◌, ◌*◌, ◌==◌, nat_lt, List, [], ◌∷◌, length, drop, slice_get, Option, Some, None, bit_and, if◌then◌else◌}
use Rattle.std.specs.List.{list_all}
use Rattle.std.specs.Option.{option_map, option_and_then}
use Rattle.macho_fields.specs.Field.{string_from}
use Rattle.macho_tables.specs.Numbers.{unsigned_at, signed_at}
use Rattle.macho_fields.specs.declared.header.loader.TheConstants as opcode
use Rattle.macho_tables.specs.declared.limits.TheConstants as size
use Rattle.macho_opcodes.specs.declared.step.Opcodes.{Opcodes}
use Rattle.macho_opcodes.specs.declared.step.Opcodes.TheVariants as opcodes
use Rattle.macho_opcodes.specs.declared.step.Step.{Step}
use Rattle.macho_opcodes.specs.declared.step.Step.TheVariants as step

-- A step, and the first place past the opcode and its operands. Each is None where an operand
-- is.

-- an opcode with a number
abbrev pub with_number : (ℕ → Step) → List ℕ → ℕ → Option (Step × ℕ)
with_number say stream next = option_map (λ number. (say number.0, number.1)) (unsigned_at stream next)

-- with a count and a skip
abbrev pub with_count_and_skip : List ℕ → ℕ → Option (Step × ℕ)
with_count_and_skip stream next =
    option_and_then (λ count. with_number (step.Write count.0) stream count.1) (unsigned_at stream next)

-- with a signed number
abbrev pub with_addend : List ℕ → ℕ → Option (Step × ℕ)
with_addend stream next =
    option_map (λ number. (step.SetAddend number.0, number.1)) (signed_at stream next)

-- with a name: the bytes up to the first zero byte, which is in the stream, and that byte
abbrev pub with_name : ℕ → List ℕ → ℕ → Option (Step × ℕ)
with_name flags stream next =
    let zero = next + length (string_from next stream) in
    if nat_lt zero (length stream)
    then Some (step.SetSymbol (record { start = next; len = zero + 1 - next }) flags, zero + 1) else None

-- a type that is a pointer
abbrev pub pointer_type : ℕ → ℕ → ℕ → Option (Step × ℕ)
pointer_type wanted imm next = if imm == wanted then Some (step.SetPointer, next) else None

-- the last one: what follows it is zeros up to the end of the stream
abbrev pub last_step : List ℕ → ℕ → Option (Step × ℕ)
last_step stream next =
    if list_all (λ byte. byte == 0) (drop next stream) then Some (step.Done, length stream) else None

-- BIND_OPCODE_SET_DYLIB_SPECIAL_IMM: 0, or the low four bits of a number below 0
abbrev pub special_step : ℕ → Step
special_step imm = if imm == 0 then step.SetLibrary 0 else step.SetSpecial (16 - imm)

-- what an opcode of the rebase stream says: its byte, and the first place past it
unfoldable pub rebase_step : List ℕ → ℕ → ℕ → Option (Step × ℕ)
rebase_step stream byte next =
    let code = bit_and byte opcode.REBASE_OPCODE_MASK in
    let imm = bit_and byte opcode.REBASE_IMMEDIATE_MASK in
    if code == opcode.REBASE_OPCODE_DONE then last_step stream next
    else (if code == opcode.REBASE_OPCODE_SET_TYPE_IMM then pointer_type opcode.REBASE_TYPE_POINTER imm next
    else (if code == opcode.REBASE_OPCODE_SET_SEGMENT_AND_OFFSET_ULEB then with_number (step.SetSegment imm) stream next
    else (if code == opcode.REBASE_OPCODE_ADD_ADDR_ULEB then with_number step.AddOffset stream next
    else (if code == opcode.REBASE_OPCODE_ADD_ADDR_IMM_SCALED then Some (step.AddOffset (imm * size.POINTER_SIZE), next)
    else (if code == opcode.REBASE_OPCODE_DO_REBASE_IMM_TIMES then Some (step.Write imm 0, next)
    else (if code == opcode.REBASE_OPCODE_DO_REBASE_ULEB_TIMES then with_number (λ count. step.Write count 0) stream next
    else (if code == opcode.REBASE_OPCODE_DO_REBASE_ADD_ADDR_ULEB then with_number (step.Write 1) stream next
    else (if code == opcode.REBASE_OPCODE_DO_REBASE_ULEB_TIMES_SKIPPING_ULEB then with_count_and_skip stream next
    else None))))))))

-- what an opcode of a bind stream says, except DONE
unfoldable pub bind_step : List ℕ → ℕ → ℕ → Option (Step × ℕ)
bind_step stream byte next =
    let code = bit_and byte opcode.BIND_OPCODE_MASK in
    let imm = bit_and byte opcode.BIND_IMMEDIATE_MASK in
    if code == opcode.BIND_OPCODE_SET_DYLIB_ORDINAL_IMM then Some (step.SetLibrary imm, next)
    else (if code == opcode.BIND_OPCODE_SET_DYLIB_ORDINAL_ULEB then with_number step.SetLibrary stream next
    else (if code == opcode.BIND_OPCODE_SET_DYLIB_SPECIAL_IMM then Some (special_step imm, next)
    else (if code == opcode.BIND_OPCODE_SET_SYMBOL_TRAILING_FLAGS_IMM then with_name imm stream next
    else (if code == opcode.BIND_OPCODE_SET_TYPE_IMM then pointer_type opcode.BIND_TYPE_POINTER imm next
    else (if code == opcode.BIND_OPCODE_SET_ADDEND_SLEB then with_addend stream next
    else (if code == opcode.BIND_OPCODE_SET_SEGMENT_AND_OFFSET_ULEB then with_number (step.SetSegment imm) stream next
    else (if code == opcode.BIND_OPCODE_ADD_ADDR_ULEB then with_number step.AddOffset stream next
    else (if code == opcode.BIND_OPCODE_DO_BIND then Some (step.Write 1 0, next)
    else (if code == opcode.BIND_OPCODE_DO_BIND_ADD_ADDR_ULEB then with_number (step.Write 1) stream next
    else (if code == opcode.BIND_OPCODE_DO_BIND_ADD_ADDR_IMM_SCALED then Some (step.Write 1 (imm * size.POINTER_SIZE), next)
    else (if code == opcode.BIND_OPCODE_DO_BIND_ULEB_TIMES_SKIPPING_ULEB then with_count_and_skip stream next
    else None)))))))))))

-- BIND_OPCODE_DONE: the last one, or in the lazy stream the last one of an entry
abbrev pub done_step : Opcodes → List ℕ → ℕ → Option (Step × ℕ)
done_step opcodes.LazyBind stream next = Some (step.Done, next)
done_step other stream next = last_step stream next

-- the opcode with this byte ends the stream: DONE, but not in the lazy one
abbrev pub IsLastOpcode : Opcodes → ℕ → Type 0
IsLastOpcode opcodes.LazyBind byte = ⊥
IsLastOpcode other byte = bit_and byte opcode.BIND_OPCODE_MASK ≡ opcode.BIND_OPCODE_DONE

-- what an opcode of a stream says
abbrev pub opcode_step : Opcodes → List ℕ → ℕ → ℕ → Option (Step × ℕ)
opcode_step opcodes.Rebase stream byte next = rebase_step stream byte next
opcode_step of stream byte next =
    if bit_and byte opcode.BIND_OPCODE_MASK == opcode.BIND_OPCODE_DONE then done_step of stream next
    else bind_step stream byte next

-- what the opcode at a place of a stream says, and the first place past it
unfoldable pub step_at : Opcodes → List ℕ → ℕ → Option (Step × ℕ)
step_at of stream place =
    option_and_then (λ byte. opcode_step of stream byte (place + 1)) (slice_get stream place)

-- The steps of a stream, from a place on: each begins where the one before it ends, and the last one ends
-- at next, which is start without a step.
abbrev pub AreStepsFrom : Opcodes → List ℕ → ℕ → List Step → ℕ → Type 0
AreStepsFrom of stream start [] next = start ≡ next
AreStepsFrom of stream start (first ∷ steps) next =
    (after : ℕ) × (step_at of stream start ≡ Some (first, after)) × AreStepsFrom of stream after steps next

-- these are all steps of a stream before a place, and the first is at its start
abbrev pub AreSteps : Opcodes → List ℕ → List Step → ℕ → Type 0
AreSteps of stream steps place = AreStepsFrom of stream 0 steps place
