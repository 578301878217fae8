-- The instructions that do nothing, with which linkers fill gaps between code.
use Rattle.std.specs.Prelude.{◌==◌, ◌-◌, ◌%◌, ℕ, List, slice_index, Bool, false, if◌then◌else◌}
use Rattle.std.specs.Option.{option_map_or}
use Rattle.macho_fields.specs.Field.{field}
use Rattle.macho_fields.specs.declared.bytes.Order.TheVariants.{Little}
use Rattle.macho_fields.specs.declared.header.machine.TheConstants as machine

-- The 4 bytes with the one at the place, at a multiple of 4, are the NOP of arm64: the instruction 0xd503201f.
abbrev pub is_nop_word : List ℕ → ℕ → Bool
is_nop_word image place = option_map_or (λ word. word == 0xd503201f) (field Little 4 image (place - place % 4)) false

-- The byte at the place belongs to a NOP of the processor: on x86_64 to the byte 0x90, on arm64 to the word above. No NOP
-- of any other processor is known.
abbrev pub is_nop : ℕ → List ℕ → ℕ → Bool
is_nop cpu image place =
    if cpu == machine.CPU_TYPE_X86_64 then slice_index image place == 0x90
    else (if cpu == machine.CPU_TYPE_ARM64 then is_nop_word image place else false)
