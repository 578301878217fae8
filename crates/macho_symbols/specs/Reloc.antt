-- Relocations. (mach-o/reloc.h: relocation_info, of 8 bytes; mach-o/arm64/reloc.h)
use Rattle.std.specs.Prelude.{◌≡◌, ℕ, ◌+◌, ◌/◌, ◌%◌, ◌^◌, ◌==◌, List}
use Rattle.macho_fields.specs.Image.{word}
use Rattle.macho_symbols.specs.declared.reloc.TheConstants as reloc
use Rattle.macho_symbols.specs.declared.reloc.Relocation.{Relocation}

-- relocation_info: r_address at 0; in the word at 4, from its lowest bit on, r_symbolnum of 24 bits, r_pcrel of
-- 1, r_length of 2, r_extern of 1, r_type of 4
abbrev pub relocation_at : List ℕ → ℕ → Relocation
relocation_at image relocation =
    let bits = word image (relocation + 4) in
    record {
      address = word image relocation;
      symbolnum = bits % 2 ^ 24;
      is_relative = bits / 2 ^ 24 % 2 == 1;
      length = bits / 2 ^ 25 % 4;
      is_external = bits / 2 ^ 27 % 2 == 1;
      kind = bits / 2 ^ 28;
    }
