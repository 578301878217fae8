-- The header of chained fixups. The chains are the list of the bytes of their table, and an offset is one in
-- the table. (mach-o/fixup-chains.h: dyld_chained_fixups_header)
use Rattle.std.specs.Prelude.{ℕ, ◌==◌, ◌&&◌, nat_lt, List, length, Bool, Option, Some, None, if◌then◌else◌}
use Rattle.std.specs.Option.{option_map}
use Rattle.macho_fields.specs.Image.{word}
use Rattle.macho_chains.specs.declared.chain_header.ChainHeader.{ChainHeader}
use Rattle.macho_chains.specs.declared.chain_header.ImportFormat.{ImportFormat}
use Rattle.macho_chains.specs.declared.chain_header.ImportFormat.TheVariants as format
use Rattle.macho_fields.specs.declared.header.fixup_chains.TheConstants as chained

-- imports_format
abbrev pub import_format : ℕ → Option ImportFormat
import_format number =
    if number == chained.DYLD_CHAINED_IMPORT then Some format.Import
    else (if number == chained.DYLD_CHAINED_IMPORT_ADDEND then Some format.ImportAddend
    else (if number == chained.DYLD_CHAINED_IMPORT_ADDEND64 then Some format.ImportAddend64 else None))

-- fixups_version at 0 and symbols_format at 24: version 0, with names that are not compressed
abbrev pub is_known : List ℕ → Bool
is_known chains = word chains 0 == 0 && word chains 24 == 0

-- starts_offset at 4, imports_offset 8, symbols_offset 12, imports_count 16
abbrev pub header_with : List ℕ → ImportFormat → ChainHeader
header_with chains format = record {
  starts_offset = word chains 4;
  imports_offset = word chains 8;
  symbols_offset = word chains 12;
  imports_count = word chains 16;
  imports_format = format;
}

-- The header, with imports_format at 20. It is None where the table is shorter than a header, or its
-- version or a format is not known.
unfoldable pub chain_header : List ℕ → Option ChainHeader
chain_header chains =
    if nat_lt (length chains) chained.DYLD_CHAINED_FIXUPS_HEADER_SIZE then None
    else (if is_known chains then option_map (header_with chains) (import_format (word chains 20))
    else None)
