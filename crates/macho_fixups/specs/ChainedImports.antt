-- The imports of chained fixups, as rows. An offset is one in the table.
-- (mach-o/fixup-chains.h: dyld_chained_import, dyld_chained_import_addend, dyld_chained_import_addend64)
use Rattle.std.specs.Prelude.{ℕ, zero, suc, ◌+◌, ◌-◌, ◌/◌, ◌%◌, ◌^◌, ◌<◌, ◌&&◌, nat_lt, nat_le, Bool, List, [], ◌∷◌, length, ℤ, pos, neg_ℤ, if◌then◌else◌}
use Rattle.std.specs.Int.{cast_signed, w32, w64}
use Rattle.macho_fields.specs.Field.{string_from}
use Rattle.macho_fields.specs.Image.{word, long}
use Rattle.macho_chains.specs.ChainImports.{import_of, import_offset, import_name_start}
use Rattle.macho_chains.specs.declared.chain_header.ChainHeader.{ChainHeader}
use Rattle.macho_chains.specs.declared.chain_header.ImportFormat.{ImportFormat}
use Rattle.macho_chains.specs.declared.chain_header.ImportFormat.TheVariants as format
use Rattle.macho_chains.specs.declared.chain_imports.Ordinal.{Ordinal}
use Rattle.macho_chains.specs.declared.chain_imports.Ordinal.TheVariants as ordinal
use Rattle.macho_rows.specs.Spans.{span_of}
use Rattle.macho_fixups.specs.declared.cursor.KesvuotFixupCursor.{KesvuotFixupCursor}
use Rattle.macho_fixups.specs.declared.row.KesvuotImport.{KesvuotImport}

-- the table has the import k: all imports lie in it, and there are more than k
abbrev pub has_import : List ℕ → ChainHeader → ℕ → Bool
has_import chains header k =
    nat_lt k header.imports_count && nat_le (import_offset header header.imports_count) (length chains)

-- lib_ordinal
abbrev pub library_of : Ordinal → ℤ
library_of (ordinal.Library number) = pos number
library_of (ordinal.Special below) = neg_ℤ (pos below)

-- weak_import: bit 8, or bit 16 of dyld_chained_import_addend64
abbrev pub weak_at : List ℕ → ImportFormat → ℕ → ℕ
weak_at chains format.Import offset = word chains offset / 2 ^ 8 % 2
weak_at chains format.ImportAddend offset = word chains offset / 2 ^ 8 % 2
weak_at chains format.ImportAddend64 offset = long chains offset / 2 ^ 16 % 2

-- addend: in two's complement, of 32 bits at 4, or of 64 bits at 8
abbrev pub addend_at : List ℕ → ImportFormat → ℕ → ℤ
addend_at chains format.Import offset = pos 0
addend_at chains format.ImportAddend offset = cast_signed w32 (word chains (offset + 4))
addend_at chains format.ImportAddend64 offset = cast_signed w64 (long chains (offset + 8))

-- of the import k of the table
unfoldable pub import_addend : List ℕ → ChainHeader → ℕ → ℤ
import_addend chains header k = addend_at chains header.imports_format (import_offset header k)

-- the name of the import k, and its size with the zero byte that ends it
abbrev pub import_name : List ℕ → ChainHeader → ℕ → List ℕ
import_name chains header k = string_from (import_name_start chains header k) chains

abbrev pub import_name_size : List ℕ → ChainHeader → ℕ → ℕ
import_name_size chains header k = length (import_name chains header k) + 1

-- its row, of a table that begins at `place` in the file
unfoldable pub import_row : ℕ → List ℕ → ChainHeader → ℕ → KesvuotImport
import_row place chains header k = record {
  name = span_of (place + import_name_start chains header k) (import_name chains header k);
  library = library_of (import_of chains header k).ordinal;
  addend = import_addend chains header k;
  weak = weak_at chains header.imports_format (import_offset header k);
  reserved = 0;
}

-- The row of the import k can be told: it is in the table, and a zero byte of the table ends its name. With it, the
-- names up to it have no more bytes than the table, where those before it have so many.
unfoldable pub is_listed : List ℕ → ChainHeader → ℕ → ℕ → Bool
is_listed chains header names k =
    has_import chains header k
    && nat_le (import_name_start chains header k + import_name_size chains header k) (length chains)
    && nat_le (names + import_name_size chains header k) (length chains)

-- the rows of up to so many imports from k on, up to the first that cannot be told
abbrev pub imports_up_to : ℕ → ℕ → List ℕ → ChainHeader → ℕ → ℕ → List KesvuotImport
imports_up_to zero place chains header names k = []
imports_up_to (suc most) place chains header names k =
    if is_listed chains header names k
    then import_row place chains header k
    ∷ imports_up_to most place chains header (names + import_name_size chains header k) (suc k)
    else []

-- those that remain at a cursor
unfoldable pub imports_left : ℕ → List ℕ → ChainHeader → KesvuotFixupCursor → List KesvuotImport
imports_left place chains header cursor =
    imports_up_to (header.imports_count - cursor.import) place chains header cursor.name_size cursor.import

-- What only proofs need.

-- an ordinal is one of 63 bits
abbrev pub IsNear : Ordinal → Type 0
IsNear (ordinal.Library number) = number < 2 ^ 63
IsNear (ordinal.Special below) = below < 2 ^ 63
