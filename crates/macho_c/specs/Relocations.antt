-- The rows of the relocations of a section. (mach-o/reloc.h: relocation_info)
use Rattle.std.specs.Prelude.{◌≡◌, ℕ, ◌+◌, ◌/◌, ◌%◌, ◌^◌, List, length, map, drop}
use Rattle.macho_fields.specs.Image.{word, commands_of}
use Rattle.macho_fields.specs.Segment.{AtSection}
use Rattle.macho_fields.specs.Segment.{reloff as reloff_of, nreloc as nreloc_of}
use Rattle.macho_fields.specs.declared.header.reloc.TheConstants as reloc
use Rattle.macho_image.specs.Symbol.{items_inside}
use Rattle.macho_rows.specs.declared.cursor.KesvuotCursor.{KesvuotCursor}
use Rattle.macho_c.specs.declared.relocations.KesvuotRelocation.{KesvuotRelocation}

-- The row of the relocation_info at a place: r_address at 0; in the word at 4, from its lowest bit on,
-- r_symbolnum of 24 bits, r_pcrel of 1, r_length of 2, r_extern of 1, r_type of 4. R_SCATTERED is the
-- highest bit of r_address.
abbrev pub relocation_row : List ℕ → ℕ → KesvuotRelocation
relocation_row image relocation =
    let bits = word image (relocation + 4) in
    record {
      address = word image relocation;
      symbolnum = bits % 2 ^ 24;
      pcrel = bits / 2 ^ 24 % 2;
      length = bits / 2 ^ 25 % 4;
      external = bits / 2 ^ 27 % 2;
      kind = bits / 2 ^ 28;
      scattered = word image relocation / 2 ^ 31;
    }

-- the rows of the table, in its order, and none where it does not lie inside the image
abbrev pub relocation_rows : List ℕ → ℕ → ℕ → List KesvuotRelocation
relocation_rows image reloff nreloc =
    map (relocation_row image) (items_inside image reloff reloc.RELOCATION_INFO_SIZE nreloc)

-- those that remain at a cursor
abbrev pub relocations_left : List ℕ → ℕ → ℕ → KesvuotCursor → List KesvuotRelocation
relocations_left image reloff nreloc cursor = drop cursor.items (relocation_rows image reloff nreloc)

-- Where reloff and nreloc are a section's, there are nreloc rows: the table does not pass the image, so no row is left
-- out.
abbrev pub HasAllRelocations : List ℕ → ℕ → ℕ → List KesvuotRelocation → Type 0
HasAllRelocations image reloff nreloc rows =
    (section : ℕ)
    → AtSection image (commands_of image)
    (λ segment section. (reloff ≡ reloff_of image section) × (nreloc ≡ nreloc_of image section)) section
    → length rows ≡ nreloc
