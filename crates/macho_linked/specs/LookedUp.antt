-- What a reader without bounds of its own reads of the indirect symbol table of an image that breaks no rule: for each
-- stub and each pointer to a symbol the entry that says which symbol that is.
-- (mach-o/loader.h: section_64, dysymtab_command)
use Rattle.std.specs.Prelude.{◌≡◌, ℕ, ◌+◌, ◌*◌, ◌≤◌, ◌<◌, List, length, Contains, Some}
use Rattle.macho_fields.specs.Image.{commands_of}
use Rattle.macho_fields.specs.LoadCommands.{indirect_table}
use Rattle.macho_fields.specs.Segment.{section_size}
use Rattle.macho_fields.specs.Symbol.{indirectsymoff, table_at}
use Rattle.macho_fields.specs.Universal.{OfEachImage}
use Rattle.macho_fields.specs.declared.header.loader.TheConstants as loader
use Rattle.macho_image.specs.Command.{first_with_cmd}
use Rattle.macho_image.specs.Segment.{reserved1, sections_of}
use Rattle.macho_spans.specs.Span.{IsInside, end_of}
use Rattle.macho_spans.specs.declared.span.Span.{Span}
use Rattle.macho_symbols.specs.Indirects.{HasIndirects, stride}
use Rattle.macho_tables.specs.Homes.{bytes_of_items}

-- section_64: stub or pointer k of the section begins in it
pub record HasStub (image : List ℕ) (section k : ℕ) : Type 0 where
  pub among : (segment : ℕ) × Contains (sections_of image (commands_of image)) (segment, section)
  pub kind : HasIndirects image section
  pub begins : stride image section * k < section_size image section

-- the bytes at which the reader looks for its entry: reserved1 is the index of the entry of stub 0
abbrev pub bytes_of_entry : List ℕ → ℕ → ℕ → ℕ → Span
bytes_of_entry image dysymtab section k = record {
  start =
      indirectsymoff image dysymtab + loader.INDIRECT_ENTRY_SIZE * (reserved1 image section + k);
  len = loader.INDIRECT_ENTRY_SIZE;
}

-- the bytes of the indirect symbol table
abbrev pub bytes_of_indirects : List ℕ → ℕ → Span
bytes_of_indirects image dysymtab = bytes_of_items (table_at image dysymtab indirect_table)

pub record IsLookedUpSafely (image : List ℕ) : Type 0 where
  -- each stub or pointer that begins in its section has a size, and ends in it
  pub whole : (section k : ℕ) → HasStub image section k
      → (0 < stride image section) × (stride image section * (k + 1) ≤ section_size image section)
  -- there is a table for it, and in that its entry
  pub entry : (section k : ℕ) → HasStub image section k
      → (dysymtab : ℕ)
      × (first_with_cmd image loader.LC_DYSYMTAB (commands_of image) ≡ Some dysymtab)
      × IsInside (bytes_of_entry image dysymtab section k) (bytes_of_indirects image dysymtab)
  -- the bytes of the entry are all in the image
  pub inside : (section k dysymtab : ℕ) → HasStub image section k
      → first_with_cmd image loader.LC_DYSYMTAB (commands_of image) ≡ Some dysymtab
      → end_of (bytes_of_entry image dysymtab section k) ≤ length image

-- of a file: each 64-bit slice is such an image
abbrev pub AreLookedUpSafely : List ℕ → Type 0
AreLookedUpSafely = OfEachImage IsLookedUpSafely
