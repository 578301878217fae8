-- What the search for a bad relocation needs.
use Rattle.std.specs.Prelude.{◌≡◌, ℕ, ◌+◌, ◌*◌, ◌≤◌, ◌<◌, ◌==◌, List, length}
use Rattle.macho_fields.specs.Image.{cpu_type, commands_of}
use Rattle.macho_fields.specs.Segment.{section_count}
use Rattle.macho_fields.specs.Symbol.{symbol_count}
use Rattle.macho_fields.specs.declared.header.machine.TheConstants.{CPU_TYPE_ARM64}
use Rattle.macho_fields.specs.declared.header.reloc.TheConstants.{RELOCATION_INFO_SIZE}
use Rattle.macho_symbols.specs.declared.relocations.Named.{Named}
use Rattle.macho_symbols.specs.declared.relocations.RelocationTable.{RelocationTable}

-- this is what the relocations of the image can name
pub record IsNamed (image : List ℕ) (named : Named) : Type 0 where
  pub symbols : named.symbols ≡ symbol_count image (commands_of image)
  pub sections : named.sections ≡ section_count image (commands_of image)
  pub has_addends : named.has_addends ≡ cpu_type image == CPU_TYPE_ARM64

-- the table lies inside the image, or has no relocations
abbrev pub HoldsTable : List ℕ → RelocationTable → Type 0
HoldsTable image table =
    0 < table.count → table.start + RELOCATION_INFO_SIZE * table.count ≤ length image
