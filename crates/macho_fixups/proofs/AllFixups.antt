-- At a cursor of zeros all fixups and imports of an image are left.
use Rattle.std.proofs.Common.{◌≡◌, ℕ, ◌-◌, List, [], Option, Some, None, refl, ap, arith}
use Rattle.std.specs.Option.{option_map_or}
use Rattle.macho_chains.specs.ChainHeader.{chain_header}
use Rattle.macho_chains.specs.declared.chain_header.ChainHeader.{ChainHeader}
use Rattle.macho_fixups.specs.ChainedFixups as chained
use Rattle.macho_fixups.specs.ChainedImports as imported
use Rattle.macho_fixups.specs.Fixups.{start, fixups_left, imports_left, all_fixups, all_imports, chain_command, chain_bytes, chain_place, chained_fixups_left, chained_imports_left, chained_fixups, chained_imports, opcode_fixups_left, opcode_imports_left, opcode_fixups, opcode_imports}
use Rattle.macho_fixups.specs.declared.cursor.KesvuotFixupCursor.{KesvuotFixupCursor}
use Rattle.macho_fixups.specs.declared.row.KesvuotFixup.{KesvuotFixup}
use Rattle.macho_fixups.specs.declared.row.KesvuotImport.{KesvuotImport}
use Rattle.macho_fixups.proofs.ChainSegments.{left_all}

module _ (base : ℕ) (image : List ℕ) where
  chains_begin : (table : List ℕ) (found : Option ChainHeader)
      → option_map_or (λ header. chained.fixups_left image base table header start) found []
      ≡ option_map_or (λ header. chained.all_fixups image base table header) found []
  chains_begin table None = refl
  chains_begin table (Some header) = left_all image base table header start (record { place = refl; commands = refl; segment = refl; skip = refl; name = refl })

  of_command : (found : Option ℕ)
      → option_map_or (λ command. chained_fixups_left base image (chain_bytes image command)) found (opcode_fixups_left image) start
      ≡ option_map_or (λ command. chained_fixups base image (chain_bytes image command)) found (opcode_fixups image)
  of_command None = refl
  of_command (Some command) = chains_begin (chain_bytes image command) (chain_header (chain_bytes image command))

  pub fixups_begin : fixups_left base image start ≡ all_fixups base image
  fixups_begin = of_command (chain_command image)

module _ (place : ℕ) (image : List ℕ) where
  table_begins : (from : ℕ) (table : List ℕ) (found : Option ChainHeader)
      → option_map_or (λ header. imported.imports_left from table header start) found []
      ≡ option_map_or (λ header. imported.imports_up_to header.imports_count from table header 0 0) found []
  unfolding imported.imports_left
  table_begins from table None = refl
  table_begins from table (Some header) =
      let none : header.imports_count - 0 ≡ header.imports_count = omega arith in
      ap (λ (n : ℕ). imported.imports_up_to n from table header 0 0) none

  of_imports : (found : Option ℕ)
      → option_map_or (λ command. chained_imports_left (chain_place place image command) (chain_bytes image command)) found (opcode_imports_left place image) start
      ≡ option_map_or (λ command. chained_imports (chain_place place image command) (chain_bytes image command)) found (opcode_imports place image)
  of_imports None = refl
  of_imports (Some command) = table_begins (chain_place place image command) (chain_bytes image command) (chain_header (chain_bytes image command))

  pub imports_begin : imports_left place image start ≡ all_imports place image
  imports_begin = of_imports (chain_command image)
