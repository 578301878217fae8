-- The plain dyld follows the chained fixups of the file, and reads no pointer that it has written.
use Rattle.std.proofs.Common.{◌≡◌, ℕ, ◌+◌, ◌<◌, List, length, Contains, Some, None, true, refl, sym, subst, arith}
use Rattle.std.specs.Prelude.{IsSomeAnd, slice_index}
use Rattle.macho_fields.specs.Field.{part}
use Rattle.macho_fields.specs.Layers.{NothingBreaks}
use Rattle.macho_fields.specs.LoadCommands.{linkedit_data_table}
use Rattle.macho_fields.specs.Rules as layout
use Rattle.macho_fields.specs.Symbol.{table_at, tables_of}
use Rattle.macho_fields.specs.declared.header.loader.TheConstants as loader
use Rattle.macho_fields.proofs.Options.{some_of, of_some}
use Rattle.macho_chains.specs.ChainDyld.{IsInMemory, ChainState, IsChainTableAt, IsChainSafe, IsChainedSafely, ChainReaches}
use Rattle.macho_chains.specs.ChainHeader.{chain_header}
use Rattle.macho_chains.specs.Chains.{chained_fixups}
use Rattle.macho_tables.specs.Memory.{IsKept}
use Rattle.macho_tables.specs.Homes.{BreaksTableHome}
use Rattle.macho_tables.specs.Kinds.{names_linked_data}
use Rattle.macho_chains.specs.declared.chain_header.ChainHeader.{ChainHeader}
use Rattle.macho_chains.proofs.ChainCounts.{moved_first}
use Rattle.macho_chains.proofs.ChainMoves.{Good, reaches, safe}
use Rattle.macho_chains.proofs.ChainPlaces.{come_first}
use Rattle.macho_chains.proofs.ChainTables.{chain_table_listed}
use Rattle.macho_tables.proofs.Memory.{same_in_memory}
use Rattle.macho_tables.proofs.Places.{named_first}
use Rattle.macho_chains.proofs.UnbrokenChains.{BreakNone, AreGoodChains, header_there, chains_good}

module _ (image : List ℕ) (homes : (place : ℕ) → ¬ BreaksTableHome image place) (kept : BreakNone image) (unbroken : NothingBreaks (layout.BreaksImage image None)) (table : ℕ × ℕ × ℕ) (home : ℕ)
    (is_at : IsChainTableAt image table home) where
  abbrev chains : List ℕ
  chains = part table.0 table.1 image

  -- the command that names the table
  named : (command : ℕ) × (chained_fixups image ≡ Some command) × (table ≡ table_at image command linkedit_data_table)
  named = some_of (λ c. table ≡ table_at image c linkedit_data_table) (chained_fixups image) is_at.named

  -- in memory it is the file's
  same : (memory : ℕ → ℕ) → IsKept image memory → (k : ℕ) → k < length chains → memory (home + k) ≡ slice_index chains k
  same memory still k less =
      let (command, is_named, is_table) = named in
      let (listed, names) = named_first image (λ n. names_linked_data n ≡ true) loader.LC_DYLD_CHAINED_FIXUPS refl command is_named in
      same_in_memory image homes command listed names table (subst (Contains (tables_of image command)) (sym is_table) (chain_table_listed image command is_named unbroken)) home is_at.found memory still k less

  -- it has a header, and breaks no rule
  header : (header : ChainHeader) × AreGoodChains image table.0 chains header
  header =
      let (command, is_named, is_table) = named in
      let (found, is) = header_there image kept table command is_named is_table in (found, chains_good image kept table command is_named is_table found is)

  -- the loader that begins with memory as it was mapped
  begins : (first : ChainState) → IsInMemory image first.memory → first.segment ≡ 0 → first.page ≡ 0 → first.next ≡ None
      → Good image unbroken table.0 home chains header.0 header.1 same 0 first
  begins first mapped segment page next =
      (0, rw (segment, page, next) (come_first image chains header.0 first.memory mapped), rw (segment, page) (moved_first image chains header.0))

  -- is safe
  followed : (n : ℕ) (first last : ChainState) → IsInMemory image first.memory → first.segment ≡ 0 → first.page ≡ 0 → first.next ≡ None → ChainReaches image home first n last
      → IsSomeAnd (chain_header chains) (λ h. IsChainSafe image chains h home n last)
  followed n first last mapped segment page next reached =
      let come = reaches image unbroken table.0 home chains header.0 header.1 same n 0 first last (begins first mapped segment page next) reached in
      let none_before : 0 + n ≡ n = omega arith in
      of_some (λ h. IsChainSafe image chains h home n last) (chain_header chains) header.0 header.1.headed
      (safe image unbroken table.0 home chains header.0 header.1 same n last (subst (λ (i : ℕ). Good image unbroken table.0 home chains header.0 header.1 same i last) none_before come))

-- an image whose tables have homes, and that breaks no rule of chained fixups
pub chained_safely : (image : List ℕ) → ((place : ℕ) → ¬ BreaksTableHome image place) → BreakNone image → NothingBreaks (layout.BreaksImage image None) → IsChainedSafely image
chained_safely image homes kept unbroken table home n first last is_at = followed image homes kept unbroken table home is_at n first last
