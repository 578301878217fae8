-- An image that keeps the rules: its rows are what the loader model writes.
use Rattle.std.proofs.Common.{◌≡◌, ◌∙◌, ℕ, ◌<◌, ◌+◌, ◌^◌, List, length, Contains, Some, None, true, refl, sym, ap, subst}
use Rattle.std.specs.Prelude.{slice_index}
use Rattle.macho_fields.specs.Field.{part}
use Rattle.macho_fields.specs.Image.{commands_of}
use Rattle.macho_fields.specs.LoadCommands.{linkedit_data_table}
use Rattle.macho_fields.specs.Segment.{all_segments, base_of}
use Rattle.macho_fields.specs.Symbol.{table_at, tables_of}
use Rattle.macho_fields.specs.declared.header.loader.TheConstants as loader
use Rattle.macho_fields.proofs.Options.{some_of}
use Rattle.macho_chains.specs.ChainDyld.{ChainState, IsChainTableAt, IsInMemory}
use Rattle.macho_chains.specs.ChainHeader.{chain_header}
use Rattle.macho_chains.specs.Chains.{chained_fixups}
use Rattle.macho_chains.specs.declared.chain_header.ChainHeader.{ChainHeader}
use Rattle.macho_chains.proofs.ChainCounts.{moved_first}
use Rattle.macho_chains.proofs.ChainMoves.{Good}
use Rattle.macho_chains.proofs.ChainPlaces.{come_first}
use Rattle.macho_chains.proofs.ChainTables.{chain_table_listed}
use Rattle.macho_chains.proofs.UnbrokenChains.{BreakNone, AreGoodChains, chains_good}
use Rattle.macho_rows.proofs.AllCommands.{segments_wanted}
use Rattle.macho_rules.proofs.Verdicts.{unbroken_opened}
use Rattle.macho_tables.specs.Kinds.{names_linked_data}
use Rattle.macho_tables.specs.Memory.{IsKept}
use Rattle.macho_tables.proofs.Memory.{same_in_memory}
use Rattle.macho_tables.proofs.Places.{named_first}
use Rattle.macho_fixups.specs.ChainedFixups.{segments_from, all_fixups}
use Rattle.macho_fixups.specs.ChainLoader.{KeepsChains, AreLoaderWrites, AreWritten, ChainWrites, addresses}
use Rattle.macho_fixups.proofs.ChainLoader.{Remains, begins, writes, ended}

break_none : (image : List ℕ) → KeepsChains image → BreakNone image
break_none image keeps = record {
  header = keeps.header;
  starts = keeps.starts;
  imports = keeps.imports;
  names = keeps.names;
  libraries = keeps.libraries;
  slots = keeps.slots;
  binds = keeps.binds;
}

module _ (image : List ℕ) (short : length image < 2 ^ 64) (keeps : KeepsChains image) (table : ℕ × ℕ × ℕ) (home : ℕ) (is_at : IsChainTableAt image table home) where
  abbrev chains : List ℕ
  chains = part table.0 table.1 image

  -- the command that names the table
  named : (command : ℕ) × (chained_fixups image ≡ Some command) × (table ≡ table_at image command linkedit_data_table)
  named = some_of (λ c. table ≡ table_at image c linkedit_data_table) (chained_fixups image) is_at.named

  -- in memory it is the file's
  same : (memory : ℕ → ℕ) → IsKept image memory → (k : ℕ) → k < length chains → memory (home + k) ≡ slice_index chains k
  same memory still k less =
      let (command, is_named, is_table) = named in
      let (listed, names) = named_first image (λ n. names_linked_data n ≡ true) loader.LC_DYLD_CHAINED_FIXUPS refl command is_named in
      same_in_memory image keeps.homes command listed names table (subst (Contains (tables_of image command)) (sym is_table) (chain_table_listed image command is_named keeps.layout)) home is_at.found memory still k less

  module _ (header : ChainHeader) (headed : chain_header chains ≡ Some header) where
    good : AreGoodChains image table.0 chains header
    good = let (command, is_named, is_table) = named in chains_good image (break_none image keeps) table command is_named is_table header headed

    pub written_by : (base n : ℕ) (first last : ChainState) (written : List ℕ) → base_of image (commands_of image) ≡ Some base → IsInMemory image first.memory
        → first.segment ≡ 0 → first.page ≡ 0 → first.next ≡ None → ChainWrites image home first n written last
        → AreWritten (all_fixups image base chains header) home written last
    written_by base n first last written is_base mapped segment page next moves =
        let at : Good image keeps.layout table.0 home chains header good same 0 first =
        (0, rw (segment, page, next) (come_first image chains header first.memory mapped), rw (segment, page) (moved_first image chains header)) in
        let rows = segments_from image base chains header 0 0 (all_segments image) in
        let left : Remains image keeps.layout short table.0 home chains header good same base is_base first.segment first.page first.next rows =
        rw (segment, page, next) (begins image keeps.layout short table.0 home chains header good same base is_base) in
        let (rest, so_far, remains, kept) = writes image keeps.layout short table.0 home chains header good same base is_base n 0 first last rows written at left moves in
        record {
          rest = rest;
          so_far = ap (λ segments. addresses (segments_from image base chains header 0 0 segments)) (segments_wanted image (unbroken_opened image keeps.layout)) ∙ so_far;
          all = λ between done. ended image keeps.layout short table.0 home chains header good same base is_base last rest kept remains done;
        }

pub loader_writes : (image : List ℕ) → length image < 2 ^ 64 → KeepsChains image → AreLoaderWrites image
loader_writes image short keeps table home base header n first last written is_at is_base headed mapped segment page next moves =
    written_by image short keeps table home is_at header headed base n first last written is_base mapped segment page next moves
