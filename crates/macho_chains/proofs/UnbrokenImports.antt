-- The imports of a table that breaks no rule of them.
use Rattle.std.proofs.Common.{ℕ, zero, suc, ◌≤◌, ◌<◌, List, length, refl, arith, inl, inr}
use Rattle.std.proofs.lemmas.Bool.{cases_lt}
use Rattle.macho_fields.proofs.Decided.{zero_or_none}
use Rattle.macho_chains.specs.ChainDyld.{IsImportThere}
use Rattle.macho_chains.specs.ChainImports.{import_bits, import_offset, import_name_start, names_size, ImportsEndPast, BreaksChainImports, BreaksChainTotal, BreaksChainLibrary}
use Rattle.macho_tables.specs.Limits.{library_count}
use Rattle.macho_chains.specs.declared.chain_header.ChainHeader.{ChainHeader}
use Rattle.macho_tables.proofs.Items.{items_rise}

module _ (image chains : List ℕ) (header : ChainHeader) (kept : (offset : ℕ) → ¬ BreaksChainImports chains header offset) where
  imports_end : ¬ ImportsEndPast chains header
  imports_end past = kept 0 (inl (refl, past))

  import_whole : (import : ℕ) → import < header.imports_count → import_offset header (suc import) ≤ length chains
  import_whole import less = elim (cases_lt (length chains) (import_offset header header.imports_count)) [
    | inl past ↦ absurd (imports_end (omega (arith, less), past))
    | inr fits ↦ let rise = items_rise header.imports_offset (import_bits header.imports_format).size (suc import) header.imports_count (omega (arith, less)) in omega (arith, fits, rise)
  ]

  -- each is there
  pub imports_there : ((offset : ℕ) → ¬ BreaksChainLibrary (library_count image) chains header offset) → (import : ℕ) → import < header.imports_count → IsImportThere image chains header import
  imports_there libraries import less = record {
    inside = import_whole import less;
    named = elim (zero_or_none chains (import_name_start chains header import) (length chains)) [
      | inl ends ↦ ends
      | inr endless ↦ absurd (kept (import_offset header import) (inr (imports_end, (import, less, refl, endless))))
    ];
    library = λ none. libraries (import_offset header import) (imports_end, (import, less, refl, none));
  }

  -- and the names of the first ones, so many, have no more bytes than the table
  pub names_fit : ((offset : ℕ) → ¬ BreaksChainTotal chains header offset) → (n : ℕ) → n ≤ header.imports_count → names_size chains header n ≤ length chains
  names_fit totals zero few = omega arith
  names_fit totals (suc k) few = elim (cases_lt (length chains) (names_size chains header (suc k))) [
    | inl past ↦ absurd (totals (import_offset header k) (imports_end, (k, omega (arith, few), refl, past)))
    | inr fits ↦ fits
  ]
