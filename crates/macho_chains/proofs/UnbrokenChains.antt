-- A table of chained fixups of an image that breaks no rule breaks none.
use Rattle.std.proofs.Common.{◌≡◌, ℕ, ◌+◌, ◌<◌, List, Option, Some, None, refl, subst, arith, inl, inr}
use Rattle.std.proofs.lemmas.Bool.{cases_lt}
use Rattle.macho_fields.specs.Field.{part}
use Rattle.macho_fields.specs.LoadCommands.{linkedit_data_table}
use Rattle.macho_fields.specs.Symbol.{table_at}
use Rattle.macho_fields.proofs.Options.{of_some}
use Rattle.macho_chains.specs.ChainHeader.{chain_header}
use Rattle.macho_chains.specs.ChainImports.{BreaksChainImports, BreaksChainTotal, BreaksChainLibrary}
use Rattle.macho_chains.specs.ChainPointers.{BreaksChainSlot, BreaksChainBind}
use Rattle.macho_chains.specs.ChainStarts.{BreaksChainStarts}
use Rattle.macho_chains.specs.Chains.{HasHeader, chained_fixups, NoHeader, BadStarts, BadImports, LongNames, UnknownLibrary, InChains, OfTable, InPointers, BreaksChainHeader}
use Rattle.macho_tables.specs.DataTables.{InTableBytes}
use Rattle.macho_tables.specs.Limits.{library_count}
use Rattle.macho_chains.specs.declared.chain_header.ChainHeader.{ChainHeader}

-- no rule of chained fixups is broken
pub record BreakNone (image : List ℕ) : Type 0 where
  pub header : (place : ℕ) → ¬ BreaksChainHeader image place
  pub starts : (place : ℕ) → ¬ InChains image BadStarts place
  pub imports : (place : ℕ) → ¬ InChains image BadImports place
  pub names : (place : ℕ) → ¬ InChains image LongNames place
  pub libraries : (place : ℕ) → ¬ InChains image UnknownLibrary place
  pub slots : (place : ℕ) → ¬ InPointers image BreaksChainSlot place
  pub binds : (place : ℕ) → ¬ InPointers image BreaksChainBind place

pub record AreGoodChains (image : List ℕ) (table : ℕ) (chains : List ℕ) (header : ChainHeader) : Type 0 where
  pub headed : chain_header chains ≡ Some header
  pub starts : (offset : ℕ) → ¬ BreaksChainStarts image chains header offset
  pub imports : (offset : ℕ) → ¬ BreaksChainImports chains header offset
  pub names : (offset : ℕ) → ¬ BreaksChainTotal chains header offset
  pub libraries : (offset : ℕ) → ¬ BreaksChainLibrary (library_count image) chains header offset
  pub slots : (place : ℕ) → ¬ BreaksChainSlot image table chains header place
  pub binds : (place : ℕ) → ¬ BreaksChainBind image table chains header place

module _ (image : List ℕ) (kept : BreakNone image) (table : ℕ × ℕ × ℕ) (command : ℕ) (named : chained_fixups image ≡ Some command)
    (is_table : table ≡ table_at image command linkedit_data_table) where
  -- it has bytes
  some : 0 < table.1
  some = elim (cases_lt 0 table.1) [
    | inl more ↦ more
    | inr none ↦
        let no_bytes : (table_at image command linkedit_data_table).1 ≡ 0 = subst (λ (t : ℕ × ℕ × ℕ). t.1 ≡ 0) is_table (omega (arith, none)) in
        absurd (kept.header command (inl (of_some (λ c. (command ≡ c) × ((table_at image c linkedit_data_table).1 ≡ 0)) (chained_fixups image) command named (refl, no_bytes))))
  ]

  abbrev chains : List ℕ
  chains = part table.0 table.1 image

  -- a rule of the table
  unbroken_in : (Rule : List ℕ → List ℕ → ℕ → Type 0) → ((place : ℕ) → ¬ InChains image Rule place) → (offset : ℕ) → ¬ Rule image chains offset
  unbroken_in Rule none offset broken =
      none (table.0 + offset) (of_some (λ c. InTableBytes image (table_at image c linkedit_data_table) Rule (table.0 + offset)) (chained_fixups image) command named
      (subst (λ (t : ℕ × ℕ × ℕ). InTableBytes image t Rule (table.0 + offset)) is_table (some, (offset, refl, broken))))

  -- there is a header
  pub header_there : (header : ChainHeader) × (chain_header chains ≡ Some header)
  header_there = either (chain_header chains) refl
    where
      either : (found : Option ChainHeader) → chain_header chains ≡ found → (header : ChainHeader) × (chain_header chains ≡ Some header)
      either None none = absurd (unbroken_in NoHeader (λ place broken. kept.header place (inr broken)) 0 (refl, none))
      either (Some header) is = (header, is)

  module _ (header : ChainHeader) (is : chain_header chains ≡ Some header) where
    headed : (Rule : ChainHeader → ℕ → Type 0) (offset : ℕ) → Rule header offset → HasHeader chains (λ h. Rule h offset)
    headed Rule offset broken = of_some (λ h. Rule h offset) (chain_header chains) header is broken

    -- a rule of the pointers
    unbroken_pointers : (Rule : List ℕ → ℕ → List ℕ → ChainHeader → ℕ → Type 0) → ((place : ℕ) → ¬ InPointers image Rule place) → (place : ℕ) → ¬ Rule image table.0 chains header place
    unbroken_pointers Rule none place broken =
        none place (of_some (λ c. OfTable image (table_at image c linkedit_data_table) Rule place) (chained_fixups image) command named
        (subst (λ (t : ℕ × ℕ × ℕ). OfTable image t Rule place) is_table (some, headed (λ h. Rule image table.0 chains h) place broken)))

    pub chains_good : AreGoodChains image table.0 chains header
    chains_good = record {
      headed = is;
      starts = λ offset broken. unbroken_in BadStarts kept.starts offset (headed (BreaksChainStarts image chains) offset broken);
      imports = λ offset broken. unbroken_in BadImports kept.imports offset (headed (BreaksChainImports chains) offset broken);
      names = λ offset broken. unbroken_in LongNames kept.names offset (headed (BreaksChainTotal chains) offset broken);
      libraries = λ offset broken.
          unbroken_in UnknownLibrary kept.libraries offset (headed (BreaksChainLibrary (library_count image) chains) offset broken);
      slots = unbroken_pointers BreaksChainSlot kept.slots;
      binds = unbroken_pointers BreaksChainBind kept.binds;
    }
