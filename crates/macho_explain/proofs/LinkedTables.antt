-- What the rules of chained fixups and of code signatures are about is there, where the rules are broken.
use Rattle.std.proofs.Common.{◌≡◌, ℕ, suc, ◌+◌, ◌*◌, ◌≤◌, ◌<◌, ◌⊎◌, List, Option, None, Some, length, inl, inr, ap, refl, sym, arith}
use Rattle.std.specs.Prelude.{IsSomeAnd, MatchOption}
use Rattle.std.proofs.lemmas.Bool.{cases_lt}
use Rattle.macho_chains.specs.ChainHeader.{chain_header}
use Rattle.macho_chains.specs.ChainImports.{AtImport, BreaksChainImports, BreaksChainLibrary}
use Rattle.macho_chains.specs.ChainStarts.{entry_offset, seg_count, BreaksChainStarts, HasBadEntries, HasBadStarts}
use Rattle.macho_chains.specs.Chains.{BadImports, BadStarts, InChains, UnknownLibrary}
use Rattle.macho_chains.specs.declared.chain_header.ChainHeader.{ChainHeader}
use Rattle.macho_fields.proofs.Options.{some_of}
use Rattle.macho_fields.specs.Field.{part}
use Rattle.macho_fields.specs.Image.{commands_of}
use Rattle.macho_fields.specs.Layers.{NothingBreaks}
use Rattle.macho_fields.specs.LoadCommands.{linkedit_data_table}
use Rattle.macho_fields.specs.Rules.{BreaksImage}
use Rattle.macho_fields.specs.Symbol.{table_at}
use Rattle.macho_fields.specs.declared.header.loader.TheConstants as loader
use Rattle.macho_image.specs.Command.{first_with_cmd}
use Rattle.macho_signature.specs.Signature.{BadDirectory, BreaksSignatureDirectory, BreaksSignatureWhole, InSignature, PartialDirectory}
use Rattle.macho_tables.specs.Homes.{bytes_of_table}
use Rattle.macho_tables.specs.Items.{AtItem}
use Rattle.macho_tables.proofs.DataTables.{data_table_inside}
use Rattle.macho_tables.specs.Limits.{library_count}
use Rattle.macho_explain.specs.Blobs.{InSignature as InSignatureOf, IsDirectoryPlace, IsLimitAt}
use Rattle.macho_explain.specs.Fixups.{HasStartsAt, InFixups, IsImportAt, IsImportsAt, IsStartsAt}
use Rattle.macho_explain.proofs.Linked.{in_table}

-- an import with P is one
is_import : (P : ℕ → Type 0) (chains : List ℕ) (header : ChainHeader) (offset : ℕ) → AtImport chains header P offset → IsImportAt chains header offset
is_import P chains header offset (inside, (k, less, at, has)) = (inside, (k, less, at, tt))

bad_imports : (chains : List ℕ) (header : ChainHeader) (offset : ℕ) → BreaksChainImports chains header offset → IsImportsAt chains header offset
bad_imports chains header offset (inl past) = inl past
bad_imports chains header offset (inr import) = inr (is_import _ chains header offset import)

-- the entries lie in the table
entry_inside : (start count k size : ℕ) → k < count → start + count * 4 ≤ size → start + suc k * 4 ≤ size
entry_inside start count k size less inside = omega (arith, less, inside)

bad_starts : (image chains : List ℕ) (header : ChainHeader) (offset : ℕ) (found : Option ℕ)
    → MatchOption found (offset ≡ 0) (λ count. ((offset ≡ header.starts_offset) × HasBadEntries image chains header count)
    ⊎ ((¬ HasBadEntries image chains header count) × AtItem (entry_offset header) count (HasBadStarts image chains header) offset))
    → MatchOption found (offset ≡ 0) (λ count. (offset ≡ header.starts_offset) ⊎ AtItem (entry_offset header) count (HasStartsAt chains header) offset)
bad_starts image chains header offset None at = at
bad_starts image chains header offset (Some count) (inl entries) = inl entries.0
bad_starts image chains header offset (Some count) (inr (good, (k, less, at, bad))) =
    elim (cases_lt (length chains) (entry_offset header count)) [
      | inl past ↦ absurd (good (inr past))
      | inr inside ↦ inr (k, less, at, (entry_inside (header.starts_offset + 4) count k (length chains) less inside, bad.0))
    ]

bad_directory : (start : ℕ) (signature : List ℕ) (offset : ℕ) → BadDirectory start signature offset → IsDirectoryPlace start signature offset
bad_directory start signature offset (good, inl first) = (good, inl first.0)
bad_directory start signature offset (good, inr (k, less, at, bad)) = (good, inr (k, less, at, bad.1))

module _ (image : List ℕ) (keeps : NothingBreaks (BreaksImage image None)) where
  in_chains : (Rule P : List ℕ → ChainHeader → ℕ → Type 0) → ((chains : List ℕ) (header : ChainHeader) (offset : ℕ) → Rule chains header offset → P chains header offset)
      → (place : ℕ) → InChains image (λ i chains offset. IsSomeAnd (chain_header chains) (λ header. Rule chains header offset)) place → InFixups P image place
  in_chains Rule P has place broken =
      let (opens, (table, chains, is, offset, at, here)) = in_table image keeps loader.LC_DYLD_CHAINED_FIXUPS refl (λ i chains offset. IsSomeAnd (chain_header chains) (λ header. Rule chains header offset))
      (λ chains offset. IsSomeAnd (chain_header chains) (λ header. Rule chains header offset)) (λ chains offset some here. here) place broken in
      let (header, known, rule) = some_of (λ header. Rule chains header offset) (chain_header chains) here in
      (opens, (table, chains, header, (is, known), (offset, at, has chains header offset rule)))

  pub chain_starts : (place : ℕ) → InChains image BadStarts place → InFixups IsStartsAt image place
  chain_starts = in_chains (BreaksChainStarts image) IsStartsAt (λ chains header offset broken. bad_starts image chains header offset (seg_count chains header) broken)

  pub chain_imports : (place : ℕ) → InChains image BadImports place → InFixups IsImportsAt image place
  chain_imports = in_chains BreaksChainImports IsImportsAt bad_imports

  pub chain_library : (place : ℕ) → InChains image UnknownLibrary place → InFixups IsImportAt image place
  chain_library = in_chains (BreaksChainLibrary (library_count image)) IsImportAt (λ chains header offset broken. is_import _ chains header offset broken)

  in_signature : (Rule P : ℕ → List ℕ → ℕ → Type 0) → ((start : ℕ) (signature : List ℕ) (offset : ℕ) → Rule start signature offset → P start signature offset)
      → (place : ℕ) → InSignature image Rule place → InSignatureOf P image place
  in_signature Rule P has place (table, is, (offset, at, broken)) =
      let (command, first, (same, some)) = some_of (λ c. (table ≡ bytes_of_table (table_at image c linkedit_data_table)) × (0 < table.len)) (first_with_cmd image loader.LC_CODE_SIGNATURE (commands_of image)) is in
      let inside = data_table_inside image loader.LC_CODE_SIGNATURE refl keeps table is in
      let signature = part table.start table.len image in
      (λ (r, p, before, wrong). keeps r p wrong, (table, signature, record { named = rw first (ap Some (sym same)); inside = inside; bytes = refl }, offset, at, has table.start signature offset broken))

  pub signature_directory : (place : ℕ) → BreaksSignatureDirectory image place → InSignatureOf IsDirectoryPlace image place
  signature_directory = in_signature BadDirectory IsDirectoryPlace bad_directory

  pub signature_whole : (place : ℕ) → BreaksSignatureWhole image place → InSignatureOf IsLimitAt image place
  signature_whole = in_signature PartialDirectory IsLimitAt (λ start signature offset (good, (k, less, at, partial)). (good.blobs, (k, less, at, partial.1)))
