-- What the rules of symbols, of relocations and of initializers are about is there, where the rules are broken.
use Rattle.std.proofs.Common.{◌≡◌, ◌∙◌, ℕ, ◌+◌, ◌*◌, ◌≤◌, ◌<◌, ◌⊎◌, List, length, map, Contains, None, Some, inl, inr, lit<, refl, sym, arith}
use Rattle.std.specs.Prelude.{slice_get}
use Rattle.std.proofs.lemmas.Bool.{cases_lt}
use Rattle.macho_fields.proofs.Lists.{any_of, contains_mapped}
use Rattle.macho_fields.proofs.Options.{of_some, some_of}
use Rattle.macho_fields.specs.Image.{commands_of, with_cmd}
use Rattle.macho_fields.specs.Layers.{NothingBreaks}
use Rattle.macho_fields.specs.LoadCommands.{symbol_table}
use Rattle.macho_fields.specs.Rules.{BreaksImage}
use Rattle.macho_fields.specs.Segment.{nreloc, reloff, section_size}
use Rattle.macho_fields.specs.Symbol.{AtSymbol, extreloff, locreloff, nextrel, nlocrel, nsyms, symoff}
use Rattle.macho_fields.specs.declared.header.loader.TheConstants as loader
use Rattle.macho_fields.specs.declared.load_command.Structure.TheVariants as structure
use Rattle.macho_fields.specs.declared.rule.Rule.TheVariants as rule
use Rattle.macho_image.specs.Command.{first_with_cmd}
use Rattle.macho_image.specs.Segment.{section_at, sections_of}
use Rattle.macho_image.specs.Symbol.{indirect_at, indirects_of, symbol_at}
use Rattle.macho_image.specs.declared.indirect.Indirect.{Indirect}
use Rattle.macho_rules.proofs.Judged.{opened_commands}
use Rattle.macho_rules.proofs.OneCommand.{first_is}
use Rattle.macho_rules.proofs.Searches.{one_of}
use Rattle.macho_rules.proofs.SectionItems.{section_rule_breaks}
use Rattle.macho_rules.proofs.TableItems.{table_inside}
use Rattle.macho_rules.proofs.Verdicts.{unbroken_opened}
use Rattle.macho_symbols.specs.Relocations.{AtRelocation, BreaksRelocation, IsBadOf}
use Rattle.macho_symbols.specs.declared.reloc.Relocation.{Relocation}
use Rattle.macho_symbols.specs.declared.relocations.Owner.TheVariants as owners
use Rattle.macho_symbols.proofs.RelocationWalks.{external_inside, local_inside}
use Rattle.macho_tables.specs.InitOffsets.{BadOffset, BreaksInitOffset, HasOffsets}
use Rattle.macho_tables.proofs.InitOffsets.{offset_begins, offsets_inside}
use Rattle.macho_explain.specs.Alike.{groups_in}
use Rattle.macho_explain.specs.Compared.{HasIndirect}
use Rattle.macho_explain.specs.SectionItems.{HasInitOffset, HasItem, HasRelocation, HasRelocationAt}
use Rattle.macho_explain.specs.Symbols.{HasSymbol}
use Rattle.macho_explain.specs.Wholes.{Opens}
use Rattle.macho_explain.specs.declared.section_item.Item.TheVariants as items
use Rattle.macho_explain.proofs.SymbolsAt.{entry_there, item_listed}

module _ (image : List ℕ) (keeps : NothingBreaks (BreaksImage image None)) where
  opens : Opens image
  opens (r, place, before, broken) = keeps r place broken

  -- a symbol that breaks a rule
  pub symbol : (P : ℕ → ℕ → Type 0) (place : ℕ) → AtSymbol image (commands_of image) P place → HasSymbol image place
  symbol P place any =
      let (c, has, (k, less, at, broken)) = one_of (λ symtab. (k : ℕ) × (k < nsyms image symtab) × (place ≡ symoff image symtab + 16 * k) × P symtab place) (with_cmd image loader.LC_SYMTAB (commands_of image)) any in
      let first = first_is image loader.LC_SYMTAB (unbroken_opened image keeps) refl c has in
      let inside = table_inside image loader.LC_SYMTAB structure.SymtabCommand c symbol_table rule.SymbolName (lit< tt) (λ other p early. keeps other p) refl has (0, lit< tt, refl) in
      let listed = item_listed (symbol_at image) image (symoff image c) 16 (nsyms image c) k inside less in
      (opens, (k, (symbol_at image (symoff image c + 16 * k), rw first listed, sym at)))

  -- an indirect entry that is listed
  pub indirect : (k : ℕ) (entry : Indirect) → slice_get (map (indirect_at image) (indirects_of image (commands_of image))) k ≡ Some entry → (place : ℕ) → place ≡ entry.place → HasIndirect image place
  indirect k entry listed place at =
      let (d, is, (less, there)) = some_of (λ d. (k < d.nindirectsyms) × (entry.place ≡ d.indirectsymoff + 4 * k)) (groups_in image) (entry_there image k entry listed) in
      (opens, of_some (λ d. (j : ℕ) × (j < d.nindirectsyms) × (place ≡ d.indirectsymoff + loader.INDIRECT_ENTRY_SIZE * j)) (groups_in image) d is (k, less, at ∙ there))

  -- a relocation
  its_place : (P : Relocation → Type 0) (start count place : ℕ) → AtRelocation image start count P place → HasRelocationAt image start count place
  its_place P start count place (k, less, at, broken) = (k, less, at, tt)

  ends : (start count place : ℕ) → HasRelocationAt image start count place → (0 < count → start + 8 * count ≤ length image) → place + 8 ≤ length image
  ends start count place (k, less, at, any) inside = let fits = inside (omega (arith, less)) in omega (arith, less, at, fits)

  section_inside : (pair : ℕ × ℕ) → Contains (sections_of image (commands_of image)) pair → 0 < nreloc image pair.1 → reloff image pair.1 + 8 * nreloc image pair.1 ≤ length image
  section_inside pair among some = elim (cases_lt (length image) (reloff image pair.1 + 8 * nreloc image pair.1)) [
    | inl past ↦ absurd (keeps rule.SectionRelocs pair.1 (inr (
      commands_of image,
      opened_commands image (unbroken_opened image keeps),
      (section_rule_breaks image (map (section_at image) (sections_of image (commands_of image))) (unbroken_opened image keeps) refl rule.SectionRelocs (λ p. (λ x. x, λ x. x))).broken (section_at image pair)
          (contains_mapped (section_at image) (sections_of image (commands_of image)) pair among) (some, past),
    )))
    | inr fits ↦ fits
  ]

  pub relocation : (place : ℕ) → BreaksRelocation image place → HasRelocation image place
  relocation place (inl any) =
      let (pair, among, broken) = one_of (λ section. AtRelocation image (reloff image section.1) (nreloc image section.1) (IsBadOf image owners.Section) place) (sections_of image (commands_of image)) any in
      let here = its_place (IsBadOf image owners.Section) (reloff image pair.1) (nreloc image pair.1) place broken in (
        opens,
        ends (reloff image pair.1) (nreloc image pair.1) place here (section_inside pair among),
        inl (any_of (λ section. HasItem items.Relocation place (section_at image section)) (sections_of image (commands_of image)) pair among here),
      )
  relocation place (inr any) =
      let (d, has, broken) = one_of (λ d. AtRelocation image (extreloff image d) (nextrel image d) (IsBadOf image owners.Dysymtab) place
      ⊎ AtRelocation image (locreloff image d) (nlocrel image d) (IsBadOf image owners.Dysymtab) place) (with_cmd image loader.LC_DYSYMTAB (commands_of image)) any in
      let first = first_is image loader.LC_DYSYMTAB (unbroken_opened image keeps) refl d has in
      let At = λ (c : ℕ). HasRelocationAt image (extreloff image c) (nextrel image c) place ⊎ HasRelocationAt image (locreloff image c) (nlocrel image c) place in
      elim broken [
        | inl external ↦ (
            let here = its_place (IsBadOf image owners.Dysymtab) (extreloff image d) (nextrel image d) place external in
            (opens, ends (extreloff image d) (nextrel image d) place here (external_inside image keeps (IsBadOf image owners.Dysymtab) d first), inr (of_some At (first_with_cmd image loader.LC_DYSYMTAB (commands_of image)) d first (inl here)))
            )
        | inr local ↦ (
            let here = its_place (IsBadOf image owners.Dysymtab) (locreloff image d) (nlocrel image d) place local in
            (opens, ends (locreloff image d) (nlocrel image d) place here (local_inside image keeps (IsBadOf image owners.Dysymtab) d first), inr (of_some At (first_with_cmd image loader.LC_DYSYMTAB (commands_of image)) d first (inr here)))
            )
      ]

  -- an offset of an initializer
  pub init_offset : (place : ℕ) → BreaksInitOffset image place → HasInitOffset image place
  init_offset place any =
      let (pair, among, (offsets, (k, less, at, bad))) = one_of (λ section. HasOffsets image section.0 section.1 × BadOffset image section.1 place) (sections_of image (commands_of image)) any in
      let begins = offset_begins (section_size image pair.1) k less in
      let inside = offsets_inside image keeps pair among offsets (omega (arith, begins)) in (
        opens,
        omega (arith, at, begins, inside),
        any_of (λ section. HasItem items.InitOffset place (section_at image section)) (sections_of image (commands_of image)) pair among (offsets, (k, less, at, tt)),
      )
