-- The place of a break of a rule of symbols, or of relocations, lies in the image.
use Rattle.std.proofs.Common.{◌≡◌, ℕ, ◌+◌, ◌*◌, ◌≤◌, ◌<◌, ◌⊎◌, List, [], ◌∷◌, length, map, Any, Contains, None, refl, le_refl, arith, lit<, inl, inr}
use Rattle.std.specs.Prelude.{flat_map}
use Rattle.std.proofs.lemmas.Bool.{cases_lt}
use Rattle.std.proofs.lemmas.List.Elements.{Contains-append_cases}
use Rattle.macho_fields.specs.Image.{command_size, commands_of, with_cmd}
use Rattle.macho_fields.specs.Layers.{NothingBreaks}
use Rattle.macho_fields.specs.LoadCommands.{symbol_table}
use Rattle.macho_fields.specs.Rules.{BreaksImage}
use Rattle.macho_fields.specs.Segment.{segments_of, sections_in, reloff, nreloc}
use Rattle.macho_fields.specs.Symbol.{symoff, nsyms, extreloff, nextrel, locreloff, nlocrel, AtSymbol}
use Rattle.macho_fields.specs.declared.header.loader.TheConstants as loader
use Rattle.macho_fields.specs.declared.load_command.Structure.TheVariants.{SymtabCommand}
use Rattle.macho_fields.specs.declared.rule.Rule.TheVariants as rule
use Rattle.macho_fields.proofs.Lists.{contains_first, contains_later, contains_mapped, none_in_nil}
use Rattle.macho_fields.proofs.LoadCommands.{symbols_listed}
use Rattle.macho_fields.proofs.Opened.{command_inside}
use Rattle.macho_fields.proofs.Parts.{with_cmd_among}
use Rattle.macho_image.specs.Segment.{SectionView, section_at, sections_with, sections_of}
use Rattle.macho_rules.proofs.Judged.{opened_facts, opened_commands}
use Rattle.macho_rules.proofs.OneCommand.{first_is}
use Rattle.macho_rules.proofs.Searches.{one_of}
use Rattle.macho_rules.proofs.SectionItems.{section_before, section_rule_breaks, with_segment}
use Rattle.macho_rules.proofs.TableItems.{table_inside}
use Rattle.macho_rules.proofs.Verdicts.{unbroken_opened}
use Rattle.macho_symbols.specs.Relocations.{AtRelocation, IsBadOf, InSections, InDysymtab, BreaksRelocation}
use Rattle.macho_symbols.specs.declared.reloc.Relocation.{Relocation}
use Rattle.macho_symbols.specs.declared.relocations.Owner.TheVariants as owners
use Rattle.macho_symbols.proofs.RelocationWalks.{external_inside, local_inside}

module _ (image : List ℕ) (none : NothingBreaks (BreaksImage image None)) where
  pub symbol_near : (P : ℕ → ℕ → Type 0) (place : ℕ) → AtSymbol image (commands_of image) P place → place ≤ length image
  symbol_near P place (j, symtab, less, at, (k, lower, is, p)) = elim (cases_lt (length image) (symoff image symtab + nsyms image symtab * 16)) [
    | inl past ↦ absurd (table_inside image loader.LC_SYMTAB SymtabCommand symtab symbol_table rule.SymbolName (lit< tt) (λ other there early. none other there) refl (j, less, at) symbols_listed
        (omega (arith, lower), past))
    | inr fits ↦ omega (arith, fits, lower, is)
  ]

  in_table : (start count : ℕ) (P : Relocation → Type 0) (place : ℕ) → (0 < count → start + 8 * count ≤ length image) → AtRelocation image start count P place → place ≤ length image
  in_table start count P place inside (k, less, at, p) = let fits = inside (omega (arith, less)) in omega (arith, fits, less, at)

  section_near : (P : Relocation → Type 0) (place : ℕ) → InSections image P place → place ≤ length image
  section_near P place any =
      let all : List SectionView = map (section_at image) (sections_of image (commands_of image)) in
      let opened = unbroken_opened image none in
      let (section, among, here) = one_of (λ s. AtRelocation image (reloff image s.1) (nreloc image s.1) P place) (sections_of image (commands_of image)) any in
      in_table (reloff image section.1) (nreloc image section.1) P place
      (λ some. elim (cases_lt (length image) (reloff image section.1 + 8 * nreloc image section.1)) [
        | inl past ↦ absurd (none rule.SectionRelocs section.1
            (inr (
              commands_of image,
              opened_commands image opened,
              (section_rule_breaks image all opened refl rule.SectionRelocs (λ there. (λ x. x, λ x. x))).broken (section_at image section)
                  (contains_mapped (section_at image) (sections_of image (commands_of image)) section among) (some, past),
            )))
        | inr fits ↦ fits
      ]) here

  -- the place of a section
  in_segment : (segment place : ℕ) → Contains (segments_of image (commands_of image)) segment → Contains (sections_in image segment) place → place ≤ length image
  in_segment segment place has among =
      let opened = unbroken_opened image none in
      let listed = with_cmd_among image (commands_of image) loader.LC_SEGMENT_64 segment has in
      let inside = command_inside image (commands_of image) (opened_facts image opened) (opened_commands image opened) segment listed in
      let before = section_before image opened segment (segment + command_size image segment) place has (le_refl (segment + command_size image segment)) among in omega (arith, inside, before)

  in_segments : (segments : List ℕ) → ((s : ℕ) → Contains segments s → Contains (segments_of image (commands_of image)) s) → (section : ℕ × ℕ) → Contains (flat_map (sections_with image) segments) section
      → section.1 ≤ length image
  in_segments [] are section has = absurd (none_in_nil section has)
  in_segments (s ∷ rest) are section has =
      elim (Contains-append_cases (sections_with image s) (flat_map (sections_with image) rest) section has) [
        | inl here ↦ let (same, among) = with_segment image s section here in in_segment s section.1 (are s (contains_first s rest)) among
        | inr later ↦ in_segments rest (λ t among. are t (contains_later s t rest among)) section later
      ]

  pub section_place_near : (P : ℕ → Type 0) (place : ℕ) → Any (λ section. (place ≡ section.1) × P section.1) (sections_of image (commands_of image)) → place ≤ length image
  section_place_near P place any =
      let (section, has, (at, here)) = one_of (λ (s : ℕ × ℕ). (place ≡ s.1) × P s.1) (sections_of image (commands_of image)) any in
      let near = in_segments (segments_of image (commands_of image)) (λ s among. among) section has in omega (arith, at, near)

  dysymtab_near : (P : Relocation → Type 0) (place : ℕ) → InDysymtab image P place → place ≤ length image
  dysymtab_near P place any =
      let (d, has, here) = one_of (λ c. AtRelocation image (extreloff image c) (nextrel image c) P place ⊎ AtRelocation image (locreloff image c) (nlocrel image c) P place)
      (with_cmd image loader.LC_DYSYMTAB (commands_of image)) any in
      let first = first_is image loader.LC_DYSYMTAB (unbroken_opened image none) refl d has in
      elim here [
        | inl external ↦ in_table (extreloff image d) (nextrel image d) P place (external_inside image none P d first) external
        | inr local ↦ in_table (locreloff image d) (nlocrel image d) P place (local_inside image none P d first) local
      ]

  pub relocation_near : (place : ℕ) → BreaksRelocation image place → place ≤ length image
  relocation_near place broken = elim broken [
    | inl sections ↦ section_near (IsBadOf image owners.Section) place sections
    | inr dysymtab ↦ dysymtab_near (IsBadOf image owners.Dysymtab) place dysymtab
  ]
