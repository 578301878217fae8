-- The relocations of an image, one table after the other.
use Rattle.std.proofs.Common.{◌≡◌, ◌∙◌, ◌↔◌, ℕ, ◌+◌, ◌*◌, ◌≤◌, ◌<◌, ◌⊎◌, List, [], ◌∷◌, ◌++◌, length, Contains, Option, None, Some, refl, sym, ap, subst, arith, lit<, inl, inr}
use Rattle.std.proofs.lemmas.Bool.{cases_lt}
use Rattle.std.proofs.lemmas.List.Elements.{Contains-append_right}
use Rattle.macho_fields.specs.FirstPlace.{IsLeastPlace}
use Rattle.macho_fields.specs.Image.{commands_of, with_cmd}
use Rattle.macho_fields.specs.Layers.{NothingBreaks}
use Rattle.macho_fields.specs.LoadCommands.{table_fields, external_relocations, local_relocations}
use Rattle.macho_fields.specs.Rules.{BreaksImage}
use Rattle.macho_fields.specs.Segment.{reloff, nreloc}
use Rattle.macho_fields.specs.Symbol.{table_at, extreloff, nextrel, locreloff, nlocrel}
use Rattle.macho_fields.specs.declared.header.loader.TheConstants as loader
use Rattle.macho_fields.specs.declared.load_command.Structure.TheVariants as structure
use Rattle.macho_fields.specs.declared.load_command.TableFields.{TableFields}
use Rattle.macho_fields.specs.declared.rule.Rule.TheVariants as rule
use Rattle.macho_fields.proofs.Lists.{any_of, contains_first}
use Rattle.macho_image.specs.Command.{first_with_cmd}
use Rattle.macho_image.specs.Segment.{SectionView, section_at, sections_of}
use Rattle.macho_rules.proofs.Judged.{opened_commands}
use Rattle.macho_rules.proofs.OneCommand.{first_is, is_with_cmd, none_with_cmd}
use Rattle.macho_rules.proofs.Searches.{mapped_has, one_of}
use Rattle.macho_rules.proofs.SectionItems.{AreSections, section_rule_breaks}
use Rattle.macho_rules.proofs.Surveys.{walked}
use Rattle.macho_rules.proofs.TableItems.{table_inside}
use Rattle.macho_rules.proofs.Verdicts.{unbroken_opened}
use Rattle.macho_symbols.specs.Reloc.{relocation_at}
use Rattle.macho_symbols.specs.Relocations.{AtRelocation, InDysymtab, IsBadOf}
use Rattle.macho_symbols.specs.declared.reloc.Relocation.{Relocation}
use Rattle.macho_symbols.specs.declared.relocations.Owner.{Owner}
use Rattle.macho_tables.specs.Places.{lesser}
use Rattle.macho_tables.proofs.Items.{first_item}
use Rattle.macho_tables.proofs.Places.{least_joined, least_same}

-- One table

module _ (image : List ℕ) (start count : ℕ) (P : Relocation → Type 0) where
  abbrev Bad : ℕ → Type 0
  Bad k = P (relocation_at image (start + 8 * k))

  pub first_bad_at : (k : ℕ) → k < count → Bad k → ((j : ℕ) → j < k → ¬ Bad j) → IsLeastPlace (AtRelocation image start count P) (Some (start + 8 * k))
  first_bad_at k less bad none = first_item (λ j. start + 8 * j) (λ j i up. omega (arith, up)) count Bad (Some k) (less, bad, none)

  pub none_bad : ((j : ℕ) → j < count → ¬ Bad j) → IsLeastPlace (AtRelocation image start count P) None
  none_bad none = first_item (λ j. start + 8 * j) (λ j i up. omega (arith, up)) count Bad None none

-- what is found of it in the bytes of the image, by fields that were read
pub found_as : (bytes image : List ℕ) → bytes ≡ image → (start first count items : ℕ) → start ≡ first → count ≡ items → (owner : Owner) (found : Option ℕ)
    → IsLeastPlace (AtRelocation bytes start count (IsBadOf bytes owner)) found → IsLeastPlace (AtRelocation image first items (IsBadOf image owner)) found
found_as bytes image same start first count items from of owner found least =
    subst (λ these. IsLeastPlace (AtRelocation these first items (IsBadOf these owner)) found) same
    (subst (λ n. IsLeastPlace (AtRelocation bytes first n (IsBadOf bytes owner)) found) of (subst (λ p. IsLeastPlace (AtRelocation bytes p count (IsBadOf bytes owner)) found) from least))

-- Of the sections

-- a relocation of a section has P
abbrev pub AtSection : List ℕ → (Relocation → Type 0) → List ℕ → ℕ → ℕ → ℕ → Type 0
AtSection image P given segment section place = AtRelocation image (reloff given section) (nreloc given section) P place

-- a table of a section lies inside the image
module _ (image : List ℕ) (keeps : NothingBreaks (BreaksImage image None)) (all : List SectionView) (are : AreSections image all) where
  pub section_table_inside : (seen left : List SectionView) (s : SectionView) (rest : List SectionView) → all ≡ seen ++ left → left ≡ s ∷ rest
      → 0 < nreloc s.image s.place → reloff s.image s.place + 8 * nreloc s.image s.place ≤ length image
  section_table_inside seen left s rest reached is some =
      let here = walked all seen left s rest reached is in
      let has : Contains all s = subst (λ these. Contains these s) (sym here) (Contains-append_right seen (s ∷ rest) s (contains_first s rest)) in
      let (pair, among, at) = mapped_has (section_at image) (sections_of image (commands_of image)) s (subst (λ these. Contains these s) are has) in
      let same : image ≡ s.image = ap (λ (t : SectionView). t.image) at in
      elim (cases_lt (length s.image) (reloff s.image s.place + 8 * nreloc s.image s.place)) [
        | inl past ↦ absurd (keeps rule.SectionRelocs s.place
            (inr (
              commands_of image,
              opened_commands image (unbroken_opened image keeps),
              (section_rule_breaks image all (unbroken_opened image keeps) are rule.SectionRelocs (λ place. (λ x. x, λ x. x))).broken s has (some, past),
            )))
        | inr fits ↦ (let size = ap length same in omega (arith, fits, size))
      ]

-- Of LC_DYSYMTAB

external_listed : Contains (table_fields structure.DysymtabCommand) external_relocations
external_listed = (4, lit< tt, refl)

local_listed : Contains (table_fields structure.DysymtabCommand) local_relocations
local_listed = (5, lit< tt, refl)

module _ (image : List ℕ) (keeps : NothingBreaks (BreaksImage image None)) (P : Relocation → Type 0) where
  abbrev OfDysymtab : ℕ → ℕ → Type 0
  OfDysymtab place d = AtRelocation image (extreloff image d) (nextrel image d) P place ⊎ AtRelocation image (locreloff image d) (nlocrel image d) P place

  pub no_dysymtab : None ≡ first_with_cmd image loader.LC_DYSYMTAB (commands_of image) → IsLeastPlace (InDysymtab image P) None
  no_dysymtab none place any =
      let (d, has, here) = one_of (OfDysymtab place) (with_cmd image loader.LC_DYSYMTAB (commands_of image)) any in
      none_with_cmd image loader.LC_DYSYMTAB (sym none) d has

  module _ (d : ℕ) (first : first_with_cmd image loader.LC_DYSYMTAB (commands_of image) ≡ Some d) where
    dysymtab_inside : (fields : TableFields) → Contains (table_fields structure.DysymtabCommand) fields
        → 0 < (table_at image d fields).1 → (table_at image d fields).0 + (table_at image d fields).1 * (table_at image d fields).2 ≤ length image
    dysymtab_inside fields listed some =
        elim (cases_lt (length image) ((table_at image d fields).0 + (table_at image d fields).1 * (table_at image d fields).2)) [
          | inl past ↦ absurd (table_inside image loader.LC_DYSYMTAB structure.DysymtabCommand d fields rule.SymbolName (lit< tt) (λ other place early. keeps other place) refl
              (is_with_cmd image loader.LC_DYSYMTAB d first) listed (some, past))
          | inr fits ↦ fits
        ]

    pub external_inside : 0 < nextrel image d → extreloff image d + 8 * nextrel image d ≤ length image
    external_inside some = let fits = dysymtab_inside external_relocations external_listed some in omega (arith, fits)

    pub local_inside : 0 < nlocrel image d → locreloff image d + 8 * nlocrel image d ≤ length image
    local_inside some = let fits = dysymtab_inside local_relocations local_listed some in omega (arith, fits)

    pub dysymtab_least : (one other : Option ℕ) → IsLeastPlace (AtRelocation image (extreloff image d) (nextrel image d) P) one
        → IsLeastPlace (AtRelocation image (locreloff image d) (nlocrel image d) P) other → IsLeastPlace (InDysymtab image P) (lesser one other)
    dysymtab_least one other external local =
        least_same (λ place. OfDysymtab place d) (InDysymtab image P) (lesser one other)
        (λ place. (
          λ here. any_of (OfDysymtab place) (with_cmd image loader.LC_DYSYMTAB (commands_of image)) d (is_with_cmd image loader.LC_DYSYMTAB d first) here,
          λ any.
              let (c, has, here) = one_of (OfDysymtab place) (with_cmd image loader.LC_DYSYMTAB (commands_of image)) any in
              let same : Some c ≡ Some d = sym (first_is image loader.LC_DYSYMTAB (unbroken_opened image keeps) refl c has) ∙ first in
              let one_command : c ≡ d = cc in subst (OfDysymtab place) one_command here,
        ))
        (least_joined (AtRelocation image (extreloff image d) (nextrel image d) P) (AtRelocation image (locreloff image d) (nlocrel image d) P) one other external local)
