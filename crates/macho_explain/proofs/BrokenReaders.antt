-- What the rules of the unambiguous profile are about is there, where the rules are broken.
use Rattle.std.proofs.Common.{◌≡◌, ◌∙◌, ℕ, ◌+◌, ◌<◌, ◌⊎◌, ◌==◌, List, Any, Contains, Option, None, Some, true, false, length, ap, arith, inl, inr, refl, subst, sym}
use Rattle.std.specs.Prelude.{MatchOption, ⊤}
use Rattle.std.proofs.lemmas.Bool.{cases_Bool, eqb-true, eq-eqb, false≢true, le-leb}
use Rattle.macho_fields.proofs.Lists.{any_of}
use Rattle.macho_fields.proofs.Opened.{command_inside, structure_inside}
use Rattle.macho_fields.proofs.Options.{some_of}
use Rattle.macho_fields.specs.Field.{field, number}
use Rattle.macho_fields.specs.First.{rank}
use Rattle.macho_fields.specs.Image.{command_cmd, commands_of, word}
use Rattle.macho_fields.specs.Layers.{KeptBelow, NothingBreaks}
use Rattle.macho_fields.specs.LoadCommands.{structure_of}
use Rattle.macho_fields.specs.Rules.{BreaksFile, BreaksImage}
use Rattle.macho_fields.specs.Segment.{all_segments, sections_in, segments_of}
use Rattle.macho_fields.specs.declared.bytes.Order.TheVariants.{Big, Little}
use Rattle.macho_fields.specs.declared.header.fat.TheConstants as fat
use Rattle.macho_fields.specs.declared.header.loader.TheConstants as loader
use Rattle.macho_fields.specs.declared.load_command.Structure.TheVariants.{BuildVersionCommand}
use Rattle.macho_fields.specs.declared.rule.Rule.TheVariants as rule
use Rattle.macho_image.specs.Opened.{IsOpened}
use Rattle.macho_image.specs.Segment.{sections_of}
use Rattle.macho_rows.specs.Loads.{version_min_platform}
use Rattle.macho_rules.proofs.Judged.{opened_commands, opened_facts}
use Rattle.macho_rules.proofs.Mapped.{filtered}
use Rattle.macho_rules.proofs.Searches.{one_of}
use Rattle.macho_rules.proofs.Verdicts.{unbroken_opened}
use Rattle.macho_readers.proofs.NamedSections.{of_segments}
use Rattle.macho_readers.specs.Commands.{is_single, platform_of, BreaksBytesEncrypted, BreaksCommandOnce}
use Rattle.macho_readers.specs.Files.{BreaksFatCount, BreaksFatHeader, BreaksFatPage, IsOffPages, IsOtherEntry}
use Rattle.macho_readers.specs.Order.{BreaksNumberShift, IsEager}
use Rattle.macho_readers.specs.Sections.{AtSection}
use Rattle.macho_explain.specs.Commanded.{HasEarlier, HasSection}
use Rattle.macho_explain.specs.Compared.{HasCommand, HasCount, HasSegment}
use Rattle.macho_explain.specs.Entries.{HasEntry, HasEntryWith}
use Rattle.macho_explain.specs.Explain.{all_loads, platform_shown, IsUncounted}
use Rattle.macho_explain.specs.Readers.{HasLaterLibrary, HasLaterSegment, IsOfSameKind, IsOffItsPages}
use Rattle.macho_explain.specs.Wholes.{Opens}
use Rattle.macho_explain.proofs.BrokenFiles.{entry, entry_with}
use Rattle.macho_explain.proofs.BrokenImages.{command, section, segment}
use Rattle.macho_explain.proofs.Sought.{segment_cmd}

-- Entries of a universal file

pub fat_count : (file : List ℕ) (place : ℕ) → BreaksFatCount file place → HasCount file place
fat_count file place (at, (header, magic, many)) =
    let same : (number Big 4 file 0 == fat.FAT_MAGIC) ≡ true = eq-eqb _ _ magic in
    (at, (omega (arith, header), rw same refl))

module _ (file : List ℕ) (keeps : NothingBreaks (BreaksFile file)) where
  kept : KeptBelow (BreaksFile file) (rank rule.FatOverlap)
  kept r place less = keeps r place

  pub fat_header : (place : ℕ) → BreaksFatHeader file place → HasEntry file place
  fat_header place broken = entry file (rank rule.FatOverlap) (omega arith) kept (IsOtherEntry file) place broken

  pub fat_page : (place : ℕ) → BreaksFatPage file place → HasEntryWith IsOffItsPages file place
  fat_page place broken =
      let (has, (k, less, at, off)) = entry_with file (rank rule.FatOverlap) (omega arith) kept IsOffPages place broken in
      (has, (k, less, at, off.1))

module _ (image : List ℕ) (few : ¬ IsUncounted image) (keeps : NothingBreaks (BreaksImage image None)) where
  kept_image : KeptBelow (BreaksImage image None) (rank rule.Entry)
  kept_image r place less = keeps r place

  pub opens : Opens image
  opens (r, place, before, broken) = keeps r place broken

  pub command_there : (place : ℕ) → Contains (commands_of image) place → HasCommand image place
  command_there = command image few (rank rule.Entry) (omega arith) kept_image

  pub segment_there : (place : ℕ) → Contains (all_segments image) place → HasSegment image place
  segment_there = segment image few (rank rule.Entry) (omega arith) kept_image

  pub section_there : (P : ℕ × ℕ → Type 0) (place : ℕ) → AtSection image P place → HasSection image place
  section_there P place any =
      let (pair, among, (at, has)) = one_of (λ (s : ℕ × ℕ). (place ≡ s.1) × P s) (sections_of image (commands_of image)) any in
      let (of, its) = of_segments image (segments_of image (commands_of image)) pair among in
      section image few (rank rule.Entry) (omega arith) kept_image (λ s p. ⊤) place
      (any_of (λ s. Contains (sections_in image s) place × ⊤) (segments_of image (commands_of image)) pair.0 of (subst (Contains (sections_in image pair.0)) (sym at) its, tt))

  -- by its cmd
  segment_of : (place : ℕ) → Contains (commands_of image) place → command_cmd image place ≡ loader.LC_SEGMENT_64 → HasSegment image place
  segment_of place has is =
      segment_there place (filtered (λ c. command_cmd image c == loader.LC_SEGMENT_64) (commands_of image) place has (eq-eqb (command_cmd image place) loader.LC_SEGMENT_64 is))

  pub bytes_encrypted : (place : ℕ) → BreaksBytesEncrypted image place → HasSegment image place ⊎ (HasCommand image place × (command_cmd image place ≡ loader.LC_ENCRYPTION_INFO_64))
  bytes_encrypted place (has, inl range) = inr (command_there place has, range.0)
  bytes_encrypted place (has, inr protected) = inl (segment_of place has protected.0)

  -- an earlier command
  earlier_there : (P : ℕ → Type 0) (place : ℕ) → Any (λ earlier. (earlier < place) × P earlier) (commands_of image) → HasEarlier (all_loads image) P place
  earlier_there P place any =
      let (earlier, among, (less, has)) = one_of (λ e. (e < place) × P e) (commands_of image) any in
      let (few_too, k, at) = command_there earlier among in
      (k, earlier, at, less, has)

  late_library : (place : ℕ) → command_cmd image place ≡ loader.LC_LAZY_LOAD_DYLIB → Any (λ later. (place < later) × IsEager (command_cmd image later)) (commands_of image)
      → HasCommand image place → (HasCommand image place × ¬ HasSegment image place) × HasLaterLibrary image place
  late_library place lazy any has =
      let (later, among, (less, eager)) = one_of (λ l. (place < l) × IsEager (command_cmd image l)) (commands_of image) any in
      let (few_too, k, at) = command_there later among in
      ((has, λ (command, j, there). let is = segment_cmd image j place there in omega (arith, lazy, is)), (k, later, at, less, eager))

  pub number_shift : (place : ℕ) → BreaksNumberShift image place
      → (HasSegment image place × (HasLaterSegment image place ⊎ Opens image)) ⊎ ((HasCommand image place × ¬ HasSegment image place) × HasLaterLibrary image place)
  number_shift place (inl (has, inl unmapped)) = inl (segment_of place has unmapped.0, inr opens)
  number_shift place (inl (has, inr (lazy, later))) = inr (late_library place lazy later (command_there place has))
  number_shift place (inr (has, shifts)) = inl (segment_there place has, inr opens)

  -- the platform of a command of the image
  same_platform : (place : ℕ) → Contains (commands_of image) place → platform_shown image place ≡ platform_of image place
  same_platform place has =
      let image_opens : IsOpened image = unbroken_opened image keeps in
      let facts = opened_facts image image_opens in
      let are = opened_commands image image_opens in
      elim (cases_Bool (command_cmd image place == loader.LC_BUILD_VERSION)) [
        | inl build ↦
            let its : structure_of (command_cmd image place) ≡ Some BuildVersionCommand = ap structure_of (eqb-true (command_cmd image place) loader.LC_BUILD_VERSION build) in
            let whole = structure_inside image (commands_of image) facts are place BuildVersionCommand has its in
            let inside = command_inside image (commands_of image) facts are place has in
            let read : field Little 4 image (place + 8) ≡ Some (word image (place + 8)) = rw (le-leb (place + 8 + 4) (length image) (omega (arith, whole, inside))) refl in
            rw build read
        | inr other ↦ rw other refl
      ]

  -- a command of a kind that readers expect once has none
  other_than : (cmd n : ℕ) → is_single cmd ≡ true → is_single n ≡ false → (cmd == n) ≡ false
  other_than cmd n is not = elim (cases_Bool (cmd == n)) [
    | inl same ↦ absurd (false≢true (sym not ∙ (ap is_single (sym (eqb-true cmd n same)) ∙ is)))
    | inr other ↦ other
  ]

  no_version : (cmd : ℕ) → is_single cmd ≡ true → version_min_platform cmd ≡ None
  no_version cmd is = rw (other_than cmd 36 is refl) (rw (other_than cmd 37 is refl) (rw (other_than cmd 47 is refl) (rw (other_than cmd 48 is refl) refl)))

  single_has_none : (place : ℕ) → is_single (command_cmd image place) ≡ true → platform_shown image place ≡ None
  single_has_none place is = rw (other_than (command_cmd image place) 50 is refl) (no_version (command_cmd image place) is)

  of_kind : (place : ℕ) (platform : Option ℕ) (other : ℕ) → platform_shown image place ≡ platform
      → MatchOption platform (command_cmd image other ≡ command_cmd image place) (λ p. platform_shown image other ≡ Some p) → IsOfSameKind image place other
  of_kind place platform other is has = subst (λ (o : Option ℕ). MatchOption o (command_cmd image other ≡ command_cmd image place) (λ p. platform_shown image other ≡ Some p)) (sym is) has

  pub command_once : (place : ℕ) → BreaksCommandOnce image place → HasCommand image place × HasEarlier (all_loads image) (IsOfSameKind image place) place
  command_once place (has, inl (single, repeats)) =
      let (k, earlier, at, less, same) = earlier_there (λ e. command_cmd image e ≡ command_cmd image place) place repeats in
      (command_there place has, (k, earlier, at, less, of_kind place None earlier (single_has_none place single) same))
  command_once place (has, inr repeats) =
      let (p, is, any) = some_of (λ q. Any (λ e. (e < place) × (platform_of image e ≡ Some q)) (commands_of image)) (platform_of image place) repeats in
      let (earlier, among, (less, same)) = one_of (λ e. (e < place) × (platform_of image e ≡ Some p)) (commands_of image) any in
      let (few_too, k, at) = command_there earlier among in
      (command_there place has, (k, earlier, at, less, of_kind place (Some p) earlier (same_platform place has ∙ is) (same_platform earlier among ∙ same)))
