-- The commands of an opened image that have encrypted ranges.
use Rattle.std.proofs.Common.{◌≡◌, ◌==◌, ℕ, ◌+◌, ◌≤◌, ◌<◌, ◌⊎◌, List, ◌∷◌, map, length, true, false, Any, Contains, Option, None, Some, MatchOption, refl, sym, ap, ◌∙◌, subst, arith, inl, inr}
use Rattle.std.specs.Option.{is_some}
use Rattle.std.specs.Prelude.{IsPermutation}
use Rattle.std.proofs.lemmas.Bool.{eq-eqb, lt-ltb, false≢true, true≢false}
use Rattle.std.proofs.lemmas.List.{get_or_default}
use Rattle.std.proofs.lemmas.List.Sorted.{Contains-permutation, IsPermutation-sym}
use Rattle.macho_fields.specs.Image.{command_cmd, commands_end, commands_of, with_cmd}
use Rattle.macho_fields.specs.Segment.{fileoff, filesize}
use Rattle.macho_fields.specs.declared.header.loader.TheConstants as loader
use Rattle.macho_fields.specs.declared.load_command.Structure.TheVariants.{EncryptionInfoCommand64}
use Rattle.macho_fields.specs.declared.rule.Rule.TheVariants as rule
use Rattle.macho_fields.proofs.FirstPlaces.{AreBreaks}
use Rattle.macho_fields.proofs.Lists.{contains_mapped}
use Rattle.macho_fields.proofs.LoadCommands.{structure_by_cmd}
use Rattle.macho_fields.proofs.Opened.{command_inside, structure_inside}
use Rattle.macho_fields.proofs.Parts.{with_cmd_is, with_cmd_among}
use Rattle.macho_image.specs.Command.{CommandView, command_at}
use Rattle.macho_image.specs.Opened.{IsOpened, IsCommandOf}
use Rattle.macho_rules.proofs.Judged.{opened_facts, opened_commands}
use Rattle.macho_rules.proofs.Mapped.{filtered}
use Rattle.macho_rules.proofs.Searches.{unfiltered, mapped_has, any_of, one_of, ordered_map, Rising, Searching, search_all, first_among, are_breaks_at}
use Rattle.macho_rules.proofs.SegmentItems.{commands_rise}
use Rattle.macho_spans.specs.Span.{Holds, IsInside}
use Rattle.macho_spans.specs.declared.span.Span.{Span}
use Rattle.macho_strict.specs.Disjoint.{IsHolding}
use Rattle.macho_strict.specs.Encrypted.{IsEncrypted, encrypted_span}
use Rattle.macho_strict.specs.Passed.{occupied}
use Rattle.macho_strict.specs.Rules.{all_segments, cryptsize, HasBytes, HasMisplacedRange, BreaksStrictImage}
use Rattle.macho_strict.specs.Verdict.{file_parts, HasEncrypted}
use Rattle.macho_strict.proofs.Occupied.{has_place}
use Rattle.macho_strict.proofs.Passed.{no_span}

-- the structure of such a command lies in the image
pub encryption_inside : (image : List ℕ) (command : CommandView) → IsCommandOf image command → command.cmd ≡ loader.LC_ENCRYPTION_INFO_64 → command.place + 24 ≤ length image
encryption_inside image command judged is =
    let same : command_cmd image command.place ≡ loader.LC_ENCRYPTION_INFO_64 = sym (ap (λ (c : CommandView). c.cmd) judged.same) ∙ is in
    let listed = structure_by_cmd image command.place loader.LC_ENCRYPTION_INFO_64 (Some EncryptionInfoCommand64) same refl in
    let facts = opened_facts image judged.opened in
    let are = opened_commands image judged.opened in
    let whole = structure_inside image (commands_of image) facts are command.place EncryptionInfoCommand64 judged.listed listed in
    let inside = command_inside image (commands_of image) facts are command.place judged.listed in
    omega arith

-- a command has an encrypted range that is misplaced
abbrev pub HasMisplaced : List ℕ → CommandView → Type 0
HasMisplaced image command = (command.cmd ≡ loader.LC_ENCRYPTION_INFO_64) × HasMisplacedRange image command.place

module _ (image : List ℕ) (all : List CommandView) (opened : IsOpened image) (are : all ≡ map (command_at image) (commands_of image)) where
  pub commands_search : (P : CommandView → Type 0) → Searching (λ v. v.place) P all all
  commands_search P =
      search_all (λ v. v.place) P all (subst (Rising (λ v. v.place)) (sym are) (ordered_map (λ (v w : CommandView). v.place ≤ w.place) (command_at image) (commands_of image) (commands_rise image opened)))

  judged : (v : CommandView) → Contains all v → IsCommandOf image v
  judged v has =
      let (p, among, at) = mapped_has (command_at image) (commands_of image) v (subst (λ these. Contains these v) are has) in
      subst (IsCommandOf image) at (record { opened = opened; listed = among; same = refl })

  -- a command that is left is one of the image
  pub judged_left : (P : CommandView → Type 0) (left rest : List CommandView) (v : CommandView) → left ≡ v ∷ rest → Searching (λ w. w.place) P all left → IsCommandOf image v
  judged_left P left rest v is search = judged v (first_among (λ w. w.place) P all left rest v is search)

  abbrev encryptions : List ℕ
  encryptions = with_cmd image loader.LC_ENCRYPTION_INFO_64 (commands_of image)

  listed_at : (p : ℕ) → Contains (commands_of image) p → command_cmd image p ≡ loader.LC_ENCRYPTION_INFO_64 → Contains encryptions p
  listed_at p has is = filtered (λ c. command_cmd image c == loader.LC_ENCRYPTION_INFO_64) (commands_of image) p has (eq-eqb (command_cmd image p) loader.LC_ENCRYPTION_INFO_64 is)

  -- whether some command has an encrypted range
  pub some_encrypted : (v : CommandView) → IsCommandOf image v → IsEncrypted image v → HasEncrypted image
  some_encrypted v from (is, more) =
      any_of (λ command. 0 < cryptsize image command) encryptions v.place (listed_at v.place from.listed (sym (ap (λ (c : CommandView). c.cmd) from.same) ∙ is)) more

  pub of_encrypted : HasEncrypted image → (v : CommandView) × Contains all v × IsEncrypted image v
  of_encrypted any =
      let (p, has, more) = one_of (λ command. 0 < cryptsize image command) encryptions any in (
        command_at image p,
        subst (λ these. Contains these (command_at image p)) (sym are) (contains_mapped (command_at image) (commands_of image) p (with_cmd_among image (commands_of image) loader.LC_ENCRYPTION_INFO_64 p has)),
        (with_cmd_is image (commands_of image) loader.LC_ENCRYPTION_INFO_64 p has, more),
      )

  -- what breaks the rule
  pub encryptions_break : AreBreaks (BreaksStrictImage image rule.EncryptedRange) (λ v. v.place) (HasMisplaced image) all
  encryptions_break =
      subst (AreBreaks (BreaksStrictImage image rule.EncryptedRange) (λ v. v.place) (HasMisplaced image)) (sym are)
      (are_breaks_at (BreaksStrictImage image rule.EncryptedRange) (λ (v : CommandView). v.place) (HasMisplaced image) (command_at image) (commands_of image)
      (λ p has here. (listed_at p has here.0, here.1))
      (λ p broken. (p, with_cmd_among image (commands_of image) loader.LC_ENCRYPTION_INFO_64 p broken.0, (with_cmd_is image (commands_of image) loader.LC_ENCRYPTION_INFO_64 p broken.0, broken.1), refl)))

-- the bytes of a range are the bytes of a segment, where its file part has them
module _ (image : List ℕ) (range : Span) where
  abbrev part_at : ℕ → Span
  part_at segment = record { start = fileoff image segment; len = filesize image segment }

  abbrev Has : ℕ → Type 0
  Has segment = HasBytes image range.start (range.start + range.len) segment

  pub segment_has : Any (λ span. IsInside range span) (file_parts image) → Any Has (all_segments image)
  segment_has any =
      let (span, has, inside) = one_of (λ span. IsInside range span) (file_parts image) any in
      let (segment, among, at) = mapped_has part_at (all_segments image) span has in
      any_of Has (all_segments image) segment among (subst (λ (s : Span). IsInside range s) (sym at) inside)

  pub part_has : Any Has (all_segments image) → Any (λ span. IsInside range span) (file_parts image)
  part_has any =
      let (segment, among, here) = one_of Has (all_segments image) any in
      any_of (λ span. IsInside range span) (file_parts image) (part_at segment) (contains_mapped part_at (all_segments image) segment among) here

-- the parts that have bytes have the range if some file part has it
module _ (image : List ℕ) (parts : List Span) (moved : IsPermutation (occupied (file_parts image)) parts) (range : Span) where
  pub parts_have : 0 < range.len → Any (IsInside range) (file_parts image) → Any (IsInside range) parts
  parts_have some any =
      let (span, has, inside) = one_of (IsInside range) (file_parts image) any in
      any_of (IsInside range) parts span (Contains-permutation (occupied (file_parts image)) parts span moved (filtered has_place (file_parts image) span has (lt-ltb 0 span.len (omega (arith, some, inside))))) inside

  pub files_have : Any (IsInside range) parts → Any (IsInside range) (file_parts image)
  files_have any =
      let (span, has, inside) = one_of (IsInside range) parts any in
      any_of (IsInside range) (file_parts image) span
      (unfiltered has_place (file_parts image) span (Contains-permutation parts (occupied (file_parts image)) span (IsPermutation-sym (occupied (file_parts image)) parts moved) has)) inside

-- the range lies in the one of the parts that holds its first place, if in any
pub one_has : (parts : List Span) (range part : Span) → 0 < range.len → IsHolding parts range.start (Some part) → Any (IsInside range) parts → IsInside range part
one_has parts range part some (has, held, only) any =
    let (span, among, inside) = one_of (IsInside range) parts any in
    subst (IsInside range) (only span among (inside.0, omega (arith, some, inside.1))) inside

pub none_has_it : (parts : List Span) (range : Span) → 0 < range.len → IsHolding parts range.start None → ¬ Any (IsInside range) parts
none_has_it parts range some none any =
    let (span, (k, less, at), inside) = one_of (IsInside range) parts any in
    none k (subst (λ (s : Span). Holds s range.start) (sym (get_or_default parts k no_span span less ∙ at)) (inside.0, omega (arith, some, inside.1)))

-- a range begins in the headers, or no file part has it
abbrev pub LiesOutside : List ℕ → Span → Type 0
LiesOutside image range = (range.start < commands_end image) ⊎ ¬ Any (λ span. IsInside range span) (file_parts image)

module _ (image : List ℕ) (v : CommandView) (range : Span) (has : IsEncrypted image v) (is : range ≡ encrypted_span image v.place) where
  pub is_misplaced : LiesOutside image range → HasMisplaced image v
  is_misplaced outside = (
    has.0,
    (
      has.1,
      elim (subst (LiesOutside image) is outside) [
        | inl early ↦ inl early
        | inr none ↦ inr (λ any. none (part_has image (encrypted_span image v.place) any))
      ],
    ),
  )

  pub not_misplaced : commands_end image ≤ range.start → Any (λ span. IsInside range span) (file_parts image) → ¬ HasMisplaced image v
  not_misplaced after inside (_, (_, wrong)) = elim wrong [
    | inl early ↦ let same = ap (λ (s : Span). s.start) is in omega arith
    | inr none ↦ none (segment_has image (encrypted_span image v.place) (subst (λ (s : Span). Any (λ span. IsInside s span) (file_parts image)) is inside))
  ]

-- what was found of a command, or not
module _ {X : Type 0} (A : Type 0) (P : X → Type 0) where
  pub found_has : (o : Option X) → MatchOption o (¬ A) (λ x. A × P x) → is_some o ≡ true → A
  found_has None is some = absurd (false≢true some)
  found_has (Some x) is some = is.0

  pub none_has : (o : Option X) → MatchOption o (¬ A) (λ x. A × P x) → is_some o ≡ false → ¬ A
  none_has None is none = is
  none_has (Some x) is none = absurd (true≢false none)
