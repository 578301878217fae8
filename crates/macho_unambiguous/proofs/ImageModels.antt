-- The models of an image agree.
use Rattle.std.proofs.Common.{◌≡◌, ◌≢◌, ◌==◌, ℕ, ◌+◌, ◌%◌, ◌<◌, List, Any, Contains, Option, None, Some, true, bit_and, refl, sym, ap, ◌∙◌, subst, arith, inl, inr}
use Rattle.std.specs.List.{before_first}
use Rattle.std.specs.Prelude.{IsSomeAnd}
use Rattle.std.proofs.lemmas.Bool.{cases_lt, cases_order}
use Rattle.std.proofs.lemmas.Nat.{and_mask}
use Rattle.macho_fields.proofs.Lists.{any_of}
use Rattle.macho_fields.specs.Field.{part}
use Rattle.macho_fields.specs.FileTypes.{FileTypeView, file_type_of}
use Rattle.macho_fields.specs.Image.{command_cmd, commands_of, file_type}
use Rattle.macho_fields.specs.Layers.{NothingBreaks}
use Rattle.macho_fields.specs.Rules.{BreaksImage}
use Rattle.macho_fields.specs.Segment.{all_segments, base_of, entryoff, vmsize, initprot, Supplies, source, File}
use Rattle.macho_fields.specs.declared.file_type.Kind.{Kind}
use Rattle.macho_fields.specs.declared.file_type.Kind.TheVariants as kind
use Rattle.macho_fields.specs.declared.header.loader.TheConstants as loader
use Rattle.macho_fields.specs.declared.rule.Rule.TheVariants as rule
use Rattle.macho_image.specs.Header.{IsKind}
use Rattle.macho_image.specs.Segment.{maxprot, segment_name, section_name, sections_of}
use Rattle.macho_rules.proofs.Judged.{opened_commands}
use Rattle.macho_rules.proofs.Searches.{one_of}
use Rattle.macho_rules.proofs.Verdicts.{unbroken_opened}
use Rattle.macho_readers.specs.Commands.{is_single, platform_of, BreaksCommandOnce}
use Rattle.macho_readers.specs.Entry.{is_entry, data_entries, HasByteOf, IsFilePlace, IsDataAt, SaysEntry, HasBadEntry, BreaksEntryOne}
use Rattle.macho_readers.specs.Models.{IsProtectionOf, HasOneProtection, IsSegmentOfName, HasOneSegmentOfName, HasOneCommandOfKind, HasOnePlatform, HasNames, HasNameInSegment, IsSectionOfNames, HasOneSectionOfNames, IsEntryCommand, IsEntryPlace, HasOneEntry}
use Rattle.macho_readers.specs.Sections.{segment_name_of, HasBadName, BreaksSectionName}
use Rattle.macho_readers.specs.Segments.{BreaksSegmentProtection, BreaksSegmentName}
use Rattle.macho_unambiguous.proofs.Cases.{same_number, same_list, one_place, one_end, ended}

-- Protection

masked_small : (n : ℕ) → n < 8 → bit_and n 7 ≡ n
masked_small n small = let mask : bit_and n 7 ≡ n % 8 = and_mask n 3 in omega (arith, mask, small)

module _ (image : List ℕ) (none : (place : ℕ) → ¬ BreaksSegmentProtection image place) (segment : ℕ) (has : Contains (all_segments image) segment) (mapped : 0 < vmsize image segment) where
  allowed : bit_and (initprot image segment) (maxprot image segment) ≡ initprot image segment
  allowed = same_number _ _ (λ other. none segment (has, (mapped, inl other)))

  small : initprot image segment < 8
  small = elim (cases_lt (initprot image segment) 8) [ inl less ↦ less | inr most ↦ absurd (none segment (has, (mapped, inr (omega (arith, most))))) ]

  the_protection : (answer : ℕ) → IsProtectionOf image segment answer → answer ≡ initprot image segment
  the_protection answer (inl is) = is
  the_protection answer (inr is) = is ∙ (ap (λ n. bit_and n 7) allowed ∙ masked_small (initprot image segment) small)

pub one_protection : (image : List ℕ) → ((place : ℕ) → ¬ BreaksSegmentProtection image place) → HasOneProtection image
one_protection image none segment has mapped a b is_a is_b = the_protection image none segment has mapped a is_a ∙ sym (the_protection image none segment has mapped b is_b)

-- Names of segments

module _ (image : List ℕ) (none : (place : ℕ) → ¬ BreaksSegmentName image place) (name : List ℕ) where
  abbrev Named : ℕ → Type 0
  Named segment = segment_name image segment ≡ name

  name_alone : (a b : ℕ) → Contains (all_segments image) a → Contains (all_segments image) b → Named a → Named b → a < b → ⊥
  name_alone a b in_a in_b is_a is_b less =
      none b (in_b, inr (inl (any_of (λ earlier. (earlier < b) × (segment_name image earlier ≡ segment_name image b)) (all_segments image) a in_a (less, is_a ∙ sym is_b))))

  is_named : (answer : ℕ) → IsSegmentOfName image name answer → Contains (all_segments image) answer × Named answer
  is_named answer (inl end) = ended (all_segments image) Named answer end
  is_named answer (inr first) = (first.0, first.1.0)

pub one_segment : (image : List ℕ) → ((place : ℕ) → ¬ BreaksSegmentName image place) → HasOneSegmentOfName image
one_segment image none name a b is_a is_b = one_place (all_segments image) (Named image none name) (name_alone image none name) a b (is_named image none name a is_a) (is_named image none name b is_b)

-- Commands of one kind

module _ (image : List ℕ) (none : (place : ℕ) → ¬ BreaksCommandOnce image place) where
  pub one_kind : HasOneCommandOfKind image
  one_kind cmd single = one_end (commands_of image) (λ command. command_cmd image command ≡ cmd) (λ a b in_a in_b is_a is_b less.
      none b (in_b, inl (ap is_single is_b ∙ single, any_of (λ earlier. (earlier < b) × (command_cmd image earlier ≡ command_cmd image b)) (commands_of image) a in_a (less, is_a ∙ sym is_b))))

  pub one_platform : HasOnePlatform image
  one_platform platform = one_end (commands_of image) (λ command. platform_of image command ≡ Some platform) (λ a b in_a in_b is_a is_b less.
      none b (
        in_b,
        inr (subst (λ (o : Option ℕ). IsSomeAnd o (λ (p : ℕ). Any (λ earlier. (earlier < b) × (platform_of image earlier ≡ Some p)) (commands_of image))) (sym is_b)
            (any_of (λ earlier. (earlier < b) × (platform_of image earlier ≡ Some platform)) (commands_of image) a in_a (less, is_a))),
      ))

-- Names of sections

module _ (image : List ℕ) (none : (place : ℕ) → ¬ BreaksSectionName image place) (segment name : List ℕ) where
  abbrev all : List (ℕ × ℕ)
  all = sections_of image (commands_of image)

  kept : (section : ℕ × ℕ) → Contains all section → ¬ HasBadName image section
  kept section has bad = none section.1 (any_of (λ (s : ℕ × ℕ). (section.1 ≡ s.1) × HasBadName image s) all section has (refl, bad))

  names_alone : (a b : ℕ × ℕ) → Contains all a → Contains all b → HasNames image segment name a → HasNames image segment name b → a.1 < b.1 → ⊥
  names_alone a b in_a in_b is_a is_b less =
      kept b in_b (inr (inr (any_of (λ (earlier : ℕ × ℕ). (earlier.1 < b.1) × (section_name image earlier.1 ≡ section_name image b.1) × (segment_name_of image earlier.1 ≡ segment_name_of image b.1)) all a in_a
      (less, is_a.0 ∙ sym is_b.0, is_a.1 ∙ sym is_b.1))))

  own_names : (section : ℕ × ℕ) → Contains all section → HasNameInSegment image segment name section → HasNames image segment name section
  own_names section has (is, in_segment) =
      let same : part (section.1 + 16) 16 image ≡ part (section.0 + 8) 16 image = same_list _ _ (λ other. kept section has (inr (inl other))) in
      (is, ap (before_first (λ b. b == 0)) same ∙ in_segment)

  abbrev IsNamed : ℕ → Type 0
  IsNamed place = (section : ℕ × ℕ) × (place ≡ section.1) × Contains all section × HasNames image segment name section

  has_names : (answer : ℕ) → IsSectionOfNames image segment name answer → IsNamed answer
  has_names answer (inl (section, at, has, is, _)) = (section, at, has, is)
  has_names answer (inr (inl (section, at, has, is, _))) = (section, at, has, is)
  has_names answer (inr (inr (inl (section, at, has, is, _)))) = (section, at, has, own_names section has is)
  has_names answer (inr (inr (inr (inl (section, at, has, is, _))))) = (section, at, has, own_names section has is)
  has_names answer (inr (inr (inr (inr (section, at, has, is, _))))) = (section, at, has, is.0)

  one_named : (a b : ℕ) → IsNamed a → IsNamed b → a ≡ b
  one_named a b (s, at_s, in_s, is_s) (t, at_t, in_t, is_t) = elim (cases_order s.1 t.1) [
    | inl same ↦ at_s ∙ (same ∙ sym at_t)
    | inr (inl less) ↦ absurd (names_alone s t in_s in_t is_s is_t less)
    | inr (inr less) ↦ absurd (names_alone t s in_t in_s is_t is_s less)
  ]

pub one_section : (image : List ℕ) → ((place : ℕ) → ¬ BreaksSectionName image place) → HasOneSectionOfNames image
one_section image none segment name a b is_a is_b = one_named image none segment name a b (has_names image none segment name a is_a) (has_names image none segment name b is_b)

-- The entry

module _ (image : List ℕ) (keeps : NothingBreaks (BreaksImage image None)) where
  segment_at_address : (a b address : ℕ) → Contains (all_segments image) a → Contains (all_segments image) b → Supplies image a address → Supplies image b address → a < b → ⊥
  segment_at_address a b address has_a has_b in_a in_b less =
      keeps rule.SegmentOverlap b (inr (
        commands_of image,
        opened_commands image (unbroken_opened image keeps),
        (has_b, any_of (λ earlier. (earlier < b) × ((at : ℕ) × Supplies image earlier at × Supplies image b at)) (all_segments image) a has_a (less, (address, in_a, in_b))),
      ))

  one_file_place : (address p q : ℕ) → IsFilePlace image address p → IsFilePlace image address q → p ≡ q
  one_file_place address p q at_p at_q =
      let (s, in_s, (supplies_s, is_p)) = one_of (HasByteOf image address p) (all_segments image) at_p in
      let (t, in_t, (supplies_t, is_q)) = one_of (HasByteOf image address q) (all_segments image) at_q in
      elim (cases_order s t) [
        | inl same ↦ (let files : File p ≡ File q = sym is_p ∙ (ap (λ x. source image x address) same ∙ is_q) in cc)
        | inr (inl less) ↦ absurd (segment_at_address s t address in_s in_t supplies_s supplies_t less)
        | inr (inr less) ↦ absurd (segment_at_address t s address in_t in_s supplies_t supplies_s less)
      ]

  from_base : (offset p q : ℕ) (base : Option ℕ) → IsSomeAnd base (λ b. IsFilePlace image (b + offset) p) → IsSomeAnd base (λ b. IsFilePlace image (b + offset) q) → p ≡ q
  from_base offset p q None at_p at_q = absurd at_p
  from_base offset p q (Some b) at_p at_q = one_file_place (b + offset) p q at_p at_q

is_execute : (k : Kind) → ¬ (k ≢ kind.Execute) → k ≡ kind.Execute
is_execute kind.Execute none = refl
is_execute kind.Dylib none = absurd (none (λ is. cc))
is_execute kind.Bundle none = absurd (none (λ is. cc))

executed : (listed : Option FileTypeView) → ¬ (¬ IsSomeAnd listed (λ l. l.kind ≡ kind.Execute)) → IsSomeAnd listed (λ l. l.kind ≡ kind.Execute)
executed None none = absurd (none (λ wrong. wrong))
executed (Some l) none = is_execute l.kind none

module _ (image : List ℕ) (keeps : NothingBreaks (BreaksImage image None)) (none : (place : ℕ) → ¬ BreaksEntryOne image place) where
  abbrev Enters : ℕ → Type 0
  Enters command = is_entry (command_cmd image command) ≡ true

  entry_alone : (a b : ℕ) → Contains (commands_of image) a → Contains (commands_of image) b → Enters a → Enters b → a < b → ⊥
  unfolding HasBadEntry
  entry_alone a b in_a in_b is_a is_b less = none b (in_b, (is_b, inl (inl (any_of (λ earlier. (earlier < b) × (is_entry (command_cmd image earlier) ≡ true)) (commands_of image) a in_a (less, is_a)))))

  module _ (command : ℕ) (is : IsEntryCommand image command) where
    in_program : IsKind image kind.Execute
    unfolding HasBadEntry
    in_program = let (has, enters) = ended (commands_of image) Enters command is in executed (file_type_of (file_type image)) (λ other. none command (has, (enters, inl (inr other))))

    in_code : (address : ℕ) → SaysEntry image command address → ¬ IsDataAt image (data_entries image) address
    unfolding HasBadEntry
    in_code address says shown = let (has, enters) = ended (commands_of image) Enters command is in none command (has, (enters, inr (inr (address, says, shown))))

    at_offset : command_cmd image command ≡ loader.LC_MAIN → (answer : ℕ) → IsEntryPlace image command answer → answer ≡ entryoff image command
    unfolding HasBadEntry
    at_offset main answer (inr same) = same
    at_offset main answer (inl there) =
        let (has, enters) = ended (commands_of image) Enters command is in
        same_number answer (entryoff image command) (λ other. none command (
          has,
          (
            enters,
            inr (inl (
              main,
              λ begins.
                  other (from_base image keeps (entryoff image command) answer (entryoff image command) (base_of image (commands_of image)) there begins),
            )),
          ),
        ))

  pub one_entry : HasOneEntry image
  one_entry = record {
    one = one_end (commands_of image) Enters entry_alone;
    program = in_program;
    place = λ main is cmd a b is_a is_b. at_offset main is cmd a is_a ∙ sym (at_offset main is cmd b is_b);
    code = λ command address is says. in_code command is address says;
  }
