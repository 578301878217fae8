-- What one walk over the segments of an image and their sections finds, and one over its symbols.
use Rattle.std.specs.Prelude.{◌≡◌, ◌≢◌, ℕ, ◌+◌, ◌-◌, ◌^◌, ◌≤◌, ◌<◌, ◌⊎◌, ◌↔◌, min, List, length, map, find, [], ◌∷◌, Contains, Option, None, Some}
use Rattle.std.specs.List.{AllByRecursion}
use Rattle.std.specs.Option.{option_map}
use Rattle.macho_fields.specs.Field.{HasZero}
use Rattle.macho_fields.specs.FirstPlace.{IsFirstOf, IsNoted, IsLeastPlace}
use Rattle.macho_fields.specs.Image.{commands_of}
use Rattle.macho_fields.specs.Rules.{BreaksCommands, BreaksImage}
use Rattle.macho_fields.specs.Segment.{all_segments, vmaddr, shows_start, base_of, section_count, PassesLastAddress, IsLongerInFile, PassesImage, OverlapsEarlier, IsOutsideMemory, IsMisplaced, HasRelocsOutside, AtSection}
use Rattle.macho_spans.specs.SpanOrder.{IsOrderOf}
use Rattle.macho_fields.specs.Symbol.{stroff, strsize, IsSectionType}
use Rattle.macho_fields.specs.declared.header.loader.TheConstants as loader
use Rattle.macho_fields.specs.declared.rule.Rule.{Rule}
use Rattle.macho_fields.specs.declared.rule.Rule.TheVariants as rule
use Rattle.macho_spans.specs.declared.span.Span.{Span}
use Rattle.macho_image.specs.Command.{first_with_cmd}
use Rattle.macho_image.specs.Opened.{IsOpened}
use Rattle.macho_image.specs.Segment.{SegmentView, SectionView, segment_at, section_at}
use Rattle.macho_image.specs.declared.symbol.Symbol.{Symbol}
use Rattle.macho_image.specs.Mapped.{mapped_among}
use Rattle.macho_rules.specs.Mapped.{memory_at, mapped_segments, tagged_memory}
use Rattle.macho_rules.specs.declared.survey.SegmentBreaks.{SegmentBreaks}
use Rattle.macho_rules.specs.declared.survey.SectionBreaks.{SectionBreaks}
use Rattle.macho_rules.specs.declared.survey.Mapped.{Mapped}

-- no item is past the place
abbrev pub EndBy : {X : Type 0} → (X → ℕ) → List X → ℕ → Type 0
EndBy {X = X} place items p = (x : X) → Contains items x → place x ≤ p

-- the addresses of the mapped segments, each with the place of its command
abbrev pub memory_among : List SegmentView → List (Span × ℕ)
memory_among segments =
    map (λ s. (memory_at s.image s.place, s.place)) (mapped_among segments)

-- the segment breaks the rule, which is one of segments
abbrev pub BreaksSegment : Rule → SegmentView → Type 0
BreaksSegment rule.SegmentAddress s = PassesLastAddress s.image s.place
BreaksSegment rule.SegmentSize s = IsLongerInFile s.image s.place
BreaksSegment rule.SegmentFile s = PassesImage s.image s.place
BreaksSegment rule.SegmentOverlap s = OverlapsEarlier s.image (commands_of s.image) s.place
BreaksSegment _ s = ⊥

-- the section breaks the rule, which is one of sections
abbrev pub BreaksSection : Rule → SectionView → Type 0
BreaksSection rule.SectionAddress s = IsOutsideMemory s.image s.segment s.place
BreaksSection rule.SectionFile s = IsMisplaced s.image s.segment s.place
BreaksSection rule.SectionRelocs s = HasRelocsOutside s.image s.place
BreaksSection _ s = ⊥

-- the rule is one of segments, or one of sections
abbrev pub IsSegmentRule : List ℕ → Rule → Type 0
IsSegmentRule image r =
    (place : ℕ) → BreaksCommands image (commands_of image) r place
    ↔ (Contains (all_segments image) place × BreaksSegment r (segment_at image place))

abbrev pub IsSectionRule : List ℕ → Rule → Type 0
IsSectionRule image r =
    (place : ℕ) → BreaksCommands image (commands_of image) r place
    ↔ AtSection image (commands_of image)
    (λ segment section. BreaksSection r (section_at image (segment, section))) place

-- the rules that a walk notes, each with the field that has the first break of the rule
abbrev pub Notes : Type 0 → Type 0
Notes B = List (Rule × (B → Option ℕ))

abbrev pub segment_notes : Notes SegmentBreaks
segment_notes =
    (rule.SegmentAddress, λ breaks. breaks.address) ∷ (rule.SegmentSize, λ breaks. breaks.size)
    ∷ (rule.SegmentFile, λ breaks. breaks.file) ∷ []

abbrev pub section_notes : Notes SectionBreaks
section_notes =
    (rule.SectionAddress, λ breaks. breaks.address) ∷ (rule.SectionFile, λ breaks. breaks.file)
    ∷ (rule.SectionRelocs, λ breaks. breaks.relocs) ∷ []

-- where the items first break each rule
abbrev pub AreFirstByRule : {X B : Type 0} → (X → ℕ) → (Rule → X → Type 0) → Notes B → List X → B → Type 0
AreFirstByRule place Breaks notes items breaks =
    AllByRecursion (λ note. IsFirstOf place (Breaks note.0) items (note.1 breaks)) notes

-- what is noted of an item, of each rule
abbrev pub AreNotedByRule : {X B : Type 0} → (X → ℕ) → (Rule → X → Type 0) → Notes B → X → B → B → Type 0
AreNotedByRule place Breaks notes item old new =
    AllByRecursion (λ note. IsNoted (Breaks note.0 item) (place item) (note.1 old) (note.1 new)) notes

-- where the image breaks each of the rules for the first time
abbrev pub AreLeastByRule : {B : Type 0} → List ℕ → Notes B → B → Type 0
AreLeastByRule image notes breaks =
    AllByRecursion (λ note. IsLeastPlace (BreaksImage image None note.0) (note.1 breaks)) notes

abbrev pub AreFirstSegments : List SegmentView → SegmentBreaks → Type 0
AreFirstSegments segments breaks =
    AreFirstByRule (λ s. s.place) BreaksSegment segment_notes segments breaks

abbrev pub NotesSegment : SegmentView → SegmentBreaks → SegmentBreaks → Type 0
NotesSegment segment old new =
    AreNotedByRule (λ s. s.place) BreaksSegment segment_notes segment old new

abbrev pub AreFirstSections : List SectionView → SectionBreaks → Type 0
AreFirstSections sections breaks =
    AreFirstByRule (λ s. s.place) BreaksSection section_notes sections breaks

abbrev pub NotesSection : SectionView → SectionBreaks → SectionBreaks → Type 0
NotesSection section old new =
    AreNotedByRule (λ s. s.place) BreaksSection section_notes section old new

-- the address of the first segment that shows the start of the file
abbrev pub base_among : List SegmentView → Option ℕ
base_among segments =
    option_map (λ s. vmaddr s.image s.place) (find (λ s. shows_start s.image s.place) segments)

-- what is found about the mapped segments
pub record AreMapped (segments : List SegmentView) (mapped : Mapped) : Type 0 where
  pub order : IsOrderOf (memory_among segments) mapped.order
  pub count : mapped.count ≡ min (length (memory_among segments)) (2 ^ 64 - 1)
  pub base : mapped.base ≡ base_among segments

-- of what image a survey is, and what it found
pub record IsImageSurvey (image : List ℕ) (segments : SegmentBreaks) (sections : SectionBreaks) (mapped : Mapped) (count : ℕ) : Type 0 where
  pub opened : IsOpened image
  pub segment_rules : AreLeastByRule image segment_notes segments
  pub section_rules : AreLeastByRule image section_notes sections
  pub section_count : count ≡ section_count image (commands_of image)
  pub order : IsOrderOf (tagged_memory image) mapped.order
  pub mapped_count : mapped.count ≡ min (length (mapped_segments image)) (2 ^ 64 - 1)
  pub base : mapped.base ≡ base_of image (commands_of image)

-- from the limit on no name ends in the strings of the image, and each one before it does
abbrev pub IsNameLimit : List ℕ → ℕ → Type 0
IsNameLimit image limit =
    (symtab : ℕ) → first_with_cmd image loader.LC_SYMTAB (commands_of image) ≡ Some symtab
    → (strx : ℕ)
    → (¬ HasZero image (stroff image symtab + strx) (stroff image symtab + strsize image symtab))
    ↔ (limit ≤ strx)

-- the symbol has a name, and it begins at the limit or past it
abbrev pub BeginsPast : ℕ → Symbol → Type 0
BeginsPast limit symbol = (symbol.strx ≢ 0) × (limit ≤ symbol.strx)

-- the symbol is defined in a section, and none of so many sections has its number
abbrev pub LacksSection : ℕ → Symbol → Type 0
LacksSection count symbol =
    IsSectionType symbol.kind × ((symbol.sect ≡ 0) ⊎ (count < symbol.sect))
