-- What only proofs need: what is known of values between the functions of this crate. No public
-- contract cites any of it.
use Rattle.std.specs.Prelude.{◌≡◌, ◌⊎◌, ◌↔◌, ℕ, ◌+◌, ◌≤◌, ◌<◌, List, length, map, Option, Some, MatchOption, Result, MatchResult, IsOk, IsErrAnd, Bool, false, IsTrue}
use Rattle.std.specs.List.{range_with_len}
use Rattle.macho_fields.specs.First.{rank}
use Rattle.macho_fields.specs.FirstPlace.{IsFirstOf, IsLeastPlace}
use Rattle.macho_fields.specs.Layers.{IsLeast, KeptBelow, NothingBreaks}
use Rattle.macho_spans.specs.Overlap.{SharesEarlier, IsLeastSharing}
use Rattle.macho_fields.specs.Rules.{BreaksFile}
use Rattle.macho_spans.specs.SpanOrder.{IsOrderOf}
use Rattle.macho_fields.specs.Universal.{is_universal, IsUniversal, IsImage, entry_count, entry_place, entry_align, entry_slice, slice_bytes, table_end, IsSliceOutside, IsSliceInTable, IsSliceMisaligned}
use Rattle.macho_fields.specs.declared.rule.Rule.{Rule}
use Rattle.macho_fields.specs.declared.rule.Rule.TheVariants as rule
use Rattle.macho_spans.specs.declared.span.Span.{Span}
use Rattle.macho_fat.specs.Slices.{entry_spans, slice_span, arch_span}
use Rattle.macho_fat.specs.declared.fault.FatFault.{FatFault}
use Rattle.macho_fat.specs.declared.fault.FatFault.TheVariants as fault
use Rattle.macho_fat.specs.declared.rules.Format.{Format}
use Rattle.macho_fat.specs.declared.rules.Format.TheVariants as format
use Rattle.macho_fat.specs.declared.survey.Notes.{Notes}
use Rattle.macho_fat.specs.declared.table.Entry.{Entry}

-- the magic number of the file is the format's, and no other format's
abbrev pub IsFormat : List ℕ → Format → Type 0
IsFormat file format.Image = IsImage file × (is_universal file ≡ false)
IsFormat file format.Universal = IsUniversal file

-- the file is universal, and its table lies inside it
pub record HasWholeTable (file : List ℕ) : Type 0 where
  pub universal : IsUniversal file
  pub inside : table_end file ≤ length file

-- the file breaks none of its rules, and the table is its own, or it is an image and has none
pub record HasSlices (file : List ℕ) (table : Option (List ℕ)) : Type 0 where
  pub unbroken : NothingBreaks (BreaksFile file)
  pub read : MatchOption table (IsImage file × (is_universal file ≡ false)) (λ known. (known ≡ file) × IsUniversal file)

-- what was read is entry k of the file
pub record IsEntry (file : List ℕ) (k : ℕ) (entry : Entry) : Type 0 where
  pub place : entry.place ≡ entry_place file k
  pub start : entry.span.start ≡ (entry_slice file k).start
  pub size : entry.span.len ≡ (entry_slice file k).size
  pub arch : Some entry.arch ≡ (entry_slice file k).arch
  pub align : entry.align ≡ entry_align file k

-- The spans by which two entries are compared

-- the spans of the first n entries, each with the place of its entry
abbrev pub placed_spans : List ℕ → (ℕ → Span) → ℕ → List (Span × ℕ)
placed_spans file span n = map (λ k. (span k, entry_place file k)) (range_with_len 0 n)

-- a function returns of each entry its span
abbrev pub ReturnsSpans : (Entry → Span → Type 0) → List ℕ → (ℕ → Span) → Type 0
ReturnsSpans returns file span =
    (k : ℕ) (entry : Entry) (given : Span) → IsEntry file k entry → returns entry given → given ≡ span k

-- the answer is the place of the first entry whose span shares a place with the span of an earlier one,
-- and None without such an entry
abbrev pub FindsFirstSharing : List ℕ → (ℕ → Span) → Option ℕ → Type 0
FindsFirstSharing file span found =
    MatchOption found ((j : ℕ) → ¬ SharesEarlier (entry_spans file span) j)
    (λ place. (j : ℕ) × IsLeastSharing (entry_spans file span) j × (place ≡ entry_place file j))

-- What a walk over the entries notes

-- entry k breaks one of the rules of a single entry
abbrev pub BreaksAlone : List ℕ → ℕ → Type 0
BreaksAlone file k = IsSliceOutside file k ⊎ IsSliceInTable file k ⊎ IsSliceMisaligned file k

-- what is found is the place of the first of the first n entries that has P
abbrev pub IsFirstEntry : List ℕ → (ℕ → Type 0) → ℕ → Option ℕ → Type 0
IsFirstEntry file P n found = IsFirstOf (entry_place file) P (range_with_len 0 n) found

-- the notes have where the first n entries first break each of the rules of a single entry
pub record AreFirstBreaks (file : List ℕ) (n : ℕ) (notes : Notes) : Type 0 where
  pub outside : IsFirstEntry file (IsSliceOutside file) n notes.outside
  pub in_table : IsFirstEntry file (IsSliceInTable file) n notes.in_table
  pub misaligned : IsFirstEntry file (IsSliceMisaligned file) n notes.misaligned

-- the notes are about the first n entries
pub record AreNotes (file : List ℕ) (n : ℕ) (notes : Notes) : Type 0 where
  pub breaks : AreFirstBreaks file n notes
  pub spans : IsOrderOf (placed_spans file (slice_span file) n) notes.spans
  pub archs : IsOrderOf (placed_spans file (arch_span file) n) notes.archs

-- the notes are about a whole table
pub record IsSurvey (file : List ℕ) (notes : Notes) : Type 0 where
  pub table : HasWholeTable file
  pub whole : AreNotes file (entry_count file) notes

-- one of the first n entries has a 64-bit little-endian image
abbrev pub HasImageBelow : List ℕ → ℕ → Type 0
HasImageBelow file n =
    (k : ℕ) × (k < n) × IsImage (slice_bytes file (entry_slice file k))

-- what a walk over the slices of the table finds of their magic numbers
pub record AreMagics (file : List ℕ) (foreign : Option ℕ) (has_image : Bool) : Type 0 where
  pub universal : IsUniversal file
  pub least : IsLeastPlace (BreaksFile file rule.FatSliceMagic) foreign
  pub image : IsTrue has_image ↔ HasImageBelow file (entry_count file)

-- a fault of rule r, which takes memory where P holds: what is broken first of all, or that memory
-- ran out, which says only that the rules before r are unbroken
abbrev pub IsRuleFault : (Rule → ℕ → Type 0) → Rule → Type 0 → FatFault → Type 0
IsRuleFault breaks r P (fault.Broken b) = IsLeast breaks b
IsRuleFault breaks r P fault.Memory = KeptBelow breaks (rank r) × P

-- an answer reports that the rules up to r are unbroken, and otherwise a fault of r
abbrev pub ContinuesOrFaults : {T : Type 0} → (Rule → ℕ → Type 0) → Rule → Type 0 → Result T FatFault → Type 0
ContinuesOrFaults breaks r P answer =
    MatchResult answer (λ _. KeptBelow breaks (rank r + 1)) (IsRuleFault breaks r P)

-- the answer of rule r by what was found: its break at the place, or that memory ran out
abbrev pub AnswersByFound : {T E : Type 0} → Rule → Result (Option ℕ) E → Result T FatFault → Type 0
AnswersByFound r found answer =
    MatchResult found
    (λ first. MatchOption first (IsOk answer)
    (λ place. IsErrAnd answer (λ given. given ≡ fault.Broken (record { rule = r; place = place }))))
    (λ _. IsErrAnd answer (λ given. given ≡ fault.Memory))
