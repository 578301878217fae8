-- The first 64-bit slice that has a byte.
use Rattle.std.proofs.Common.{◌≡◌, ◌∙◌, ℕ, ◌+◌, ◌≤◌, List, length, Some, ap, arith, inl, inr, refl, sym}
use Rattle.std.specs.Prelude.{IsTrue, slice_get}
use Rattle.std.proofs.lemmas.Bool.{cases_lt}
use Rattle.std.proofs.lemmas.Option.{same_Some, slice_get_past}
use Rattle.macho_fields.proofs.Options.{of_none, some_of}
use Rattle.macho_fields.specs.Universal.{FileSlice, IsUniversal, slices_of, table_end}
use Rattle.macho_fields.specs.declared.rule.Rule.{Rule}
use Rattle.macho_fields.specs.declared.rule.Rule.TheVariants as rule
use Rattle.macho_fat.specs.Slices.{slice_of, MarksReadInside}
use Rattle.macho_fat.specs.declared.slice.Slice.{Slice}
use Rattle.macho_spans.specs.Span.{Holds}
use Rattle.macho_explain.specs.Entries.{HasTable}
use Rattle.macho_explain.specs.Explain.{image_of}
use Rattle.macho_explain.specs.Explained.{IsImageOf}
use Rattle.macho_explain.specs.FirstSlices.{HasImageWith, HasSlices, IsByteOf, IsFirstWith, IsImageWith}

-- The byte of a rule

pub byte_near : (r : Rule) (place byte : ℕ) → IsByteOf r place byte → (byte ≤ place) × (place ≤ byte + 1)
byte_near rule.CommandWalk place byte is = (omega arith, omega arith)
byte_near rule.ExportNode place byte is = (omega arith, omega arith)
byte_near other place byte is = (omega arith, omega arith)

pub one_byte : (r : Rule) (place byte past : ℕ) → IsByteOf r place byte → IsByteOf r place past → byte ≡ past
one_byte rule.CommandWalk place byte past is also = omega arith
one_byte rule.ExportNode place byte past is also = omega arith
one_byte other place byte past is also = omega arith

-- The slices of a file

module _ (file : List ℕ) where
  pub has_table : IsUniversal file → HasSlices file → HasTable file
  has_table universal kept = record {
    universal = universal;
    header = header;
    whole = whole;
  }
    where
      header : 8 ≤ length file
      header = elim (cases_lt (length file) 8) [
        | inl short ↦ absurd (kept rule.FatTruncated 4 (omega arith) (refl, universal, inl short))
        | inr long ↦ long
      ]

      whole : table_end file ≤ length file
      whole = elim (cases_lt (length file) (table_end file)) [
        | inl short ↦ absurd (kept rule.FatTruncated 4 (omega arith) (refl, universal, inr short))
        | inr long ↦ long
      ]

  module _ (byte index : ℕ) where
    -- a slice that is not read, or lacks it, has no place here
    pub no_image : (slice : Slice) → slice_get (slices_of file) index ≡ Some (slice_of slice) → MarksReadInside file slice → ¬ (IsTrue slice.read × Holds slice.span byte) → ¬ HasImageWith file byte index
    no_image slice listed marks none has =
        let here : IsImageWith file byte (slice_of slice) = rw listed at has in
        none (marks.1 (here.0, here.1), here.2)

  -- no slice has an index past them all
  pub none_past : (byte k : ℕ) → length (slices_of file) ≤ k → ¬ HasImageWith file byte k
  none_past byte k past = of_none (IsImageWith file byte) (slice_get (slices_of file) k) (slice_get_past (slices_of file) k past)

  -- only one is the first
  pub one_first : (byte j k : ℕ) → IsFirstWith file byte j → IsFirstWith file byte k → j ≡ k
  one_first byte j k first also = elim (cases_lt j k) [
    | inl before ↦ absurd (also.1 j before first.0)
    | inr not ↦ elim (cases_lt k j) [
      | inl before ↦ absurd (first.1 k before also.0)
      | inr other ↦ let same : j ≡ k = omega (arith, not, other) in same
    ]
  ]

  -- and it is one image, in which a place of the file is one
  pub one_image : (place k at there : ℕ) (image bytes : List ℕ) → IsImageOf file place k image at → IsImageOf file place k bytes there → (image ≡ bytes) × (at ≡ there)
  one_image place k at there image bytes is also =
      let (slice, here, of_it) = some_of (λ (s : FileSlice). (image ≡ image_of file s) × (place ≡ s.start + at) × (at ≤ s.size)) (slice_get (slices_of file) k) is in
      let (other, listed, of_other) = some_of (λ (s : FileSlice). (bytes ≡ image_of file s) × (place ≡ s.start + there) × (there ≤ s.size)) (slice_get (slices_of file) k) also in
      let same : slice ≡ other = same_Some slice other (sym here ∙ listed) in
      let start : slice.start ≡ other.start = ap (λ (s : FileSlice). s.start) same in
      (of_it.0 ∙ (ap (image_of file) same ∙ sym of_other.0), omega (arith, of_it.1, of_other.1, start))
