-- Where the verdict on a file takes memory.
use Rattle.std.proofs.Common.{◌≡◌, ◌==◌, ◌⊎◌, ℕ, suc, zero, ◌+◌, ◌*◌, ◌^◌, ◌<◌, IsTrue, eqb-true, drop, slice_index, List, [], ◌∷◌, length, slice_get, Some, None, IsSomeAnd, subst, arith, inl, inr, le_refl, take_all}
use Rattle.std.proofs.lemmas.Bool.{cases_Bool}
use Rattle.macho_fields.specs.Field.{number}
use Rattle.macho_fields.specs.First.{rank}
use Rattle.macho_fields.specs.Layers.{KeptBelow, NothingBreaks}
use Rattle.macho_fields.specs.Rules.{BreaksFile}
use Rattle.macho_fields.specs.Universal.{FileSlice, is_universal, has_wide_entries, slices_of, slice_bytes, IsImage, IsUniversal}
use Rattle.macho_fields.specs.declared.bytes.Order.TheVariants.{Big}
use Rattle.macho_fields.specs.declared.header.fat.TheConstants as fat
use Rattle.macho_fields.specs.declared.header.loader.TheConstants as loader
use Rattle.macho_fields.specs.declared.rule.Rule.TheVariants as rule
use Rattle.macho_fields.proofs.Options.{of_some}
use Rattle.macho_fields.proofs.Plain.{plain_slices}
use Rattle.macho_fields.proofs.Ranks.{plain_image_keeps_file_rules}
use Rattle.macho_fields.proofs.Sound.{begins}
use Rattle.macho_spans.specs.Overlap.{IsAscending, IsDescending}
use Rattle.macho_rules.specs.Mapped.{mapped_memory}
use Rattle.macho_rules.specs.Verdict.{ImageTakesMemory, FileTakesMemory}

module _ (file : List ℕ) where
  -- the slice has an image, whose verdict takes memory
  abbrev TakesIn : FileSlice → Type 0
  TakesIn slice = IsImage (slice_bytes file slice) × ImageTakesMemory (slice_bytes file slice) slice.arch

  -- the slice of a file with no table is the whole file
  in_one : (k : ℕ) → IsSomeAnd (slice_get (record { start = 0; size = length file; arch = None } ∷ []) k) TakesIn → IsImage file × ImageTakesMemory file None
  in_one zero takes = subst (λ bytes. IsImage bytes × ImageTakesMemory bytes None) (take_all (length file) file (le_refl (length file))) takes
  in_one (suc k) takes = absurd takes

  -- memory is taken for the image in a slice, where no rule of the file is broken
  pub slice_takes : (k : ℕ) (slice : FileSlice) → slice_get (slices_of file) k ≡ Some slice → NothingBreaks (BreaksFile file) → IsImage (slice_bytes file slice)
      → ImageTakesMemory (slice_bytes file slice) slice.arch → FileTakesMemory file
  slice_takes k slice is unbroken image takes = elim (cases_Bool (is_universal file)) [
    | inl wide ↦ inl ((begins file unbroken, wide), inl unbroken)
    | inr plain ↦ inr (in_one k (subst (λ slices. IsSomeAnd (slice_get slices k) TakesIn) (plain_slices file plain) (of_some TakesIn (slice_get (slices_of file) k) slice is (image, takes))))
  ]

  -- a file that is not universal, and whose mapped segments ascend or descend, takes none
  pub ordered_takes_none : ¬ IsUniversal file → IsAscending (mapped_memory file) ⊎ IsDescending (mapped_memory file) → ¬ FileTakesMemory file
  ordered_takes_none plain ordered (inl (universal, takes)) = plain universal
  ordered_takes_none plain (inl up) (inr (image, (kept, mapped, unordered))) = unordered.0 up
  ordered_takes_none plain (inr down) (inr (image, (kept, mapped, unordered))) = unordered.1 down

-- the four bytes whose number is MH_MAGIC_64, the lowest first, make a number past both magics of a
-- universal file, the highest first
magic_is_greater : (a b c d : ℕ) → a + 256 * (b + 256 * (c + 256 * d)) ≡ loader.MH_MAGIC_64 → fat.FAT_MAGIC_64 < a * 256 ^ 3 + b * 256 ^ 2 + c * 256 + d
magic_is_greater a b c d little = omega arith

-- so an image is not universal
not_universal : (file : List ℕ) → IsImage file → ¬ IsUniversal file
not_universal file (long, image) (also, universal) =
    let byte : ℕ → ℕ = λ k. slice_index (drop 0 file) k in
    let greater = magic_is_greater (byte 0) (byte 1) (byte 2) (byte 3) (omega (arith, image)) in
    let big : ℕ = number Big 4 file 0 in
    let more : fat.FAT_MAGIC_64 < big = omega (arith, greater) in
    elim (cases_Bool (big == fat.FAT_MAGIC)) [
      | inl is ↦ (let same = eqb-true big fat.FAT_MAGIC is in absurd (omega (arith, more, same)))
      | inr not ↦ (let wide : IsTrue (has_wide_entries file) = rw not at universal in let same = eqb-true big fat.FAT_MAGIC_64 wide in absurd (omega (arith, more, same)))
    ]

-- a file takes memory only if the rules before fat-overlap are unbroken
pub taken_past_align : (file : List ℕ) → FileTakesMemory file → KeptBelow (BreaksFile file) (rank rule.FatOverlap)
taken_past_align file (inl (universal, inl none)) r place early = none r place
taken_past_align file (inl (universal, inr (inl (kept, unordered)))) r place early = kept r place early
taken_past_align file (inl (universal, inr (inr (kept, unordered)))) r place early = kept r place (omega (arith, early))
taken_past_align file (inr (image, takes)) r place early = plain_image_keeps_file_rules file (not_universal file image) image r place
