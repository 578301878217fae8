-- The lines of a slice.
use Rattle.std.proofs.Common.{◌≡◌, ◌∙◌, ℕ, zero, suc, ◌<◌, List, [], ◌∷◌, ◌++◌, length, true, false, Option, Some, None}
use Rattle.std.proofs.Common.{IsSome, IsSomeAnd, Result, arith, refl, sym, ap, ap₂, inl, inr}
use Rattle.std.proofs.lemmas.Bool.{cases_Bool}
use Rattle.std.proofs.lemmas.Option.{same_Some}
use Rattle.std.specs.Option.{option_map, option_map_or}
use Rattle.std.specs.Prelude.{slice_get}
use Rattle.macho_fields.specs.Universal.{FileSlice, IsImage, slice_bytes}
use Rattle.macho_fields.specs.FileTypes.{FileTypeView, file_type_of}
use Rattle.macho_fields.specs.Image.{file_type}
use Rattle.macho_text.specs.Writer.{HoldsText}
use Rattle.macho_text.specs.declared.stream.Output as output
use Rattle.macho_text.proofs.Holding.{holds_same}
use Rattle.macho_lines.specs.Layout.{kind_text, is_image, image_slice_text, unread_slice_text, slice_text}

pub word_is : (image : List ℕ) (listed : FileTypeView) → file_type_of (file_type image) ≡ Some listed → listed.word ≡ kind_text image
word_is image listed is = sym (ap (λ o. option_map_or (λ (t : FileTypeView). t.word) o []) is)

pub same_arch : (arch : ℕ × ℕ) (t s : ℕ) → arch.0 ≡ t → arch.1 ≡ s → arch ≡ (t, s)
same_arch arch t s first second = rw (sym first, sym second) refl

image_is : (bytes : List ℕ) → IsImage bytes → is_image bytes ≡ true
image_is bytes h = grind (arith, h.0, h.1)

image_from : (bytes : List ℕ) → is_image bytes ≡ true → IsImage bytes
image_from bytes h = (grind (arith, h), grind (arith, h))

module _ (says : List ℕ → List ℕ) (file : List ℕ) (index : ℕ) (slice : FileSlice) where
  text_read : is_image (slice_bytes file slice) ≡ true → slice_text says file (index, slice) ≡ image_slice_text says (slice_bytes file slice) index slice
  text_read h = rw h refl

  text_unread : is_image (slice_bytes file slice) ≡ false → slice_text says file (index, slice) ≡ unread_slice_text index slice
  text_unread h = rw h refl

module _ {W T E : Type 0} {o : output.Ghosts W} {a b : W} {r : Result T E} {held : List ℕ} (says : List ℕ → List ℕ) (before : List ℕ) where
  -- the lines of a slice that is read
  pub read_lines : (file image : List ℕ) (index : ℕ) (slices : Option FileSlice) (written : FileSlice) → Some written ≡ slices
      → IsSomeAnd slices (λ slice. IsImage (slice_bytes file slice)) → IsSomeAnd slices (λ slice. image ≡ slice_bytes file slice)
      → HoldsText o a b r held (before ++ image_slice_text says image index written) → IsSomeAnd slices (λ slice. HoldsText o a b r held (before ++ slice_text says file (index, slice)))
  read_lines file image index None written is read same put = absurd read
  read_lines file image index (Some slice) written is read same put =
      let text : image_slice_text says image index written ≡ slice_text says file (index, slice) =
      ap₂ (λ i s. image_slice_text says i index s) same (same_Some written slice is) ∙ sym (text_read says file index slice (image_is _ read)) in
      holds_same before text put

  -- the line of one that is not
  pub unread_lines : (file : List ℕ) (index : ℕ) (slices : Option FileSlice) (written : FileSlice) → Some written ≡ slices
      → ¬ IsSomeAnd slices (λ slice. IsImage (slice_bytes file slice))
      → HoldsText o a b r held (before ++ unread_slice_text index written) → IsSomeAnd slices (λ slice. HoldsText o a b r held (before ++ slice_text says file (index, slice)))
  unread_lines file index None written is unread put = absurd (cc)
  unread_lines file index (Some slice) written is unread put = elim (cases_Bool (is_image (slice_bytes file slice))) [
    | inl t ↦ absurd (unread (image_from _ t))
    | inr f ↦ holds_same before (ap (unread_slice_text index) (same_Some written slice is) ∙ sym (text_unread says file index slice f)) put
  ]

-- the slice with an index that the table has is found
pub slice_found : {A B : Type 0} (f : A → B) (o : Option A) (xs : List B) (index : ℕ) → option_map f o ≡ slice_get xs index → index < length xs → IsSome o
slice_found f (Some x) xs index is within = refl
slice_found f None [] index is within = absurd (omega arith)
slice_found f None (x ∷ xs) zero is within = absurd (cc)
slice_found f None (x ∷ xs) (suc index) is within = slice_found f None xs index is (omega arith)
