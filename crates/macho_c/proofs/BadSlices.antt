-- Why no accepted file has a slice.
use Rattle.std.proofs.Common.{◌≡◌, ◌≤◌, ◌<◌, ◌+◌, ℕ, zero, suc, List, [], ◌∷◌, length, get_or, Some, None, IsSomeAnd, IsTrue, Bool, true, false, slice_get, inl, inr, refl, sym, subst, ap, ◌∙◌, arith}
use Rattle.std.proofs.lemmas.List.{take_all}
use Rattle.std.proofs.lemmas.Option.{slice_get_within, slice_get-get_or}
use Rattle.macho_fields.specs.First.{IsUnbroken}
use Rattle.macho_fields.specs.Layers.{IsLeast}
use Rattle.macho_fields.specs.Rules.{BreaksFile, BreaksImage}
use Rattle.macho_fields.specs.Universal.{FileSlice, slices_of, slice_bytes, IsImage, IsUniversal, IsForeign, is_universal}
use Rattle.macho_fields.specs.declared.rule.Break.{Break}
use Rattle.macho_fields.specs.declared.rule.Rule.TheVariants as rule
use Rattle.macho_fields.proofs.Sound.{unbroken_is_sound}
use Rattle.macho_rows.specs.Image.{IsBad}
use Rattle.macho_rows.specs.Rows.{IsBrokenImage}

pub broken_file : (file : List ℕ) (b : Break) → IsLeast (BreaksFile file) b → ¬ IsUnbroken file
broken_file file b least unbroken = unbroken (record { scope = 0; rule = b.rule; place = b.place }) least.0

some-injective : {T : Type 0} {a b : T} → Some a ≡ Some b → a ≡ b
some-injective is = cc

pub broken_image : (file : List ℕ) (k : ℕ) (slice : FileSlice) → slice_get (slices_of file) k ≡ Some slice → IsImage (slice_bytes file slice) → IsBrokenImage (slice_bytes file slice) slice.arch → ¬ IsUnbroken file
broken_image file k slice at image (r, place, late, breaks) unbroken =
    unbroken (record { scope = suc k; rule = r; place = place })
    (subst (λ o. IsSomeAnd o (λ s. IsImage (slice_bytes file s) × BreaksImage (slice_bytes file s) s.arch r place)) (sym at) (image, breaks))

pub outside : (file : List ℕ) (k : ℕ) (slice : FileSlice) → slice_get (slices_of file) k ≡ Some slice → length file < slice.start + slice.size → ¬ IsUnbroken file
outside file k slice at past unbroken =
    let sound = unbroken_is_sound file unbroken in
    let less : k < length (slices_of file) = slice_get_within (slices_of file) k slice at in
    let here : get_or (slices_of file) k slice ≡ slice = some-injective (sym (slice_get-get_or (slices_of file) k slice less) ∙ at) in
    let inside : slice.start + slice.size ≤ length file = subst (λ (s : FileSlice). s.start + s.size ≤ length file) here (sound.inside k slice less) in
    absurd (omega arith)

abbrev whole_file : List ℕ → FileSlice
whole_file file = record { start = 0; size = length file; arch = None }

single : (w : FileSlice) (n : ℕ) (slice : FileSlice) → slice_get (w ∷ []) n ≡ Some slice → slice ≡ w
single w zero slice is = sym (some-injective is)
single w (suc n) slice is = let less : suc n < length (w ∷ []) = slice_get_within (w ∷ []) (suc n) slice is in absurd (omega arith)

not_both : (b : Bool) → b ≡ false → IsTrue b → ⊥
not_both b is holds = cc

-- a slice of neither kind breaks a rule of a universal file, and a file that is not universal begins as its slice does
pub foreign : (file : List ℕ) (k : ℕ) (slice : FileSlice) → slice_get (slices_of file) k ≡ Some slice → IsForeign (slice_bytes file slice) → ¬ IsUnbroken file
foreign file k slice at neither unbroken = by (is_universal file) refl
  where
    universal : IsUniversal file → ⊥
    universal is =
        let less : k < length (slices_of file) = slice_get_within (slices_of file) k slice at in
        let here : get_or (slices_of file) k slice ≡ slice = some-injective (sym (slice_get-get_or (slices_of file) k slice less) ∙ at) in
        unbroken (record { scope = 0; rule = rule.FatSliceMagic; place = slice.start }) (is, (k, slice, less, here, (refl, neither)))

    whole : is_universal file ≡ false → IsImage file → ⊥
    whole plain image =
        let all : slices_of file ≡ whole_file file ∷ [] = rw plain refl in
        let is : slice ≡ whole_file file = single (whole_file file) k slice (ap (λ slices. slice_get slices k) (sym all) ∙ at) in
        let same : slice_bytes file slice ≡ file = ap (slice_bytes file) is ∙ take_all (length file) file (omega arith) in
        neither (inl (subst IsImage (sym same) image))

    by : (b : Bool) → is_universal file ≡ b → ⊥
    by true is = unbroken (record { scope = 0; rule = rule.Magic; place = 0 }) (refl, λ either. elim either [ inl many ↦ universal many | inr image ↦ universal (image.0, is) ])
    by false is = unbroken (record { scope = 0; rule = rule.Magic; place = 0 }) (refl, λ either. elim either [ inl many ↦ absurd (not_both (is_universal file) is many.1) | inr image ↦ whole is image ])

pub bad : (file : List ℕ) (k : ℕ) (slice : FileSlice) → slice_get (slices_of file) k ≡ Some slice → IsBad file slice → ¬ IsUnbroken file
bad file k slice at is = elim is [
  | inl past ↦ outside file k slice at past
  | inr (inl neither) ↦ foreign file k slice at neither
  | inr (inr (image, breaks)) ↦ broken_image file k slice at image breaks
]
