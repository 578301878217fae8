-- A file that breaks no rule is sound.
use Rattle.std.proofs.Common.{◌≡◌, ℕ, suc, zero, ◌+◌, ◌≤◌, ◌<◌, ◌⊎◌, List, [], ◌∷◌, length, map, true, false, get_or, slice_get, None, Some, IsSomeAnd, refl, sym, ap, ◌∙◌, subst, arith, inl, inr}
use Rattle.std.specs.List.{range_with_len}
use Rattle.std.proofs.lemmas.Bool.{cases_lt, cases_order, cases_Bool, true≢false}
use Rattle.macho_fields.specs.Universal.{FileSlice, is_universal, IsUniversal, entry_count, entry_place, entry_slice, slices_of, slice_bytes, table_end, IsImage, HasPlace}
use Rattle.macho_fields.specs.Image.{AreCommands}
use Rattle.macho_fields.specs.Rules.{BreaksFile, BreaksImage}
use Rattle.macho_fields.specs.First.{IsUnbroken}
use Rattle.macho_fields.specs.Loader.{IsSoundImage, IsSound}
use Rattle.macho_fields.specs.declared.rule.Rule.{Rule}
use Rattle.macho_fields.specs.declared.rule.Rule.TheVariants as rule
use Rattle.macho_fields.proofs.Parts.{commands_exist}
use Rattle.macho_fields.proofs.SoundImage.{sound_image}

get_at : {X : Type 0} (xs : List X) (k : ℕ) (d : X) → k < length xs → slice_get xs k ≡ Some (get_or xs k d)
get_at [] k d h = absurd (omega arith)
get_at (x ∷ xs) zero d h = refl
get_at (x ∷ xs) (suc k) d h = get_at xs k d (omega arith)

got_from_range : {X : Type 0} (f : ℕ → X) (start n i : ℕ) (x : X) → slice_get (map f (range_with_len start n)) i ≡ Some x → (i < n) × (x ≡ f (start + i))
got_from_range f start zero i x e = cc
got_from_range f start (suc n) zero x e = (omega arith, let same : f start ≡ x = cc in rw (let p : start + 0 ≡ start = omega arith in p) (sym same))
got_from_range f start (suc n) (suc i) x e =
    let (less, is) = got_from_range f (start + 1) n i x e in
    (omega arith, is ∙ ap f (let p : (start + 1) + i ≡ start + suc i = omega arith in p))

got_from_one : {X : Type 0} (y : X) (i : ℕ) (x : X) → slice_get (y ∷ []) i ≡ Some x → (i ≡ 0) × (x ≡ y)
got_from_one y zero x e = (refl, cc)
got_from_one y (suc i) x e = cc

-- Of a file that breaks none of its own rules
module _ (file : List ℕ) (keeps_file : (r : Rule) (place : ℕ) → ¬ BreaksFile file r place) where
  pub begins : 4 ≤ length file
  begins = elim (cases_lt (length file) 4) [
    | inl h ↦ absurd (keeps_file rule.Magic 0 (
      refl,
      λ b. elim b [
        | inl u ↦ let p = u.0 in absurd (omega arith)
        | inr i ↦ let p = i.0 in absurd (omega arith)
      ],
    ))
    | inr h ↦ h
  ]

  -- the slice at a place of the list is an entry, or the whole file
  slice_is : (k : ℕ) (slice : FileSlice) → slice_get (slices_of file) k ≡ Some slice
      → (IsUniversal file × (k < entry_count file) × (slice ≡ entry_slice file k)) ⊎ ((is_universal file ≡ false) × (k ≡ 0) × (slice ≡ record { start = 0; size = length file; arch = None }))
  slice_is k slice e = elim (cases_Bool (is_universal file)) [ inl wide ↦ inl (entry wide) | inr not ↦ inr (alone not) ]
    where
      entry : is_universal file ≡ true → IsUniversal file × (k < entry_count file) × (slice ≡ entry_slice file k)
      entry wide =
          let got : slice_get (map (entry_slice file) (range_with_len 0 (entry_count file))) k ≡ Some slice = rw wide at e in
          let (less, is) = got_from_range (entry_slice file) 0 (entry_count file) k slice got in
          ((begins, wide), less, is ∙ ap (entry_slice file) (let p : 0 + k ≡ k = omega arith in p))

      alone : is_universal file ≡ false → (is_universal file ≡ false) × (k ≡ 0) × (slice ≡ record { start = 0; size = length file; arch = None })
      alone not =
          let got : slice_get (record { start = 0; size = length file; arch = None } ∷ []) k ≡ Some slice = rw not at e in
          let (none, is) = got_from_one (record { start = 0; size = length file; arch = None }) k slice got in
          (not, none, is)

  pub slice_inside : (k : ℕ) (slice : FileSlice) → slice_get (slices_of file) k ≡ Some slice → slice.start + slice.size ≤ length file
  slice_inside k slice e =
      elim (slice_is k slice e) [
        | inl (u, less, is) ↦ entry u less is
        | inr (not, none, is) ↦
            let first : slice.start ≡ 0 = ap (λ s. s.start) is in
            let all : slice.size ≡ length file = ap (λ s. s.size) is in
            omega arith
      ]
    where
      entry : IsUniversal file → k < entry_count file → slice ≡ entry_slice file k → slice.start + slice.size ≤ length file
      entry u less is = elim (cases_lt (length file) ((entry_slice file k).start + (entry_slice file k).size)) [
        | inl out ↦ absurd (keeps_file rule.FatSliceOutside (entry_place file k) (u, (k, less, refl, out)))
        | inr in' ↦ subst (λ (s : FileSlice). s.start + s.size ≤ length file) (sym is) in'
      ]

  slices_apart : (i j : ℕ) (a b : FileSlice) (place : ℕ) → slice_get (slices_of file) i ≡ Some a → slice_get (slices_of file) j ≡ Some b → HasPlace a place → HasPlace b place → i ≡ j
  slices_apart i j a b place e f in_a in_b =
      elim (slice_is i a e) [
        | inl (u, less, is) ↦
            elim (slice_is j b f) [
              | inl (v, lower, also) ↦ entries u less lower is also
              | inr (not, none, also) ↦ absurd (true≢false (sym u.1 ∙ not))
            ]
        | inr (not, none, is) ↦
            elim (slice_is j b f) [
              | inl (v, lower, also) ↦ absurd (true≢false (sym v.1 ∙ not))
              | inr (n, zeroth, also) ↦ none ∙ sym zeroth
            ]
      ]
    where
      entries : IsUniversal file → i < entry_count file → j < entry_count file → a ≡ entry_slice file i → b ≡ entry_slice file j → i ≡ j
      entries u less lower is also =
          let here : HasPlace (entry_slice file i) place = subst (λ s. HasPlace s place) is in_a in
          let there : HasPlace (entry_slice file j) place = subst (λ s. HasPlace s place) also in_b in
          elim (cases_order i j) [
            | inl same ↦ same
            | inr (inl before) ↦ absurd (keeps_file rule.FatOverlap (entry_place file j) (u, (j, lower, refl, (i, before, (place, here, there)))))
            | inr (inr before) ↦ absurd (keeps_file rule.FatOverlap (entry_place file i) (u, (i, less, refl, (j, before, (place, there, here)))))
          ]

  slice_after_table : (k : ℕ) (slice : FileSlice) → IsUniversal file → slice_get (slices_of file) k ≡ Some slice → (place : ℕ) → HasPlace slice place → table_end file ≤ place
  slice_after_table k slice u e place in' = elim (slice_is k slice e) [ inl (v, less, is) ↦ entry less is | inr (not, none, is) ↦ absurd (true≢false (sym u.1 ∙ not)) ]
    where
      entry : k < entry_count file → slice ≡ entry_slice file k → table_end file ≤ place
      entry less is =
          let here : HasPlace (entry_slice file k) place = subst (λ s. HasPlace s place) is in' in
          elim (cases_lt ((entry_slice file k).start) (table_end file)) [
            | inl before ↦ absurd (keeps_file rule.FatSliceInTable (entry_place file k) (u, (k, less, refl, before)))
            | inr most ↦ omega arith
          ]

  one_arch : (i j : ℕ) (a b : FileSlice) → IsUniversal file → slice_get (slices_of file) i ≡ Some a → slice_get (slices_of file) j ≡ Some b → a.arch ≡ b.arch → i ≡ j
  one_arch i j a b u e f same =
      elim (slice_is i a e) [
        | inr (not, none, is) ↦ absurd (true≢false (sym u.1 ∙ not))
        | inl (v, less, is) ↦
            elim (slice_is j b f) [
              | inr (not, none, is) ↦ absurd (true≢false (sym u.1 ∙ not))
              | inl (w, lower, also) ↦ entries less lower is also
            ]
      ]
    where
      entries : i < entry_count file → j < entry_count file → a ≡ entry_slice file i → b ≡ entry_slice file j → i ≡ j
      entries less lower is also =
          let alike : (entry_slice file i).arch ≡ (entry_slice file j).arch = sym (ap (λ s. s.arch) is) ∙ (same ∙ ap (λ s. s.arch) also) in
          elim (cases_order i j) [
            | inl e ↦ e
            | inr (inl before) ↦ absurd (keeps_file rule.FatDuplicate (entry_place file j) (u, (j, lower, refl, (i, before, alike))))
            | inr (inr before) ↦ absurd (keeps_file rule.FatDuplicate (entry_place file i) (u, (i, less, refl, (j, before, sym alike))))
          ]

-- Of a file that breaks no rule
module _ (file : List ℕ) (unbroken : IsUnbroken file) where
  keeps : (r : Rule) (place : ℕ) → ¬ BreaksFile file r place
  keeps r place h = unbroken (record { scope = 0; rule = r; place = place }) h

  keeps_image : (k : ℕ) (slice : FileSlice) → slice_get (slices_of file) k ≡ Some slice → IsImage (slice_bytes file slice)
      → (r : Rule) (place : ℕ) → ¬ BreaksImage (slice_bytes file slice) slice.arch r place
  keeps_image k slice e is r place b =
      unbroken (record { scope = suc k; rule = r; place = place })
      (subst (λ o. IsSomeAnd o (λ s. IsImage (slice_bytes file s) × BreaksImage (slice_bytes file s) s.arch r place)) (sym e) (is, b))

  image_sound : (k : ℕ) (slice : FileSlice) → slice_get (slices_of file) k ≡ Some slice → IsImage (slice_bytes file slice)
      → (commands : List ℕ) × AreCommands (slice_bytes file slice) commands × IsSoundImage (slice_bytes file slice) commands
  image_sound k slice e is =
      let keeps = keeps_image k slice e is in
      let (commands, are) = commands_exist (slice_bytes file slice) slice.arch (λ place h. keeps rule.CommandWalk place (inl h)) in
      (commands, are, sound_image (slice_bytes file slice) slice.arch keeps commands are)

-- an unbroken file is sound
pub unbroken_is_sound : (file : List ℕ) → IsUnbroken file → IsSound file
unbroken_is_sound file unbroken = record {
  images = λ k d h. image_sound file unbroken k (get_or (slices_of file) k d) (get_at (slices_of file) k d h);
  inside = λ k d h. slice_inside file (keeps file unbroken) k (get_or (slices_of file) k d) (get_at (slices_of file) k d h);
  apart = slices_apart file (keeps file unbroken);
  after_table = λ u k d h. slice_after_table file (keeps file unbroken) k (get_or (slices_of file) k d) u (get_at (slices_of file) k d h);
  one_arch = one_arch file (keeps file unbroken);
}
