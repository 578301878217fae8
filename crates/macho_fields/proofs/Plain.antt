-- A file that is one image: its first broken rule is the image's.
use Rattle.std.proofs.Common.{◌≡◌, ℕ, suc, zero, ◌+◌, List, [], ◌∷◌, length, false, None, IsSomeAnd, slice_get, refl, sym, ◌∙◌, subst, arith, inl, inr, le_refl, take_all}
use Rattle.std.proofs.lemmas.Bool.{true≢false}
use Rattle.macho_fields.specs.Universal.{FileSlice, is_universal, slices_of, slice_bytes, IsUniversal, IsImage}
use Rattle.macho_fields.specs.Rules.{BreaksImage}
use Rattle.macho_fields.specs.Layers.{IsLeast}
use Rattle.macho_fields.specs.First.{IsBrokenIn, IsBefore, IsFirstBroken, IsUnbroken, scope_start}
use Rattle.macho_fields.specs.declared.rule.Rule.{Rule}
use Rattle.macho_fields.proofs.Ranks.{plain_image_keeps_file_rules}

abbrev whole : List ℕ → FileSlice
whole file = record { start = 0; size = length file; arch = None }

whole_bytes : (file : List ℕ) → slice_bytes file (whole file) ≡ file
whole_bytes file = take_all (length file) file (le_refl (length file))

pub plain_slices : (file : List ℕ) → is_universal file ≡ false → slices_of file ≡ whole file ∷ []
plain_slices file e = rw e refl

not_universal : (file : List ℕ) → is_universal file ≡ false → ¬ IsUniversal file
not_universal file e u = true≢false (sym u.1 ∙ e)

abbrev At : List ℕ → Rule → ℕ → FileSlice → Type 0
At file r place slice = IsImage (slice_bytes file slice) × BreaksImage (slice_bytes file slice) slice.arch r place

in_one : (file : List ℕ) (k : ℕ) (r : Rule) (place : ℕ) → IsSomeAnd (slice_get (whole file ∷ []) k) (At file r place) → (k ≡ 0) × BreaksImage file None r place
in_one file zero r place h = (refl, subst (λ bytes. BreaksImage bytes None r place) (whole_bytes file) h.1)
in_one file (suc k) r place h = absurd h

pub image_breaks : (file : List ℕ) → is_universal file ≡ false → (k : ℕ) (r : Rule) (place : ℕ) → IsBrokenIn file (suc k) r place → (k ≡ 0) × BreaksImage file None r place
image_breaks file e k r place h = in_one file k r place (subst (λ slices. IsSomeAnd (slice_get slices k) (At file r place)) (plain_slices file e) h)

pub image_happens : (file : List ℕ) → is_universal file ≡ false → IsImage file → (r : Rule) (place : ℕ) → BreaksImage file None r place → IsBrokenIn file 1 r place
image_happens file e is r place b =
    let here : At file r place (whole file) = (subst IsImage (sym (whole_bytes file)) is, subst (λ bytes. BreaksImage bytes None r place) (sym (whole_bytes file)) b) in
    subst (λ slices. IsSomeAnd (slice_get slices 0) (At file r place)) (sym (plain_slices file e)) here

none_before : (file : List ℕ) → is_universal file ≡ false → IsImage file → (r : Rule) (place : ℕ) → IsLeast (BreaksImage file None) (record { rule = r; place = place })
    → (scope : ℕ) (other : Rule) (at : ℕ) → IsBrokenIn file scope other at → ¬ IsBefore (record { scope = scope; rule = other; place = at }) (record { scope = 1; rule = r; place = place })
none_before file e is r place least zero other at h before = plain_image_keeps_file_rules file (not_universal file e) is other at h
none_before file e is r place least (suc k) other at h before =
    let (none, b) = image_breaks file e k other at h in
    elim before [ inl less ↦ absurd (omega arith) | inr (same, later) ↦ least.1 other at b later ]

pub first_in_image : (file : List ℕ) → is_universal file ≡ false → IsImage file → (r : Rule) (place : ℕ)
    → IsLeast (BreaksImage file None) (record { rule = r; place = place }) → IsFirstBroken file (record { rule = r; place = place })
first_in_image file e is r place least = (
  record { scope = 1; rule = r; place = place },
  image_happens file e is r place least.0,
  λ other. none_before file e is r place least other.scope other.rule other.place,
  refl,
  start,
)
  where
    begins : scope_start file 1 ≡ 0
    begins = rw e refl

    start : place ≡ scope_start file 1 + place
    start = omega (arith, begins)

pub unbroken_image : (file : List ℕ) → is_universal file ≡ false → IsImage file → ((r : Rule) (place : ℕ) → ¬ BreaksImage file None r place) → IsUnbroken file
unbroken_image file e is none f h = by_scope f.scope f.rule f.place h
  where
    by_scope : (scope : ℕ) (r : Rule) (place : ℕ) → ¬ IsBrokenIn file scope r place
    by_scope zero r place n = plain_image_keeps_file_rules file (not_universal file e) is r place n
    by_scope (suc k) r place n = none r place (image_breaks file e k r place n).1
