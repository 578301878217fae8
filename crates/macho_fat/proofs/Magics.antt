-- What a walk over the slices finds of their magic numbers, slice by slice.
use Rattle.std.proofs.Common.{◌≡◌, ℕ, ◌+◌, ◌↔◌, min, List, Option, Some, None, unwrap_or, Bool, true, false, IsTrue, refl, sym, subst, arith, inl, inr}
use Rattle.std.proofs.lemmas.Bool.{cases_lt, false≢true}
use Rattle.macho_fields.specs.Universal.{IsUniversal, IsUnreadImage, entry_count, entry_slice, slice_bytes}
use Rattle.macho_fields.specs.Rules.{BreaksFile}
use Rattle.macho_fields.specs.declared.rule.Rule.TheVariants as rule
use Rattle.macho_fields.proofs.Magics.{IsForeignEntry, DecidesForeign, IsRead, none_foreign, first_foreign, more_foreign, foreign_broken, foreign_kept}
use Rattle.macho_fields.specs.FirstPlace.{IsLeastPlace}
use Rattle.macho_fat.specs.TableWalk.{HasImageBelow, AreMagics}

-- what is found of the first n slices
pub record AreMagicsBelow (file : List ℕ) (n : ℕ) (foreign : Option ℕ) (has_image : Bool) : Type 0 where
  pub least : DecidesForeign file n foreign
  pub image : IsTrue has_image ↔ HasImageBelow file n

pub same_magics : (file : List ℕ) (n : ℕ) (foreign next : Option ℕ) (has_image now : Bool) → next ≡ foreign → now ≡ has_image → AreMagicsBelow file n foreign has_image → AreMagicsBelow file n next now
same_magics file n foreign next has_image now places images found =
    subst (λ place. AreMagicsBelow file n place now) (sym places) (subst (AreMagicsBelow file n foreign) (sym images) found)

-- before the first slice
pub no_magics : (file : List ℕ) → AreMagicsBelow file 0 None false
no_magics file = record {
  least = λ i less. absurd (omega (arith, less));
  image = (λ h. absurd (false≢true h), λ (i, less, read). absurd (omega (arith, less)));
}

-- One slice more

module _ (file : List ℕ) (k : ℕ) (foreign : Option ℕ) (has_image : Bool) (before : AreMagicsBelow file k foreign has_image) where
  -- it is read
  pub read_passed : IsRead file k → AreMagicsBelow file (k + 1) foreign true
  read_passed read = record {
    least = none_foreign file k foreign before.least (λ none. none (inl read));
    image = (λ h. (k, omega arith, read), λ h. refl);
  }

  image_kept : ¬ IsRead file k → IsTrue has_image ↔ HasImageBelow file (k + 1)
  image_kept none = (to, from)
    where
      to : IsTrue has_image → HasImageBelow file (k + 1)
      to h = let (i, less, read) = before.image.0 h in (i, omega arith, read)

      from : HasImageBelow file (k + 1) → IsTrue has_image
      from (i, less, read) =
          elim (cases_lt i k) [ inl lower ↦ before.image.1 (i, lower, read) | inr most ↦ (let same : i ≡ k = omega arith in absurd (none (subst (IsRead file) same read))) ]

  -- it is an image that is not read
  pub unread_passed : ¬ IsRead file k → IsUnreadImage (slice_bytes file (entry_slice file k)) → AreMagicsBelow file (k + 1) foreign has_image
  unread_passed none unread = record { least = none_foreign file k foreign before.least (λ foreign. foreign (inr unread)); image = image_kept none }

  -- it is not an image
  pub foreign_passed : (start next : ℕ) → start ≡ (entry_slice file k).start → next ≡ min (unwrap_or foreign start) start → ¬ IsRead file k → ¬ IsUnreadImage (slice_bytes file (entry_slice file k))
      → AreMagicsBelow file (k + 1) (Some next) has_image
  foreign_passed start next at is none neither = record { least = lesser foreign before.least is; image = image_kept none }
    where
      here : IsForeignEntry file k
      here (inl read) = none read
      here (inr unread) = neither unread

      lesser : (foreign : Option ℕ) → DecidesForeign file k foreign → next ≡ min (unwrap_or foreign start) start → DecidesForeign file (k + 1) (Some next)
      lesser None nothing is = first_foreign file k next (omega (arith, at, is)) nothing here
      lesser (Some place) least is =
          more_foreign file k start place next at least here (omega (arith, is)) (omega (arith, is))
          (elim (cases_lt place start) [ inl less ↦ inl (omega (arith, is)) | inr most ↦ inr (omega (arith, is)) ])

-- what is found of all slices
pub all_magics : (file : List ℕ) (n : ℕ) (foreign : Option ℕ) (has_image : Bool) → IsUniversal file → n ≡ entry_count file → AreMagicsBelow file n foreign has_image → AreMagics file foreign has_image
all_magics file n foreign has_image universal all found =
    record { universal = universal; least = least foreign found.least; image = subst (λ n. IsTrue has_image ↔ HasImageBelow file n) all found.image }
  where
    least : (foreign : Option ℕ) → DecidesForeign file n foreign → IsLeastPlace (BreaksFile file rule.FatSliceMagic) foreign
    least None none = foreign_kept file n all none
    least (Some place) first = foreign_broken file n place all universal first
