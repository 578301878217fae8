-- The models of a universal file agree.
use Rattle.std.proofs.Common.{◌≡◌, ℕ, ◌≤◌, ◌<◌, List, length, true, Some, refl, sym, ap, ◌∙◌, arith, inl, inr}
use Rattle.std.proofs.lemmas.Bool.{cases_lt}
use Rattle.std.proofs.lemmas.Option.{same_Some}
use Rattle.macho_fields.specs.Field.{number, field}
use Rattle.macho_fields.specs.Universal.{IsUniversal, IsImage, entry_count, entry_place}
use Rattle.macho_fields.specs.declared.bytes.Order.TheVariants.{Big, Little}
use Rattle.macho_fields.specs.declared.header.fat.TheConstants as fat
use Rattle.macho_readers.specs.Files.{BreaksFatCount, BreaksFatHeader, HasOtherHeader, IsOtherEntry, entry_bytes, entry_cputype, entry_cpusubtype, header_order, is_wide, is_judged, is_of_64_bits}
use Rattle.macho_readers.specs.Models.{FileKind, UniversalFile, IsKindOfFile, HasOneKindOfFile, IsSubtypeOf, HasOneSubtype, TakeSameSlice, HasOneSetOfSlices}
use Rattle.macho_unambiguous.proofs.Cases.{same_some, same_bool, is_image}

-- Its kind

module _ (file : List ℕ) (none : (place : ℕ) → ¬ BreaksFatCount file place) (long : fat.FAT_HEADER_SIZE ≤ length file) (magic : number Big 4 file 0 ≡ fat.FAT_MAGIC) where
  few : entry_count file < 31
  few = elim (cases_lt (entry_count file) 31) [ inl less ↦ less | inr most ↦ absurd (none 4 (refl, (long, magic, most))) ]

  universal : (answer : FileKind) → IsKindOfFile file answer → answer ≡ UniversalFile
  universal answer (inl is) = is
  universal answer (inr (inl (inl (many, is)))) = absurd (let less = few in omega (arith, many, less))
  universal answer (inr (inl (inr (_, is)))) = is
  universal answer (inr (inr (inl (version, is)))) = absurd (let less = few in omega (arith, version, less))
  universal answer (inr (inr (inr (_, is)))) = is

pub one_kind : (file : List ℕ) → ((place : ℕ) → ¬ BreaksFatCount file place) → HasOneKindOfFile file
one_kind file none long magic a b is_a is_b = universal file none long magic a is_a ∙ sym (universal file none long magic b is_b)

-- Its entries

module _ (file : List ℕ) (none : (place : ℕ) → ¬ BreaksFatHeader file place) (universal : IsUniversal file) (k : ℕ) (less : k < entry_count file) where
  kept : ¬ IsOtherEntry file k
  kept other = none (entry_place file k) (universal, (k, less, refl, other))

  type_is : field (header_order (entry_bytes file k)) 4 (entry_bytes file k) 4 ≡ Some (entry_cputype file k)
  unfolding HasOtherHeader
  type_is = same_some _ _ (λ other. kept (inl (inl other)))

  width_is : is_wide (entry_bytes file k) ≡ is_of_64_bits (entry_cputype file k)
  unfolding HasOtherHeader
  width_is = same_bool _ _ (λ other. kept (inl (inr other)))

  subtype_is : IsImage (entry_bytes file k) → field Little 4 (entry_bytes file k) 8 ≡ Some (entry_cpusubtype file k)
  unfolding HasOtherHeader
  subtype_is image = same_some _ _ (λ other. kept (inr (inl (image, other))))

  image_is : is_judged (entry_cputype file k) ≡ true → IsImage (entry_bytes file k)
  unfolding HasOtherHeader
  image_is judged = is_image (entry_bytes file k) (λ unread. kept (inr (inr (judged, unread))))

  same_slice : (cputype : ℕ) → is_judged cputype ≡ true → TakeSameSlice file cputype k
  same_slice cputype judged = (
    (λ by. same_Some _ _ (sym type_is ∙ by), λ is. type_is ∙ ap Some is),
    (λ by. by.0, λ is. (is, width_is ∙ ap is_of_64_bits is)),
    (λ by. by.0, λ is. (is, image_is (ap is_judged is ∙ judged))),
  )

  the_subtype : IsImage (entry_bytes file k) → (answer : ℕ) → IsSubtypeOf file k answer → answer ≡ entry_cpusubtype file k
  the_subtype image answer (inl is) = is
  the_subtype image answer (inr is) = same_Some _ _ (sym is ∙ subtype_is image)

pub one_subtype : (file : List ℕ) → ((place : ℕ) → ¬ BreaksFatHeader file place) → HasOneSubtype file
one_subtype file none universal k less image a b is_a is_b = the_subtype file none universal k less image a is_a ∙ sym (the_subtype file none universal k less image b is_b)

pub one_set : (file : List ℕ) → ((place : ℕ) → ¬ BreaksFatHeader file place) → HasOneSetOfSlices file
one_set file none universal cputype judged k less = same_slice file none universal k less cputype judged
