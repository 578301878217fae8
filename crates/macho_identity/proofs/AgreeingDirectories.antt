-- What a walk over the code directories of a signature knows of them.
use Rattle.std.proofs.Common.{◌≡◌, ℕ, ◌+◌, ◌<◌, List, length, get_or, Bool, true, false, Option, None, Some, MatchOption, refl, sym, ap, ◌∙◌, subst, arith, inl, inr}
use Rattle.std.specs.Prelude.{◌&&◌, ◌==◌, nat_le, if◌then◌else◌, IsSome}
use Rattle.std.specs.Option.{is_some}
use Rattle.std.proofs.lemmas.Bool.{cases_lt, cases_Bool, and_from, and_parts, leb-true, cond-true, cond-false, false≢true}
use Rattle.std.proofs.lemmas.Option.{none-some}
use Rattle.macho_fields.specs.Bytes.{bytes_of}
use Rattle.macho_fields.specs.declared.bytes.Bytes.{Bytes}
use Rattle.macho_identity.specs.DirectoryAgree.{HasDirectory, IsFirstDirectory, IsUnclear, IsDisagreeing}
use Rattle.macho_identity.specs.FirstDirectories.{DiffersFrom, IsUnclearAfter}
use Rattle.macho_identity.specs.Identity.{HasFields, hash_type, SayAlike}
use Rattle.macho_identity.proofs.KnownSlots.{step}
use Rattle.macho_identity.proofs.Noted.{AreNoted, has_noted, free_noted}
use Rattle.macho_signature.specs.CodeDirectories.{version_of, fields_size, is_directory, directory_at, code_directory}
use Rattle.macho_signature.specs.Signature.{bytes_at}
use Rattle.macho_signature.specs.Superblobs.{blob_at, big_word, is_directory_slot}

-- a blob that is read as a code directory has all its fields
read_is : {A : Type 0} (test : Bool) (x : A) → is_some (if test then Some x else None) ≡ true → test ≡ true
read_is true x is = refl
read_is false x wrong = absurd (false≢true wrong)

pub fields_there : (blob : List ℕ) → IsSome (code_directory blob) → HasFields blob
unfolding code_directory
fields_there blob is =
    let is_one = read_is (is_directory blob) (directory_at blob) is in
    let past_size = and_parts (nat_le 44 (length blob)) _ is_one in
    let past_magic = and_parts (big_word blob 0 == 0xfade0c02) _ past_size.1 in
    let past_version = and_parts (nat_le 0x20000 (version_of blob)) _ past_magic.1 in
    let fields = and_parts (nat_le (fields_size (version_of blob)) (length blob)) _ past_version.1 in
    leb-true (fields_size (version_of blob)) (length blob) fields.0

-- the type of hashes of an entry, if it has a directory
abbrev pub hash_number : List ℕ → ℕ → Option ℕ
hash_number signature j =
    if is_directory_slot (blob_at signature j).slot && is_some (code_directory (bytes_at signature j)) then Some (hash_type (bytes_at signature j)) else None

pub number_there : (signature : List ℕ) (j : ℕ) → HasDirectory signature j → hash_number signature j ≡ Some (hash_type (bytes_at signature j))
number_there signature j (slot, is) = cond-true (is_directory_slot (blob_at signature j).slot && is_some (code_directory (bytes_at signature j))) (Some (hash_type (bytes_at signature j))) None
    (and_from (is_directory_slot (blob_at signature j).slot) (is_some (code_directory (bytes_at signature j))) slot is)

pub no_number : (signature : List ℕ) (j : ℕ) → ¬ HasDirectory signature j → hash_number signature j ≡ None
no_number signature j none = elim (cases_Bool (is_directory_slot (blob_at signature j).slot && is_some (code_directory (bytes_at signature j)))) [
  | inl is ↦ absurd (none (and_parts (is_directory_slot (blob_at signature j).slot) (is_some (code_directory (bytes_at signature j))) is))
  | inr not ↦ cond-false (is_directory_slot (blob_at signature j).slot && is_some (code_directory (bytes_at signature j))) (Some (hash_type (bytes_at signature j))) None not
]

of_number : (signature : List ℕ) (j n : ℕ) → hash_number signature j ≡ Some n → HasDirectory signature j × (hash_type (bytes_at signature j) ≡ n)
of_number signature j n is = elim (step (is_directory_slot (blob_at signature j).slot && is_some (code_directory (bytes_at signature j))) (hash_type (bytes_at signature j)) None n is) [
  | inl (both, at) ↦ (and_parts (is_directory_slot (blob_at signature j).slot) (is_some (code_directory (bytes_at signature j))) both, sym at)
  | inr wrong ↦ absurd (none-some n wrong)
]

-- the first directory of the first entries, so many, with its blob
abbrev pub IsFirstFound : List ℕ → ℕ → Option Bytes → Type 0
IsFirstFound signature count found =
    MatchOption found ((j : ℕ) → j < count → ¬ HasDirectory signature j)
    (λ blob. HasFields (bytes_of blob) × ((first : ℕ) × (first < count) × IsFirstDirectory signature first × (bytes_of blob ≡ bytes_at signature first)))

one_first : (signature : List ℕ) (f g : ℕ) → IsFirstDirectory signature f → IsFirstDirectory signature g → f ≡ g
one_first signature f g (has, none) (also, nothing) = elim (cases_lt f g) [
  | inl before ↦ absurd (nothing f before has)
  | inr past ↦ elim (cases_lt g f) [ inl before ↦ absurd (none g before also) | inr to ↦ omega (arith, past, to) ]
]

module _ (signature : List ℕ) (k : ℕ) where
  -- the entry k has none
  pub none_found : (found : Option Bytes) → IsFirstFound signature k found → ¬ HasDirectory signature k → IsFirstFound signature (k + 1) found
  none_found None none lacks = λ j less has. elim (cases_lt j k) [
    | inl before ↦ none j before has
    | inr late ↦ let same : j ≡ k = omega (arith, less, late) in lacks (subst (HasDirectory signature) same has)
  ]
  none_found (Some blob) (fields, (first, less, is, bytes)) lacks = (fields, (first, omega (arith, less), is, bytes))

  pub lacking_agrees : ¬ HasDirectory signature k → ¬ IsDisagreeing signature k
  lacking_agrees lacks bad = lacks bad.0

  -- it has one, with this blob
  module _ (has : HasDirectory signature k) (blob : Bytes) (bytes : bytes_of blob ≡ bytes_at signature k) where
    pub one_found : HasFields (bytes_of blob) → (old new : Option Bytes) → IsFirstFound signature k old → MatchOption old (new ≡ Some blob) (λ found. new ≡ Some found) → IsFirstFound signature (k + 1) new
    one_found fields None new none is = subst (IsFirstFound signature (k + 1)) (sym is) (fields, (k, omega arith, (has, none), bytes))
    one_found fields (Some found) new (there, (first, less, is_first, at)) is = subst (IsFirstFound signature (k + 1)) (sym is) (there, (first, omega (arith, less), is_first, at))

    differs_there : (found : Option Bytes) → IsFirstFound signature k found → DiffersFrom found (bytes_of blob) → (first : ℕ) × IsFirstDirectory signature first × ¬ SayAlike (bytes_at signature first) (bytes_at signature k)
    differs_there None none differs = absurd differs
    differs_there (Some one) (there, (first, less, is_first, at)) differs =
        (first, is_first, subst (λ (b : List ℕ). ¬ SayAlike b (bytes_at signature k)) at (subst (λ (b : List ℕ). ¬ SayAlike (bytes_of one) b) bytes differs))

    differs_found : (found : Option Bytes) → IsFirstFound signature k found → (first : ℕ) → IsFirstDirectory signature first → ¬ SayAlike (bytes_at signature first) (bytes_at signature k) → DiffersFrom found (bytes_of blob)
    differs_found None none first (is, before) differs = elim (cases_lt first k) [
      | inl early ↦ absurd (none first early is)
      | inr late ↦ elim (cases_lt k first) [
        | inl past ↦ absurd (before k past has)
        | inr to ↦ let same : first ≡ k = omega (arith, late, to) in absurd (subst (λ i. ¬ SayAlike (bytes_at signature i) (bytes_at signature k)) same differs (refl, refl, refl))
      ]
    ]
    differs_found (Some one) (there, (early, less, is_first, at)) first is differs =
        subst (λ (b : List ℕ). ¬ SayAlike b (bytes_of blob)) (sym at)
        (subst (λ (b : List ℕ). ¬ SayAlike (bytes_at signature early) b) (sym bytes)
        (subst (λ i. ¬ SayAlike (bytes_at signature i) (bytes_at signature k)) (one_first signature first early is is_first) differs))

    pub unclear_disagrees : (found : Option Bytes) → IsFirstFound signature k found → IsUnclearAfter found (bytes_of blob) → IsDisagreeing signature k
    unclear_disagrees found is (inl unclear) = (has, inl (subst IsUnclear bytes unclear))
    unclear_disagrees found is (inr differs) = (has, inr (inl (differs_there found is differs)))

    module _ (taken : List Bool) (noted : AreNoted (hash_number signature) 256 k taken) (n : ℕ) (fits : n < 256) (at : n ≡ hash_type (bytes_at signature k)) where
      pub number_is : hash_number signature k ≡ Some n
      number_is = number_there signature k has ∙ ap (λ i. Some i) (sym at)

      pub taken_disagrees : get_or taken n false ≡ true → IsDisagreeing signature k
      taken_disagrees is =
          let (j, less, there) = has_noted (hash_number signature) 256 k taken noted n fits is in
          let (also, same) = of_number signature j n there in
          (has, inr (inr (j, less, (also, same ∙ at))))

      pub free_agrees : get_or taken n false ≡ false → (found : Option Bytes) → IsFirstFound signature k found → ¬ IsUnclearAfter found (bytes_of blob) → ¬ IsDisagreeing signature k
      free_agrees free found is clear (also, inl unclear) = clear (inl (subst IsUnclear (sym bytes) unclear))
      free_agrees free found is clear (also, inr (inl (first, is_first, differs))) = clear (inr (differs_found found is first is_first differs))
      free_agrees free found is clear (also, inr (inr (j, less, (there, same)))) =
          free_noted (hash_number signature) 256 k taken noted n fits free (j, less, number_there signature j there ∙ ap (λ i. Some i) (same ∙ sym at))
