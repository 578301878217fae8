-- What an explanation shows of the rules of the sealed profile.
use Rattle.std.proofs.Common.{◌≡◌, ◌∙◌, ◌≢◌, ℕ, ◌/◌, ◌^◌, ◌<◌, List, Option, None, Some, IfSome, refl, inl, inr, sym, ap, arith, subst, le_refl}
use Rattle.std.specs.Prelude.{zero, suc, ◌+◌, ◌≤◌, ◌==◌, false, is_some, IfNone, IsSomeAnd, if◌then◌else◌}
use Rattle.std.proofs.lemmas.Bool.{cases_Bool, cases_lt, eqb-true, false≢true}
use Rattle.std.proofs.lemmas.Nat.{pow_pos}
use Rattle.std.proofs.Math.Nat.{mul-div_cancel}
use Rattle.macho_fields.specs.Bytes.{bytes_of}
use Rattle.macho_fields.proofs.Options.{of_some, some_has, some_of}
use Rattle.macho_signature.specs.CodeDirectories.{code_directory, HasSlots, IsSound, IsSoundDirectory}
use Rattle.macho_signature.specs.Signature.{bytes_at, IsDirectoryAt}
use Rattle.macho_signature.specs.Superblobs.{blob_at, blob_count, is_directory_slot, AreGoodBlobs}
use Rattle.macho_signature.specs.Signed.{page_of}
use Rattle.macho_signature.proofs.Pages.{slot_has_page}
use Rattle.macho_seals.specs.Pages.{page_at}
use Rattle.macho_seals.specs.Specials.{BadSpecial, IsOtherSpecial, IsSpecialAt}
use Rattle.macho_seals.proofs.Blobs.{begins_past, blob_filled}
use Rattle.macho_signature.specs.declared.code_directory.CodeDirectory.{CodeDirectory}
use Rattle.macho_explain.specs.Seals.{directories_before, DiffersAt, HasDiffering, HasOtherHash, HasOtherHashes, IsDirectoryOf, IsHashShown, IsOther, IsOtherShown, IsSpecialShown}
use Rattle.macho_explain.specs.Signatures.{IsSignatureOf}
use Rattle.macho_explain.specs.Wholes.{named_table}
use Rattle.macho_explain.proofs.Wholes.{same_table, same_bytes}
use Rattle.macho_spans.specs.declared.span.Span.{Span}
use Rattle.macho_fields.specs.declared.header.loader.TheConstants as loader
use Rattle.macho_explain.specs.declared.conflict.Conflict.{Conflict}
use Rattle.macho_explain.specs.declared.seal.Directory.{Directory}
use Rattle.macho_explain.specs.declared.seal.Hashed.{Hashed}
use Rattle.macho_explain.specs.declared.seal.Hashed.TheVariants.{Special}

-- a blob in a special slot has another hash
pub special_shown : (image : List ℕ) (start : ℕ) (signature blob : List ℕ) (directory : CodeDirectory) (place : ℕ) (found : Option Conflict)
    → IfSome found (λ c. IsSpecialShown start signature blob directory place c.value c.limit) → IfSome found (λ c. IsOtherShown image start signature blob directory place c.value c.limit)
special_shown image start signature blob directory place None has = has
special_shown image start signature blob directory place (Some c) has = inr has

-- what has another hash in one code directory of a signature
pub hash_shown : (image : List ℕ) (start : ℕ) (signature : List ℕ) (directory : Directory) (place : ℕ) (found : Option Conflict) → IsDirectoryOf start signature directory
    → IfSome found (λ c. IsOtherShown image start signature (bytes_of directory.bytes) directory.fields place c.value c.limit)
    → IfSome found (λ c. IsHashShown image start signature place c.value c.limit)
hash_shown image start signature directory place None is has = has
hash_shown image start signature directory place (Some c) is has = (
  directory.index,
  directory.fields,
  is.slot,
  ap code_directory (sym is.bytes) ∙ is.fields,
  subst (λ (b : List ℕ). IsOtherShown image start signature b directory.fields place c.value c.limit) is.bytes has,
)

-- which page has a place, with pages of a size, and with one page
pub page_of_some : (size place : ℕ) → size ≢ 0 → page_of size place ≡ place / 2 ^ size
page_of_some size place some = elim (cases_Bool (size == 0)) [ inl one ↦ absurd (some (eqb-true size 0 one)) | inr many ↦ rw many refl ]

pub page_of_one : (size place : ℕ) → size ≡ 0 → page_of size place ≡ 0
page_of_one size place one = rw one refl

-- the page of a code directory that begins at a place has it
pub page_is : (directory : CodeDirectory) (place k : ℕ) → HasSlots directory → k < directory.code_slots → place ≡ (page_at directory k).start → page_of directory.page_size place ≡ k
page_is directory place k slots less at = elim (cases_Bool (directory.page_size == 0)) [
  | inl one ↦
      let (first, before, is) = slot_has_page directory.page_size directory.limit k (subst (λ n. k < n) slots.slots less) in
      rw one (rw one at is)
  | inr some ↦ let here = rw some at at in rw some (ap (λ n. n / 2 ^ directory.page_size) here ∙ mul-div_cancel k (pow_pos directory.page_size))
]

-- no two blobs in place begin at one offset
module _ (signature : List ℕ) (good : AreGoodBlobs signature) where
  one_before : (j k : ℕ) → j < k → k < blob_count signature → ¬ ((blob_at signature j).offset ≡ (blob_at signature k).offset)
  one_before j k before less same =
      let past = begins_past signature good (suc j) k before less in
      let filled = blob_filled signature good j (omega (arith, before, less)) in
      absurd (omega (arith, past, filled, same))

  pub same_blob : (j k : ℕ) → j < blob_count signature → k < blob_count signature → (blob_at signature j).offset ≡ (blob_at signature k).offset → j ≡ k
  same_blob j k first second same = elim (cases_lt j k) [
    | inl before ↦ absurd (one_before j k before second same)
    | inr late ↦ elim (cases_lt k j) [ inl past ↦ absurd (one_before k j past first (sym same)) | inr one ↦ omega (arith, late, one) ]
  ]

-- how many code directories are before a blob
module _ (signature : List ℕ) where
  pub counts_directory : (k : ℕ) → IsDirectoryAt signature k → directories_before signature (k + 1) ≡ directories_before signature k + 1
  counts_directory k is =
      let same : suc k ≡ k + 1 = omega arith in
      let next : directories_before signature (suc k) ≡ directories_before signature k + 1 = ap (λ b. directories_before signature k + (if b then 1 else 0)) is in
      subst (λ n. directories_before signature n ≡ directories_before signature k + 1) same next

  counts_suc : (k : ℕ) → directories_before signature k ≤ directories_before signature (suc k)
  counts_suc k = le_add (directories_before signature k) (if is_directory_slot (blob_at signature k).slot then 1 else 0)
    where
      le_add : (n m : ℕ) → n ≤ n + m
      le_add n m = omega arith

  pub counts_on : (k : ℕ) → directories_before signature k ≤ directories_before signature (k + 1)
  counts_on k = let same : suc k ≡ k + 1 = omega arith in subst (λ n. directories_before signature k ≤ directories_before signature n) same (counts_suc k)

  pub counts_up : (j k : ℕ) → j ≤ k → directories_before signature j ≤ directories_before signature k
  counts_up j zero most = let same : j ≡ 0 = omega (arith, most) in rw same (le_refl 0)
  counts_up j (suc k) most = elim (cases_lt k j) [
    | inl past ↦ let same : j ≡ suc k = omega (arith, most, past) in rw same (le_refl (directories_before signature (suc k)))
    | inr before ↦ let up = counts_up j k before in let on = counts_suc k in omega (arith, up, on)
  ]

both_first : (found : Option CodeDirectory) (P Q : CodeDirectory → Type 0) → IsSomeAnd found (λ d. P d × Q d) → IsSomeAnd found P
both_first None P Q has = has
both_first (Some d) P Q has = has.0

-- where a code directory of a signature differs
module _ (Differs : List ℕ → CodeDirectory → Type 0) (start : ℕ) (signature : List ℕ) where
  pub no_directory : (k : ℕ) → ¬ (IsDirectoryAt signature k × IsSoundDirectory start (bytes_at signature k)) → ¬ DiffersAt Differs start signature k
  no_directory k none differs = none (
    differs.0,
    both_first (code_directory (bytes_at signature k)) (IsSound start (bytes_at signature k)) (Differs (bytes_at signature k)) differs.1,
  )

  pub no_difference : (directory : Directory) (k : ℕ) → IsDirectoryOf start signature directory → directory.index ≡ k → ¬ Differs (bytes_of directory.bytes) directory.fields → ¬ DiffersAt Differs start signature k
  no_difference directory k is same none differs =
      let here = subst (DiffersAt Differs start signature) (sym same) differs in
      let read : code_directory (bytes_at signature directory.index) ≡ Some directory.fields = ap code_directory (sym is.bytes) ∙ is.fields in
      let blob = bytes_at signature directory.index in
      let both = some_has (λ d. IsSound start blob d × Differs blob d) (code_directory blob) directory.fields read here.1 in
      none (subst (λ (b : List ℕ). Differs b directory.fields) (sym is.bytes) both.1)

  pub none_before : (index : ℕ) → ((j : ℕ) → j < index → ¬ DiffersAt Differs start signature j) → ¬ DiffersAt Differs start signature index
      → (j : ℕ) → j < index + 1 → ¬ DiffersAt Differs start signature j
  none_before index before here j less differs = elim (cases_lt j index) [
    | inl earlier ↦ before j earlier differs
    | inr late ↦ let same : j ≡ index = omega (arith, less, late) in here (subst (DiffersAt Differs start signature) same differs)
  ]

-- nothing was found
pub of_not_some : (N : Type 0) (found : Option Conflict) → false ≡ is_some found → IfNone found N → N
of_not_some N None is none = none
of_not_some N (Some c) is none = absurd (false≢true is)

-- a directory that has another hash of a blob at an offset has another hash of the blob that was found there
pub special_differs : (image : List ℕ) (start : ℕ) (signature : List ℕ) (offset : ℕ) (found : Option Hashed)
    → (AreGoodBlobs signature → (k : ℕ) → k < blob_count signature → (blob_at signature k).offset ≡ offset → IsSpecialAt signature k → found ≡ Some (Special k (blob_at signature k)))
    → HasDiffering (λ blob directory. BadSpecial signature blob directory offset) start signature → IsSomeAnd found (λ hashed. HasDiffering (IsOther image signature hashed) start signature)
special_differs image start signature offset found only (good, (k, less, early, (slot, some))) =
    let blob = bytes_at signature k in
    let (directory, read, (sound, (j, below, here, other))) = some_of (λ d. IsSound start blob d × BadSpecial signature blob d offset) (code_directory blob) some in
    let is = only good j below (sym here) other.0 in
    let differs = of_some (λ d. IsSound start blob d × IsOtherSpecial signature blob d j) (code_directory blob) directory read (sound, other) in
    of_some (λ hashed. HasDiffering (IsOther image signature hashed) start signature) found (Special j (blob_at signature j)) is (good, (k, less, early, (slot, differs)))

-- an image has one signature
pub of_signature : (image : List ℕ) (table : Span) (signature : List ℕ) (place : ℕ) → IsSignatureOf image table signature → HasOtherHashes image place → HasOtherHash image table signature place
of_signature image table signature place is (opens, (other, read, also, has)) =
    let named = named_table image loader.LC_CODE_SIGNATURE in
    let same = same_bytes image named table signature is other read also in
    subst (λ (b : List ℕ). HasOtherHash image table b place) same (subst (λ (t : Span). HasOtherHash image t read place) (same_table image named table signature is other read also) has)
