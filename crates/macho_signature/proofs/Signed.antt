-- What the code signature of an image that breaks none of its rules has.
use Rattle.std.proofs.Common.{◌≡◌, ◌≢◌, ℕ, zero, suc, ◌+◌, ◌*◌, ◌≤◌, ◌<◌, ◌⊎◌, List, length, Option, None, Some, refl, sym, ap, ◌∙◌, subst, arith, inl, inr}
use Rattle.std.specs.Prelude.{IsSomeAnd}
use Rattle.std.proofs.lemmas.Bool.{cases_lt, cases_eq}
use Rattle.std.proofs.lemmas.Nat.{row_fits}
use Rattle.macho_fields.specs.Field.{part}
use Rattle.macho_fields.proofs.Decided.{not_not, le_or_not, zero_or_none}
use Rattle.macho_fields.proofs.Strings.{zero_after}
use Rattle.macho_signature.specs.CodeDirectories.{code_directory, slots_of, IsSound}
use Rattle.macho_signature.specs.Signature.{IsDirectoryAt, bytes_at, HasMain, BadDirectory, AreGoodDirectories, PartialDirectory, BreaksSignatureBlob, BreaksSignatureDirectory, BreaksSignatureWhole}
use Rattle.macho_signature.specs.Signed.{IsPlacedBlob, CoversPages, IsSignature, IsSigned, page_of}
use Rattle.macho_signature.specs.Superblobs.{superblob_at, blob_count, entry_offset, blob_at, blob_end, least_offset, HasNoSuperblob, IsMisplacedBlob, BadBlob, AreGoodBlobs}
use Rattle.macho_signature.specs.declared.code_directory.CodeDirectory.{CodeDirectory}
use Rattle.macho_fields.specs.declared.header.cs_blobs.TheConstants as cs
use Rattle.macho_signature.specs.declared.superblob.Blob.{Blob}
use Rattle.macho_signature.specs.declared.superblob.Superblob.{Superblob}
use Rattle.macho_signature.proofs.Pages.{page_in_slots, slot_has_page}

-- The blobs

-- one that is not misplaced
well_placed : (superblob : Superblob) (least : ℕ) (blob : Blob) → ¬ IsMisplacedBlob superblob least blob
    → (least ≤ blob.offset) × (cs.CS_GENERIC_BLOB_SIZE ≤ blob.length) × (blob_end blob ≤ superblob.length)
well_placed superblob least blob good = (
  elim (cases_lt blob.offset least) [ inl bad ↦ absurd (good (inl bad)) | inr fits ↦ fits ],
  elim (cases_lt blob.length cs.CS_GENERIC_BLOB_SIZE) [ inl bad ↦ absurd (good (inr (inr (inl bad)))) | inr fits ↦ fits ],
  elim (cases_lt superblob.length (blob_end blob)) [ inl bad ↦ absurd (good (inr (inr (inr bad)))) | inr fits ↦ fits ],
)

pub superblob_inside : (signature : List ℕ) → ¬ HasNoSuperblob signature → (superblob_at signature).length ≤ length signature
superblob_inside signature whole = elim (cases_lt (length signature) (superblob_at signature).length) [ inl past ↦ absurd (whole (inr (inr (inl past)))) | inr inside ↦ inside ]

module _ (signature : List ℕ) (good : AreGoodBlobs signature) where
  -- each is, from the end of the one before it on
  pub blob_fits : (k : ℕ) → k < blob_count signature
      → (least_offset signature k ≤ (blob_at signature k).offset) × (cs.CS_GENERIC_BLOB_SIZE ≤ (blob_at signature k).length) × (blob_end (blob_at signature k) ≤ (superblob_at signature).length)
  blob_fits k less = well_placed (superblob_at signature) (least_offset signature k) (blob_at signature k) (good.blobs k less)

  -- and past the index
  pub past_index : (k : ℕ) → k < blob_count signature → entry_offset (blob_count signature) ≤ (blob_at signature k).offset
  past_index zero less = (blob_fits 0 less).0
  past_index (suc k) less =
      let before = past_index k (omega (arith, less)) in
      let next = (blob_fits (suc k) less).0 in
      omega (arith, before, next)

  placed : (k : ℕ) → k < blob_count signature → IsPlacedBlob signature k
  placed k less =
      let fits = blob_fits k less in
      let inside = superblob_inside signature good.superblob in
      record {
        start = past_index k less;
        fields = let room = fits.1 in omega (arith, room);
        end = let end = fits.2 in omega (arith, end, inside);
      }

  apart : (j k : ℕ) → j < k → k < blob_count signature → blob_end (blob_at signature j) ≤ (blob_at signature k).offset
  apart j zero below less = absurd (omega (arith, below))
  apart j (suc k) below less = elim (cases_lt j k) [
    | inl earlier ↦
        let before = apart j k earlier (omega (arith, less)) in
        let next = (blob_fits (suc k) less).0 in
        omega (arith, before, next)
    | inr late ↦
        let same : k ≡ j = omega (arith, below, late) in
        subst (λ i. blob_end (blob_at signature i) ≤ (blob_at signature (suc k)).offset) same (blob_fits (suc k) less).0
  ]

-- The code directories

-- whether one of the first blobs is in the slot that each signature has
main_or_not : (signature : List ℕ) (count : ℕ) → HasMain signature count ⊎ ¬ HasMain signature count
main_or_not signature zero = inr (λ (k, less, slot). absurd (omega (arith, less)))
main_or_not signature (suc count) = elim (main_or_not signature count) [
  | inl (k, less, slot) ↦ inl (k, omega (arith, less), slot)
  | inr none ↦ elim (cases_eq (blob_at signature count).slot cs.CSSLOT_CODEDIRECTORY) [
    | inl is ↦ inl (count, omega arith, is)
    | inr other ↦ inr (λ (k, less, slot). elim (cases_lt k count) [
      | inl before ↦ none (k, before, slot)
      | inr late ↦ let same : k ≡ count = omega (arith, less, late) in other (subst (λ i. (blob_at signature i).slot ≡ cs.CSSLOT_CODEDIRECTORY) same slot)
    ])
  ]
]

module _ (start : ℕ) (blob : List ℕ) (directory : CodeDirectory) (sound : ¬ ¬ IsSound start blob directory) (whole : directory.limit ≡ start) where
  special_fits : directory.special_slots * directory.hash_size ≤ directory.hash_offset
  special_fits = not_not (le_or_not (directory.special_slots * directory.hash_size) directory.hash_offset) (λ past. sound (λ is. past is.hashes.special))

  code_fits : directory.hash_offset + directory.code_slots * directory.hash_size ≤ length blob
  code_fits = not_not (le_or_not (directory.hash_offset + directory.code_slots * directory.hash_size) (length blob)) (λ past. sound (λ is. past is.hashes.code))

  slots_are : directory.code_slots ≡ slots_of directory.page_size start
  slots_are = elim (cases_eq directory.code_slots (slots_of directory.page_size directory.limit)) [
    | inl are ↦ are ∙ ap (slots_of directory.page_size) whole
    | inr other ↦ absurd (sound (λ is. other is.slots.slots))
  ]

  pub covers : CoversPages start blob directory
  covers = record {
    code = λ k less. let row = row_fits k directory.hash_size directory.code_slots directory.hash_size less (omega arith) in omega (arith, row, code_fits);
    special = λ k less.
        let row = row_fits k directory.hash_size directory.special_slots directory.hash_size less (omega arith) in
        (omega (arith, row, special_fits), omega (arith, code_fits));
    pages = λ place less. subst (λ n. page_of directory.page_size place < n) (sym slots_are) (page_in_slots directory.page_size start place less);
    hashes = λ k less. slot_has_page directory.page_size start k (subst (λ n. k < n) slots_are less);
    identifier = λ some. zero_after blob directory.ident_offset (length blob)
        (not_not (zero_or_none blob directory.ident_offset (length blob)) (λ none. sound (λ is. elim is.identifier [ inl at ↦ some at | inr has ↦ none has ])));
    team = λ some. zero_after blob directory.team_offset (length blob)
        (not_not (zero_or_none blob directory.team_offset (length blob)) (λ none. sound (λ is. elim is.team [ inl at ↦ some at | inr has ↦ none has ])));
    earlier = λ k less some.
        let all = not_not (le_or_not (directory.pre_encrypt_offset + directory.code_slots * directory.hash_size) (length blob)) (λ past. sound (λ is. elim is.earlier [ inl at ↦ some at | inr fits ↦ past fits ])) in
        let row = row_fits k directory.hash_size directory.code_slots directory.hash_size less (omega arith) in
        omega (arith, row, all);
    linkage = not_not (le_or_not (directory.linkage_offset + directory.linkage_size) (length blob)) (λ past. sound (λ is. past is.linkage));
  }

-- where no blob is bad, all are good
pub good_blobs : (signature : List ℕ) → ((offset : ℕ) → ¬ BadBlob signature offset) → AreGoodBlobs signature
good_blobs signature blobs = record { superblob = whole; blobs = λ k less bad. blobs (entry_offset k) (inr (whole, (k, less, refl, bad))) }
  where
    whole : ¬ HasNoSuperblob signature
    whole none = blobs 0 (inl (refl, none))

module _ (start : ℕ) (signature : List ℕ) (blobs : (offset : ℕ) → ¬ BadBlob signature offset) (directories : (offset : ℕ) → ¬ BadDirectory start signature offset) (wholes : (offset : ℕ) → ¬ PartialDirectory start signature offset) where
  good : AreGoodBlobs signature
  good = good_blobs signature blobs

  all : AreGoodDirectories start signature
  all = record {
    blobs = good;
    main = not_not (main_or_not signature (blob_count signature)) (λ lacks. directories 0 (good, inl (refl, lacks)));
    sound = λ k less bad. directories (entry_offset k) (good, inr (k, less, refl, bad));
  }

  directory_covers : (k : ℕ) → k < blob_count signature → IsDirectoryAt signature k → IsSomeAnd (code_directory (bytes_at signature k)) (CoversPages start (bytes_at signature k))
  directory_covers k less is = by (code_directory (bytes_at signature k)) (λ bad. all.sound k less (is, bad)) (λ other. wholes (entry_offset k) (all, (k, less, refl, (is, other))))
    where
      by : (read : Option CodeDirectory) → ¬ ¬ IsSomeAnd read (IsSound start (bytes_at signature k)) → ¬ IsSomeAnd read (λ directory. directory.limit ≢ start)
          → IsSomeAnd read (CoversPages start (bytes_at signature k))
      by None sound partial = absurd (sound (λ none. none))
      by (Some directory) sound partial =
          let limit : directory.limit ≡ start = elim (cases_eq directory.limit start) [ inl same ↦ same | inr other ↦ absurd (partial other) ] in
          covers start (bytes_at signature k) directory sound limit

  pub signature_holds : IsSignature start signature
  signature_holds = record { placed = placed signature good; apart = apart signature good; main = all.main; directories = directory_covers }

-- of an image
pub signed_image : (image : List ℕ) → ((place : ℕ) → ¬ BreaksSignatureBlob image place) → ((place : ℕ) → ¬ BreaksSignatureDirectory image place)
    → ((place : ℕ) → ¬ BreaksSignatureWhole image place) → IsSigned image
signed_image image blobs directories wholes table is =
    signature_holds table.start (part table.start table.len image) (λ offset broken. blobs (table.start + offset) (table, is, (offset, refl, broken)))
    (λ offset broken. directories (table.start + offset) (table, is, (offset, refl, broken))) (λ offset broken. wholes (table.start + offset) (table, is, (offset, refl, broken)))
