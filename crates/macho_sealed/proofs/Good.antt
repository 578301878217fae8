-- What the code signature has of an image that breaks no linked rule.
use Rattle.std.proofs.Common.{◌≡◌, ◌≢◌, ℕ, ◌+◌, ◌*◌, ◌⊎◌, List, length, Option, Some, None, refl, ap, inl, inr}
use Rattle.std.specs.Prelude.{IsSomeAnd}
use Rattle.std.proofs.lemmas.Bool.{cases_eq}
use Rattle.std.proofs.lemmas.Option.{same_Some}
use Rattle.macho_fields.specs.Field.{part}
use Rattle.macho_fields.specs.Layers.{NothingBreaks}
use Rattle.macho_fields.specs.declared.header.loader.TheConstants as loader
use Rattle.macho_fields.specs.declared.rule.Rule.TheVariants as rule
use Rattle.macho_fields.proofs.Decided.{not_not, le_or_not, zero_or_none}
use Rattle.macho_linked.specs.Rules.{BreaksImage}
use Rattle.macho_seals.specs.Good.{IsWholeDirectory, IsWholeSignature}
use Rattle.macho_signature.specs.CodeDirectories.{code_directory, size_of_hash, slots_of, HasName, HasEarlierHashes, IsSound}
use Rattle.macho_signature.specs.Signature.{bytes_at, BadDirectory, AreGoodDirectories, PartialDirectory}
use Rattle.macho_signature.specs.Signed.{IsSignature}
use Rattle.macho_signature.specs.Superblobs.{entry_offset, HasNoSuperblob, BadBlob, AreGoodBlobs}
use Rattle.macho_signature.specs.declared.code_directory.CodeDirectory.{CodeDirectory}
use Rattle.macho_signature.proofs.Signed.{signed_image, good_blobs}
use Rattle.macho_spans.specs.declared.span.Span.{Span}
use Rattle.macho_tables.specs.DataTables.{IsDataTable}

-- Whether a directory is sound can be decided

same_size : (size : Option ℕ) (n : ℕ) → (size ≡ Some n) ⊎ ¬ (size ≡ Some n)
same_size None n = inr (λ wrong. absurd (cc))
same_size (Some m) n = elim (cases_eq m n) [ inl same ↦ inl (ap (λ k. Some k) same) | inr other ↦ inr (λ is. other (same_Some m n is)) ]

has_name_or_not : (blob : List ℕ) (offset : ℕ) → HasName blob offset ⊎ ¬ HasName blob offset
has_name_or_not blob offset = elim (cases_eq offset 0) [
  | inl none ↦ inl (inl none)
  | inr some ↦ elim (zero_or_none blob offset (length blob)) [ inl found ↦ inl (inr found) | inr unended ↦ inr (λ has. elim has [ inl none ↦ some none | inr found ↦ unended found ]) ]
]

earlier_or_not : (size : ℕ) (directory : CodeDirectory) → HasEarlierHashes size directory ⊎ ¬ HasEarlierHashes size directory
earlier_or_not size directory = elim (cases_eq directory.pre_encrypt_offset 0) [
  | inl none ↦ inl (inl none)
  | inr some ↦ elim (le_or_not (directory.pre_encrypt_offset + directory.code_slots * directory.hash_size) size) [ inl fits ↦ inl (inr fits) | inr past ↦ inr (λ has. elim has [ inl none ↦ some none | inr fits ↦ past fits ]) ]
]

sound_kept : (start : ℕ) (blob : List ℕ) (directory : CodeDirectory) → ¬ ¬ IsSound start blob directory → IsSound start blob directory
sound_kept start blob directory sound = record {
  hashes = record {
    known = not_not (same_size (size_of_hash directory.hash_type) directory.hash_size) (λ other. sound (λ is. other is.hashes.known));
    special = not_not (le_or_not (directory.special_slots * directory.hash_size) directory.hash_offset) (λ past. sound (λ is. past is.hashes.special));
    code = not_not (le_or_not (directory.hash_offset + directory.code_slots * directory.hash_size) (length blob)) (λ past. sound (λ is. past is.hashes.code));
  };
  slots = record {
    page = not_not (le_or_not directory.page_size 31) (λ past. sound (λ is. past is.slots.page));
    slots = not_not (cases_eq directory.code_slots (slots_of directory.page_size directory.limit)) (λ other. sound (λ is. other is.slots.slots));
  };
  limit = not_not (le_or_not directory.limit start) (λ past. sound (λ is. past is.limit));
  identifier = not_not (has_name_or_not blob directory.ident_offset) (λ none. sound (λ is. none is.identifier));
  team = not_not (has_name_or_not blob directory.team_offset) (λ none. sound (λ is. none is.team));
  earlier = not_not (earlier_or_not (length blob) directory) (λ none. sound (λ is. none is.earlier));
  linkage = not_not (le_or_not (directory.linkage_offset + directory.linkage_size) (length blob)) (λ past. sound (λ is. past is.linkage));
}

whole_directory : (start : ℕ) (blob : List ℕ) → ¬ ¬ IsSomeAnd (code_directory blob) (IsSound start blob) → ¬ IsSomeAnd (code_directory blob) (λ directory. directory.limit ≢ start)
    → IsWholeDirectory start blob
whole_directory start blob = by (code_directory blob)
  where
    by : (read : Option CodeDirectory) → ¬ ¬ IsSomeAnd read (IsSound start blob) → ¬ IsSomeAnd read (λ directory. directory.limit ≢ start)
        → IsSomeAnd read (λ directory. IsSound start blob directory × (directory.limit ≡ start))
    by None sound partial = absurd (sound (λ none. none))
    by (Some directory) sound partial = (sound_kept start blob directory sound, not_not (cases_eq directory.limit start) partial)

-- The signature

module _ (start : ℕ) (signature : List ℕ) (is : IsSignature start signature) (blobs : (offset : ℕ) → ¬ BadBlob signature offset) (directories : (offset : ℕ) → ¬ BadDirectory start signature offset) (wholes : (offset : ℕ) → ¬ PartialDirectory start signature offset) where
  good : AreGoodBlobs signature
  good = good_blobs signature blobs

  all : AreGoodDirectories start signature
  all = record { blobs = good; main = is.main; sound = λ k less bad. directories (entry_offset k) (good, inr (k, less, refl, bad)) }

  is_whole : IsWholeSignature start signature
  is_whole = record {
    blobs = good;
    main = is.main;
    directories = λ k less is_directory.
        whole_directory start (bytes_at signature k) (λ bad. all.sound k less (is_directory, bad))
        (λ other. wholes (entry_offset k) (all, (k, less, refl, (is_directory, other))));
  }

-- of an image
pub whole_signature : (image : List ℕ) → NothingBreaks (BreaksImage image) → (table : Span) → IsDataTable image loader.LC_CODE_SIGNATURE table
    → IsWholeSignature table.start (part table.start table.len image)
whole_signature image kept table is =
    let signed = signed_image image (kept rule.SignatureBlob) (kept rule.SignatureDirectory) (kept rule.SignatureWhole) table is in
    is_whole table.start (part table.start table.len image) signed (λ offset broken. kept rule.SignatureBlob (table.start + offset) (table, is, (offset, refl, broken)))
    (λ offset broken. kept rule.SignatureDirectory (table.start + offset) (table, is, (offset, refl, broken))) (λ offset broken. kept rule.SignatureWhole (table.start + offset) (table, is, (offset, refl, broken)))
