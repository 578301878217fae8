-- The tests of a superblob and of a blob in it.
use Rattle.std.proofs.Common.{◌≡◌, ℕ, ◌+◌, ◌<◌, List, length, Bool, true, false, refl, inl, inr, arith}
use Rattle.std.specs.Prelude.{◌==◌, ◌&&◌, nat_le}
use Rattle.std.proofs.lemmas.Bool.{cases_eq, cases_lt, and_parts, le-leb, leb-true, lt-leb, eq-eqb, eqb-true}
use Rattle.macho_signature.specs.Superblobs.{big_word, superblob_at, blob_count, entry_offset, blob_end, has_superblob, is_placed, HasNoSuperblob, IsMisplacedBlob}
use Rattle.macho_fields.specs.declared.header.cs_blobs.TheConstants as cs
use Rattle.macho_signature.specs.declared.superblob.Blob.{Blob}
use Rattle.macho_signature.specs.declared.superblob.Superblob.{Superblob}

both_true : (a b : Bool) → a ≡ true → b ≡ true → (a && b) ≡ true
both_true true b is and = and
both_true false b is and = is

later_false : (a b : Bool) → b ≡ false → (a && b) ≡ false
later_false true b is = is
later_false false b is = refl

pub first_false : (a b : Bool) → a ≡ false → (a && b) ≡ false
first_false false b is = refl
first_false true b is = absurd (cc)

not_below : (a b : ℕ) → ¬ (b < a) → nat_le a b ≡ true
not_below a b none = elim (cases_lt b a) [ inl below ↦ absurd (none below) | inr fits ↦ le-leb a b fits ]

-- the tests of a blob
pub placed_true : (superblob : Superblob) (least : ℕ) (blob : Blob) → ¬ IsMisplacedBlob superblob least blob → is_placed superblob least blob ≡ true
placed_true superblob least blob good =
    both_true _ _ (not_below least blob.offset (λ bad. good (inl bad)))
    (both_true _ _ (not_below (blob.offset + cs.CS_GENERIC_BLOB_SIZE) superblob.length (λ bad. good (inr (inl bad))))
    (both_true _ _ (not_below cs.CS_GENERIC_BLOB_SIZE blob.length (λ bad. good (inr (inr (inl bad)))))
    (not_below (blob_end blob) superblob.length (λ bad. good (inr (inr (inr bad)))))))

pub placed_false : (superblob : Superblob) (least : ℕ) (blob : Blob) → IsMisplacedBlob superblob least blob → is_placed superblob least blob ≡ false
placed_false superblob least blob = by (nat_le least blob.offset) (nat_le (blob.offset + cs.CS_GENERIC_BLOB_SIZE) superblob.length) (nat_le cs.CS_GENERIC_BLOB_SIZE blob.length) (nat_le (blob_end blob) superblob.length)
    (lt-leb least blob.offset) (lt-leb (blob.offset + cs.CS_GENERIC_BLOB_SIZE) superblob.length) (lt-leb cs.CS_GENERIC_BLOB_SIZE blob.length) (lt-leb (blob_end blob) superblob.length)
  where
    by : (a b c d : Bool) → (blob.offset < least → a ≡ false) → (superblob.length < blob.offset + cs.CS_GENERIC_BLOB_SIZE → b ≡ false) → (blob.length < cs.CS_GENERIC_BLOB_SIZE → c ≡ false)
        → (superblob.length < blob_end blob → d ≡ false) → IsMisplacedBlob superblob least blob → (a && (b && (c && d))) ≡ false
    by a b c d one two three four (inl bad) = first_false a (b && (c && d)) (one bad)
    by a b c d one two three four (inr (inl bad)) = later_false a (b && (c && d)) (first_false b (c && d) (two bad))
    by a b c d one two three four (inr (inr (inl bad))) = later_false a (b && (c && d)) (later_false b (c && d) (first_false c d (three bad)))
    by a b c d one two three four (inr (inr (inr bad))) = later_false a (b && (c && d)) (later_false b (c && d) (later_false c d (four bad)))

-- the test of a superblob
pub superblob_true : (signature : List ℕ) → ¬ HasNoSuperblob signature → has_superblob signature ≡ true
superblob_true signature whole =
    both_true _ _ (not_below cs.CS_SUPER_BLOB_SIZE (length signature) (λ bad. whole (inl bad)))
    (both_true _ _ magic
    (both_true _ _ (not_below (superblob_at signature).length (length signature) (λ bad. whole (inr (inr (inl bad)))))
    (not_below (entry_offset (blob_count signature)) (superblob_at signature).length (λ bad. whole (inr (inr (inr bad)))))))
  where
    magic : (big_word signature 0 == cs.CSMAGIC_EMBEDDED_SIGNATURE) ≡ true
    magic = elim (cases_eq (big_word signature 0) cs.CSMAGIC_EMBEDDED_SIGNATURE) [
      | inl is ↦ eq-eqb (big_word signature 0) cs.CSMAGIC_EMBEDDED_SIGNATURE is
      | inr other ↦ absurd (whole (inr (inl other)))
    ]

pub superblob_there : (signature : List ℕ) → has_superblob signature ≡ true → ¬ HasNoSuperblob signature
superblob_there signature has none =
    let superblob = superblob_at signature in
    let (size, rest) = and_parts (nat_le cs.CS_SUPER_BLOB_SIZE (length signature)) _ has in
    let (magic, more) = and_parts (big_word signature 0 == cs.CSMAGIC_EMBEDDED_SIGNATURE) _ rest in
    let (end, index) = and_parts (nat_le superblob.length (length signature)) (nat_le (entry_offset (blob_count signature)) superblob.length) more in
    let long = leb-true cs.CS_SUPER_BLOB_SIZE (length signature) size in
    let inside = leb-true superblob.length (length signature) end in
    let fits = leb-true (entry_offset (blob_count signature)) superblob.length index in
    elim none [
      | inl short ↦ absurd (omega (arith, short, long))
      | inr rest ↦ elim rest [
        | inl other ↦ absurd (other (eqb-true (big_word signature 0) cs.CSMAGIC_EMBEDDED_SIGNATURE magic))
        | inr last ↦ elim last [ inl past ↦ absurd (omega (arith, past, inside)) | inr over ↦ absurd (omega (arith, over, fits)) ]
      ]
    ]
