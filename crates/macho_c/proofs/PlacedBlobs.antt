-- The blobs of a code signature that are in place: the next one, and all.
use Rattle.std.proofs.Common.{◌≡◌, ◌∙◌, ℕ, zero, suc, ◌+◌, ◌-◌, ◌≤◌, ◌<◌, List, [], ◌∷◌, length, map, Bool, true, false, Option, Some, None, inl, inr, refl, sym, ap, subst, arith}
use Rattle.std.specs.Prelude.{◌==◌, ◌&&◌, nat_le, max, MatchOption, if◌then◌else◌}
use Rattle.std.specs.Option.{option_map_or}
use Rattle.std.proofs.lemmas.Bool.{cases_Bool, cases_eq, cases_lt, le-leb, lt-leb, eq-eqb}
use Rattle.std.proofs.lemmas.List.{length-map}
use Rattle.macho_fields.specs.Field.{part}
use Rattle.macho_fields.specs.Symbol.{IsOutside}
use Rattle.macho_fields.specs.declared.header.loader.TheConstants as loader
use Rattle.macho_signature.specs.Superblobs.{big_word, superblob_at, blob_count, entry_offset, blob_at, blob_end, least_offset, has_superblob, is_placed, HasNoSuperblob, IsMisplacedBlob, AreGoodBlobs}
use Rattle.macho_fields.specs.declared.header.cs_blobs.TheConstants as cs
use Rattle.macho_signature.specs.declared.superblob.Blob.{Blob}
use Rattle.macho_signature.specs.declared.superblob.Superblob.{Superblob}
use Rattle.macho_c.specs.Blobs.{placed_blobs, blobs_from, blob_row, blobs_left, IsFirstPlaced, HasAllBlobs}
use Rattle.macho_rows.specs.Cursor.{start}
use Rattle.macho_rows.specs.Image.{ShowsUnbroken, image_in, only}
use Rattle.macho_rows.specs.Linkedit.{dataoff, datasize}
use Rattle.macho_rows.specs.Spans.{part_or_none}
use Rattle.macho_c.specs.declared.blobs.KesvuotBlob.{KesvuotBlob}
use Rattle.macho_rows.specs.declared.image.KesvuotImage.{KesvuotImage}
use Rattle.macho_signature.proofs.Signed.{superblob_inside, blob_fits, past_index}
use Rattle.macho_signature.proofs.SuperblobTests.{first_false, superblob_true, placed_true, placed_false}
use Rattle.macho_rows.proofs.AllSymbols.{unbroken}
use Rattle.macho_c.proofs.NamedData.{nothing, named, data_inside, whole, cases_fits}

-- no bytes have none
no_blobs : (signature : List ℕ) → length signature ≡ 0 → blobs_from signature 0 0 ≡ []
no_blobs signature empty =
    let short : has_superblob signature ≡ false = first_false (nat_le cs.CS_SUPER_BLOB_SIZE (length signature)) _ (lt-leb cs.CS_SUPER_BLOB_SIZE (length signature) (omega (arith, empty))) in
    rw short refl

-- The first of them, from the entry k on

module _ (signature : List ℕ) (k least : ℕ) (whole : ¬ HasNoSuperblob signature) (less : k < blob_count signature) where
  abbrev low : ℕ
  low = max least (entry_offset (blob_count signature))

  more : blob_count signature - k ≡ suc (blob_count signature - suc k)
  more = omega (arith, less)

  here : blobs_from signature k least
      ≡ (if is_placed (superblob_at signature) low (blob_at signature k)
      then blob_at signature k ∷ placed_blobs signature (blob_count signature - suc k) (suc k) (blob_end (blob_at signature k)) else [])
  here = rw (superblob_true signature whole, more) refl

  none_placed : IsMisplacedBlob (superblob_at signature) low (blob_at signature k) → blobs_from signature k least ≡ []
  none_placed bad = here ∙ rw (placed_false (superblob_at signature) low (blob_at signature k) bad) refl

  rest_are : blobs_from signature (suc k) (blob_end (blob_at signature k)) ≡ placed_blobs signature (blob_count signature - suc k) (suc k) (blob_end (blob_at signature k))
  rest_are = rw (superblob_true signature whole) refl

  one_placed : ¬ IsMisplacedBlob (superblob_at signature) low (blob_at signature k)
      → blobs_from signature k least ≡ blob_at signature k ∷ blobs_from signature (suc k) (blob_end (blob_at signature k))
  one_placed good = here ∙ (rw (placed_true (superblob_at signature) low (blob_at signature k) good) refl ∙ ap (λ blobs. blob_at signature k ∷ blobs) (sym rest_are))

pub first_placed : (signature : List ℕ) (k least : ℕ) (superblob : Superblob) (found : Option Blob) → superblob ≡ superblob_at signature → ¬ HasNoSuperblob signature → k < superblob.count
    → MatchOption found (IsMisplacedBlob superblob (max least (entry_offset superblob.count)) (blob_at signature k))
    (λ blob. (¬ IsMisplacedBlob superblob (max least (entry_offset superblob.count)) blob) × (blob ≡ blob_at signature k))
    → IsFirstPlaced signature k least found
first_placed signature k least superblob found is whole less read =
    by found (subst (λ (s : Superblob). k < s.count) is less)
    (subst (λ (s : Superblob). MatchOption found (IsMisplacedBlob s (max least (entry_offset s.count)) (blob_at signature k))
    (λ blob. (¬ IsMisplacedBlob s (max least (entry_offset s.count)) blob) × (blob ≡ blob_at signature k))) is read)
  where
    least_of : ℕ
    least_of = max least (entry_offset (blob_count signature))

    by : (found : Option Blob) → k < blob_count signature
        → MatchOption found (IsMisplacedBlob (superblob_at signature) least_of (blob_at signature k)) (λ blob. (¬ IsMisplacedBlob (superblob_at signature) least_of blob) × (blob ≡ blob_at signature k))
        → IsFirstPlaced signature k least found
    by None below bad = none_placed signature k least whole below bad
    by (Some blob) below (good, same) =
        let here : ¬ IsMisplacedBlob (superblob_at signature) least_of (blob_at signature k) = subst (λ (b : Blob). ¬ IsMisplacedBlob (superblob_at signature) least_of b) same good in
        let ends : blob_end blob ≤ (superblob_at signature).length = elim (cases_lt (superblob_at signature).length (blob_end blob)) [ inl past ↦ absurd (good (inr (inr (inr past)))) | inr fits ↦ fits ] in
        let room : cs.CS_GENERIC_BLOB_SIZE ≤ blob.length = elim (cases_lt blob.length cs.CS_GENERIC_BLOB_SIZE) [ inl few ↦ absurd (good (inr (inr (inl few)))) | inr fits ↦ fits ] in
        let inside = superblob_inside signature whole in (
          below,
          omega (arith, ends, inside),
          omega (arith, room),
          subst (λ (b : Blob). blobs_from signature k least ≡ b ∷ blobs_from signature (suc k) (blob_end b)) (sym same) (one_placed signature k least whole below here),
        )

-- Of a signature without a bad blob none is left out
module _ (signature : List ℕ) (good : AreGoodBlobs signature) where
  all_placed : (most k least : ℕ) → k + most ≡ blob_count signature → least ≤ least_offset signature k → length (placed_blobs signature most k least) ≡ most
  all_placed zero k least sum low = refl
  all_placed (suc most) k least sum low =
      let less : k < blob_count signature = omega (arith, sum) in
      let past = past_index signature good k less in
      let after = (blob_fits signature good k less).0 in
      let index = entry_offset (blob_count signature) in
      let fits : max least index ≤ (blob_at signature k).offset = omega (arith, past, after, low) in
      let is = placed_true (superblob_at signature) (max least index) (blob_at signature k) (first_fits (superblob_at signature) (least_offset signature k) (max least index) (blob_at signature k) fits (good.blobs k less)) in
      let rest = all_placed most (suc k) (blob_end (blob_at signature k)) (omega (arith, sum)) (omega arith) in
      rw is (omega (arith, rest))
    where
      first_fits : (superblob : Superblob) (old new : ℕ) (blob : Blob) → new ≤ blob.offset → ¬ IsMisplacedBlob superblob old blob → ¬ IsMisplacedBlob superblob new blob
      first_fits superblob old new blob fits kept (inl bad) = omega (arith, fits, bad)
      first_fits superblob old new blob fits kept (inr bad) = kept (inr bad)

  all_blobs : length (blobs_from signature 0 0) ≡ blob_count signature
  all_blobs =
      let all : blob_count signature - 0 ≡ blob_count signature = omega arith in
      rw (superblob_true signature good.superblob) (all_placed (blob_count signature - 0) 0 0 (omega arith) (omega arith) ∙ all)

-- All blobs of an image that breaks no rule
module _ (file : List ℕ) (row : KesvuotImage) (shows : ShowsUnbroken file row) where
  abbrev image : List ℕ
  image = image_in file row

  abbrev place : ℕ
  place = row.slice.offset

  abbrev data_read : ℕ → ℕ × ℕ
  data_read c = if nat_le (dataoff image c + datasize image c) (length image) then (dataoff image c, datasize image c) else (0, 0)

  abbrev blobs_in : ℕ → List ℕ → List KesvuotBlob
  blobs_in start signature = map (blob_row place image start signature) (blobs_from signature 0 0)

  abbrev blobs_found : ℕ × ℕ → List KesvuotBlob
  blobs_found found = blobs_in found.0 (part_or_none found.0 found.1 image)

  abbrev HasAll : Option ℕ → List KesvuotBlob → Type 0
  HasAll first rows =
      MatchOption first (rows ≡ []) (λ command.
      (rows ≡ blobs_in (dataoff image command) (part (dataoff image command) (datasize image command) image))
      × (length (part (dataoff image command) (datasize image command) image) ≡ datasize image command)
      × (AreGoodBlobs (part (dataoff image command) (datasize image command) image) → length rows ≡ blob_count (part (dataoff image command) (datasize image command) image)))

  all_in : (start : ℕ) (bytes : List ℕ) → AreGoodBlobs bytes → length (blobs_in start bytes) ≡ blob_count bytes
  all_in start bytes good = length-map (blobs_from bytes 0 0) (blob_row place image start bytes) ∙ all_blobs bytes good

  none_in : (start : ℕ) (bytes : List ℕ) → length bytes ≡ 0 → blobs_in start bytes ≡ []
  none_in start bytes empty = ap (map (blob_row place image start bytes)) (no_blobs bytes empty)

  none_found : blobs_found (0, 0) ≡ []
  none_found = none_in 0 (part_or_none 0 0 image) (ap length (nothing image))

  of_first : (first : Option ℕ) → only image loader.LC_CODE_SIGNATURE ≡ first → HasAll first (blobs_found (option_map_or data_read first (0, 0)))
  of_first None at = none_found
  of_first (Some c) at = elim (cases_Bool (nat_le (dataoff image c + datasize image c) (length image))) [
    | inl fits ↦
        let held : part_or_none (dataoff image c) (datasize image c) image ≡ signature = rw fits refl in
        rw fits (subst (HasAll (Some c)) (sym (ap (blobs_in (dataoff image c)) held)) (refl, whole image c inside, all_in (dataoff image c) signature))
    | inr past ↦
        let none : blobs_in (dataoff image c) signature ≡ blobs_found (0, 0) = none_in (dataoff image c) signature (whole image c inside ∙ empty past) ∙ sym none_found in
        rw past (subst (HasAll (Some c)) none (refl, whole image c inside, all_in (dataoff image c) signature))
  ]
    where
      signature : List ℕ
      signature = part (dataoff image c) (datasize image c) image

      inside : ¬ IsOutside image (dataoff image c, datasize image c, 1)
      inside = data_inside image (unbroken file row shows) loader.LC_CODE_SIGNATURE refl c at

      empty : nat_le (dataoff image c + datasize image c) (length image) ≡ false → datasize image c ≡ 0
      empty past = elim (cases_fits image c inside) [
        | inl fits ↦ absurd (let is = le-leb _ _ fits in cc)
        | inr none ↦ none
      ]

  pub has_blobs : HasAllBlobs place image (blobs_left place image start)
  has_blobs =
      subst (HasAll (only image loader.LC_CODE_SIGNATURE)) (sym (ap blobs_found (named image (unbroken file row shows) loader.LC_CODE_SIGNATURE refl)))
      (of_first (only image loader.LC_CODE_SIGNATURE) refl)
