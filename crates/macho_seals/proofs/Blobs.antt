-- The blobs of a signature that are in place.
use Rattle.std.proofs.Common.{◌≡◌, ℕ, zero, suc, ◌≤◌, ◌<◌, List, length, Option, None, Some, MatchOption, refl, subst, arith, inl, inr, le_refl}
use Rattle.std.specs.Prelude.{IsSome}
use Rattle.std.proofs.lemmas.Bool.{cases_lt}
use Rattle.macho_signature.specs.Superblobs.{superblob_at, blob_count, entry_offset, blob_at, blob_end, least_offset, IsMisplacedBlob, AreGoodBlobs}
use Rattle.macho_signature.specs.declared.superblob.Blob.{Blob}
use Rattle.macho_signature.specs.declared.superblob.Superblob.{Superblob}
use Rattle.macho_signature.proofs.Images.{index_inside}
use Rattle.macho_signature.proofs.Signed.{blob_fits, past_index}

-- an index that is below the count that was read, and one where a loop over the entries ends
module _ (signature : List ℕ) (superblob : Superblob) (same : superblob ≡ superblob_at signature) (k : ℕ) where
  pub counted : k < superblob.count → k < blob_count signature
  counted less = subst (λ (s : Superblob). k < s.count) same less

  pub counted_all : k ≤ superblob.count → superblob.count ≤ k → k ≡ blob_count signature
  counted_all most past = subst (λ (s : Superblob). k ≡ s.count) same (let all : k ≡ superblob.count = omega arith in all)

module _ (signature : List ℕ) (good : AreGoodBlobs signature) where
  -- the superblob ends in the signature
  superblob_inside : (superblob_at signature).length ≤ length signature
  superblob_inside = elim (cases_lt (length signature) (superblob_at signature).length) [ inl past ↦ absurd (good.superblob (inr (inr (inl past)))) | inr inside ↦ inside ]

  -- and so does each blob, which is past the index
  pub blob_inside : (k : ℕ) → k < blob_count signature → blob_end (blob_at signature k) ≤ length signature
  blob_inside k less = let end = (blob_fits signature good k less).2 in omega (arith, end, superblob_inside)

  pub blob_filled : (k : ℕ) → k < blob_count signature → 8 ≤ (blob_at signature k).length
  blob_filled k less = (blob_fits signature good k less).1

  pub not_misplaced : (k : ℕ) → k < blob_count signature → ¬ IsMisplacedBlob (superblob_at signature) (entry_offset (blob_count signature)) (blob_at signature k)
  not_misplaced k less bad =
      let start = past_index signature good k less in
      let fits = blob_fits signature good k less in
      let room = fits.1 in
      let end = fits.2 in
      elim bad [
        | inl early ↦ absurd (omega (arith, start, early))
        | inr rest ↦ elim rest [
          | inl past ↦ absurd (omega (arith, past, room, end))
          | inr last ↦ elim last [ inl short ↦ absurd (omega (arith, short, room)) | inr long ↦ absurd (omega (arith, long, end)) ]
        ]
      ]

  -- so it is read
  pub blob_there : (k : ℕ) → k < blob_count signature → (superblob : Superblob) → superblob ≡ superblob_at signature → (least : ℕ) → least ≡ entry_offset superblob.count → (read : Option Blob)
      → MatchOption read (IsMisplacedBlob superblob least (blob_at signature k)) (λ blob. (¬ IsMisplacedBlob superblob least blob) × (blob ≡ blob_at signature k)) → IsSome read
  blob_there k less superblob same least is None bad =
      absurd (not_misplaced k less (subst (λ (s : Superblob). IsMisplacedBlob s (entry_offset s.count) (blob_at signature k)) same (subst (λ n. IsMisplacedBlob superblob n (blob_at signature k)) is bad)))
  blob_there k less superblob same least is (Some blob) there = refl

  -- each ends where the next may begin, or before that
  pub ends_before : (j k : ℕ) → j < k → k ≤ blob_count signature → blob_end (blob_at signature j) ≤ least_offset signature k
  ends_before j zero below most = absurd (omega (arith, below))
  ends_before j (suc k) below most = elim (cases_lt j k) [
    | inl earlier ↦
        let before = ends_before j k earlier (omega (arith, most)) in
        let fits = (blob_fits signature good k (omega (arith, most))).0 in
        omega (arith, before, fits)
    | inr late ↦ let same : j ≡ k = omega (arith, below, late) in rw same (le_refl (blob_end (blob_at signature k)))
  ]

  -- in the signature
  pub end_inside : (k : ℕ) → k ≤ blob_count signature → least_offset signature k ≤ length signature
  end_inside zero most = index_inside signature good.superblob
  end_inside (suc k) most = blob_inside k (omega (arith, most))

  -- none begins before that
  pub begins_past : (k j : ℕ) → k ≤ j → j < blob_count signature → least_offset signature k ≤ (blob_at signature j).offset
  begins_past k j up less = elim (cases_lt k j) [
    | inl before ↦
        let end = ends_before k j before (omega (arith, less)) in
        let here = (blob_fits signature good k (omega (arith, before, less))).0 in
        let there = (blob_fits signature good j less).0 in
        omega (arith, end, here, there)
    | inr late ↦ let same : k ≡ j = omega (arith, up, late) in rw same (blob_fits signature good j less).0
  ]

  -- they begin one past the other
  pub blobs_rise : (k j : ℕ) → k < j → j < blob_count signature → (blob_at signature k).offset ≤ (blob_at signature j).offset
  blobs_rise k j before less =
      let end = ends_before k j before (omega (arith, less)) in
      let there = (blob_fits signature good j less).0 in
      omega (arith, end, there)
