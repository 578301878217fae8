-- The bytes of an image between the blobs of its signature, and past the last of them.
use Rattle.std.proofs.Common.{◌≡◌, ℕ, zero, suc, ◌+◌, ◌-◌, ◌≤◌, ◌<◌, List, length, Option, Some, None, true, false, refl, sym, ap, ◌∙◌, subst, arith, inl, inr, le_refl}
use Rattle.std.specs.Option.{is_some}
use Rattle.std.proofs.lemmas.Bool.{cases_lt, true≢false, false≢true}
use Rattle.macho_fields.specs.FirstPlace.{IsLeastPlace}
use Rattle.macho_fields.specs.NonZero.{IsNonZero}
use Rattle.macho_seals.specs.Slack.{IsSlackAt}
use Rattle.macho_signature.specs.Superblobs.{blob_count, entry_offset, blob_at, blob_end, least_offset, AreGoodBlobs}
use Rattle.macho_signature.specs.declared.superblob.Blob.{Blob}
use Rattle.macho_signature.proofs.Signed.{past_index}
use Rattle.macho_strict.specs.Slack.{IsNonZeroWithin}
use Rattle.macho_seals.proofs.Blobs.{ends_before, blobs_rise}

module _ (image : List ℕ) (start : ℕ) (signature : List ℕ) where
  -- no slack is before the place
  abbrev pub NoneBefore : ℕ → Type 0
  NoneBefore end = (place : ℕ) → place < end → ¬ IsSlackAt image start signature place

  pub none_in_index : NoneBefore (start + least_offset signature 0)
  none_in_index place less (offset, at, (here, (past, outside))) = absurd (omega (arith, less, at, past))

  module _ (good : AreGoodBlobs signature) (k : ℕ) (most : k ≤ blob_count signature) (none : NoneBefore (start + least_offset signature k)) where
    -- the least offset of the blob k is past the index
    index_before : entry_offset (blob_count signature) ≤ least_offset signature k
    index_before = from k most
      where
        from : (n : ℕ) → n ≤ blob_count signature → entry_offset (blob_count signature) ≤ least_offset signature n
        from zero few = omega arith
        from (suc n) few = let past = past_index signature good n (omega (arith, few)) in omega (arith, past)

    module _ (limit : ℕ) (after : (j : ℕ) → k ≤ j → j < blob_count signature → limit ≤ start + (blob_at signature j).offset) where
      -- a byte that is not zero, from there up to where the blobs begin, is slack
      within_is_slack : (place : ℕ) → IsNonZeroWithin image (start + least_offset signature k) limit place → IsSlackAt image start signature place
      within_is_slack place (low, high, here) =
          let at : place ≡ start + (place - start) = omega (arith, low) in
          let past = index_before in
          (place - start, at, (subst (IsNonZero image) at here, (omega (arith, past, low), outside)))
        where
          outside : (j : ℕ) → j < blob_count signature → ¬ (((blob_at signature j).offset ≤ place - start) × (place - start < (blob_at signature j).offset + (blob_at signature j).length))
          outside j less held = elim (cases_lt j k) [
            | inl before ↦ let end = ends_before signature good j k before most in absurd (omega (arith, end, low, held.1))
            | inr late ↦ let begin = after j late less in absurd (omega (arith, begin, high, low, held.0))
          ]

      -- the first of them is the first of all
      pub slack_found : (found : Option ℕ) → is_some found ≡ true → IsLeastPlace (IsNonZeroWithin image (start + least_offset signature k) limit) found → IsLeastPlace (IsSlackAt image start signature) found
      slack_found None wrong least = absurd (false≢true wrong)
      slack_found (Some first) is (here, least) = (within_is_slack first here, low)
        where
          low : (place : ℕ) → IsSlackAt image start signature place → first ≤ place
          low place slack = elim (cases_lt place (start + least_offset signature k)) [
            | inl early ↦ absurd (none place early slack)
            | inr late ↦ elim (cases_lt place limit) [
              | inl within ↦ least place (late, within, subst (IsNonZero image) (sym slack.1) slack.2.0)
              | inr past ↦ let high = here.1 in omega (arith, high, past)
            ]
          ]

    -- so it is between the blobs
    in_gap : k < blob_count signature → (found : Option ℕ) → is_some found ≡ true → IsLeastPlace (IsNonZeroWithin image (start + least_offset signature k) (start + (blob_at signature k).offset)) found
        → IsLeastPlace (IsSlackAt image start signature) found
    in_gap less = slack_found (start + (blob_at signature k).offset) after
      where
        after : (j : ℕ) → k ≤ j → j < blob_count signature → start + (blob_at signature k).offset ≤ start + (blob_at signature j).offset
        after j late few = elim (cases_lt k j) [
          | inl past ↦ let rise = blobs_rise signature good k j past few in omega (arith, rise)
          | inr here ↦ let same : k ≡ j = omega (arith, late, here) in subst (λ i. start + (blob_at signature k).offset ≤ start + (blob_at signature i).offset) same (le_refl (start + (blob_at signature k).offset))
        ]

    -- without a nonzero byte before the blob k there is not one up to its end
    none_past : k < blob_count signature → (found : Option ℕ) → is_some found ≡ false → IsLeastPlace (IsNonZeroWithin image (start + least_offset signature k) (start + (blob_at signature k).offset)) found
        → NoneBefore (start + blob_end (blob_at signature k))
    none_past less (Some first) wrong least = absurd (true≢false wrong)
    none_past less None is nowhere = λ place below slack. elim (cases_lt place (start + least_offset signature k)) [
      | inl early ↦ none place early slack
      | inr late ↦ elim (cases_lt place (start + (blob_at signature k).offset)) [
        | inl within ↦ nowhere place (late, within, subst (IsNonZero image) (sym slack.1) slack.2.0)
        | inr past ↦ let at = slack.1 in slack.2.1.1 k less (omega (arith, past, at), omega (arith, below, at))
      ]
    ]

  -- what is found between the blobs before the blob k, which all end at a place, and that blob
  module _ (good : AreGoodBlobs signature) (k : ℕ) (less : k < blob_count signature) (end from : ℕ) (blob : Blob) (found : Option ℕ) (at : end ≡ start + least_offset signature k)
      (none : NoneBefore end) (is : blob ≡ blob_at signature k) (begins : from ≡ blob.offset) (least : IsLeastPlace (IsNonZeroWithin image end (start + from)) found) where
    least_in_gap : IsLeastPlace (IsNonZeroWithin image (start + least_offset signature k) (start + (blob_at signature k).offset)) found
    least_in_gap =
        subst (λ n. IsLeastPlace (IsNonZeroWithin image n (start + (blob_at signature k).offset)) found) at
        (subst (λ n. IsLeastPlace (IsNonZeroWithin image end (start + n)) found) (begins ∙ ap (λ (b : Blob). b.offset) is) least)

    pub gap_slack : is_some found ≡ true → IsLeastPlace (IsSlackAt image start signature) found
    gap_slack some = in_gap good k (omega (arith, less)) (subst NoneBefore at none) less found some least_in_gap

    pub none_past_blob : is_some found ≡ false → NoneBefore (start + blob_end (blob_at signature k))
    none_past_blob nowhere = none_past good k (omega (arith, less)) (subst NoneBefore at none) less found nowhere least_in_gap

  -- past the last blob
  pub last_slack : AreGoodBlobs signature → NoneBefore (start + least_offset signature (blob_count signature)) → (found : Option ℕ)
      → IsLeastPlace (IsNonZeroWithin image (start + least_offset signature (blob_count signature)) (length image)) found → IsLeastPlace (IsSlackAt image start signature) found
  last_slack good none (Some first) least =
      slack_found good (blob_count signature) (omega arith) none (length image) (λ j late less. absurd (omega (arith, late, less))) (Some first) refl least
  last_slack good none None nowhere = λ place slack. elim (cases_lt place (start + least_offset signature (blob_count signature))) [
    | inl early ↦ none place early slack
    | inr late ↦ let here = subst (IsNonZero image) (sym slack.1) slack.2.0 in nowhere place (late, here.0, here)
  ]
