-- What a walk over the entries of a signature knows of their slots.
use Rattle.std.proofs.Common.{◌≡◌, ℕ, ◌+◌, ◌≤◌, ◌<◌, List, get_or, Bool, true, false, Option, Some, refl, sym, ap, ◌∙◌, subst, arith, inl, inr}
use Rattle.std.proofs.lemmas.Bool.{cases_lt, cases_eq}
use Rattle.std.proofs.lemmas.Option.{none-some}
use Rattle.macho_identity.specs.Slots.{slot_number, magic_at, IsMisfit}
use Rattle.macho_identity.specs.SignatureSlot.{IsUnnamed, IsBadSlot}
use Rattle.macho_identity.proofs.Noted.{AreNoted, has_noted, free_noted}
use Rattle.macho_identity.proofs.KnownSlots.{same_number}
use Rattle.macho_signature.specs.Superblobs.{big_word, blob_at}
use Rattle.macho_signature.specs.declared.superblob.Blob.{Blob}

-- the number of the slot of an entry
abbrev pub number_at : List ℕ → ℕ → Option ℕ
number_at signature j = slot_number (blob_at signature j).slot

-- the slots without a name that the first entries have are below the least one that may come, which is just past one
pub record IsPastUnnamed (signature : List ℕ) (count : ℕ) (least : ℕ) : Type 0 where
  pub below : (j : ℕ) → j < count → IsUnnamed signature j → (blob_at signature j).slot < least
  pub reached : 0 < least → (j : ℕ) × (j < count) × IsUnnamed signature j × ((blob_at signature j).slot + 1 ≡ least)

pub past_none : (signature : List ℕ) → IsPastUnnamed signature 0 0
past_none signature = record { below = λ j less. absurd (omega (arith, less)); reached = λ some. absurd (omega (arith, some)) }

module _ (signature : List ℕ) (k least : ℕ) (past : IsPastUnnamed signature k least) where
  -- the entry k has a slot with a name
  pub past_named : (n : ℕ) → number_at signature k ≡ Some n → IsPastUnnamed signature (k + 1) least
  past_named n is = record {
    below = λ j less none. elim (cases_lt j k) [
      | inl before ↦ past.below j before none
      | inr late ↦ let same : j ≡ k = omega (arith, less, late) in absurd (none-some n (sym (subst (IsUnnamed signature) same none) ∙ is))
    ];
    reached = λ some. let (j, less, none, at) = past.reached some in (j, omega (arith, less), none, at);
  }

  -- it has one without a name, which may come
  pub past_unnamed : IsUnnamed signature k → least ≤ (blob_at signature k).slot → IsPastUnnamed signature (k + 1) ((blob_at signature k).slot + 1)
  past_unnamed none high = record {
    below = λ j less also. elim (cases_lt j k) [
      | inl before ↦ let up = past.below j before also in omega (arith, up, high)
      | inr late ↦ let same : j ≡ k = omega (arith, less, late) in subst (λ i. (blob_at signature i).slot < (blob_at signature k).slot + 1) (sym same) (omega arith)
    ];
    reached = λ some. (k, omega arith, none, refl);
  }

  pub low_is_bad : IsUnnamed signature k → (blob_at signature k).slot < least → IsBadSlot signature k
  low_is_bad none low =
      let (j, less, also, at) = past.reached (omega (arith, low)) in
      elim (cases_eq (blob_at signature j).slot (blob_at signature k).slot) [
        | inl same ↦ inl (j, less, same)
        | inr other ↦ inr (inl (none, (j, less, (also, let greater : (blob_at signature k).slot < (blob_at signature j).slot = omega (arith, low, at, other) in greater))))
      ]

  pub high_is_good : IsUnnamed signature k → least ≤ (blob_at signature k).slot → ¬ IsMisfit (blob_at signature k).slot (magic_at signature k) → ¬ IsBadSlot signature k
  high_is_good none high fit (inl (j, less, same)) = let up = past.below j less (ap slot_number same ∙ none) in omega (arith, up, high, same)
  high_is_good none high fit (inr (inl (is, (j, less, (also, greater))))) = let up = past.below j less also in omega (arith, up, high, greater)
  high_is_good none high fit (inr (inr misfit)) = fit misfit

-- the magic number that was read is the magic number of the blob
module _ (signature : List ℕ) (k : ℕ) (blob : Blob) (is : blob ≡ blob_at signature k) (magic : ℕ) (at : magic ≡ big_word signature blob.offset) where
  pub misfit_there : IsMisfit blob.slot magic → IsMisfit (blob_at signature k).slot (magic_at signature k)
  misfit_there misfit = subst (λ (b : Blob). IsMisfit b.slot (big_word signature b.offset)) is (subst (IsMisfit blob.slot) at misfit)

  pub misfit_read : IsMisfit (blob_at signature k).slot (magic_at signature k) → IsMisfit blob.slot magic
  misfit_read misfit = subst (IsMisfit blob.slot) (sym at) (subst (λ (b : Blob). IsMisfit b.slot (big_word signature b.offset)) (sym is) misfit)

module _ (signature : List ℕ) (size k : ℕ) (taken : List Bool) (noted : AreNoted (number_at signature) size k taken) (n : ℕ) (fits : n < size) (is : number_at signature k ≡ Some n) where
  pub taken_is_bad : get_or taken n false ≡ true → IsBadSlot signature k
  taken_is_bad has =
      let (j, less, at) = has_noted (number_at signature) size k taken noted n fits has in
      inl (j, less, same_number (blob_at signature j).slot (blob_at signature k).slot n at is)

  pub free_is_good : get_or taken n false ≡ false → ¬ IsMisfit (blob_at signature k).slot (magic_at signature k) → ¬ IsBadSlot signature k
  free_is_good free fit (inl (j, less, same)) = free_noted (number_at signature) size k taken noted n fits free (j, less, ap slot_number same ∙ is)
  free_is_good free fit (inr (inl (none, later))) = none-some n (sym none ∙ is)
  free_is_good free fit (inr (inr misfit)) = fit misfit
