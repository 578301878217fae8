-- Where no entry is bad, all readers find one blob in a slot.
use Rattle.std.proofs.Common.{◌≡◌, ◌↔◌, ℕ, ◌+◌, ◌<◌, List, Option, None, Some, MatchOption, refl, sym, ap, ◌∙◌, subst, arith, inl, inr}
use Rattle.std.proofs.lemmas.Bool.{cases_lt, cases_eq}
use Rattle.std.proofs.lemmas.Option.{same_Some}
use Rattle.macho_fields.proofs.Decided.{not_not}
use Rattle.macho_fields.specs.Field.{part}
use Rattle.macho_identity.specs.Models.{Agree, IsEndItem, HasSlotAt, HasMagicAt, IsMagicOf, IsMagicOfAlone, IsBlobOfSlot, HasOneBlobOfSlot}
use Rattle.macho_identity.specs.SignatureSlot.{IsBadSlot, BreaksSignatureSlot}
use Rattle.macho_identity.specs.Slots.{magic_of_slot, magic_at, IsKnownMagic, IsMisfit}
use Rattle.macho_signature.specs.Superblobs.{blob_at, blob_count, entry_offset}

-- A fact that one entry has, and a fact that the same entries have

module _ (count : ℕ) (P : ℕ → Type 0) (one : (i k : ℕ) → i < count → k < count → P i → P k → i ≡ k) where
  -- a reader takes an entry with P, or no entry has P
  abbrev IsTaken : Option ℕ → Type 0
  IsTaken found = MatchOption found ((k : ℕ) → k < count → ¬ P k) (λ k. (k < count) × P k)

  taken_at_end : (Q : ℕ → Type 0) → ((k : ℕ) → k < count → Q k ↔ P k) → (found : Option ℕ) → IsEndItem count Q found → IsTaken found
  taken_at_end Q same None (inl none) = λ k less has. none k less ((same k less).1 has)
  taken_at_end Q same None (inr none) = λ k less has. none k less ((same k less).1 has)
  taken_at_end Q same (Some k) (inl (less, has, first)) = (less, (same k less).0 has)
  taken_at_end Q same (Some k) (inr (less, has, last)) = (less, (same k less).0 has)

  one_taken : Agree IsTaken
  one_taken None None none also = refl
  one_taken None (Some k) none (less, has) = absurd (none k less has)
  one_taken (Some k) None (less, has) none = absurd (none k less has)
  one_taken (Some i) (Some k) (less, has) (below, also) = ap (λ n. Some n) (one i k less below has also)

-- The magic number of a slot

fitting : (slot magic known : ℕ) → ¬ IsMisfit slot magic → IsMagicOf slot known → magic ≡ known
fitting slot magic known fit is = by (magic_of_slot slot) is fit
  where
    by : (m : Option ℕ) → m ≡ Some known → ¬ MatchOption m (IsKnownMagic magic) (λ n. ¬ (magic ≡ n)) → magic ≡ known
    by None wrong fit = absurd (cc)
    by (Some n) at fit = not_not (cases_eq magic n) fit ∙ same_Some n known at

fitting_back : (slot other magic : ℕ) → ¬ IsMisfit other magic → IsMagicOfAlone slot magic → other ≡ slot
fitting_back slot other magic fit (is, alone) = by (magic_of_slot other) refl fit
  where
    by : (m : Option ℕ) → magic_of_slot other ≡ m → ¬ MatchOption m (IsKnownMagic magic) (λ n. ¬ (magic ≡ n)) → other ≡ slot
    by None none fit = absurd (fit (slot, is))
    by (Some n) at fit = alone other (at ∙ ap (λ m. Some m) (sym (not_not (cases_eq magic n) fit)))

module _ (signature : List ℕ) (good : (k : ℕ) → k < blob_count signature → ¬ IsBadSlot signature k) (slot : ℕ) where
  fits : (k : ℕ) → k < blob_count signature → ¬ IsMisfit (blob_at signature k).slot (magic_at signature k)
  fits k less misfit = good k less (inr (inr misfit))

  one_slot : (i k : ℕ) → i < blob_count signature → k < blob_count signature → HasSlotAt signature slot i → HasSlotAt signature slot k → i ≡ k
  one_slot i k less below has also = elim (cases_lt i k) [
    | inl before ↦ absurd (good k below (inl (i, before, has ∙ sym also)))
    | inr past ↦ elim (cases_lt k i) [ inl before ↦ absurd (good i less (inl (k, before, also ∙ sym has))) | inr to ↦ omega (arith, past, to) ]
  ]

  magic_there : (magic : ℕ) → IsMagicOf slot magic → (k : ℕ) → k < blob_count signature → HasSlotAt signature slot k → HasMagicAt signature magic k
  magic_there magic is k less has = fitting (blob_at signature k).slot (magic_at signature k) magic (fits k less) (ap magic_of_slot has ∙ is)

  slot_there : (magic : ℕ) → IsMagicOfAlone slot magic → (k : ℕ) → k < blob_count signature → HasMagicAt signature magic k → HasSlotAt signature slot k
  slot_there magic is k less has = fitting_back slot (blob_at signature k).slot magic (subst (λ m. ¬ IsMisfit (blob_at signature k).slot m) has (fits k less)) is

  taken : (answer : Option ℕ) → IsBlobOfSlot signature slot answer → IsTaken (blob_count signature) (HasSlotAt signature slot) one_slot answer
  taken answer (inl end) = taken_at_end (blob_count signature) (HasSlotAt signature slot) one_slot (HasSlotAt signature slot) (λ k less. (λ has. has, λ has. has)) answer end
  taken answer (inr (inl (magic, is, end))) =
      taken_at_end (blob_count signature) (HasSlotAt signature slot) one_slot (λ k. HasSlotAt signature slot k × HasMagicAt signature magic k)
      (λ k less. (λ has. has.0, λ has. (has, magic_there magic is k less has))) answer end
  taken answer (inr (inr (magic, is, end))) =
      taken_at_end (blob_count signature) (HasSlotAt signature slot) one_slot (HasMagicAt signature magic)
      (λ k less. (λ has. slot_there magic is k less has, λ has. magic_there magic is.0 k less has)) answer end

  pub one_blob : Agree (IsBlobOfSlot signature slot)
  one_blob a b first second = one_taken (blob_count signature) (HasSlotAt signature slot) one_slot a b (taken a first) (taken b second)

-- of an image
pub image_one_blob : (image : List ℕ) → ((place : ℕ) → ¬ BreaksSignatureSlot image place) → HasOneBlobOfSlot image
image_one_blob image none table is slot =
    one_blob (part table.start table.len image) (λ k less bad. none (table.start + entry_offset k) (table, is, (entry_offset k, refl, (k, less, refl, bad)))) slot
