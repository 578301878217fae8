-- The blobs of a signature up to one of them, of which none is misplaced.
use Rattle.std.proofs.Common.{◌≡◌, ℕ, zero, suc, ◌+◌, ◌≤◌, ◌<◌, List, Option, None, Some, inl, inr, subst, arith, length}
use Rattle.std.specs.Prelude.{IfNone, MatchOption}
use Rattle.std.proofs.lemmas.Bool.{cases_lt}
use Rattle.macho_signature.specs.Superblobs.{blob_at, blob_count, blob_end, entry_offset, superblob_at, HasNoSuperblob, IsBadBlob, IsMisplacedBlob}
use Rattle.macho_signature.specs.declared.superblob.Blob.{Blob}
use Rattle.macho_signature.specs.declared.superblob.Superblob.{Superblob}

-- the blobs up to k are not
abbrev pub AreGoodTo : List ℕ → ℕ → Type 0
AreGoodTo signature k = (j : ℕ) → j ≤ k → ¬ IsBadBlob signature j

further : (least start size next : ℕ) → least ≤ start → start + size ≤ next → least ≤ next
further least start size next from to = omega (arith, from, to)

-- so they begin past the index
pub past_index : (signature : List ℕ) (k : ℕ) → AreGoodTo signature k → entry_offset (blob_count signature) ≤ (blob_at signature k).offset
past_index signature zero good =
    elim (cases_lt (blob_at signature zero).offset (entry_offset (blob_count signature))) [ inl less ↦ absurd (good zero (omega arith) (inl less)) | inr most ↦ most ]
past_index signature (suc k) good =
    further (entry_offset (blob_count signature)) (blob_at signature k).offset (blob_at signature k).length (blob_at signature (suc k)).offset
    (past_index signature k (λ j less. good j (omega (arith, less))))
    (elim (cases_lt (blob_at signature (suc k)).offset (blob_end (blob_at signature k))) [ inl less ↦ absurd (good (suc k) (omega arith) (inl less)) | inr most ↦ most ])

both : (a b : ℕ) → a < b → b ≤ a → ⊥
both a b less most = omega (arith, less, most)

-- and are found there
pub good_found : (signature : List ℕ) (superblob : Superblob) (k least : ℕ) (F : Blob → Type 0) (found : Option Blob) → superblob ≡ superblob_at signature → least ≡ entry_offset (blob_count signature)
    → MatchOption found (IsMisplacedBlob superblob least (blob_at signature k)) F → IfNone found (¬ ((¬ HasNoSuperblob signature) × (k < blob_count signature) × AreGoodTo signature k))
good_found signature superblob k least F (Some blob) same from is = tt
good_found signature superblob k least F None same from bad = λ (whole, less, good).
    let here = subst (λ (n : ℕ). IsMisplacedBlob (superblob_at signature) n (blob_at signature k)) from (subst (λ (s : Superblob). IsMisplacedBlob s least (blob_at signature k)) same bad) in
    elim here [
      | inl early ↦ both (blob_at signature k).offset (entry_offset (blob_count signature)) early (past_index signature k good)
      | inr rest ↦ good k (omega arith) (inr rest)
    ]

-- a signature that has a superblob has the bytes of its fields
pub has_size : (signature : List ℕ) → ¬ HasNoSuperblob signature → 12 ≤ length signature
has_size signature whole = elim (cases_lt (length signature) 12) [ inl less ↦ absurd (whole (inl less)) | inr most ↦ most ]
