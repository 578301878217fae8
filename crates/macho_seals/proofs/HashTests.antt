-- Whether a message has a hash can be decided.
use Rattle.std.proofs.Common.{◌≡◌, ℕ, ◌⊎◌, List, [], ◌∷◌, refl, inl, inr}
use Rattle.std.proofs.lemmas.Bool.{cases_eq}
use Rattle.macho_fields.proofs.Decided.{some_or_not, both_or_not, le_or_not}
use Rattle.macho_seals.specs.Digests.{digest, bytes_of_digest, HasHash}
use Rattle.macho_seals.specs.Pages.{bytes_in}
use Rattle.macho_seals.specs.Specials.{special_slot, HasSpecialHash}
use Rattle.macho_signature.specs.declared.code_directory.CodeDirectory.{CodeDirectory}

pub same_or_not : (xs ys : List ℕ) → (xs ≡ ys) ⊎ ¬ (xs ≡ ys)
same_or_not [] [] = inl refl
same_or_not [] (y ∷ ys) = inr (λ wrong. absurd (cc))
same_or_not (x ∷ xs) [] = inr (λ wrong. absurd (cc))
same_or_not (x ∷ xs) (y ∷ ys) = elim (cases_eq x y) [
  | inl first ↦ elim (same_or_not xs ys) [ inl rest ↦ inl (cc) | inr other ↦ inr (λ both. other (cc)) ]
  | inr other ↦ inr (λ both. other (cc))
]

pub has_hash_or_not : (hash_type : ℕ) (message hash : List ℕ) → HasHash hash_type message hash ⊎ ¬ HasHash hash_type message hash
has_hash_or_not hash_type message hash =
    some_or_not (λ found. bytes_of_digest found ≡ hash) (λ found. same_or_not (bytes_of_digest found) hash) (digest hash_type message)

pub special_or_not : (blob : List ℕ) (directory : CodeDirectory) (slot : ℕ) (message : List ℕ) → HasSpecialHash blob directory slot message ⊎ ¬ HasSpecialHash blob directory slot message
special_or_not blob directory slot message =
    both_or_not (le_or_not slot directory.special_slots) (has_hash_or_not directory.hash_type message (bytes_in blob (special_slot directory slot)))
