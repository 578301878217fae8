-- Where no code directory disagrees, each says one thing to all readers.
use Rattle.std.proofs.Common.{◌≡◌, ℕ, ◌+◌, ◌^◌, ◌≤◌, ◌<◌, List, Bool, true, false, None, Some, refl, sym, ◌∙◌, arith, inl, inr}
use Rattle.std.specs.Prelude.{◌==◌, nat_lt, nat_le, if◌then◌else◌}
use Rattle.std.proofs.lemmas.Bool.{cases_lt, cases_eq, cond-true, cond-false, eq-eqb, ne_eqb, lt-ltb, le-ltb}
use Rattle.macho_fields.specs.Field.{part, string_from}
use Rattle.macho_identity.specs.DirectoryAgree.{IsAmongFields, IsUnclear, BreaksDirectoryAgree}
use Rattle.macho_identity.specs.Identity.{ident_offset, page_size}
use Rattle.macho_identity.specs.Models.{Agree, IsLimitOf, page_bytes, IsPageSizeOf, text_past, text_past_fields, IsIdentifierOf, IsTeamOf, IsClear, AreDirectoriesClear}
use Rattle.macho_signature.specs.CodeDirectories.{version_of, fields_size, code_limit, code_limit_64, team_offset}
use Rattle.macho_signature.specs.Signature.{bytes_at}
use Rattle.macho_signature.specs.Superblobs.{big_word, entry_offset}

-- two answers that are one
pub two_are : {A : Type 0} (x : A) (P : A → Type 0) → ((a : A) → P a → a ≡ x) → Agree P
two_are x P each a b first second = each a first ∙ sym (each b second)

text_there : (least offset : ℕ) (blob : List ℕ) → least ≤ offset → text_past least offset blob ≡ Some (string_from offset blob)
text_there least offset blob past = cond-false (nat_lt offset least) None (Some (string_from offset blob)) (le-ltb offset least past)

text_none : (least offset : ℕ) (blob : List ℕ) → offset < least → text_past least offset blob ≡ None
text_none least offset blob below = cond-true (nat_lt offset least) None (Some (string_from offset blob)) (lt-ltb offset least below)

-- each version has fields
either_some : (test : Bool) (x y : ℕ) → 0 < x → 0 < y → 0 < (if test then x else y)
either_some true x y first second = first
either_some false x y first second = second

some_size : (version : ℕ) → 0 < fields_size version
some_size version =
    either_some (nat_le 0x20600 version) 108 _ (omega arith)
    (either_some (nat_le 0x20500 version) 96 _ (omega arith)
    (either_some (nat_le 0x20400 version) 88 _ (omega arith)
    (either_some (nat_le 0x20300 version) 64 _ (omega arith)
    (either_some (nat_le 0x20200 version) 52 _ (omega arith) (either_some (nat_le 0x20100 version) 48 44 (omega arith) (omega arith))))))

module _ (blob : List ℕ) (clear : ¬ IsUnclear blob) where
  one_limit : code_limit blob ≡ big_word blob 32
  one_limit = elim (cases_eq (code_limit_64 blob) 0) [
    | inl none ↦ cond-true (code_limit_64 blob == 0) (big_word blob 32) (code_limit_64 blob) (eq-eqb (code_limit_64 blob) 0 none)
    | inr some ↦ elim (cases_eq (code_limit_64 blob) (big_word blob 32)) [
      | inl same ↦ cond-false (code_limit_64 blob == 0) (big_word blob 32) (code_limit_64 blob) (ne_eqb (code_limit_64 blob) 0 some) ∙ same
      | inr other ↦ absurd (clear (inl (some, other)))
    ]
  ]

  paged : page_bytes blob ≡ Some (2 ^ page_size blob)
  paged = cond-false (page_size blob == 0) None (Some (2 ^ page_size blob)) (ne_eqb (page_size blob) 0 (λ none. clear (inr (inl none))))

  past_fields : (offset : ℕ) → ¬ IsAmongFields blob offset → fields_size (version_of blob) ≤ offset
  past_fields offset past = elim (cases_lt offset (fields_size (version_of blob))) [ inl among ↦ absurd (past among) | inr from ↦ from ]

  some_fields : 0 < fields_size (version_of blob)
  some_fields = some_size (version_of blob)

  identifier_past : fields_size (version_of blob) ≤ ident_offset blob
  identifier_past = past_fields (ident_offset blob) (λ among. clear (inr (inr (inl among))))

  team_past : ¬ (team_offset blob ≡ 0) → fields_size (version_of blob) ≤ team_offset blob
  team_past some = past_fields (team_offset blob) (λ among. clear (inr (inr (inr (some, among)))))

  pub is_clear : IsClear blob
  is_clear = record {
    limit = two_are (big_word blob 32) (IsLimitOf blob) (λ a either. elim either [ inl is ↦ is | inr is ↦ is ∙ one_limit ]);
    page = two_are (Some (2 ^ page_size blob)) (IsPageSizeOf blob) (λ a either. elim either [ inl is ↦ is ∙ paged | inr is ↦ is ]);
    identifier = two_are (Some (string_from (ident_offset blob) blob)) (IsIdentifierOf blob) (λ a either. elim either [
      | inl is ↦ is ∙ text_there 0 (ident_offset blob) blob (omega arith)
      | inr rest ↦ elim rest [
        | inl is ↦ is ∙ text_there 1 (ident_offset blob) blob (omega (arith, some_fields, identifier_past))
        | inr is ↦ is ∙ text_there (fields_size (version_of blob)) (ident_offset blob) blob identifier_past
      ]
    ]);
    team = two_are (text_past_fields (team_offset blob) blob) (IsTeamOf blob) (λ a either. elim either [
      | inr is ↦ is
      | inl is ↦ is ∙ elim (cases_eq (team_offset blob) 0) [
        | inl none ↦ text_none 1 (team_offset blob) blob (omega (arith, none)) ∙ sym (text_none (fields_size (version_of blob)) (team_offset blob) blob (omega (arith, none, some_fields)))
        | inr some ↦
            let past = team_past some in
            text_there 1 (team_offset blob) blob (omega (arith, some)) ∙ sym (text_there (fields_size (version_of blob)) (team_offset blob) blob past)
      ]
    ]);
  }

-- of an image
pub image_clear : (image : List ℕ) → ((place : ℕ) → ¬ BreaksDirectoryAgree image place) → AreDirectoriesClear image
image_clear image none table is k (less, has) =
    is_clear (bytes_at (part table.start table.len image) k)
    (λ unclear. none (table.start + entry_offset k) (table, is, (entry_offset k, refl, (k, less, refl, (has, inl unclear)))))
