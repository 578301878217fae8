-- The second verdict: what it decides of an image, of the one image of a plain file, and of slices.
use Rattle.std.proofs.Common.{◌≡◌, ℕ, ◌+◌, ◌⊎◌, min, List, Option, Some, None, MatchOption, IfSome, ◌↔◌, Result, Ok, Err, IfErr, OnOk, false, inl, inr, refl, ◌∙◌, arith}
use Rattle.std.specs.Result.{result_err}
use Rattle.std.proofs.lemmas.Bool.{cases_lt, cases_Bool}
use Rattle.macho_fields.specs.Universal.{is_universal, IsImage, IsUniversal, entry_slice}
use Rattle.macho_fields.specs.First.{rank, IsFirstBroken, IsUnbroken}
use Rattle.macho_fields.specs.Rules.{BreaksFile, BreaksImage}
use Rattle.macho_fields.specs.Layers.{KeptBelow, Continues, Decides}
use Rattle.macho_fields.specs.declared.rule.Rule.TheVariants as rule
use Rattle.macho_fields.specs.declared.rule.Break.{Break}
use Rattle.macho_fields.proofs.Magics.{IsForeignEntry, DecidesForeign, first_foreign, more_foreign}
use Rattle.macho_fields.proofs.Plain.{first_in_image, unbroken_image}
use Rattle.macho_fields.proofs.Ranks.{layout_rule_rank, file_rule_rank}
use Rattle.macho_rules.proofs.Verdicts.{opened_unbroken, opened_refused}
use Rattle.macho_rules.specs.declared.refusal.Refusal.TheVariants as refusal

-- the last rule of an image is decided where all are
pub decided_last : {T : Type 0} (image : List ℕ) (answer : Result T Break) → Continues (BreaksImage image None) rule.Entry answer → Decides (BreaksImage image None) answer
decided_last image (Ok x) kept = λ r place broken. let most = layout_rule_rank image None r place broken in kept r place (omega (arith, most)) broken
decided_last image (Err b) least = least

-- of the rules of a file the same
pub decided_file : {T : Type 0} (file : List ℕ) (answer : Result T Break) → Continues (BreaksFile file) rule.FatEmpty answer → Decides (BreaksFile file) answer
decided_file file (Ok x) kept = λ r place broken. let most = file_rule_rank file r place broken in kept r place (omega (arith, most)) broken
decided_file file (Err b) least = least

-- what is decided of an opened image is decided of its bytes
pub decided_opened : {T : Type 0} (image : List ℕ) (arch : Option (ℕ × ℕ)) → KeptBelow (BreaksImage image arch) (rank rule.SegmentAddress) → (answer : Result T Break)
    → Decides (BreaksImage image None) answer → Decides (BreaksImage image arch) answer
decided_opened image arch opening (Ok x) none = opened_unbroken image arch opening none
decided_opened image arch opening (Err b) least = opened_refused image arch opening (refusal.Broken b) least

-- a file with no table is one image
module _ (file : List ℕ) (known : IsUniversal file ⊎ IsImage file) (plain : ¬ IsUniversal file) where
  image : IsImage file
  image = elim known [ inl universal ↦ absurd (plain universal) | inr is ↦ is ]

  no_table : is_universal file ≡ false
  no_table = elim (cases_Bool (is_universal file)) [ inl has ↦ absurd (plain (image.0, has)) | inr none ↦ none ]

  pub plain_unbroken : {T : Type 0} (answer : Result T Break) → Decides (BreaksImage file None) answer → OnOk answer (IsUnbroken file)
  plain_unbroken (Ok x) none = unbroken_image file no_table image none
  plain_unbroken (Err b) least = tt

  pub plain_first : {T : Type 0} (answer : Result T Break) → Decides (BreaksImage file None) answer → IfErr answer (IsFirstBroken file)
  plain_first (Ok x) none = tt
  plain_first (Err b) least = first_in_image file no_table image b.rule b.place least

-- one more foreign slice
pub foreign_added : (file : List ℕ) (k start next : ℕ) (least : Option ℕ) → DecidesForeign file k least → start ≡ (entry_slice file k).start → IsForeignEntry file k
    → MatchOption least (next ≡ start) (λ place. next ≡ min place start) → DecidesForeign file (k + 1) (Some next)
foreign_added file k start next None none at here is = first_foreign file k next (is ∙ at) none here
foreign_added file k start next (Some place) least at here is = more_foreign file k start place next at least here (omega (arith, is)) (omega (arith, is)) one
  where
    one : (next ≡ place) ⊎ (next ≡ start)
    one = elim (cases_lt place start) [ inl less ↦ inl (omega (arith, is)) | inr most ↦ inr (omega (arith, is)) ]

-- the answer of the verdict is the break of the judgment
pub none_exactly : {T : Type 0} (file : List ℕ) (answer : Result T Break) → OnOk answer (IsUnbroken file) → IfErr answer (IsFirstBroken file)
    → (result_err answer ≡ None) ↔ IsUnbroken file
none_exactly file (Ok x) unbroken first = (λ none. unbroken, λ is. refl)
none_exactly file (Err b) unbroken (fault, broken, first, same, at) = (λ none. cc, λ is. absurd (is fault broken))

pub some_first : {T : Type 0} (file : List ℕ) (answer : Result T Break) → IfErr answer (IsFirstBroken file) → IfSome (result_err answer) (IsFirstBroken file)
some_first file (Ok x) first = tt
some_first file (Err b) first = first
