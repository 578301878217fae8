-- From the answers on a file, on its slices and on its images to the strict verdict.
use Rattle.std.proofs.Common.{◌≡◌, ℕ, suc, zero, ◌+◌, List, Result, IsErrAnd, IfErr, refl, ap, arith, inl, inr}
use Rattle.macho_fields.specs.First.{IsUnbroken}
use Rattle.macho_fields.specs.Layers.{NothingBreaks, KeptBelow}
use Rattle.macho_fields.specs.RuleList.{rank}
use Rattle.macho_fields.specs.declared.rule.Rule.TheVariants as rule
use Rattle.macho_fields.proofs.Scopes.{none_kept, scope_first}
use Rattle.macho_spans.specs.Overlap.{IsAscending}
use Rattle.macho_rules.specs.Profile.{SliceBreaks, TakesInSlice, IsAddedRefusal, IsRefusalOfImages}
use Rattle.macho_rules.specs.Verdict.{IsRefusal, IsRefusalOf}
use Rattle.macho_rules.specs.declared.refusal.Refusal.{Refusal}
use Rattle.macho_rules.specs.declared.refusal.Refusal.TheVariants as refusal
use Rattle.macho_rules.proofs.Profiles.{first_with_file}
use Rattle.macho_rules.proofs.Verdicts.{passed_on}
use Rattle.macho_strict.specs.First.{IsStrictlyBrokenIn}
use Rattle.macho_strict.specs.Rules.{BreaksStrictFile, BreaksStrictImage}
use Rattle.macho_strict.specs.Verdict.{IsStrictRefusal, TakesMemory, TakesMemoryIn, slice_spans}
use Rattle.macho_strict.proofs.Ranks.{file_rule}

-- a fault that is passed on, where memory may run out in more cases
pub passed_of : {T : Type 0} (image : List ℕ) (P : Type 0) → (P → TakesMemory image) → (f : Refusal) → IsRefusalOf (BreaksStrictImage image) P f → (answer : Result T Refusal)
    → IsErrAnd answer (λ given. given ≡ f) → IfErr answer (IsRefusalOf (BreaksStrictImage image) (TakesMemory image))
passed_of image P to f found answer is = passed_on (IsRefusalOf (BreaksStrictImage image) (TakesMemory image)) answer f is (taken f found)
  where
    taken : (given : Refusal) → IsRefusalOf (BreaksStrictImage image) P given → IsRefusalOf (BreaksStrictImage image) (TakesMemory image) given
    taken (refusal.Broken b) least = least
    taken refusal.Memory p = to p

-- a file breaks no rule but the first
pub file_unbroken : (file : List ℕ) → KeptBelow (BreaksStrictFile file) (rank rule.FatStrayByte + 1) → NothingBreaks (BreaksStrictFile file)
file_unbroken file kept r place broken = let same = ap rank (file_rule file r place broken) in kept r place (omega (arith, same)) broken

-- A refusal by the strict rules
module _ (file : List ℕ) where
  abbrev pub IsStrictBreak : Refusal → Type 0
  IsStrictBreak = IsAddedRefusal (IsStrictlyBrokenIn file) (TakesMemoryIn file) file

  -- of the file itself
  pub file_refused : (f : Refusal) → IsRefusalOf (BreaksStrictFile file) (¬ IsAscending (slice_spans file)) f → IsStrictBreak f
  file_refused (refusal.Broken b) least =
      let slices = SliceBreaks BreaksStrictFile BreaksStrictImage in
      scope_first BreaksStrictFile slices file 0 b b (none_kept BreaksStrictFile slices file) least refl (omega arith)
  file_refused refusal.Memory takes = (0, takes)

  -- of its images, where it breaks none itself
  pub images_refused : NothingBreaks (BreaksStrictFile file) → (f : Refusal) → IsRefusalOfImages BreaksStrictImage file TakesMemory f → IsStrictBreak f
  images_refused kept (refusal.Broken b) first = first_with_file BreaksStrictFile BreaksStrictImage file kept b first
  images_refused kept refusal.Memory (scope, takes) = (scope, in_scope scope takes)
    where
      in_scope : (n : ℕ) → TakesInSlice TakesMemory file n → TakesMemoryIn file n
      in_scope zero none = absurd none
      in_scope (suc k) takes = takes

  -- is one of the strict verdict, where the file breaks no other
  pub strictly_refused : IsUnbroken file → (r : Refusal) → IsStrictBreak r → IsStrictRefusal file r
  strictly_refused unbroken (refusal.Broken b) first = inr (unbroken, first)
  strictly_refused unbroken refusal.Memory takes = inr (unbroken, takes)

-- and so is one by the layout
pub layout_refused : (file : List ℕ) (r : Refusal) → IsRefusal file r → IsStrictRefusal file r
layout_refused file (refusal.Broken b) first = inl first
layout_refused file refusal.Memory takes = inl takes
