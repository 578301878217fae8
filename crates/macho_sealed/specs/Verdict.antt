-- The sealed verdict on a file. It takes memory where the unambiguous one does.
use Rattle.std.specs.Prelude.{ℕ, ◌⊎◌, List}
use Rattle.macho_fields.specs.First.{IsUnbroken}
use Rattle.macho_linked.specs.Rules.{IsLinkedUnbroken}
use Rattle.macho_rules.specs.declared.refusal.Refusal.{Refusal}
use Rattle.macho_rules.specs.declared.refusal.Refusal.TheVariants as refusal
use Rattle.macho_sealed.specs.Rules.{IsFirstSealedBroken}
use Rattle.macho_strict.specs.First.{IsStrictlyUnbroken}
use Rattle.macho_unambiguous.specs.Rules.{IsUnambiguousUnbroken}
use Rattle.macho_unambiguous.specs.Verdict.{IsUnambiguousRefusal}

-- the file breaks no rule of the profiles before the sealed one
pub record IsUnbrokenBefore (file : List ℕ) : Type 0 where
  pub layout : IsUnbroken file
  pub strict : IsStrictlyUnbroken file
  pub linked : IsLinkedUnbroken file
  pub unambiguous : IsUnambiguousUnbroken file

-- A refusal is one of the unambiguous verdict, or where the file breaks no rule of that the first broken sealed rule.
abbrev pub IsSealedRefusal : List ℕ → Refusal → Type 0
IsSealedRefusal file (refusal.Broken b) =
    IsUnambiguousRefusal file (refusal.Broken b) ⊎ (IsUnbrokenBefore file × IsFirstSealedBroken file b)
IsSealedRefusal file refusal.Memory = IsUnambiguousRefusal file refusal.Memory

-- an image never takes memory by the sealed rules
abbrev pub TakesMemory : List ℕ → Type 0
TakesMemory image = ⊥
