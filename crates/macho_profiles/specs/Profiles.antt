-- What a profile promises of a file that it accepts, and when it refuses one.
use Rattle.std.specs.Prelude.{ℕ, List}
use Rattle.macho_fields.specs.First.{IsUnbroken}
use Rattle.macho_fields.specs.Loader.{IsSound}
use Rattle.macho_fields.specs.declared.rule.Profile.{Profile}
use Rattle.macho_fields.specs.declared.rule.Profile.TheVariants.{Layout, Strict, Linked, Unambiguous, Sealed}
use Rattle.macho_linked.specs.Linked.{KeepsLinked}
use Rattle.macho_linked.specs.Verdict.{IsLinkedRefusal}
use Rattle.macho_rules.specs.Verdict.{IsRefusal}
use Rattle.macho_rules.specs.declared.refusal.Refusal.{Refusal}
use Rattle.macho_sealed.specs.Sealed.{KeepsSealed}
use Rattle.macho_sealed.specs.Verdict.{IsSealedRefusal}
use Rattle.macho_strict.specs.Accounted.{IsAccounted}
use Rattle.macho_strict.specs.First.{IsStrictlyUnbroken}
use Rattle.macho_strict.specs.Verdict.{IsStrictRefusal}
use Rattle.macho_unambiguous.specs.Unambiguous.{KeepsUnambiguous}
use Rattle.macho_unambiguous.specs.Verdict.{IsUnambiguousRefusal}

-- The file breaks no rule of the layout, and a loader without bounds of its own stays inside it.
pub record KeepsLayout (file : List ℕ) : Type 0 where
  pub unbroken : IsUnbroken file
  pub sound : IsSound file

-- It breaks no strict rule either, and each of its bytes is accounted for.
pub record KeepsStrict (file : List ℕ) : Type 0 where
  pub layout : KeepsLayout file
  pub unbroken : IsStrictlyUnbroken file
  pub accounted : IsAccounted file

-- what holds of a file that the profile accepts
abbrev pub IsAcceptedBy : Profile → List ℕ → Type 0
IsAcceptedBy Layout = KeepsLayout
IsAcceptedBy Strict = KeepsStrict
IsAcceptedBy Linked = KeepsLinked
IsAcceptedBy Unambiguous = KeepsUnambiguous
IsAcceptedBy Sealed = KeepsSealed

-- The refusal is the first broken rule, among the profiles up to this one; or that there was no memory, which is
-- returned only if the verdict of the profile takes some.
abbrev pub IsRefusedBy : Profile → List ℕ → Refusal → Type 0
IsRefusedBy Layout = IsRefusal
IsRefusedBy Strict = IsStrictRefusal
IsRefusedBy Linked = IsLinkedRefusal
IsRefusedBy Unambiguous = IsUnambiguousRefusal
IsRefusedBy Sealed = IsSealedRefusal
