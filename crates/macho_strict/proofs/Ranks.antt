-- Which strict rules a file breaks, and which an image.
use Rattle.std.proofs.Common.{◌≡◌, ℕ, ◌+◌, ◌≤◌, List, refl, ap, arith, rules}
use Rattle.macho_fields.specs.Layers.{KeptBelow, NothingBreaks}
use Rattle.macho_fields.specs.RuleList.{rank, profile_of}
use Rattle.macho_fields.specs.declared.rule.Break.{Break}
use Rattle.macho_fields.specs.declared.rule.Profile.TheVariants.{Strict}
use Rattle.macho_fields.specs.declared.rule.Rule.{Rule}
use Rattle.macho_fields.specs.declared.rule.Rule.TheVariants as rule
use Rattle.macho_rules.proofs.Profiles as profiles
use Rattle.macho_strict.specs.First.{IsFirstStrictlyBroken}
use Rattle.macho_strict.specs.Rules.{BreaksStrictFile, BreaksStrictImage}

-- a file breaks one rule alone
pub file_rule : (file : List ℕ) (r : Rule) (place : ℕ) → BreaksStrictFile file r place → r ≡ rule.FatStrayByte
file_rule file rule.FatStrayByte place broken = refl
file_rule file other place broken = absurd broken

pub none_before_file : (file : List ℕ) → KeptBelow (BreaksStrictFile file) (rank rule.FatStrayByte)
none_before_file file r place less broken = let same = ap rank (file_rule file r place broken) in absurd (omega (arith, same))

-- an image breaks those from the second to the last
among : (image : List ℕ) (r : Rule) (place : ℕ) → BreaksStrictImage image r place → (rank rule.CommandsEnd ≤ rank r) × (rank r ≤ rank rule.UnclaimedByte) × (profile_of r ≡ Strict)
among image rule.Magic place broken = absurd broken
among image other place broken = search rules

pub none_before : (image : List ℕ) → KeptBelow (BreaksStrictImage image) (rank rule.CommandsEnd)
none_before = profiles.none_before BreaksStrictImage Strict rule.CommandsEnd rule.UnclaimedByte among

-- where the last rule is unbroken, all are
pub all_unbroken : (image : List ℕ) → KeptBelow (BreaksStrictImage image) (rank rule.UnclaimedByte + 1) → NothingBreaks (BreaksStrictImage image)
all_unbroken = profiles.all_unbroken BreaksStrictImage Strict rule.CommandsEnd rule.UnclaimedByte among

-- what is broken is strict
pub first_strict : (file : List ℕ) (b : Break) → IsFirstStrictlyBroken file b → profile_of b.rule ≡ Strict
first_strict =
    profiles.first_among BreaksStrictImage Strict rule.CommandsEnd rule.UnclaimedByte among BreaksStrictFile (λ file r place broken. ap profile_of (file_rule file r place broken))
