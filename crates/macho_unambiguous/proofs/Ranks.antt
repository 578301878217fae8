-- Which unambiguous rules a file breaks, and which an image.
use Rattle.std.proofs.Common.{◌≡◌, ℕ, ◌+◌, ◌≤◌, List, rules}
use Rattle.macho_fields.specs.Layers.{KeptBelow, NothingBreaks}
use Rattle.macho_fields.specs.RuleList.{rank, profile_of}
use Rattle.macho_fields.specs.declared.rule.Break.{Break}
use Rattle.macho_fields.specs.declared.rule.Profile.TheVariants.{Unambiguous}
use Rattle.macho_fields.specs.declared.rule.Rule.{Rule}
use Rattle.macho_fields.specs.declared.rule.Rule.TheVariants as rule
use Rattle.macho_rules.proofs.Profiles as profiles
use Rattle.macho_unambiguous.specs.Rules.{BreaksFile, BreaksImage, IsFirstUnambiguousBroken}

-- a file breaks those from the first to the third
file_among : (file : List ℕ) (r : Rule) (place : ℕ) → BreaksFile file r place → (rank rule.FatCount ≤ rank r) × (rank r ≤ rank rule.FatPage) × (profile_of r ≡ Unambiguous)
file_among file rule.Magic place broken = absurd broken
file_among file other place broken = search rules

pub none_before_file : (file : List ℕ) → KeptBelow (BreaksFile file) (rank rule.FatCount)
none_before_file = profiles.none_before BreaksFile Unambiguous rule.FatCount rule.FatPage file_among

-- where the last of them is unbroken, all are
pub file_unbroken : (file : List ℕ) → KeptBelow (BreaksFile file) (rank rule.FatPage + 1) → NothingBreaks (BreaksFile file)
file_unbroken = profiles.all_unbroken BreaksFile Unambiguous rule.FatCount rule.FatPage file_among

-- an image breaks those from the fourth to the last
among : (image : List ℕ) (r : Rule) (place : ℕ) → BreaksImage image r place → (rank rule.CommandKnown ≤ rank r) × (rank r ≤ rank rule.DirectoryAgree) × (profile_of r ≡ Unambiguous)
among image rule.Magic place broken = absurd broken
among image other place broken = search rules

pub none_before : (image : List ℕ) → KeptBelow (BreaksImage image) (rank rule.CommandKnown)
none_before = profiles.none_before BreaksImage Unambiguous rule.CommandKnown rule.DirectoryAgree among

-- where the last rule is unbroken, all are
pub all_unbroken : (image : List ℕ) → KeptBelow (BreaksImage image) (rank rule.DirectoryAgree + 1) → NothingBreaks (BreaksImage image)
all_unbroken = profiles.all_unbroken BreaksImage Unambiguous rule.CommandKnown rule.DirectoryAgree among

-- what is broken is unambiguous
pub first_unambiguous : (file : List ℕ) (b : Break) → IsFirstUnambiguousBroken file b → profile_of b.rule ≡ Unambiguous
first_unambiguous =
    profiles.first_among BreaksImage Unambiguous rule.CommandKnown rule.DirectoryAgree among BreaksFile (λ file r place broken. (file_among file r place broken).2)
