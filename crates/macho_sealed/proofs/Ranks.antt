-- Which sealed rules an image breaks.
use Rattle.std.proofs.Common.{◌≡◌, ℕ, ◌+◌, ◌≤◌, List, arith, rules}
use Rattle.macho_fields.specs.Layers.{KeptBelow, NothingBreaks}
use Rattle.macho_fields.specs.RuleList.{rank, profile_of}
use Rattle.macho_fields.specs.declared.rule.Break.{Break}
use Rattle.macho_fields.specs.declared.rule.Profile.TheVariants.{Sealed}
use Rattle.macho_fields.specs.declared.rule.Rule.{Rule}
use Rattle.macho_fields.specs.declared.rule.Rule.TheVariants as rule
use Rattle.macho_rules.specs.Profile.{NoFileRule}
use Rattle.macho_rules.proofs.Profiles as profiles
use Rattle.macho_sealed.specs.Rules.{BreaksImage, IsFirstSealedBroken}
use Rattle.macho_seals.specs.Signature.{BreaksSignatureMissing}

-- from the first to the last
among : (image : List ℕ) (r : Rule) (place : ℕ) → BreaksImage image r place → (rank rule.SignatureMissing ≤ rank r) × (rank r ≤ rank rule.SignatureHash) × (profile_of r ≡ Sealed)
among image rule.Magic place broken = absurd broken
among image other place broken = search rules

pub none_before : (image : List ℕ) → KeptBelow (BreaksImage image) (rank rule.SignatureMissing)
none_before = profiles.none_before BreaksImage Sealed rule.SignatureMissing rule.SignatureHash among

-- where the first rule is unbroken, all up to the second are
pub first_kept : (image : List ℕ) → ((place : ℕ) → ¬ BreaksSignatureMissing image place) → KeptBelow (BreaksImage image) (rank rule.SignatureExecutable)
first_kept image none rule.SignatureMissing place early broken = none place broken
first_kept image none rule.SignatureExecutable place early broken = absurd (omega (arith, early))
first_kept image none rule.DirectoryRepeated place early broken = absurd (omega (arith, early))
first_kept image none rule.SignatureSlack place early broken = absurd (omega (arith, early))
first_kept image none rule.SignatureHash place early broken = absurd (omega (arith, early))
first_kept image none other place early broken = broken

-- where the last rule is unbroken, all are
pub all_unbroken : (image : List ℕ) → KeptBelow (BreaksImage image) (rank rule.SignatureHash + 1) → NothingBreaks (BreaksImage image)
all_unbroken = profiles.all_unbroken BreaksImage Sealed rule.SignatureMissing rule.SignatureHash among

-- what is broken is sealed
pub first_sealed : (file : List ℕ) (b : Break) → IsFirstSealedBroken file b → profile_of b.rule ≡ Sealed
first_sealed = profiles.first_among BreaksImage Sealed rule.SignatureMissing rule.SignatureHash among NoFileRule (λ file r place broken. absurd broken)
