-- Which linked rules an image breaks.
use Rattle.std.proofs.Common.{◌≡◌, ℕ, ◌+◌, ◌≤◌, List, rules}
use Rattle.macho_fields.specs.Layers.{KeptBelow, NothingBreaks}
use Rattle.macho_fields.specs.RuleList.{rank, profile_of}
use Rattle.macho_fields.specs.declared.rule.Break.{Break}
use Rattle.macho_fields.specs.declared.rule.Profile.TheVariants.{Linked}
use Rattle.macho_fields.specs.declared.rule.Rule.{Rule}
use Rattle.macho_fields.specs.declared.rule.Rule.TheVariants as rule
use Rattle.macho_rules.specs.Profile.{NoFileRule}
use Rattle.macho_rules.proofs.Profiles as profiles
use Rattle.macho_linked.specs.Rules.{BreaksImage, IsFirstLinkedBroken}

-- from the first to the last
among : (image : List ℕ) (r : Rule) (place : ℕ) → BreaksImage image r place → (rank rule.TableRepeated ≤ rank r) × (rank r ≤ rank rule.CommandContent) × (profile_of r ≡ Linked)
among image rule.Magic place broken = absurd broken
among image other place broken = search rules

pub none_before : (image : List ℕ) → KeptBelow (BreaksImage image) (rank rule.TableRepeated)
none_before = profiles.none_before BreaksImage Linked rule.TableRepeated rule.CommandContent among

-- where the last rule is unbroken, all are
pub all_unbroken : (image : List ℕ) → KeptBelow (BreaksImage image) (rank rule.CommandContent + 1) → NothingBreaks (BreaksImage image)
all_unbroken = profiles.all_unbroken BreaksImage Linked rule.TableRepeated rule.CommandContent among

-- what is broken is linked
pub first_linked : (file : List ℕ) (b : Break) → IsFirstLinkedBroken file b → profile_of b.rule ≡ Linked
first_linked = profiles.first_among BreaksImage Linked rule.TableRepeated rule.CommandContent among NoFileRule (λ file r place broken. absurd broken)
