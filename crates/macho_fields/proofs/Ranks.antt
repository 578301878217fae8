-- The order of the rules, and which of them a file breaks and which an image.
use Rattle.std.proofs.Common.{◌≡◌, ℕ, suc, zero, ◌≤◌, ◌<◌, List, Option, None, slice_get, refl, ap, ◌∙◌, arith, lit≤, inl, inr}
use Rattle.macho_fields.specs.Universal.{IsUniversal, IsImage}
use Rattle.macho_fields.specs.Rules.{BreaksFile, BreaksHeader, BreaksCommands, BreaksImage}
use Rattle.macho_fields.specs.First.{IsBrokenIn, IsFirstBroken}
use Rattle.macho_fields.specs.RuleList.{rank, profile_of}
use Rattle.macho_fields.specs.Universal.{slices_of}
use Rattle.macho_fields.specs.declared.rule.Break.{Break}
use Rattle.macho_fields.specs.declared.rule.Profile.TheVariants.{Layout}
use Rattle.macho_fields.proofs.Options.{some_of}
use denote.Enum.Bare.{tag_one}
use denote.Enum.Declared.{tag_of}
use Rattle.macho_fields.specs.contracts.rule.Rule.{the_type}
use Rattle.macho_fields.specs.declared.rule.Rule.{Rule}
use Rattle.macho_fields.specs.declared.rule.Rule.TheVariants as rule

-- a rank is the place of the rule among the variants, from 1
rank_is_tag : (r : Rule) → rank r ≡ suc (tag_of the_type r)
rank_is_tag rule.Magic = refl
rank_is_tag other = refl

pub rank_determines_rule : (a b : Rule) → rank a ≡ rank b → a ≡ b
rank_determines_rule a b e =
    let tags : tag_of the_type a ≡ tag_of the_type b = omega (arith, rank_is_tag a, rank_is_tag b) in
    tag_one the_type tt a b tags

pub rank_least : (r : Rule) → rank rule.Magic ≤ rank r
rank_least rule.Magic = lit≤ tt
rank_least other = lit≤ tt

-- a file that is an image, and not universal, breaks no rule of the file
pub plain_image_keeps_file_rules : (file : List ℕ) → ¬ IsUniversal file → IsImage file → (r : Rule) (place : ℕ) → ¬ BreaksFile file r place
plain_image_keeps_file_rules file plain is rule.Magic place n = n.1 (inr is)
plain_image_keeps_file_rules file plain is rule.FatTruncated place n = plain n.1
plain_image_keeps_file_rules file plain is rule.FatSliceOutside place n = plain n.0
plain_image_keeps_file_rules file plain is rule.FatSliceInTable place n = plain n.0
plain_image_keeps_file_rules file plain is rule.FatAlign place n = plain n.0
plain_image_keeps_file_rules file plain is rule.FatOverlap place n = plain n.0
plain_image_keeps_file_rules file plain is rule.FatDuplicate place n = plain n.0
plain_image_keeps_file_rules file plain is rule.FatSliceMagic place n = plain n.0
plain_image_keeps_file_rules file plain is rule.FatEmpty place n = plain n.1
plain_image_keeps_file_rules file plain is other place n = n

-- Where the rules stand that a file breaks, that a header breaks, and that need the commands. An arm for each, since a
-- search would go over all rules.
of_file : (file : List ℕ) (r : Rule) (place : ℕ) → BreaksFile file r place → (rank r ≤ rank rule.FatEmpty) × (profile_of r ≡ Layout)
of_file file rule.Magic place h = (lit≤ tt, refl)
of_file file rule.FatTruncated place h = (lit≤ tt, refl)
of_file file rule.FatSliceOutside place h = (lit≤ tt, refl)
of_file file rule.FatSliceInTable place h = (lit≤ tt, refl)
of_file file rule.FatAlign place h = (lit≤ tt, refl)
of_file file rule.FatOverlap place h = (lit≤ tt, refl)
of_file file rule.FatDuplicate place h = (lit≤ tt, refl)
of_file file rule.FatSliceMagic place h = (lit≤ tt, refl)
of_file file rule.FatEmpty place h = (lit≤ tt, refl)
of_file file other place h = absurd h

of_header : (image : List ℕ) (arch : Option (ℕ × ℕ)) (r : Rule) (place : ℕ) → BreaksHeader image arch r place
    → (rank rule.HeaderTruncated ≤ rank r) × (rank r < rank rule.CommandShort) × (profile_of r ≡ Layout)
of_header image arch rule.HeaderTruncated place h = (lit≤ tt, lit≤ tt, refl)
of_header image arch rule.ArchMismatch place h = (lit≤ tt, lit≤ tt, refl)
of_header image arch rule.FileType place h = (lit≤ tt, lit≤ tt, refl)
of_header image arch rule.CommandsOutside place h = (lit≤ tt, lit≤ tt, refl)
of_header image arch rule.CommandWalk place h = (lit≤ tt, lit≤ tt, refl)
of_header image arch other place h = absurd h

of_commands : (image commands : List ℕ) (r : Rule) (place : ℕ) → BreaksCommands image commands r place
    → (rank rule.CommandShort ≤ rank r) × (rank r ≤ rank rule.Entry) × (profile_of r ≡ Layout)
of_commands image commands rule.CommandShort place h = (lit≤ tt, lit≤ tt, refl)
of_commands image commands rule.CommandRepeated place h = (lit≤ tt, lit≤ tt, refl)
of_commands image commands rule.DylibId place h = (lit≤ tt, lit≤ tt, refl)
of_commands image commands rule.Name place h = (lit≤ tt, lit≤ tt, refl)
of_commands image commands rule.SegmentAddress place h = (lit≤ tt, lit≤ tt, refl)
of_commands image commands rule.SegmentSize place h = (lit≤ tt, lit≤ tt, refl)
of_commands image commands rule.SegmentFile place h = (lit≤ tt, lit≤ tt, refl)
of_commands image commands rule.SegmentOverlap place h = (lit≤ tt, lit≤ tt, refl)
of_commands image commands rule.SectionAddress place h = (lit≤ tt, lit≤ tt, refl)
of_commands image commands rule.SectionFile place h = (lit≤ tt, lit≤ tt, refl)
of_commands image commands rule.SectionRelocs place h = (lit≤ tt, lit≤ tt, refl)
of_commands image commands rule.TableRange place h = (lit≤ tt, lit≤ tt, refl)
of_commands image commands rule.SymbolGroup place h = (lit≤ tt, lit≤ tt, refl)
of_commands image commands rule.SymbolName place h = (lit≤ tt, lit≤ tt, refl)
of_commands image commands rule.SymbolSection place h = (lit≤ tt, lit≤ tt, refl)
of_commands image commands rule.IndirectIndex place h = (lit≤ tt, lit≤ tt, refl)
of_commands image commands rule.Entry place h = (lit≤ tt, lit≤ tt, refl)
of_commands image commands other place h = absurd h

-- a rule that a file breaks comes no later than the last of the file
pub file_rule_rank : (file : List ℕ) (r : Rule) (place : ℕ) → BreaksFile file r place → rank r ≤ rank rule.FatEmpty
file_rule_rank file r place h = (of_file file r place h).0

-- and a rule that an image breaks no later than the last of the layout
pub layout_rule_rank : (image : List ℕ) (arch : Option (ℕ × ℕ)) (r : Rule) (place : ℕ) → BreaksImage image arch r place → rank r ≤ rank rule.Entry
layout_rule_rank image arch r place (inl h) = let early = (of_header image arch r place h).1 in omega arith
layout_rule_rank image arch r place (inr (commands, are, h)) = (of_commands image commands r place h).1

-- a rule that an image breaks comes after the rules of the file
pub image_rule_rank : (image : List ℕ) (arch : Option (ℕ × ℕ)) (r : Rule) (place : ℕ) → BreaksImage image arch r place → rank rule.HeaderTruncated ≤ rank r
image_rule_rank image arch r place (inl h) = (of_header image arch r place h).0
image_rule_rank image arch r place (inr (commands, are, h)) = let late = (of_commands image commands r place h).0 in omega arith

-- a rule that a header breaks comes before the rules of the commands
pub header_rule_rank : (image : List ℕ) (arch : Option (ℕ × ℕ)) (r : Rule) (place : ℕ) → BreaksHeader image arch r place → rank r < rank rule.CommandShort
header_rule_rank image arch r place h = (of_header image arch r place h).1

-- what a header breaks where it is compared with no architecture it breaks where it is
pub header_alone : (image : List ℕ) (arch : Option (ℕ × ℕ)) (r : Rule) (place : ℕ) → BreaksHeader image None r place → BreaksHeader image arch r place
header_alone image arch rule.ArchMismatch place h = absurd h.1
header_alone image arch other place h = h

pub image_alone : (image : List ℕ) (arch : Option (ℕ × ℕ)) (r : Rule) (place : ℕ) → BreaksImage image None r place → BreaksImage image arch r place
image_alone image arch r place (inl h) = inl (header_alone image arch r place h)
image_alone image arch r place (inr h) = inr h

-- the rules of the commands do not depend on an architecture
pub commands_alone : (image : List ℕ) (arch : Option (ℕ × ℕ)) (r : Rule) (place : ℕ) → rank rule.CommandShort ≤ rank r → BreaksImage image arch r place → BreaksImage image None r place
commands_alone image arch r place late (inl h) = let early = header_rule_rank image arch r place h in absurd (omega arith)
commands_alone image arch r place late (inr h) = inr h

-- What a file breaks, or an image, is of the layout
file_of_layout : (file : List ℕ) (r : Rule) (place : ℕ) → BreaksFile file r place → profile_of r ≡ Layout
file_of_layout file r place h = (of_file file r place h).1

image_of_layout : (image : List ℕ) (arch : Option (ℕ × ℕ)) (r : Rule) (place : ℕ) → BreaksImage image arch r place → profile_of r ≡ Layout
image_of_layout image arch r place (inl h) = (of_header image arch r place h).2
image_of_layout image arch r place (inr (commands, are, h)) = (of_commands image commands r place h).2

scope_of_layout : (file : List ℕ) (scope : ℕ) (r : Rule) (place : ℕ) → IsBrokenIn file scope r place → profile_of r ≡ Layout
scope_of_layout file zero r place h = file_of_layout file r place h
scope_of_layout file (suc k) r place h = let (slice, is, (image, broken)) = some_of _ (slice_get (slices_of file) k) h in image_of_layout _ slice.arch r place broken

pub first_of_layout : (file : List ℕ) (b : Break) → IsFirstBroken file b → profile_of b.rule ≡ Layout
first_of_layout file b (fault, broken, first, same, at) = ap profile_of same ∙ scope_of_layout file fault.scope fault.rule fault.place broken
