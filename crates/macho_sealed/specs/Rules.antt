-- Where each sealed rule is broken, by an image that breaks no other rule: the rule, and the place that is reported.
-- docs/rules/sealed.md says the same in words.
use Rattle.std.specs.Prelude.{ℕ, List}
use Rattle.macho_fields.specs.First.{NoneIsBroken, IsFirstOfAll}
use Rattle.macho_fields.specs.declared.rule.Break.{Break}
use Rattle.macho_fields.specs.declared.rule.Rule.{Rule}
use Rattle.macho_fields.specs.declared.rule.Rule.TheVariants as rule
use Rattle.macho_rules.specs.Profile.{NoFileRule, AddedIn}
use Rattle.macho_seals.specs.Signature.{BreaksSignatureMissing, BreaksSignatureExecutable, BreaksDirectoryRepeated, BreaksSignatureSlack, BreaksSignatureHash}

-- the image breaks the rule at the place
abbrev pub BreaksImage : List ℕ → Rule → ℕ → Type 0
BreaksImage image rule.SignatureMissing place = BreaksSignatureMissing image place
BreaksImage image rule.SignatureExecutable place = BreaksSignatureExecutable image place
BreaksImage image rule.DirectoryRepeated place = BreaksDirectoryRepeated image place
BreaksImage image rule.SignatureSlack place = BreaksSignatureSlack image place
BreaksImage image rule.SignatureHash place = BreaksSignatureHash image place
BreaksImage image other place = ⊥

-- the sealed rule is broken there, by the bytes of a 64-bit slice
abbrev pub IsBrokenIn : List ℕ → ℕ → Rule → ℕ → Type 0
IsBrokenIn = AddedIn NoFileRule BreaksImage

-- no sealed rule is broken
abbrev pub IsSealedUnbroken : List ℕ → Type 0
IsSealedUnbroken file = NoneIsBroken (IsBrokenIn file)

-- b is the first broken sealed rule, with its place in the file
abbrev pub IsFirstSealedBroken : List ℕ → Break → Type 0
IsFirstSealedBroken file b = IsFirstOfAll (IsBrokenIn file) file b
