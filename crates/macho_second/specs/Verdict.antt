-- What the second verdict finds of a slice.
use Rattle.std.specs.Prelude.{ℕ, List}
use Rattle.macho_fields.specs.Universal.{FileSlice}
use Rattle.macho_fields.specs.declared.rule.Break.{Break}
use Rattle.macho_rules.specs.Verdict.{IsSliceRefusal}
use Rattle.macho_rules.specs.declared.refusal.Refusal.TheVariants as refusal

-- b is the first break of the image in a slice, with its place in the file
abbrev pub IsSliceBreak : List ℕ → FileSlice → Break → Type 0
IsSliceBreak file slice b = IsSliceRefusal file slice (refusal.Broken b)
