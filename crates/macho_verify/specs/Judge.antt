-- What the judge of a profile says of a file.
use Rattle.std.specs.Prelude.{ℕ, List, []}
use Rattle.macho_fields.specs.declared.rule.Break.{Break}
use Rattle.macho_fields.specs.declared.rule.Profile.{Profile}
use Rattle.macho_fields.specs.declared.rule.Profile.TheVariants.{Layout, Strict, Linked, Unambiguous, Sealed}
use Rattle.macho_profiles.specs.Profiles.{IsRefusedBy}
use Rattle.macho_rules.specs.declared.refusal.Refusal.TheVariants.{Broken}
use Rattle.macho_verify.specs.Cdhashes.{cdhashes_text}

-- b is the first of all rules that the file breaks, among the profiles up to this one
abbrev pub IsRefusedFor : Profile → List ℕ → Break → Type 0
IsRefusedFor profile file b = IsRefusedBy profile file (Broken b)

-- what the report says of an image after the lines of its layout
abbrev pub said_by : Profile → List ℕ → List ℕ
said_by Layout image = []
said_by Strict image = []
said_by Linked image = []
said_by Unambiguous image = []
said_by Sealed image = cdhashes_text image
