-- What a rule of the layout is about is there, where a file, or an image, that breaks no rule before it breaks the rule.
use Rattle.std.specs.Prelude.{ℕ, List, None}
use Rattle.macho_fields.specs.First.{rank}
use Rattle.macho_fields.specs.Layers.{KeptBelow}
use Rattle.macho_fields.specs.Rules.{BreaksFile, BreaksImage}
use Rattle.macho_fields.specs.declared.rule.Rule.{Rule}
use Rattle.macho_explain.specs.Compared.{shown}
use Rattle.macho_explain.specs.Linked.{SubjectAs}

abbrev pub IsThereInFile : List ℕ → Rule → Type 0
IsThereInFile file r =
    KeptBelow (BreaksFile file) (rank r) → (place : ℕ) → BreaksFile file r place → SubjectAs (shown r) file place

abbrev pub IsThereInImage : List ℕ → Rule → Type 0
IsThereInImage image r =
    KeptBelow (BreaksImage image None) (rank r) → (place : ℕ) → BreaksImage image None r place
    → SubjectAs (shown r) image place
