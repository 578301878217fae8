-- What a rule is about is there, where a file, or an image, that breaks no rule of the layout breaks the rule.
use Rattle.std.specs.Prelude.{ℕ, List, None}
use Rattle.macho_fields.specs.Layers.{NothingBreaks}
use Rattle.macho_fields.specs.Rules.{BreaksFile, BreaksImage}
use Rattle.macho_fields.specs.declared.rule.Rule.{Rule}
use Rattle.macho_explain.specs.Compared.{Shown, OfFile, OfImage, shown}

-- what a rule is about
abbrev pub SubjectAs : Shown → List ℕ → ℕ → Type 0
SubjectAs (OfFile S P) bytes place = S bytes place
SubjectAs (OfImage S P) bytes place = S bytes place

-- it is at each place at which these say that the rule is broken
abbrev pub AreThere : List ℕ → (List ℕ → ℕ → Type 0) → Rule → Type 0
AreThere image Breaks rule =
    NothingBreaks (BreaksImage image None) → (place : ℕ) → Breaks image place → SubjectAs (shown rule) image place

-- the same of a file
abbrev pub AreThereInFile : List ℕ → (List ℕ → ℕ → Type 0) → Rule → Type 0
AreThereInFile file Breaks rule =
    NothingBreaks (BreaksFile file) → (place : ℕ) → Breaks file place → SubjectAs (shown rule) file place
