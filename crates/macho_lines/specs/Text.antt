-- The line of a broken rule, and a line of three words. Each ends with one line feed.
use Rattle.std.specs.Prelude.{ℕ, List, [], ◌∷◌, codes}
use Rattle.macho_fields.specs.RuleList.{name_of}
use Rattle.macho_fields.specs.declared.rule.Break.{Break}
use Rattle.macho_text.specs.Stream.{joined}
use Rattle.macho_text.specs.Number.{prefixed_hex}

-- a break: `refused: `, the rule's name, ` at ` and the place
abbrev pub break_text : Break → List ℕ
break_text b =
    joined (codes "refused: " ∷ name_of b.rule ∷ codes " at " ∷ prefixed_hex b.place ∷ codes "\n" ∷ [])

-- a line of three words
abbrev pub words_line : List ℕ → List ℕ → List ℕ → List ℕ
words_line first second third = joined (first ∷ second ∷ third ∷ codes "\n" ∷ [])
