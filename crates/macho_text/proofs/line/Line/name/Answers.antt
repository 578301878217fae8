use Rattle.std.proofs.Common.{rules, [], ◌∷◌, map}
use Rattle.std.specs.Prelude.{codes}
use Rattle.macho_text.specs.Stream.{joined}
use Rattle.macho_text.specs.Name.{escaped}
use Rattle.macho_text.proofs.Holding.{holds_all, holds_begin, holds_fails, holds_last, holds_next}
use Rattle.macho_text.proofs.Texts.{plain_quoted}
use Rattle.macho_text.proofs.line.Line.name.Goals as goal

pub returns-then-are_plain-clause-text : goal.returns-then-are_plain-clause-text
returns-then-are_plain-clause-text g c =
    holds_all (plain_quoted _ _ _ _ _ (c.are_plain.ensures.0 (search rules)) c.text.ensures c.bytes.ensures c.text-then-are_plain.ensures)

pub returns-in_err-word-clause-text : goal.returns-in_err-word-clause-text
returns-in_err-word-clause-text g c =
    holds_fails c.from_residual.ensures.0 (holds_begin {left = codes "\"" ∷ joined (map escaped c.args.name.now) ∷ codes "\"" ∷ []}) c.in_err-word.ensures.text

pub returns-in_err-escaped-clause-text : goal.returns-in_err-escaped-clause-text
returns-in_err-escaped-clause-text g c =
    let opened = holds_next (holds_begin {left = codes "\"" ∷ joined (map escaped c.args.name.now) ∷ codes "\"" ∷ []}) c.in_ok-word.ensures.text in
    holds_fails c.from_residual-in_err-escaped.ensures.0 opened c.in_err-escaped.ensures

pub returns-clause-text : goal.returns-clause-text
returns-clause-text g c =
    let opened = holds_next (holds_begin {left = codes "\"" ∷ joined (map escaped c.args.name.now) ∷ codes "\"" ∷ []}) c.in_ok-word.ensures.text in
    holds_last (holds_next opened c.in_ok-escaped.ensures) c.word-2.ensures.text
