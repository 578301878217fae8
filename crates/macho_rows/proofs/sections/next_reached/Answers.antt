use Rattle.std.proofs.Common.{◌+◌, ◌≤◌, ◌<◌, ◌∷◌, ap, sym, ◌∙◌, subst}
use Rattle.macho_fields.specs.Bytes.{bytes_of}
use Rattle.macho_rows.proofs.Reached.{reached, none_reached, next_reached}
use Rattle.macho_rows.proofs.sections.next_reached.Goals as goal

pub returns-then-cursor-nsects_at-clause-first : goal.returns-then-cursor-nsects_at-clause-first
returns-then-cursor-nsects_at-clause-first c =
    let image = c.args.image.now in
    let cursor = c.args.cursor.now in
    let none = none_reached image.place (bytes_of image.bytes) cursor.segment cursor.items (subst (λ n. n ≤ cursor.items) c.nsects_at.ensures.count c.if-cursor-nsects_at.true) in
    (none, none)

pub returns-clause-first : goal.returns-clause-first
returns-clause-first c =
    let image = c.args.image.now in
    let cursor = c.args.cursor.now in
    next_reached image.place (bytes_of image.bytes) cursor.segment cursor.items (subst (λ n. cursor.items < n) c.nsects_at.ensures.count c.if-cursor-nsects_at.false)
    ∙ ap (λ row. row ∷ reached image.place (bytes_of image.bytes) cursor.segment (cursor.items + 1)) (sym c.row_of.ensures)
