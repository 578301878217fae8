use Rattle.std.proofs.Common.{◌+◌, ◌∙◌, ap, ap₂}
use Rattle.macho_fields.specs.Bytes.{bytes_of}
use Rattle.macho_explain.specs.Explain.{long_at, written}
use Rattle.macho_explain.proofs.Begins.{main_found, main_none}
use Rattle.macho_explain.proofs.start.main_address.Goals as goal

pub returns-in_err-base : goal.returns-in_err-base
returns-in_err-base c = rw c.from_residual.ensures (main_none (bytes_of c.args.sliced.now.held.bytes) c.args.sliced.now.place c.in_err-base.ensures)

pub returns : goal.returns
returns c =
    let image = bytes_of c.args.sliced.now.held.bytes in
    let base = c.in_ok-base.base in
    let long = c.long-entryoff.ensures ∙ ap (λ p. long_at image (p + 8)) c.requires.meets in
    main_found image c.args.sliced.now.place base.place c.saturating_add.result c.in_ok-base.ensures.first
    (c.saturating_add.ensures ∙ ap₂ (λ a b. written (a + b)) c.in_ok-base.ensures.row.start long)
