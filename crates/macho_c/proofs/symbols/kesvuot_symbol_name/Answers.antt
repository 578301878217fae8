use Rattle.std.proofs.Common.{◌≡◌, ◌∙◌, List, ℕ, sym, ap, subst}
use Rattle.macho_rows.specs.Image.{image_in}
use Rattle.macho_rows.specs.Spans.{span_at}
use Rattle.macho_rows.specs.Symbols.{name_span, NamesSymbols}
use Rattle.macho_rows.proofs.AllSymbols.{names}
use Rattle.macho_c.specs.Status.{Answers}
use Rattle.macho_c.proofs.symbols.kesvuot_symbol_name.Goals as goal

pub returns : goal.returns
returns c =
    let row = c.args.image.now in
    let image = image_in c.args.file.now row in
    let is : c.name_span.result ≡ name_span image row c.args.strx = c.name_span.ensures ∙ ap (λ (bytes : List ℕ). name_span bytes row c.args.strx) c.held-held.ensures.bytes in
    record {
      name = subst (Answers (span_at 0 0) c.answer.result c.answer.new.written) is c.answer.ensures;
      all = λ shows. (c.name_span.result, subst (NamesSymbols image row.slice.offset c.args.strx) (sym is) (names c.args.file.now row shows c.args.strx), c.answer.ensures);
    }
