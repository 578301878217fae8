use Rattle.std.proofs.Common.{◌∙◌, take, drop, ap}
use Rattle.macho_rows.proofs.Ranged.{read_at}
use Rattle.macho_rows.proofs.symbol_index.symbol_with.Goals as goal

pub returns : goal.returns
returns c =
    let symbols = c.args.symbols.now in
    read_at symbols c.args.number c.range.result c.next.result c.next.new.self (c.range.ensures ∙ ap (λ k. take 1 (drop k symbols)) c.from.ensures) c.next.ensures.steps
