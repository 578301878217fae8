use Rattle.std.proofs.Common.{List, ℕ, subst, sym}
use Rattle.macho_fields.specs.Bytes.{bytes_of}
use Rattle.macho_explain.specs.Explain.{IsSymbolAt}
use Rattle.macho_explain.proofs.EarlierNames.{definition_shown}
use Rattle.macho_explain.proofs.definition.export_symbol.Goals as goal

pub returns-in_err-index : goal.returns-in_err-index
returns-in_err-index c =
    let place = c.args.sliced.now.place in
    rw c.from_residual-in_err-index.ensures (λ (opens, (k, is)). c.in_err-index.ensures k (subst (λ (b : List ℕ). IsSymbolAt b k place) (sym c.in_ok-at.ensures.1) is))

pub returns : goal.returns
returns c =
    let (spot, same, its) = c.in_ok-at.ensures in
    let (at, listed) = c.in_ok-index.ensures in
    rw c.shows.ensures (
      spot,
      definition_shown c.in_ok-at.image (bytes_of c.args.sliced.now.held.bytes) c.args.sliced.now.place c.in_ok-index.index c.in_ok-at.symbol c.other_value.result same its
          (c.in_ok-index.field-0-0, listed, at) c.other_value.ensures.value c.other_value.ensures.other,
    )
