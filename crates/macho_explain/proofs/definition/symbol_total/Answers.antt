use Rattle.std.proofs.Common.{◌≡◌, ◌∙◌, List, None, ℕ, ap, length, subst, sym}
use Rattle.macho_fields.specs.Bytes.{bytes_of}
use Rattle.macho_explain.specs.Explain.{IsSymbolAt}
use Rattle.macho_explain.specs.Parts.{conflict_of}
use Rattle.macho_explain.proofs.EarlierNames.{total_shown}
use Rattle.macho_explain.proofs.definition.symbol_total.Goals as goal

pub returns-in_err-symbol : goal.returns-in_err-symbol
returns-in_err-symbol c =
    let place = c.args.sliced.now.place in
    rw c.from_residual-in_err-symbol.ensures (λ (opens, (k, is)). c.in_err-symbol.ensures k (subst (λ (b : List ℕ). IsSymbolAt b k place) (sym c.in_ok-at.ensures.1) is))

pub returns : goal.returns
returns c =
    let image = c.in_ok-at.image in
    let (spot, same, its) = c.in_ok-at.ensures in
    let (at, listed) = c.in_ok-symbol.ensures in
    let size : c.len.result ≡ length image = c.len.ensures.count ∙ ap (λ (b : List ℕ). length b) c.bytes.ensures.bytes in
    rw (c.shows.ensures, c.numbers.ensures) (
      spot,
      total_shown image (bytes_of c.args.sliced.now.held.bytes) c.args.sliced.now.place c.in_ok-symbol.index
          (conflict_of None None c.names_up_to-size.result c.len.result) same (c.in_ok-symbol.symbol, listed, at) c.names_up_to-size.ensures size,
    )
