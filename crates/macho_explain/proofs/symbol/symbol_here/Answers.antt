use Rattle.std.proofs.Common.{◌≡◌, List, ℕ, subst, refl, sym}
use Rattle.macho_fields.specs.Bytes.{bytes_of}
use Rattle.macho_fields.specs.Image.{commands_of}
use Rattle.macho_image.specs.Symbol.{symbols_of, symbol_at}
use Rattle.macho_explain.specs.Explain.{IsSymbolAt}
use Rattle.macho_explain.proofs.SymbolsAt.{symbol_is}
use Rattle.macho_explain.proofs.Walked.{when_some}
use Rattle.macho_explain.proofs.symbol.symbol_here.Goals as goal

pub returns-in_err-symbol : goal.returns-in_err-symbol
returns-in_err-symbol c =
    let place = c.args.sliced.now.place in
    rw c.from_residual-in_err-symbol.ensures (λ (opens, (k, is)). c.in_err-symbol.ensures k (subst (λ (b : List ℕ). IsSymbolAt b k place) (sym c.in_ok-image.ensures.1) is))

pub returns : goal.returns
returns c =
    let bytes = bytes_of c.args.sliced.now.held.bytes in
    let image = c.in_ok-image.image in
    let same = c.in_ok-image.ensures.1 in
    let place = c.args.sliced.now.place in
    let (at, listed) = c.in_ok-symbol.ensures in
    let is = symbol_is image (symbols_of image (commands_of image)) c.in_ok-symbol.index c.in_ok-symbol.symbol place listed at in
    let there : IsSymbolAt image c.in_ok-symbol.index place = (c.in_ok-symbol.symbol, listed, at) in
    let indexed = when_some (λ k. IsSymbolAt bytes k place) c.in_ok-symbol.index c.index_of-index.result c.index_of-index.ensures
    (subst (λ (b : List ℕ). IsSymbolAt b c.in_ok-symbol.index place) same there) in
    rw c.at.ensures (record { slice = refl; command = tt; section = tt; symbol = indexed }, same, subst (λ (b : List ℕ). c.in_ok-symbol.symbol ≡ symbol_at b place) same is)
