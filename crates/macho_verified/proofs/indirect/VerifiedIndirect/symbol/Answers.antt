use Rattle.std.proofs.Common.{◌≡◌, ◌∙◌, ◌<◌, map, length, Some, slice_get, true, false, IsSome, IfSome, sym, ap, subst}
use Rattle.std.proofs.lemmas.Bool.{false≢true}
use Rattle.macho_fields.specs.Image.{word, commands_of}
use Rattle.macho_fields.specs.Symbol.{IsSymbolIndex}
use Rattle.macho_image.specs.Symbol.{symbols_of}
use Rattle.macho_verified.specs.Image.{SymbolView, IndirectView, symbol_view}
use Rattle.macho_verified.proofs.Counted.{value_read, symbol_named, some_view, if_some_same}
use Rattle.macho_verified.proofs.indirect.VerifiedIndirect.symbol.Goals as goal

pub returns-then-not-is_symbol_index-clause-named : goal.returns-then-not-is_symbol_index-clause-named
returns-then-not-is_symbol_index-clause-named c =
    let image = c.self.inside.image.now in
    let entry = c.self.inside.entry in
    let no : c.is_symbol_index.result ≡ false = c.if-not-is_symbol_index.true in
    subst (λ (v : IndirectView). (false ≡ true → IsSymbolIndex (word v.image v.place)) × (IsSymbolIndex (word v.image v.place) → false ≡ true)) c.self.view_is
    (λ some. absurd (false≢true some), λ index. sym no ∙ c.is_symbol_index.ensures.1 (subst IsSymbolIndex (sym (value_read image entry c.self.invariant)) index))

pub returns-clause-named : goal.returns-clause-named
returns-clause-named c =
    let image = c.self.inside.image.now in
    let entry = c.self.inside.entry in
    let index : IsSymbolIndex entry.value = c.is_symbol_index.ensures.0 c.if-not-is_symbol_index.false in
    subst (λ (v : IndirectView). (IsSome c.symbol.result → IsSymbolIndex (word v.image v.place)) × (IsSymbolIndex (word v.image v.place) → IsSome c.symbol.result)) c.self.view_is (
      λ some. subst IsSymbolIndex (value_read image entry c.self.invariant) index,
      λ at. subst IsSome (sym c.symbol.ensures)
          (some_view image (symbols_of image (commands_of image)) c.from.result
          (subst (λ n. n < length (symbols_of image (commands_of image))) (sym c.from.ensures) (symbol_named image entry c.self.invariant index))),
    )

pub returns-clause-symbol : goal.returns-clause-symbol
returns-clause-symbol c =
    let image = c.self.inside.image.now in
    let entry = c.self.inside.entry in
    subst (λ (v : IndirectView). IfSome c.symbol.result (λ (symbol : SymbolView).
    slice_get (map (symbol_view v.image) (symbols_of v.image (commands_of v.image))) (word v.image v.place) ≡ Some symbol))
    c.self.view_is
    (if_some_same c.symbol.result _
    (c.symbol.ensures ∙ ap (slice_get (map (symbol_view image) (symbols_of image (commands_of image)))) (c.from.ensures ∙ value_read image entry c.self.invariant)))
