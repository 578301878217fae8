use Rattle.std.proofs.Common.{◌≡◌, ◌∙◌, List, sym, ap, arith}
use Rattle.std.proofs.lemmas.Bool.{false≢true}
use Rattle.std.proofs.lemmas.List.{map-id}
use Rattle.std.proofs.lemmas.Iterator.Consumers.{YieldsList-from_first, YieldsList-end}
use Rattle.macho_image.specs.declared.symbol.Symbol.{Symbol}
use Rattle.macho_verified.specs.Image.{SymbolView}
use Rattle.symbolize.specs.Find.{symbols, value_of}
use Rattle.symbolize.proofs.Searches.{taken, passed_over, nearest_of_all}
use Rattle.symbolize.proofs.find.nearest_symbol.Goals as goal
use Rattle.symbolize.proofs.find.nearest_symbol.Goals.{else-start-value-via-then-start-value+else-is_at_or_before, else-start-value-via-else-start-value}

pub loop-symbol-preserved-then-is_at_or_before : goal.loop-symbol-preserved-then-is_at_or_before
loop-symbol-preserved-then-is_at_or_before c =
    let value : c.symbol-value.result.value ≡ value_of c.in-Some.symbol = ap (λ (s : Symbol). s.value) c.symbol-value.ensures in (
      sym value,
      taken c.args.address c.loop-symbol.yielded c.loop-symbol.nearest c.loop-symbol.start c.in-Some.symbol c.loop-symbol.invariant
          (c.is_at_or_before.ensures.0 c.if-is_at_or_before.true) (omega (arith, value, c.if-start-value.true)),
    )

pub loop-symbol-preserved : goal.loop-symbol-preserved
loop-symbol-preserved c =
    let value : c.symbol-value.result.value ≡ value_of c.in-Some.symbol = ap (λ (s : Symbol). s.value) c.symbol-value.ensures in
    passed_over c.args.address c.loop-symbol.yielded c.loop-symbol.nearest c.loop-symbol.start c.in-Some.symbol c.loop-symbol.invariant
    (elim c.else-start-value.branch [
      | else-start-value-via-then-start-value+else-is_at_or_before w ↦ λ yes. absurd (false≢true (sym w.if-is_at_or_before.false ∙ w.is_at_or_before.ensures.1 yes))
      | else-start-value-via-else-start-value w ↦ λ yes. omega (arith, value, w.if-start-value.false)
    ])

pub returns : goal.returns
returns c =
    let all = symbols c.args.image.now in
    let given = c.into_iter-symbol-iterator.ensures.into_iter_gives ∙ c.symbols-symbol-items.ensures.symbols in
    let end = YieldsList-end (YieldsList-from_first (λ (x : SymbolView). x) (λ (left : List SymbolView). left) all given)
    c.loop-symbol.yielded _ c.loop-symbol.yielded_by _ _ c.in-None.is c.next.ensures.steps in
    nearest_of_all c.args.address all c.loop-symbol.yielded c.loop-symbol.nearest c.loop-symbol.start (sym (map-id c.loop-symbol.yielded) ∙ end.0) c.loop-symbol.invariant
