use Rattle.std.proofs.Common.{◌≡◌, ◌∙◌, All, List, ℕ, map, take, drop, sym, ap, subst}
use Rattle.macho_fields.specs.Bytes.{bytes_of}
use Rattle.macho_fields.specs.Image.{commands_of}
use Rattle.macho_spans.specs.declared.span.Span.{Span}
use Rattle.macho_image.specs.Symbol.{symbols_of}
use Rattle.macho_image.specs.declared.symbol.Symbol.{Symbol}
use Rattle.macho_verified.specs.Image.{symbol_view}
use Rattle.macho_verified.specs.Accepted.{IsAccepted, IsVerifiedSymbol}
use Rattle.macho_verified.proofs.Accepted.{range_holds, views_of}
use Rattle.macho_verified.proofs.image.VerifiedImage.symbol_group.Goals as goal

pub invariant_of-result : goal.invariant_of-result
invariant_of-result c =
    let image = c.self.inside.image in
    subst (λ (bytes : List ℕ). All (IsVerifiedSymbol bytes c.strings_of.result) c.symbol_range.result) (sym c.bytes.ensures.bytes)
    (subst (λ (among : Span). All (IsVerifiedSymbol image among) c.symbol_range.result) (sym c.strings_of.ensures)
    (subst (All (IsVerifiedSymbol image _)) (sym c.symbol_range.ensures) (range_holds image c.self.invariant c.args.group.0 c.args.group.1)))

pub returns-clause-symbols : goal.returns-clause-symbols
returns-clause-symbols c =
    let image = c.self.inside.image in
    subst (λ (i : List ℕ). map (λ (symbol : Symbol). symbol_view (bytes_of c.bytes.result) symbol.place) c.symbol_range.result
    ≡ map (symbol_view i) (take c.args.group.1 (drop c.args.group.0 (symbols_of i (commands_of i))))) c.self.view_is
    (subst (λ (bytes : List ℕ). map (λ (symbol : Symbol). symbol_view bytes symbol.place) c.symbol_range.result
    ≡ map (symbol_view image) (take c.args.group.1 (drop c.args.group.0 (symbols_of image (commands_of image))))) (sym c.bytes.ensures.bytes)
    (ap (map (λ (symbol : Symbol). symbol_view image symbol.place)) c.symbol_range.ensures ∙ views_of image (take c.args.group.1 (drop c.args.group.0 (symbols_of image (commands_of image))))))

pub returns-clause-accepted : goal.returns-clause-accepted
returns-clause-accepted c = subst IsAccepted c.self.view_is c.self.invariant
