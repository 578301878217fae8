use Rattle.std.proofs.Common.{◌≡◌, ◌∙◌, ap, arith, inl, inr, length, refl, sym}
use Rattle.std.specs.Prelude.{slice_get}
use Rattle.macho_fields.proofs.Options.{of_some}
use Rattle.macho_image.specs.declared.symbol.Symbol.{Symbol}
use Rattle.macho_explain.specs.Alike.{names_size, symbols_in}
use Rattle.macho_explain.proofs.EarlierNames.{next_size, nothing_past}
use Rattle.macho_explain.proofs.definition.names_up_to.Goals as goal

pub returns-in_default : goal.returns-in_default
returns-in_default c =
    let symbols = symbols_in c.args.image.now in
    absurd (nothing_past symbols c.loop-earlier.earlier c.args.index (λ (s : Symbol). Unit {0}) (sym c.symbol.ensures ∙ c.in_default.is) (omega (arith, c.loop-earlier-test.true))
    (of_some (λ (s : Symbol). Unit {0}) (slice_get symbols c.args.index) c.args.symbol c.requires tt))

pub returns-then-size-len : goal.returns-then-size-len
returns-then-size-len c =
    let image = c.args.image.now in
    let k = c.loop-earlier.earlier in
    let next = next_size image k c.in-Some.other (sym c.symbol.ensures ∙ c.in-Some.is) in
    let so_far = c.loop-earlier.invariant.0 in
    let size : c.len.result ≡ length image = c.len.ensures.count ∙ ap length c.bytes.ensures.bytes in
    (k, omega (arith, c.loop-earlier-test.true), omega (arith, c.saturating_add-size.ensures, c.name_size.ensures, next, so_far), inr (omega (arith, c.if-size-len.true, size)))

pub loop-earlier-preserved : goal.loop-earlier-preserved
loop-earlier-preserved c =
    let image = c.args.image.now in
    let k = c.loop-earlier.earlier in
    let next = next_size image k c.in-Some.other (sym c.symbol.ensures ∙ c.in-Some.is) in
    let so_far = c.loop-earlier.invariant.0 in
    let size : c.len.result ≡ length image = c.len.ensures.count ∙ ap length c.bytes.ensures.bytes in
    let fits = c.bytes.ensures.fits in
    (omega (arith, c.saturating_add-size.ensures, c.name_size.ensures, next, so_far, c.if-size-len.false, size, fits), omega (arith, c.if-size-len.false, size))

pub returns : goal.returns
returns c =
    let image = c.args.image.now in
    let next = next_size image c.args.index c.args.symbol c.requires in
    let all : c.loop-earlier.earlier ≡ c.args.index = omega (arith, c.loop-earlier-test.false, c.loop-earlier.auto.earlier-end) in
    let so_far : c.loop-earlier.size ≡ names_size image c.args.index = c.loop-earlier.invariant.0 ∙ ap (names_size image) all in
    (c.args.index, omega arith, omega (arith, c.saturating_add.ensures, c.name_size-2.ensures, next, so_far), inl refl)
