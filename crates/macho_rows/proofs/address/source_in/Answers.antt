use Rattle.std.proofs.Common.{◌≡◌, ◌≢◌, [], drop, length, Some, refl, ap, sym, subst, ◌∙◌, arith}
use Rattle.std.proofs.lemmas.Bool.{eqb-true, eqb-false}
use Rattle.macho_rows.specs.Segments.{segment_bytes}
use Rattle.macho_rows.specs.Address.{bytes_from}
use Rattle.macho_rows.specs.declared.address.Source.TheVariants as source
use Rattle.macho_rows.proofs.Supplied.{starts, has_none, has_zero, has_bytes}
use Rattle.macho_rows.proofs.address.source_in.Goals as goal

pub span_of-requires : goal.span_of-requires
span_of-requires c = λ some.
    let segment = c.in_ok-segment.segment in
    let past = c.saturating_sub-past.result in
    let rest : c.rest-bytes.result.now ≡ drop past (segment_bytes segment.image segment.place) = c.rest-bytes.ensures ∙ ap (drop past) c.bytes_of.ensures in
    let inside = starts c.args.image.now c.args.address past segment (sym c.in_ok-segment.ensures) (subst (λ bytes. bytes ≢ []) rest some) in
    omega (arith, inside, c.fileoff.ensures, ap length c.requires)

pub returns-in_err-segment : goal.returns-in_err-segment
returns-in_err-segment c = has_none c.args.image.now c.args.held.now.place c.args.address _ (sym c.in_err-segment.ensures) c.from_residual.ensures

pub returns-then-is_empty : goal.returns-then-is_empty
returns-then-is_empty c =
    let segment = c.in_ok-segment.segment in
    let rest : c.rest-bytes.result.now ≡ bytes_from c.args.address segment = c.rest-bytes.ensures ∙ cc in
    has_zero c.args.image.now c.args.held.now.place c.args.address _ segment (sym c.in_ok-segment.ensures) refl (ap length (sym rest) ∙ eqb-true _ 0 (sym c.is_empty.ensures ∙ c.if-is_empty.true))

pub returns : goal.returns
returns c =
    let segment = c.in_ok-segment.segment in
    let rest : c.rest-bytes.result.now ≡ bytes_from c.args.address segment = c.rest-bytes.ensures ∙ cc in
    has_bytes c.args.image.now c.args.held.now.place c.args.address _ segment (sym c.in_ok-segment.ensures) (ap Some (ap source.Bytes (c.span_of.ensures ∙ cc)))
    (subst (λ bytes. length bytes ≢ 0) rest (eqb-false _ 0 (sym c.is_empty.ensures ∙ c.if-is_empty.false)))
