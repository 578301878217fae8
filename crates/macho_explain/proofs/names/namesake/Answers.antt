use Rattle.std.proofs.Common.{refl, rules, subst, sym, tests}
use Rattle.macho_tables.proofs.Found.{find_segment, match_none, match_some}
use Rattle.macho_explain.specs.Readers.{IsNamesake}
use Rattle.macho_explain.proofs.names.namesake.Goals as goal

pub returns-in_err-earlier : goal.returns-in_err-earlier
returns-in_err-earlier c =
    let found = find_segment c.args.image.now c.segments.ensures.segments _ (λ bytes earlier. IsNamesake bytes c.args.segment.now.place c.args.name.now earlier) c.find.result c.find.ensures.ran (λ s b q k. search (rules, tests)) in
    rw c.from_residual.ensures (match_none _ _ c.find.result found c.in_err-earlier.was)

pub returns : goal.returns
returns c =
    let found = find_segment c.args.image.now c.segments.ensures.segments _ (λ bytes earlier. IsNamesake bytes c.args.segment.now.place c.args.name.now earlier) c.find.result c.find.ensures.ran (λ s b q k. search (rules, tests)) in
    let its = match_some _ _ c.find.result found c.in_ok-earlier.earlier c.in_ok-earlier.was in
    rw c.alone.ensures (refl, subst (λ p. IsNamesake c.args.image.now c.args.segment.now.place c.args.name.now p) (sym c.place-2.ensures) its.0)
