use Rattle.std.proofs.Common.{◌<◌, None, Some, length, subst, sym, arith}
use Rattle.macho_explain.specs.Compared.{shown}
use Rattle.macho_explain.specs.Explained.{MatchesByAs, ShowsAs}
use Rattle.macho_explain.proofs.Shown.{lacks, lacks_past, shows}
use Rattle.macho_explain.proofs.explanation.explain.Goals as goal

pub returns-then-place-len : goal.returns-then-place-len
returns-then-place-len c =
    let past : length c.args.file.now < c.args.place = omega (arith, c.if-place-len.true) in
    lacks_past (shown c.args.rule) c.args.rule c.args.file.now c.args.place past

pub returns-in_err-found : goal.returns-in_err-found
returns-in_err-found c =
    let image = c.image_with-image.result in
    let has = subst (λ file. MatchesByAs (shown c.args.rule) file c.args.place image None) c.new.ensures c.in_err-found.ensures in
    rw c.from_residual.ensures (lacks (shown c.args.rule) c.args.rule c.args.file.now c.args.place image c.image_with-image.ensures has)

pub returns : goal.returns
returns c =
    let file = c.args.file.now in
    let place = c.args.place in
    let image = c.image_with-image.result in
    let found = c.in_ok-found.found in
    let part = c.placed.result.at.part in
    let has = subst (λ bytes. MatchesByAs (shown c.args.rule) bytes place image (Some found)) c.new.ensures c.in_ok-found.ensures in
    let whole = shows (shown c.args.rule) c.args.rule file place image found part c.image_with-image.ensures has in
    let at = c.placed.ensures.place in
    (record { inside = omega (arith, at.inside); from = at.from; to = at.to }, subst (ShowsAs (shown c.args.rule) c.args.rule file place) (sym c.placed.ensures.same) whole)
