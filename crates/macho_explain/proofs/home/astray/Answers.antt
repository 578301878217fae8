use Rattle.std.proofs.Common.{◌≡◌, ◌∙◌, ap, arith, rules, tests}
use Rattle.macho_fields.specs.Bytes.{bytes_of}
use Rattle.macho_fields.specs.Segment.{fileoff, filesize}
use Rattle.macho_tables.specs.Homes.{IsAstray}
use Rattle.macho_tables.proofs.Found.{each_segment, find_segment, match_none, match_some}
use Rattle.macho_explain.specs.declared.conflict.Conflict.{Conflict}
use Rattle.macho_explain.proofs.home.astray.Goals as goal

pub find-requires-clause-callable : goal.find-requires-clause-callable
find-requires-clause-callable c = each_segment c.args.image.now c.segments.ensures.segments c.segments.ensures.opened (λ s q k. search (rules, tests)) (λ s inside. search rules)

pub returns-in_err-segment : goal.returns-in_err-segment
returns-in_err-segment c =
    let found = find_segment c.args.image.now c.segments.ensures.segments _ (IsAstray c.args.table.now.span) c.find.result c.find.ensures.ran (λ s b q k. search (rules, tests)) in
    rw c.from_residual.ensures (match_none _ _ c.find.result found c.in_err-segment.was)

pub returns : goal.returns
returns c =
    let image = bytes_of c.args.sliced.now.held.bytes in
    let segment = c.in_ok-segment.segment in
    let found = find_segment c.args.image.now c.segments.ensures.segments _ (IsAstray c.args.table.now.span) c.find.result c.find.ensures.ran (λ s b q k. search (rules, tests)) in
    let its = match_some _ _ c.find.result found segment c.in_ok-segment.was in
    let same : segment.image ≡ image = its.1 ∙ c.requires in
    let start : c.file_part.result.start ≡ fileoff image segment.place = c.file_part.ensures.start ∙ ap (λ b. fileoff b segment.place) same in
    let len : c.file_part.result.len ≡ filesize image segment.place = c.file_part.ensures.len ∙ ap (λ b. filesize b segment.place) same in
    let limit : c.alone.result.limit ≡ c.clamped-end.result = ap (λ (x : Conflict). x.limit) c.alone.ensures in
    (segment.place, omega (arith, limit, c.clamped-end.ensures, c.end.ensures, start, len))
