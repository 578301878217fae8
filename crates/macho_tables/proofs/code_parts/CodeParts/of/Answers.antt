use Rattle.std.proofs.Common.{◌≡◌, List, ℕ, sym, ap, ◌∙◌, subst, true, rules, tests}
use Rattle.std.proofs.lemmas.Bool.{false≢true}
use Rattle.macho_fields.specs.Segment.{fileoff, filesize}
use Rattle.macho_rules.proofs.MappingItems.{on_err}
use Rattle.macho_rules.proofs.Mapped.{span_is}
use Rattle.macho_tables.specs.CodeParts.{has_code, HasOtherPart}
use Rattle.macho_tables.proofs.CodeParts.{no_code, one_code, many_code}
use Rattle.macho_tables.proofs.Found.{find_segment, match_none, match_some}
use Rattle.macho_tables.proofs.code_parts.CodeParts.of.Goals as goal

pub returns-in_default-clause-parts : goal.returns-in_default-clause-parts
returns-in_default-clause-parts c =
    let found = find_segment c.args.image.now c.segments.ensures.segments _ (λ image segment. has_code image segment ≡ true) c.find.result c.find.ensures.ran (λ y b q k. search (rules, tests)) in
    λ bytes some. no_code c.args.image.now bytes some (match_none _ _ _ found c.in_default.is)

pub returns-in_err-code_of-clause-memory : goal.returns-in_err-code_of-clause-memory
returns-in_err-code_of-clause-memory c =
    let found = find_segment c.args.image.now c.segments.ensures.segments _ (λ image segment. has_code image segment ≡ true) c.find.result c.find.ensures.ran (λ y b q k. search (rules, tests)) in
    let (code, same, has) = match_some _ _ _ found c.in-Some.first c.in-Some.is in
    on_err c.from_residual.result (c.in-Some.first.place, has, code, subst (HasOtherPart c.args.image.now) c.place.ensures (c.has_other_part.ensures.0 c.if-has_other_part.true))

pub returns-then-has_other_part-clause-parts : goal.returns-then-has_other_part-clause-parts
returns-then-has_other_part-clause-parts c = λ bytes some. many_code c.args.image.now bytes some c.in_ok-code_of.field-0 c.in_ok-code_of.ensures.parts

pub returns-clause-parts : goal.returns-clause-parts
returns-clause-parts c =
    let image = c.args.image.now in
    let found = find_segment image c.segments.ensures.segments _ (λ bytes segment. has_code bytes segment ≡ true) c.find.result c.find.ensures.ran (λ y b q k. search (rules, tests)) in
    let (code, same, has) = match_some _ _ _ found c.in-Some.first c.in-Some.is in
    let first = c.in-Some.first.place in
    let start = c.file_part.ensures.start ∙ ap (λ (bytes : List ℕ). fileoff bytes first) same in
    let len = c.file_part.ensures.len ∙ ap (λ (bytes : List ℕ). filesize bytes first) same in
    λ bytes some. one_code image bytes some first has code (λ other. false≢true (sym c.if-has_other_part.false ∙ c.has_other_part.ensures.1 (subst (HasOtherPart image) (sym c.place.ensures) other))) c.file_part.result
    (span_is c.file_part.result (fileoff image first) (filesize image first) start len)
