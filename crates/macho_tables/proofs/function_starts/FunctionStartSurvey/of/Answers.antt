use Rattle.std.proofs.Common.{◌≡◌, List, ℕ, sym, ap, ◌∙◌, subst}
use Rattle.macho_fields.specs.Bytes.{bytes_of}
use Rattle.macho_fields.specs.Field.{part}
use Rattle.macho_fields.specs.FirstPlace.{IsLeastPlace}
use Rattle.macho_fields.specs.declared.header.loader.TheConstants as loader
use Rattle.macho_tables.specs.StartNumbers.{BadNumber, StrayStart, BreaksFunctionNumber, BreaksFunctionStart}
use Rattle.macho_tables.proofs.DataTables.{none_in_image, least_in_image, fits_in_image}
use Rattle.macho_tables.proofs.StartNumbers.{stray_start_near}
use Rattle.macho_tables.proofs.function_starts.FunctionStartSurvey.of.Goals as goal

pub returns-in_default-clause-least : goal.returns-in_default-clause-least
returns-in_default-clause-least c = record {
  number = none_in_image c.args.image.now loader.LC_FUNCTION_STARTS BadNumber c.in_default.ensures.table;
  start = none_in_image c.args.image.now loader.LC_FUNCTION_STARTS StrayStart c.in_default.ensures.table;
}

pub place_from-requires-2 : goal.place_from-requires-2
place_from-requires-2 c =
    let image = c.args.image.now in
    let table = c.in-Some.table in
    let bytes : bytes_of c.slice.result ≡ part table.start table.len image = c.slice.ensures ∙ ap (part table.start table.len) c.bytes.ensures.bytes in
    fits_in_image image loader.LC_FUNCTION_STARTS table c.in-Some.ensures.table StrayStart (stray_start_near image) c.survey-found.result.start c.in-Some.ensures.inside c.bytes.ensures.fits
    (subst (λ (these : List ℕ). IsLeastPlace (StrayStart image these) c.survey-found.result.start) bytes c.survey-found.ensures.start)

pub returns-clause-least : goal.returns-clause-least
returns-clause-least c =
    let image = c.args.image.now in
    let table = c.in-Some.table in
    let bytes : bytes_of c.slice.result ≡ part table.start table.len image = c.slice.ensures ∙ ap (part table.start table.len) c.bytes.ensures.bytes in
    let found = c.survey-found.result in
    record {
      number = subst (IsLeastPlace (BreaksFunctionNumber image)) (sym c.place_from.ensures)
          (least_in_image image loader.LC_FUNCTION_STARTS table c.in-Some.ensures.table BadNumber found.number
          (subst (λ (these : List ℕ). IsLeastPlace (BadNumber image these) found.number) bytes c.survey-found.ensures.number));
      start = subst (IsLeastPlace (BreaksFunctionStart image)) (sym c.place_from-2.ensures)
          (least_in_image image loader.LC_FUNCTION_STARTS table c.in-Some.ensures.table StrayStart found.start
          (subst (λ (these : List ℕ). IsLeastPlace (StrayStart image these) found.start) bytes c.survey-found.ensures.start));
    }
