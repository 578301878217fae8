use Rattle.std.proofs.Common.{◌≡◌, List, ℕ, sym, ap, ◌∙◌, subst}
use Rattle.macho_fields.specs.Bytes.{bytes_of}
use Rattle.macho_fields.specs.Field.{part}
use Rattle.macho_fields.specs.FirstPlace.{IsLeastPlace}
use Rattle.macho_fields.specs.declared.header.loader.TheConstants as loader
use Rattle.macho_tables.specs.DataInCode.{BadEntry, BreaksDataInCode}
use Rattle.macho_tables.proofs.DataInCode.{bad_entry_near}
use Rattle.macho_tables.proofs.DataTables.{none_in_image, least_in_image, fits_in_image}
use Rattle.macho_tables.proofs.data_in_code.data_in_code.Goals as goal

pub returns-in_default-clause-least : goal.returns-in_default-clause-least
returns-in_default-clause-least c = none_in_image c.args.image.now loader.LC_DATA_IN_CODE BadEntry c.in_default.ensures.table

pub place_from-requires : goal.place_from-requires
place_from-requires c =
    let image = c.args.image.now in
    let table = c.in-Some.table in
    let bytes : bytes_of c.slice.result ≡ part table.start table.len image = c.slice.ensures ∙ ap (part table.start table.len) c.bytes.ensures.bytes in
    fits_in_image image loader.LC_DATA_IN_CODE table c.in-Some.ensures.table BadEntry (bad_entry_near image) c.first_bad-found.result c.in-Some.ensures.inside c.bytes.ensures.fits
    (subst (λ (these : List ℕ). IsLeastPlace (BadEntry image these) c.first_bad-found.result) bytes (c.first_bad-found.ensures image c.in_ok-code.ensures.parts))

pub returns-clause-least : goal.returns-clause-least
returns-clause-least c =
    let image = c.args.image.now in
    let table = c.in-Some.table in
    let bytes : bytes_of c.slice.result ≡ part table.start table.len image = c.slice.ensures ∙ ap (part table.start table.len) c.bytes.ensures.bytes in
    subst (IsLeastPlace (BreaksDataInCode image)) (sym c.place_from.ensures)
    (least_in_image image loader.LC_DATA_IN_CODE table c.in-Some.ensures.table BadEntry c.first_bad-found.result
    (subst (λ (these : List ℕ). IsLeastPlace (BadEntry image these) c.first_bad-found.result) bytes (c.first_bad-found.ensures image c.in_ok-code.ensures.parts)))
