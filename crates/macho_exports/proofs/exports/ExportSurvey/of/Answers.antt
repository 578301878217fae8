use Rattle.std.proofs.Common.{◌≡◌, ◌∙◌, List, ℕ, length, sym, ap, subst, arith}
use Rattle.macho_fields.specs.Bytes.{bytes_of}
use Rattle.macho_fields.specs.Field.{part}
use Rattle.macho_image.proofs.ReadParts.{length-part}
use Rattle.macho_rules.proofs.Verdicts.{unbroken_opened}
use Rattle.macho_exports.specs.Exports.{AreLeastInTrie, AreLeastInImage}
use Rattle.macho_exports.proofs.ExportTables.{exports_fit, exports_listed}
use Rattle.macho_exports.proofs.exports.ExportSurvey.of.Goals as goal

pub export_table-requires : goal.export_table-requires
export_table-requires c = unbroken_opened c.args.image.now c.requires

pub moved-requires : goal.moved-requires
moved-requires c =
    let image = c.args.image.now in
    let table = c.in-Some.table in
    let trie : bytes_of c.slice.result ≡ part table.start table.len image = c.slice.ensures ∙ ap (part table.start table.len) c.bytes.ensures.bytes in
    let count = ap length trie ∙ length-part table.start table.len image (c.in-Some.ensures.inside c.requires) in
    let inside = c.in-Some.ensures.inside c.requires in
    exports_fit image (bytes_of c.slice.result) c.in_ok-found.found table.start c.in_ok-found.ensures (omega (arith, count, inside, c.bytes.ensures.fits))

pub returns-clause-least : goal.returns-clause-least
returns-clause-least c =
    let image = c.args.image.now in
    let table = c.in-Some.table in
    let trie : bytes_of c.slice.result ≡ part table.start table.len image = c.slice.ensures ∙ ap (part table.start table.len) c.bytes.ensures.bytes in
    let are = subst (λ (bytes : List ℕ). AreLeastInTrie image bytes c.in_ok-found.found) trie c.in_ok-found.ensures in
    subst (AreLeastInImage image) (sym c.moved.ensures) (exports_listed image table c.in_ok-found.found (sym c.in-Some.ensures.table) are)
