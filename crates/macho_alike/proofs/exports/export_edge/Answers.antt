use Rattle.std.proofs.Common.{◌≡◌, ◌∙◌, List, ℕ, length, sym, ap, subst, arith}
use Rattle.macho_fields.specs.Bytes.{bytes_of}
use Rattle.macho_fields.specs.Field.{part}
use Rattle.macho_fields.specs.FirstPlace.{IsLeastPlace}
use Rattle.macho_image.proofs.ReadParts.{length-part}
use Rattle.macho_rules.proofs.Verdicts.{unbroken_opened}
use Rattle.macho_alike.specs.Exports.{UnclearNode, BreaksExportEdge}
use Rattle.macho_alike.proofs.ExportWalks.{edge_fits, edge_listed}
use Rattle.macho_alike.proofs.exports.export_edge.Goals as goal

pub export_table-requires : goal.export_table-requires
export_table-requires c = unbroken_opened c.args.image.now c.requires

pub place_from-requires : goal.place_from-requires
place_from-requires c =
    let image = c.args.image.now in
    let table = c.in-Some.table in
    let trie : bytes_of c.slice.result ≡ part table.start table.len image = c.slice.ensures ∙ ap (part table.start table.len) c.bytes.ensures.bytes in
    let inside = c.in-Some.ensures.inside c.requires in
    let count = ap length trie ∙ length-part table.start table.len image inside in
    edge_fits (bytes_of c.slice.result) table.start c.in_ok-found.found (omega (arith, count, inside, c.bytes.ensures.fits)) c.in_ok-found.ensures

pub returns-clause-least : goal.returns-clause-least
returns-clause-least c =
    let image = c.args.image.now in
    let table = c.in-Some.table in
    let trie : bytes_of c.slice.result ≡ part table.start table.len image = c.slice.ensures ∙ ap (part table.start table.len) c.bytes.ensures.bytes in
    let are = subst (λ (bytes : List ℕ). IsLeastPlace (UnclearNode bytes) c.in_ok-found.found) trie c.in_ok-found.ensures in
    subst (IsLeastPlace (BreaksExportEdge image)) (sym c.place_from.ensures) (edge_listed image table c.in_ok-found.found (sym c.in-Some.ensures.table) are)
