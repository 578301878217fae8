use Rattle.std.proofs.Common.{take, drop, map, ap, sym, ◌∙◌}
use Rattle.macho_fields.specs.Bytes.{bytes_of}
use Rattle.macho_image.proofs.Ranges.{range-map}
use Rattle.macho_image.proofs.table.TableEntries.range.Goals as goal

pub returns : goal.returns
returns g c =
    let read = g.E.TableEntry.entry_at (bytes_of c.self.inside.image) in
    ap (map read) c.range.ensures ∙ sym (range-map read c.self.inside.items c.args.first c.args.count)
    ∙ ap (λ entries. take c.args.count (drop c.args.first entries)) c.self.view_is
