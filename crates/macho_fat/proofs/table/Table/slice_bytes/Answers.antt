use Rattle.std.proofs.Common.{ap, subst, arith, length}
use Rattle.macho_fields.specs.Universal.{IsUniversal}
use Rattle.macho_fields.proofs.Entries.{ends_inside}
use Rattle.macho_fat.proofs.table.Table.slice_bytes.Goals as goal

pub slice-requires : goal.slice-requires
slice-requires c =
    let universal = subst IsUniversal c.self.view_is c.self.invariant.0.universal in
    let inside = ends_inside c.args.self.now c.args.k universal c.requires.entry c.requires.inside in
    omega (arith, inside, c.entry.ensures.start, c.entry.ensures.size, ap length c.self.view_is)
