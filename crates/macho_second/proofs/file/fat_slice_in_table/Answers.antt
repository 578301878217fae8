use Rattle.std.proofs.Common.{◌<◌, arith}
use Rattle.macho_fields.specs.Bytes.{bytes_of}
use Rattle.macho_fields.specs.Universal.{entry_count, IsSliceInTable}
use Rattle.macho_fields.specs.Rules.{BreaksFile}
use Rattle.macho_fields.specs.declared.rule.Rule.TheVariants as rule
use Rattle.macho_fields.proofs.Layers.{kept_more, least_at}
use Rattle.macho_fields.proofs.Entries.{entry_broken, entries_kept}
use Rattle.macho_second.proofs.file.fat_slice_in_table.Goals as goal

pub returns-then-span-table_end : goal.returns-then-span-table_end
returns-then-span-table_end c =
    let file = bytes_of c.args.entries.file in
    let less : c.loop-k.k < entry_count file = omega (arith, c.args.entries.number) in
    least_at (BreaksFile file) rule.FatSliceInTable c.breaks.result c.requires
    (entry_broken file (IsSliceInTable file) rule.FatSliceInTable c.loop-k.k c.breaks.result c.args.entries.universal less c.loop-k.invariant
    (omega (arith, c.span.ensures.start, c.table_end.ensures))
    c.breaks.ensures.rule c.breaks.ensures.place)

pub returns : goal.returns
returns c =
    let file = bytes_of c.args.entries.file in
    kept_more (BreaksFile file) rule.FatSliceInTable c.requires
    (entries_kept file (IsSliceInTable file) c.loop-k.k (omega (arith, c.args.entries.number)) c.loop-k.invariant)
