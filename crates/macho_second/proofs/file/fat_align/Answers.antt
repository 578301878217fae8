use Rattle.std.proofs.Common.{◌<◌, arith, lit<}
use Rattle.std.proofs.lemmas.Bool.{both_ways}
use Rattle.macho_fields.specs.Bytes.{bytes_of}
use Rattle.macho_fields.specs.Universal.{entry_count, IsSliceMisaligned}
use Rattle.macho_fields.specs.Rules.{BreaksFile}
use Rattle.macho_fields.specs.declared.rule.Rule.TheVariants as rule
use Rattle.macho_fields.proofs.Layers.{kept_more, least_at}
use Rattle.macho_fields.proofs.Entries.{none_more, entry_broken, entries_kept, begins_late, aligned_entry, misaligned_entry}
use Rattle.macho_second.proofs.file.fat_align.Goals as goal

pub is_aligned-requires : goal.is_aligned-requires
is_aligned-requires c =
    let file = bytes_of c.args.entries.file in
    let less : c.loop-k.k < entry_count file = omega (arith, c.args.entries.number) in
    let late = begins_late file c.loop-k.k c.args.entries.universal less (λ place. c.requires rule.FatSliceInTable place (lit< tt)) in omega (arith, late, c.span.ensures.start)

pub returns-then-not-is_aligned : goal.returns-then-not-is_aligned
returns-then-not-is_aligned c =
    let file = bytes_of c.args.entries.file in
    let less : c.loop-k.k < entry_count file = omega (arith, c.args.entries.number) in
    least_at (BreaksFile file) rule.FatAlign c.breaks.result c.requires
    (entry_broken file (IsSliceMisaligned file) rule.FatAlign c.loop-k.k c.breaks.result c.args.entries.universal less c.loop-k.invariant
    (misaligned_entry file c.loop-k.k c.span.result.start c.align.result c.span.ensures.start c.align.ensures
    (λ m. both_ways c.is_aligned.result c.if-not-is_aligned.true (c.is_aligned.ensures.1 m)))
    c.breaks.ensures.rule c.breaks.ensures.place)

pub loop-k-preserved : goal.loop-k-preserved
loop-k-preserved c =
    let file = bytes_of c.args.entries.file in
    none_more (IsSliceMisaligned file) c.loop-k.k c.loop-k.invariant
    (aligned_entry file c.loop-k.k c.span.result.start c.align.result c.span.ensures.start c.align.ensures (c.is_aligned.ensures.0 c.if-not-is_aligned.false))

pub returns : goal.returns
returns c =
    let file = bytes_of c.args.entries.file in
    kept_more (BreaksFile file) rule.FatAlign c.requires (entries_kept file (IsSliceMisaligned file) c.loop-k.k (omega (arith, c.args.entries.number)) c.loop-k.invariant)
