use Rattle.std.proofs.Common.{◌≤◌, ◌<◌, length, arith}
use Rattle.std.proofs.lemmas.Bool.{both_ways}
use Rattle.macho_fields.specs.Bytes.{bytes_of}
use Rattle.macho_spans.specs.Span.{end_of}
use Rattle.macho_fields.specs.Universal.{entry_count, IsSliceOutside}
use Rattle.macho_fields.specs.Rules.{BreaksFile}
use Rattle.macho_fields.specs.declared.rule.Rule.TheVariants as rule
use Rattle.macho_fields.proofs.Layers.{kept_more, least_at}
use Rattle.macho_fields.proofs.Entries.{entry_broken, entries_kept}
use Rattle.macho_second.proofs.file.fat_slice_outside.Goals as goal

pub returns-then-not-contains : goal.returns-then-not-contains
returns-then-not-contains c =
    let file = bytes_of c.args.entries.file in
    let less : c.loop-k.k < entry_count file = omega (arith, c.args.entries.number) in
    let past : ¬ (end_of c.span.result ≤ length file) = λ h. both_ways c.contains.result c.if-not-contains.true (c.contains.ensures.1 h) in
    least_at (BreaksFile file) rule.FatSliceOutside c.breaks.result c.requires
    (entry_broken file (IsSliceOutside file) rule.FatSliceOutside c.loop-k.k c.breaks.result c.args.entries.universal less c.loop-k.invariant
    (omega (arith, c.span.ensures.start, c.span.ensures.len, past))
    c.breaks.ensures.rule c.breaks.ensures.place)

pub returns : goal.returns
returns c =
    let file = bytes_of c.args.entries.file in
    kept_more (BreaksFile file) rule.FatSliceOutside c.requires
    (entries_kept file (IsSliceOutside file) c.loop-k.k (omega (arith, c.args.entries.number)) c.loop-k.invariant)
