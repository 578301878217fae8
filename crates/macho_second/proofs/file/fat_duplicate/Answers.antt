use Rattle.std.proofs.Common.{◌<◌, arith}
use Rattle.std.proofs.lemmas.Bool.{both_ways}
use Rattle.macho_fields.specs.Bytes.{bytes_of}
use Rattle.macho_fields.specs.Universal.{entry_count, RepeatsEarlierArch}
use Rattle.macho_fields.specs.Rules.{BreaksFile}
use Rattle.macho_fields.specs.declared.rule.Rule.TheVariants as rule
use Rattle.macho_fields.proofs.Layers.{kept_more, least_at}
use Rattle.macho_fields.proofs.Entries.{none_more, entry_broken, entries_kept}
use Rattle.macho_second.proofs.file.fat_duplicate.Goals as goal

pub returns-then-repeats_earlier : goal.returns-then-repeats_earlier
returns-then-repeats_earlier c =
    let file = bytes_of c.args.entries.file in
    let less : c.loop-k.k < entry_count file = omega (arith, c.args.entries.number) in
    least_at (BreaksFile file) rule.FatDuplicate c.breaks.result c.requires
    (entry_broken file (RepeatsEarlierArch file) rule.FatDuplicate c.loop-k.k c.breaks.result c.args.entries.universal less c.loop-k.invariant
    (c.repeats_earlier.ensures.0 c.if-repeats_earlier.true)
    c.breaks.ensures.rule c.breaks.ensures.place)

pub loop-k-preserved : goal.loop-k-preserved
loop-k-preserved c =
    none_more (RepeatsEarlierArch (bytes_of c.args.entries.file)) c.loop-k.k c.loop-k.invariant (λ h. both_ways c.repeats_earlier.result c.if-repeats_earlier.false (c.repeats_earlier.ensures.1 h))

pub returns : goal.returns
returns c =
    let file = bytes_of c.args.entries.file in
    kept_more (BreaksFile file) rule.FatDuplicate c.requires (entries_kept file (RepeatsEarlierArch file) c.loop-k.k (omega (arith, c.args.entries.number)) c.loop-k.invariant)
