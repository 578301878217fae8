use Rattle.std.proofs.Common.{◌+◌, sym, subst, arith}
use Rattle.std.proofs.lemmas.Bool.{both_ways}
use Rattle.macho_fields.specs.Bytes.{bytes_of}
use Rattle.macho_fields.specs.Universal.{IsForeign}
use Rattle.macho_fields.specs.Rules.{BreaksFile}
use Rattle.macho_fields.specs.declared.rule.Rule.TheVariants as rule
use Rattle.macho_fields.proofs.Layers.{kept_more, least_at}
use Rattle.macho_fields.proofs.Magics.{IsLeastForeign, DecidesForeign, none_foreign, foreign_broken, foreign_kept}
use Rattle.macho_second.proofs.Second.{foreign_added}
use Rattle.macho_second.proofs.file.fat_slice_magic.Goals as goal
use Rattle.macho_second.proofs.file.fat_slice_magic.Goals.{then-is_foreign, else-is_foreign}

pub loop-k-preserved : goal.loop-k-preserved
loop-k-preserved c =
    let file = bytes_of c.args.entries.file in
    elim c.if-is_foreign.branch [
      | then-is_foreign w ↦ subst (DecidesForeign file (c.loop-k.k + 1)) (sym w.least-is)
          (foreign_added file c.loop-k.k w.span.result.start w.lesser.result c.loop-k.least c.loop-k.invariant w.span.ensures.start
          (subst IsForeign c.bytes.ensures (c.is_foreign.ensures.0 w.if-is_foreign.true)) w.lesser.ensures)
      | else-is_foreign w ↦ subst (DecidesForeign file (c.loop-k.k + 1)) (sym w.least-is)
          (none_foreign file c.loop-k.k c.loop-k.least c.loop-k.invariant
          (λ h. both_ways c.is_foreign.result w.if-is_foreign.false (c.is_foreign.ensures.1 (subst IsForeign (sym c.bytes.ensures) h))))
    ]

pub returns-in-Some : goal.returns-in-Some
returns-in-Some c =
    let file = bytes_of c.args.entries.file in
    let least = subst (DecidesForeign file c.loop-k.k) c.in-Some.is c.loop-k.invariant in
    let here = subst (IsLeastForeign file c.loop-k.k) (sym c.at.ensures.place) least in
    let (broken, first) = foreign_broken file c.loop-k.k c.at.result.place (omega (arith, c.args.entries.number)) c.args.entries.universal here in
    least_at (BreaksFile file) rule.FatSliceMagic c.at.result c.requires (c.at.ensures.rule, broken, first)

pub returns-in-None : goal.returns-in-None
returns-in-None c =
    let file = bytes_of c.args.entries.file in
    kept_more (BreaksFile file) rule.FatSliceMagic c.requires
    (foreign_kept file c.loop-k.k (omega (arith, c.args.entries.number)) (subst (DecidesForeign file c.loop-k.k) c.in-None.is c.loop-k.invariant))
