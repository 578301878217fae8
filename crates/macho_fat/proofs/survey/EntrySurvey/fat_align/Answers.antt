use Rattle.macho_fields.specs.Universal.{IsSliceMisaligned}
use Rattle.macho_fields.specs.declared.rule.Rule.TheVariants as rule
use Rattle.macho_fat.proofs.FirstEntries.{entry_judged}
use Rattle.macho_fat.proofs.survey.EntrySurvey.fat_align.Goals as goal

pub returns : goal.returns
returns c =
    entry_judged c.self.inside.table.now c.args.self.now IsSliceMisaligned rule.FatAlign c.self.inside.notes.misaligned c.judge.result c.self.view_is c.requires
    c.self.invariant.table.universal c.self.invariant.whole.breaks.misaligned (λ least. least) c.judge.ensures
