use Rattle.macho_fields.specs.Universal.{IsSliceOutside}
use Rattle.macho_fields.specs.declared.rule.Rule.TheVariants as rule
use Rattle.macho_fat.proofs.FirstEntries.{entry_judged}
use Rattle.macho_fat.proofs.survey.EntrySurvey.fat_slice_outside.Goals as goal

pub returns : goal.returns
returns c =
    entry_judged c.self.inside.table.now c.args.self.now IsSliceOutside rule.FatSliceOutside c.self.inside.notes.outside c.judge.result c.self.view_is c.requires
    c.self.invariant.table.universal c.self.invariant.whole.breaks.outside (λ least. least) c.judge.ensures
