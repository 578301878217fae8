use Rattle.macho_fields.specs.Universal.{IsSliceInTable}
use Rattle.macho_fields.specs.declared.rule.Rule.TheVariants as rule
use Rattle.macho_fat.proofs.FirstEntries.{entry_judged}
use Rattle.macho_fat.proofs.survey.EntrySurvey.fat_slice_in_table.Goals as goal

pub returns : goal.returns
returns c =
    entry_judged c.self.inside.table.now c.args.self.now IsSliceInTable rule.FatSliceInTable c.self.inside.notes.in_table c.judge.result c.self.view_is c.requires
    c.self.invariant.table.universal c.self.invariant.whole.breaks.in_table (λ least. least) c.judge.ensures
