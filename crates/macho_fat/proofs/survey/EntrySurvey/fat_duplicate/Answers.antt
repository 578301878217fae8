use Rattle.std.proofs.Common.{rules}
use Rattle.macho_fields.specs.declared.rule.Rule.TheVariants as rule
use Rattle.macho_fat.specs.Slices.{arch_span}
use Rattle.macho_fat.proofs.SharedSpans.{sharing_judged, arch_read, least_duplicate}
use Rattle.macho_fat.proofs.survey.EntrySurvey.fat_duplicate.Goals as goal

pub returns : goal.returns
returns c =
    let table = c.self.inside.table.now in
    let order = c.sharing-sharing.ensures _ c.self.invariant.whole.archs in
    sharing_judged table c.args.self.now arch_span rule.FatDuplicate c.sharing-sharing.result c.first_sharing-found.result c.judge.result c.self.view_is c.requires order
    (least_duplicate table c.self.invariant.table.universal)
    (c.first_sharing-found.ensures.first (arch_span table) (λ k entry given is returned. arch_read table k entry given is (search rules)) order) c.first_sharing-found.ensures.memory c.judge.ensures
