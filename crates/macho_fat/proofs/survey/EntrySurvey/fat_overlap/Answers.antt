use Rattle.std.proofs.Common.{rules}
use Rattle.macho_fields.specs.declared.rule.Rule.TheVariants as rule
use Rattle.macho_fat.specs.Slices.{slice_span}
use Rattle.macho_fat.proofs.SharedSpans.{sharing_judged, slice_read, least_overlap}
use Rattle.macho_fat.proofs.survey.EntrySurvey.fat_overlap.Goals as goal

pub returns : goal.returns
returns c =
    let table = c.self.inside.table.now in
    let order = c.sharing-sharing.ensures _ c.self.invariant.whole.spans in
    sharing_judged table c.args.self.now slice_span rule.FatOverlap c.sharing-sharing.result c.first_sharing-found.result c.judge.result c.self.view_is c.requires order
    (least_overlap table c.self.invariant.table.universal)
    (c.first_sharing-found.ensures.first (slice_span table) (λ k entry given is returned. slice_read table k entry given is (search rules)) order) c.first_sharing-found.ensures.memory c.judge.ensures
