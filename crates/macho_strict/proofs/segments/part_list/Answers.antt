use Rattle.std.proofs.Common.{◌≡◌, ◌∙◌, ap}
use Rattle.std.proofs.lemmas.Result.{IfOk-weaker}
use Rattle.macho_spans.specs.Overlap.{SpanListView}
use Rattle.macho_strict.specs.Passed.{occupied}
use Rattle.macho_strict.specs.Sharing.{all_parts}
use Rattle.macho_strict.specs.Verdict.{file_parts}
use Rattle.macho_strict.proofs.Sharings.{drained_occupied}
use Rattle.macho_strict.proofs.Surveyed.{parts_are}
use Rattle.macho_strict.proofs.segments.part_list.Goals as goal

pub returns : goal.returns
returns c =
    let image = c.args.image.now in
    IfOk-weaker c.occupied_list.result _ (λ (list : SpanListView). list.spans ≡ occupied (file_parts image))
    (λ list (all, ran, are, room). drained_occupied (all_parts image) c.of.result c.of.ensures list.spans all ran are ∙ ap occupied (parts_are image)) c.occupied_list.ensures
