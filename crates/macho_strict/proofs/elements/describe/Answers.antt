use Rattle.std.proofs.Common.{◌≡◌, ◌∙◌, List, Some, map, sym, ap}
use Rattle.std.specs.Option.{option_map}
use Rattle.macho_fields.specs.Bytes.{bytes_of}
use Rattle.macho_image.specs.Command.{command_of}
use Rattle.macho_image.specs.Segment.{SegmentView, SectionView, segment_of, section_at, sections_with}
use Rattle.macho_strict.proofs.ElementWalks.{as_described}
use Rattle.macho_strict.proofs.elements.describe.Goals as goal
use Rattle.macho_strict.proofs.elements.describe.Goals.{in-Some, in-None}

abbrev sections_of : SegmentView → List SectionView
sections_of segment = map (section_at segment.image) (sections_with segment.image segment.place)

pub returns : goal.returns
returns c =
    let image = bytes_of c.args.image in
    let v = command_of c.args.command.now in
    let have : c.match-segment.sections ≡ option_map sections_of (segment_of image v) = elim c.match-segment.branch [
      | in-Some w ↦ w.sections-is ∙ (ap Some w.sections.ensures ∙ ap (option_map sections_of) (sym w.in-Some.is ∙ (c.segment.ensures.listed c.requires.listed)))
      | in-None w ↦ w.sections-is ∙ ap (option_map sections_of) (sym w.in-None.is ∙ (c.segment.ensures.listed c.requires.listed))
    ] in
    as_described image v c.requires.listed c.match-segment.sections c.tables_of.result have c.tables_of.ensures
