use Rattle.std.proofs.Common.{ℕ, ◌<◌, List, slice_index, subst}
use Rattle.macho_fields.specs.FirstPlace.{IsLeastPlace}
use Rattle.macho_fields.specs.Segment.{all_segments}
use Rattle.macho_readers.specs.Names.{RepeatsNames}
use Rattle.macho_readers.specs.declared.names.Named.{Named}
use Rattle.macho_readers.proofs.NamedSegments.{named, segments_repeat}
use Rattle.macho_readers.proofs.SameNames.{least_listed}
use Rattle.macho_readers.proofs.segments.repeated_name.Goals as goal

pub returns-clause-least : goal.returns-clause-least
returns-clause-least c =
    let image = c.args.image.now in
    segments_repeat image (subst (λ (bytes : List ℕ). (k : ℕ) → slice_index bytes k < 256) c.bytes.ensures.bytes c.note_bytes.ensures) c.least_repeated.result
    (least_listed (named image) (all_segments image) c.in_ok-names.names.items c.in_ok-names.ensures.names c.least_repeated.result
    (subst (λ (items : List Named). IsLeastPlace (RepeatsNames items) c.least_repeated.result) c.deref_mut.ensures.value c.least_repeated.ensures))
