use Rattle.std.proofs.Common.{◌⊎◌, inl, inr}
use Rattle.macho_fields.specs.Bytes.{bytes_of}
use Rattle.macho_explain.specs.Readers.{AreNumbersShown, AreSectionsShown, AreStartsShown, HasLaterSegment, IsUnmappedShown}
use Rattle.macho_explain.specs.Wholes.{Opens}
use Rattle.macho_explain.specs.declared.conflict.Conflict.{Conflict}
use Rattle.macho_explain.proofs.Found.{found_as}
use Rattle.macho_explain.proofs.order.by_segment.Goals as goal

pub returns-in-None : goal.returns-in-None
returns-in-None c =
    let image = bytes_of c.args.sliced.now.held.bytes in
    let place = c.args.sliced.now.place in
    found_as (¬ Opens image) (¬ (HasLaterSegment image place ⊎ Opens image)) (λ (s : Conflict). AreNumbersShown image place s ⊎ AreStartsShown image place s)
    (λ (s : Conflict). IsUnmappedShown image place s ⊎ AreSectionsShown image place s) c.by_sections.result
    (λ closed has. elim has [ inl later ↦ c.in-None.ensures later | inr opens ↦ closed opens ])
    (λ s shown. inr (c.in-None.ensures, shown)) c.by_sections.ensures
