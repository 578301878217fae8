use Rattle.std.proofs.Common.{◌⊎◌, inl, inr, refl, subst}
use Rattle.macho_fields.specs.Bytes.{bytes_of}
use Rattle.macho_explain.specs.Explain.{IsSegment, IsUncounted}
use Rattle.macho_explain.specs.Readers.{AreSectionsShown, CanShift, HasLaterLibrary, HasLaterSegment, IsLateShown, IsShiftShown, IsUnmappedShown}
use Rattle.macho_explain.specs.Wholes.{Opens}
use Rattle.macho_explain.specs.declared.conflict.Conflict.{Conflict}
use Rattle.macho_explain.proofs.Found.{found_as}
use Rattle.macho_explain.proofs.order.shift.Goals as goal

pub returns-in-Some : goal.returns-in-Some
returns-in-Some c =
    let image = bytes_of c.args.sliced.now.held.bytes in
    let place = c.args.sliced.now.place in
    let found = c.in-Some.ensures in
    let is : IsSegment image place = subst (IsSegment image) found.meets (found.first.index, found.first.listed) in
    found_as (¬ (HasLaterSegment image place ⊎ Opens image)) (¬ IsUncounted image → ¬ CanShift image place) (λ (s : Conflict). IsUnmappedShown image place s ⊎ AreSectionsShown image place s)
    (IsShiftShown image place) c.by_segment.result
    (λ none few has. elim has [ inl segment ↦ none segment.1 | inr library ↦ library.0 is ])
    (λ s shown. inl (is, shown)) c.by_segment.ensures

pub returns-in-None : goal.returns-in-None
returns-in-None c =
    let image = bytes_of c.args.sliced.now.held.bytes in
    let place = c.args.sliced.now.place in
    let other : ¬ IsSegment image place = λ (k, at). c.in-None.ensures k place at refl in
    found_as (IsUncounted image ⊎ (¬ HasLaterLibrary image place)) (¬ IsUncounted image → ¬ CanShift image place) (IsLateShown image place)
    (IsShiftShown image place) c.by_library.result
    (λ none few has. elim has [ inl segment ↦ other segment.0 | inr library ↦ elim none [ inl many ↦ few many | inr late ↦ late library.1 ] ])
    (λ s shown. inr (other, shown)) c.by_library.ensures
