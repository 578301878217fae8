use Rattle.std.proofs.Common.{◌∙◌, ℕ, sym}
use Rattle.macho_fields.proofs.Options.{of_some, some_has}
use Rattle.macho_fields.specs.Image.{commands_of}
use Rattle.macho_fields.specs.Segment.{base_of}
use Rattle.macho_exports.specs.Exports.{LeadsNowhere}
use Rattle.macho_exports.proofs.exports.Destinations.has_no_address.Goals as goal

pub returns-clause-nowhere : goal.returns-clause-nowhere
returns-clause-nowhere c image are =
    let base = sym are.base ∙ c.in-Some.is in
    let says = c.leads_nowhere.ensures.nowhere image are in
    let P = λ (b : ℕ). LeadsNowhere image b c.args.export.target in (
      λ so. (sym c.is_absolute.ensures ∙ c.if-is_absolute.false, of_some P (base_of image (commands_of image)) c.in-Some.base base (says.0 so)),
      λ (_, has). says.1 (some_has P (base_of image (commands_of image)) c.in-Some.base base has),
    )
