use Rattle.std.proofs.Common.{ℕ, List, None, subst₂}
use Rattle.macho_fields.specs.Layers.{NothingBreaks}
use Rattle.macho_fields.specs.Rules.{BreaksImage}
use Rattle.macho_rows.specs.Address.{HasSource, IsSourceAt}
use Rattle.macho_rows.specs.Rows.{IsOfImage}
use Rattle.macho_c.proofs.address.kesvuot_find_address.Goals as goal

pub returns-clause-answer : goal.returns-clause-answer
returns-clause-answer c =
    let found = c.source_at.result in
    (found, subst₂ (λ (image : List ℕ) (place : ℕ). IsOfImage image (HasSource image place c.args.address) found) c.held.ensures.bytes c.held.ensures.place c.source_at.ensures.source, c.answer_source.ensures)

pub returns-clause-source : goal.returns-clause-source
returns-clause-source c = λ unbroken.
    let found = c.source_at.result in (
      found,
      (subst₂ (λ (image : List ℕ) (place : ℕ). NothingBreaks (BreaksImage image None) → IsSourceAt image place c.args.address found) c.held.ensures.bytes c.held.ensures.place c.source_at.ensures.sound) unbroken,
      c.answer_source.ensures,
    )
