use Rattle.std.proofs.Common.{◌≡◌, ◌≤◌, ℕ, List, length, None, IfSome, subst, subst₂}
use Rattle.macho_fields.specs.Layers.{NothingBreaks}
use Rattle.macho_fields.specs.Rules.{BreaksImage}
use Rattle.macho_spans.specs.Span.{end_of}
use Rattle.macho_exports.specs.Exports.{export_table}
use Rattle.macho_c.specs.Exports.{exported, IsExported}
use Rattle.macho_rows.specs.Image.{image_in}
use Rattle.macho_c.proofs.FoundExports.{finds, finds_alike}
use Rattle.macho_c.proofs.exports.kesvuot_find_export.Goals as goal

pub returns-clause-answer : goal.returns-clause-answer
returns-clause-answer c =
    let found = c.export_named-found.result in
    (found, subst₂ (λ (bytes : List ℕ) (place : ℕ). IsExported c.args.image.now.base place bytes c.args.name.now found) c.held.ensures.bytes c.held.ensures.place c.export_named-found.ensures.named, c.answer.ensures)

pub returns-clause-all : goal.returns-clause-all
returns-clause-all c = λ shows.
    let found = c.export_named-found.result in
    finds c.args.file.now c.args.image.now shows c.args.name.now c.answer.result c.answer.new.written found
    (subst (λ (bytes : List ℕ). NothingBreaks (BreaksImage bytes None) → IfSome (export_table bytes) (λ table. end_of table ≤ length bytes)) c.held.ensures.bytes c.export_named-found.ensures.inside)
    (subst₂ (λ (bytes : List ℕ) (place : ℕ). NothingBreaks (BreaksImage bytes None) → found ≡ exported c.args.image.now.base place bytes (export_table bytes) c.args.name.now) c.held.ensures.bytes c.held.ensures.place c.export_named-found.ensures.all)
    c.answer.ensures

pub returns-clause-alike : goal.returns-clause-alike
returns-clause-alike c = λ shows one.
    finds_alike (image_in c.args.file.now c.args.image.now) c.args.image.now.slice.offset c.args.name.now c.answer.result c.answer.new.written one (returns-clause-all c shows)
