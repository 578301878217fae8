use Rattle.std.proofs.Common.{◌≡◌, true, sym, ap, ◌∙◌}
use Rattle.std.proofs.lemmas.Bool.{both_ways}
use Rattle.macho_fields.specs.Image.{command_cmd}
use Rattle.macho_image.specs.Command.{CommandView}
use Rattle.macho_readers.specs.Entry.{is_entry, HasBadEntry}
use Rattle.macho_readers.proofs.entry.has_bad_entry.Goals as goal

pub returns-then-is_entry : goal.returns-then-is_entry
unfolding HasBadEntry
returns-then-is_entry c =
    let same = ap (λ (v : CommandView). v.cmd) c.requires.same in
    let is : is_entry (command_cmd c.args.image.now c.args.command.now.place) ≡ true = ap is_entry (sym same) ∙ (sym c.is_entry.ensures ∙ c.if-is_entry.true) in
    (λ bad. (is, c.is_bad_entry.ensures.0 bad), λ bad. c.is_bad_entry.ensures.1 bad.1)

pub returns-else-is_entry : goal.returns-else-is_entry
unfolding HasBadEntry
returns-else-is_entry c =
    let same = ap (λ (v : CommandView). v.cmd) c.requires.same in
    (λ wrong. absurd (both_ways c.is_entry.result c.if-is_entry.false wrong), λ bad. c.is_entry.ensures ∙ (ap is_entry same ∙ bad.0))
