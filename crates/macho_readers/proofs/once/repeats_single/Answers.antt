use Rattle.std.proofs.Common.{◌≡◌, ◌↔◌, ℕ, IsTrue, true, sym, ap, ◌∙◌, subst}
use Rattle.std.proofs.lemmas.Bool.{both_ways}
use Rattle.macho_fields.specs.Image.{command_cmd}
use Rattle.macho_image.specs.Command.{CommandView}
use Rattle.macho_readers.specs.Commands.{is_single, RepeatsCmd}
use Rattle.macho_readers.proofs.once.repeats_single.Goals as goal

pub returns-then-is_single : goal.returns-then-is_single
returns-then-is_single c =
    let same = ap (λ (v : CommandView). v.cmd) c.requires.same in
    let repeats = subst (λ (cmd : ℕ). IsTrue c.repeats_earlier.result ↔ RepeatsCmd c.args.image.now cmd c.args.command.now.place) same c.repeats_earlier.ensures in
    let is : is_single (command_cmd c.args.image.now c.args.command.now.place) ≡ true = ap is_single (sym same) ∙ (sym c.is_single.ensures ∙ c.if-is_single.true) in
    (λ found. (is, repeats.0 found), λ broken. repeats.1 broken.1)

pub returns-else-is_single : goal.returns-else-is_single
returns-else-is_single c =
    let same = ap (λ (v : CommandView). v.cmd) c.requires.same in
    (λ wrong. absurd (both_ways c.is_single.result c.if-is_single.false wrong), λ broken. c.is_single.ensures ∙ (ap is_single same ∙ broken.0))
