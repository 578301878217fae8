use Rattle.std.proofs.Common.{◌≡◌, ◌↔◌, ◌<◌, ℕ, Any, IsTrue, true, ap, subst, rules, tests}
use Rattle.macho_fields.specs.Image.{command_cmd, commands_of}
use Rattle.macho_image.specs.Command.{CommandView}
use Rattle.macho_tables.specs.Kinds.{share_kind}
use Rattle.macho_tables.proofs.Found.{any_tabled}
use Rattle.macho_tables.proofs.Tabled.{linked_named, share_named}
use Rattle.macho_tables.proofs.kinds.repeats_earlier.Goals as goal

pub returns : goal.returns
returns c =
    subst
    (λ (cmd : ℕ). IsTrue c.any.result
    ↔ Any (λ earlier. (earlier < c.args.command.now.place) × (share_kind (command_cmd c.args.image.now earlier) cmd ≡ true)) (commands_of c.args.image.now))
    (ap (λ (v : CommandView). v.cmd) c.requires.same)
    (any_tabled c.args.image.now c.commands_with_tables.ensures.opened c.commands_with_tables.ensures.tables
    (λ (v : CommandView). (v.place < c.args.command.now.place) × (share_kind v.cmd c.args.command.now.cmd ≡ true))
    (λ p has here. linked_named (command_cmd c.args.image.now p) (share_named (command_cmd c.args.image.now p) c.args.command.now.cmd here.1).0) c.any.result c.any.ensures.ran
    (λ x b q k. search (rules, tests)))
