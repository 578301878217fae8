use Rattle.std.proofs.Common.{◌≡◌, ◌<◌, Some, ◌∙◌, subst, arith}
use Rattle.std.proofs.lemmas.Bool.{ltb-true, lt-ltb}
use Rattle.macho_fields.specs.Command.{least_size}
use Rattle.macho_fields.specs.Image.{command_size}
use Rattle.macho_fields.specs.LoadCommands.{structure_of}
use Rattle.macho_fields.specs.declared.load_command.Structure.{Structure}
use Rattle.macho_fields.proofs.LoadCommands.{has_structure}
use Rattle.macho_image.proofs.rules.is_short.Goals as goal

pub returns : goal.returns
returns c =
    let bytes = c.args.command.bytes.now in
    let s = c.args.structure in
    let some = subst (λ cmd. structure_of cmd ≡ Some s) c.requires.alone.cmd c.requires.listed in
    let short = has_structure bytes 0 (λ (t : Structure). command_size bytes 0 < least_size bytes 0 t) s some in
    let size : c.from.result ≡ command_size bytes 0 = c.from.ensures ∙ c.requires.alone.size in
    let least : c.least_size.result ≡ least_size bytes 0 s = c.least_size.ensures in (
      λ h. short.1 (let less = ltb-true c.from.result c.least_size.result h in omega arith),
      λ h. lt-ltb c.from.result c.least_size.result (let less = short.0 h in omega arith),
    )
