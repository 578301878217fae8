use Rattle.std.proofs.Common.{◌∙◌, ap}
use Rattle.std.specs.Option.{option_map_or}
use Rattle.macho_fixups.specs.Opcodes.{number_after}
use Rattle.macho_fixups.proofs.opcodes.next_number.Goals as goal

pub returns-in-Some : goal.returns-in-Some
returns-in-Some c =
    c.number_after.ensures
    ∙ ap (λ found. option_map_or (λ one. number_after one c.args.number) found c.args.number) c.in-Some.ensures
