use Rattle.std.proofs.Common.{◌<◌, ◌^◌, ap, sym, subst, ◌∙◌, arith}
use Rattle.std.specs.Option.{option_map_or}
use Rattle.macho_fields.specs.Bytes.{bytes_of}
use Rattle.macho_fields.specs.Image.{commands_end}
use Rattle.macho_image.proofs.Kept.{no_first}
use Rattle.macho_rows.specs.Image.{id_in}
use Rattle.macho_rows.specs.Libraries.{library_row, no_library}
use Rattle.macho_rows.specs.Loads.{IsLoad}
use Rattle.macho_rows.specs.declared.load.Load.{Load}
use Rattle.macho_rows.proofs.AllCommands.{id_held}
use Rattle.macho_rows.proofs.image.id.Goals as goal

pub library_row-requires : goal.library_row-requires
library_row-requires c =
    let image = c.args.image.now in
    let command = c.in-Some.command in
    let near : commands_end image < 2 ^ 33 = omega (arith, c.commands_end.ensures.end, c.commands_end.ensures.near) in
    let (held, whole, at) = id_held image c.requires.opened command c.in-Some.ensures near in
    let load : Load = record { place = command.place; cmd = command.cmd; size = command.size } in
    let there : IsLoad (bytes_of c.args.held.now.bytes) load = subst (λ bytes. IsLoad bytes load) (sym c.requires.bytes) held in
    record {
      load = subst (λ size. IsLoad (bytes_of c.args.held.now.bytes) (record { place = command.place; cmd = command.cmd; size = size })) (sym c.from.ensures) there;
      size = omega (arith, whole, c.from.ensures);
    }

pub returns-in-Some : goal.returns-in-Some
returns-in-Some c =
    let image = c.args.image.now in
    let command = c.in-Some.command in
    let near : commands_end image < 2 ^ 33 = omega (arith, c.commands_end.ensures.end, c.commands_end.ensures.near) in
    let (held, whole, at) = id_held image c.requires.opened command c.in-Some.ensures near in
    let place = c.args.held.now.place in
    c.library_row.ensures ∙ (ap (λ bytes. library_row place bytes command.place) c.requires.bytes
    ∙ ap (λ first. option_map_or (library_row place image) first no_library) (sym at))

pub returns-in-None : goal.returns-in-None
returns-in-None c =
    let image = c.args.image.now in
    ap (λ first. option_map_or (library_row c.args.held.now.place image) first no_library) (sym (no_first image (id_in image) c.in-None.ensures))
