use Rattle.std.proofs.Common.{◌≡◌, ◌+◌, ◌≤◌, List, ℕ, length, true, inl, sym, subst}
use Rattle.std.specs.Prelude.{Some}
use Rattle.macho_fields.specs.Bytes.{bytes_of}
use Rattle.macho_image.specs.Command.{command_of}
use Rattle.macho_image.proofs.Kept.{first_place, first_inside}
use Rattle.macho_rows.proofs.Data.{first_data}
use Rattle.macho_rows.proofs.linkedit.data_in.Goals as goal

pub returns-then-not-names_data : goal.returns-then-not-names_data
returns-then-not-names_data c = inl (λ is. let named : c.names_data.result ≡ true = c.names_data.ensures.1 is in cc)

pub data_at-requires : goal.data_at-requires
data_at-requires c =
    let image = c.args.image.now in
    let command = c.in_ok-command.command.place in
    let first = first_place image _ (command_of c.in_ok-command.command) c.in_ok-command.ensures in
    let inside = first_inside image c.args.cmd (Some command) c.requires.opened (sym first) in
    let listed = c.names_data.ensures.0 c.if-not-names_data.false in
    let fields : command + 16 ≤ length image = rw listed at inside in
    subst (λ (bytes : List ℕ). command + 16 ≤ length bytes) (sym c.requires.image) fields

pub returns : goal.returns
returns c =
    let image = c.args.image.now in
    first_data image (bytes_of c.args.held.now.bytes) c.args.held.now.place c.args.cmd c.in_ok-command.command.place c.data_at.result c.requires.image
    (c.names_data.ensures.0 c.if-not-names_data.false) (first_place image _ (command_of c.in_ok-command.command) c.in_ok-command.ensures) c.data_at.ensures
