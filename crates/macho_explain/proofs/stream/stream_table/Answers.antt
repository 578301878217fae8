use Rattle.std.proofs.Common.{◌≡◌, ◌∙◌, ℕ, List, Contains, Some, lit<, refl, sym}
use Rattle.macho_fields.specs.Bytes.{bytes_of}
use Rattle.macho_fields.specs.LoadCommands.{dyld_info_tables, structure_of}
use Rattle.macho_fields.specs.declared.load_command.Structure.TheVariants.{DyldInfoCommand}
use Rattle.macho_image.specs.Opened.{IsOpened}
use Rattle.macho_opcodes.specs.Images.{fields_of}
use Rattle.macho_opcodes.specs.declared.streams.Stream.{Stream}
use Rattle.macho_opcodes.specs.declared.streams.Stream.TheVariants as streams
use Rattle.macho_tables.specs.Places.{dyld_info}
use Rattle.macho_tables.proofs.NamedTables.{LieInside, bounds_opened}
use Rattle.macho_tables.proofs.Places.{info_has}
use Rattle.macho_explain.proofs.Wholes.{opened_of}
use Rattle.macho_explain.proofs.stream.stream_table.Goals as goal

its_fields : (one : Stream) → Contains dyld_info_tables (fields_of one)
its_fields streams.Rebase = (0, lit< tt, refl)
its_fields streams.Bind = (1, lit< tt, refl)
its_fields streams.WeakBind = (2, lit< tt, refl)
its_fields streams.LazyBind = (3, lit< tt, refl)

inside : (image : List ℕ) (command : ℕ) (one : Stream) → IsOpened image → dyld_info image ≡ Some command → LieInside image command (fields_of one)
inside image command one opened is =
    bounds_opened image opened command DyldInfoCommand (info_has image (λ n. structure_of n ≡ Some DyldInfoCommand) refl refl command is) (fields_of one) (its_fields one)

pub span_of-span-requires-clause-place : goal.span_of-span-requires-clause-place
span_of-span-requires-clause-place c =
    rw c.fields.ensures (inside c.in_ok-image.image c.in_ok-command.command c.args.stream (opened_of c.in_ok-image.image (bytes_of c.args.sliced.now.held.bytes) c.in_ok-image.ensures.0 c.in_ok-image.ensures.1)
    (sym c.dyld_info.ensures ∙ c.in_ok-command.was)).0

pub span_of-span-requires-clause-count : goal.span_of-span-requires-clause-count
span_of-span-requires-clause-count c =
    rw c.fields.ensures (inside c.in_ok-image.image c.in_ok-command.command c.args.stream (opened_of c.in_ok-image.image (bytes_of c.args.sliced.now.held.bytes) c.in_ok-image.ensures.0 c.in_ok-image.ensures.1)
    (sym c.dyld_info.ensures ∙ c.in_ok-command.was)).1
