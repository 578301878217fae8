use Rattle.std.proofs.Common.{List, sym, subst}
use Rattle.macho_opcodes.specs.declared.streams.Stream.TheVariants as streams
use Rattle.macho_alike.specs.Binds.{BindsOf}
use Rattle.macho_alike.specs.BindLists.{WereAdded}
use Rattle.macho_alike.specs.declared.binds.Bind.{Bind}
use Rattle.macho_alike.proofs.BindStreams.{bind_inside, all_read}
use Rattle.macho_alike.proofs.binds.opcode_binds.Goals as goal

pub returns-clause-inside : goal.returns-clause-inside
returns-clause-inside c =
    let image = c.args.image.now in
    let first = subst (λ (xs : List Bind). WereAdded (BindsOf streams.Bind image c.in-Some.command) xs c.add_stream.new.binds.items) c.new-binds.ensures.items c.in_ok-add_stream.ensures.added in
    let all = all_read image c.requires c.in-Some.command (sym c.in-Some.ensures) c.add_stream.new.binds.items c.add_stream-2.new.binds.items c.add_stream-3.new.binds.items
    first c.in_ok-add_stream-2.ensures.added c.in_ok-add_stream-3.ensures.added in
    λ bind has. bind_inside image c.requires c.in-Some.command (sym c.in-Some.ensures) bind ((all bind).0 has)
