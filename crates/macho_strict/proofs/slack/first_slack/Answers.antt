use Rattle.std.proofs.Common.{◌∙◌, ◌+◌, sym, subst, arith}
use Rattle.macho_fields.specs.Bytes.{bytes_of}
use Rattle.macho_fields.specs.Command.{name_start}
use Rattle.macho_fields.specs.Field.{HasZero}
use Rattle.macho_image.specs.Command.{command_of}
use Rattle.macho_strict.proofs.Slacks.{command_within, least_within, counted, no_records, name_ends, offset_within, name_after, least_named, least_unnamed}
use Rattle.macho_strict.proofs.slack.first_slack.Goals as goal

pub described_end-described-requires-clause-inside : goal.described_end-described-requires-clause-inside
described_end-described-requires-clause-inside c =
    let within = command_within (bytes_of c.args.image) (command_of c.args.command.now) c.requires.judged c.in_ok-structure.structure (sym c.requires.structure ∙ c.in_ok-structure.was) in
    let least = least_within (bytes_of c.args.image) (command_of c.args.command.now) c.requires.judged c.in_ok-structure.structure (sym c.requires.structure ∙ c.in_ok-structure.was) in
    omega (arith, within, least)

pub described_end-described-requires-clause-counted : goal.described_end-described-requires-clause-counted
described_end-described-requires-clause-counted c =
    counted (bytes_of c.args.image) (command_of c.args.command.now) c.requires.judged c.in_ok-structure.structure (sym c.requires.structure ∙ c.in_ok-structure.was)

pub nonzero_around_name-requires-clause-head : goal.nonzero_around_name-requires-clause-head
nonzero_around_name-requires-clause-head c =
    let named = sym c.has_name.ensures.name ∙ c.if-has_name.true in
    let within = offset_within (bytes_of c.args.image) (command_of c.args.command.now) c.requires.judged c.in_ok-structure.structure (sym c.requires.structure ∙ c.in_ok-structure.was) named in
    omega (arith, within, c.size.ensures.size, no_records (bytes_of c.args.image) c.args.command.now.place c.in_ok-structure.structure named)

pub nonzero_around_name-requires-clause-name : goal.nonzero_around_name-requires-clause-name
nonzero_around_name-requires-clause-name c =
    subst (λ size. HasZero (bytes_of c.args.image) (name_start (bytes_of c.args.image) c.args.command.now.place) (c.args.command.now.place + size)) (sym c.from.ensures)
    (name_ends (bytes_of c.args.image) (command_of c.args.command.now) c.requires.judged c.in_ok-structure.structure (sym c.requires.structure ∙ c.in_ok-structure.was) (sym c.has_name.ensures.name ∙ c.if-has_name.true))

pub nonzero_around_name-requires-clause-after : goal.nonzero_around_name-requires-clause-after
nonzero_around_name-requires-clause-after c =
    let named = sym c.has_name.ensures.name ∙ c.if-has_name.true in
    let after = name_after (bytes_of c.args.image) (command_of c.args.command.now) c.requires.judged c.in_ok-structure.structure (sym c.requires.structure ∙ c.in_ok-structure.was) named in
    omega (arith, after, c.size.ensures.size, no_records (bytes_of c.args.image) c.args.command.now.place c.in_ok-structure.structure named)

pub nonzero_around_name-requires-clause-inside : goal.nonzero_around_name-requires-clause-inside
nonzero_around_name-requires-clause-inside c =
    let within = command_within (bytes_of c.args.image) (command_of c.args.command.now) c.requires.judged c.in_ok-structure.structure (sym c.requires.structure ∙ c.in_ok-structure.was) in
    omega (arith, within, c.from.ensures)

pub nonzero_within-requires : goal.nonzero_within-requires
nonzero_within-requires c =
    let least = least_within (bytes_of c.args.image) (command_of c.args.command.now) c.requires.judged c.in_ok-structure.structure (sym c.requires.structure ∙ c.in_ok-structure.was) in
    omega (arith, least, c.described_end-described.ensures, c.from.ensures)

pub returns-then-has_name : goal.returns-then-has_name
returns-then-has_name c =
    let named = sym c.has_name.ensures.name ∙ c.if-has_name.true in
    least_named (bytes_of c.args.image) (command_of c.args.command.now) c.requires.judged c.in_ok-structure.structure (sym c.requires.structure ∙ c.in_ok-structure.was) (c.args.command.now.place + c.size.result) (c.args.command.now.place + c.from.result) c.nonzero_around_name.result named
    (omega (arith, c.size.ensures.size, no_records (bytes_of c.args.image) c.args.command.now.place c.in_ok-structure.structure named)) (omega (arith, c.from.ensures)) c.nonzero_around_name.ensures

pub returns : goal.returns
returns c =
    least_unnamed (bytes_of c.args.image) (command_of c.args.command.now) c.requires.judged c.in_ok-structure.structure (sym c.requires.structure ∙ c.in_ok-structure.was) c.described_end-described.result (c.args.command.now.place + c.from.result) c.nonzero_within.result (sym c.has_name.ensures.name ∙ c.if-has_name.false)
    c.described_end-described.ensures (omega (arith, c.from.ensures)) c.nonzero_within.ensures
