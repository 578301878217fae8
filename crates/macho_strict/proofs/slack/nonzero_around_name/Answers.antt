use Rattle.std.proofs.Common.{◌+◌, ◌≡◌, ◌<◌, sym, arith}
use Rattle.macho_fields.specs.Bytes.{bytes_of}
use Rattle.macho_fields.specs.Command.{name_start}
use Rattle.macho_strict.proofs.Slacks.{least_around}
use Rattle.macho_strict.proofs.slack.nonzero_around_name.Goals as goal

pub read_u32-requires : goal.read_u32-requires
read_u32-requires c = let (z, low, high, inside, is) = c.requires.name in omega arith

pub returns : goal.returns
returns c =
    let named : c.args.place + c.from.result ≡ name_start (bytes_of c.args.image) c.args.place = omega (arith, c.from.ensures, c.read_u32.ensures) in
    let (z, low, high, inside, is) = c.requires.name in
    let ended : c.in_ok-zero.zero < c.args.end = omega (arith, c.in_ok-zero.ensures.zero) in
    least_around (bytes_of c.args.image) c.args.place c.args.start c.args.end (c.args.place + c.from.result) c.in_ok-zero.zero c.nonzero_within-before.result c.nonzero_within.result
    named (omega (arith, named)) c.in_ok-zero.ensures.zero.0.0 ended c.in_ok-zero.ensures.zero.1 c.in_ok-zero.ensures.first (sym c.if-is_some.ensures) c.nonzero_within-before.ensures c.nonzero_within.ensures
