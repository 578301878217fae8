use Rattle.std.proofs.Common.{◌≡◌, suc, ap, arith}
use Rattle.macho_chains.specs.ChainImports.{names_size}
use Rattle.macho_fields.specs.Bytes.{bytes_of}
use Rattle.macho_explain.proofs.Fixups.{names_rise}
use Rattle.macho_explain.proofs.chains.Chains.names_size.Goals as goal

pub returns-then-total-from : goal.returns-then-total-from
returns-then-total-from c =
    let chains = bytes_of c.args.self.now.bytes in
    let header = c.args.self.now.header in
    let earlier = c.loop-earlier.earlier in
    let more = names_rise chains header (suc earlier) c.args.index (omega (arith, c.loop-earlier-test.true)) in
    let size = c.name_size.ensures.size in
    let past = c.if-total-from.true in
    omega (arith, more, size, past, c.saturating_add-total.ensures, c.from.ensures, c.len.ensures.count, c.loop-earlier.invariant.0)

pub returns : goal.returns
returns c =
    let chains = bytes_of c.args.self.now.bytes in
    let header = c.args.self.now.header in
    let last : c.loop-earlier.earlier ≡ c.args.index = omega (arith, c.loop-earlier-test.false, c.loop-earlier.auto.earlier-end) in
    let same = ap (names_size chains header) last in
    let size = c.name_size-2.ensures.size in
    omega (arith, same, size, c.saturating_add.ensures, c.loop-earlier.invariant.0, c.loop-earlier.invariant.1, c.name_size-2.ensures.near)
