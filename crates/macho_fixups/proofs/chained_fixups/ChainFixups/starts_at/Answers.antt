use Rattle.std.proofs.Common.{sym, ◌∙◌, arith}
use Rattle.macho_fields.specs.Bytes.{bytes_of}
use Rattle.macho_chains.proofs.UnbrokenStarts.{read_starts}
use Rattle.macho_fixups.proofs.chained_fixups.ChainFixups.starts_at.Goals as goal

pub returns-clause-pages : goal.returns-clause-pages
returns-clause-pages c =
    let read = read_starts (bytes_of c.args.self.now.table) _ c.in_ok-starts.starts (sym c.read.ensures ∙ c.in_ok-starts.was) in
    let whole = read.whole in
    let inside = read.inside in
    omega (arith, whole, inside)

pub returns-clause-end : goal.returns-clause-end
returns-clause-end c =
    let read = read_starts (bytes_of c.args.self.now.table) _ c.in_ok-starts.starts (sym c.read.ensures ∙ c.in_ok-starts.was) in
    read.inside
