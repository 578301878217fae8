use Rattle.std.proofs.Common.{ℕ, ◌+◌, sym, subst, arith}
use Rattle.std.proofs.lemmas.Bool.{false≢true}
use Rattle.macho_fields.specs.Bytes.{bytes_of}
use Rattle.macho_fields.specs.Field.{HasZero}
use Rattle.macho_tables.proofs.StringSizes.{ended_size, endless_size}
use Rattle.macho_chains.proofs.chain_imports.name_size.Goals as goal

pub returns-in-Some-clause-size : goal.returns-in-Some-clause-size
returns-in-Some-clause-size c =
    let found = c.in-Some.ensures in
    let size = ended_size (bytes_of c.args.chains) c.args.start c.in-Some.zero found.zero.0.0 found.zero.1 found.first in
    omega (arith, size, c.from.ensures)

pub returns-in-None-clause-size : goal.returns-in-None-clause-size
returns-in-None-clause-size c =
    let bytes = bytes_of c.args.chains in
    let size = endless_size bytes c.args.start
    (λ has. false≢true (c.in-None.ensures.found.1 (subst (λ (n : ℕ). HasZero bytes c.args.start (c.args.start + n)) (sym c.len.ensures.count) has))) in
    omega (arith, size, c.from-in-None.ensures, c.saturating_sub.ensures, c.len-in-None.ensures.count)
