use Rattle.std.proofs.Common.{◌≡◌, ◌^◌, ◌<◌}
use Rattle.macho_chains.specs.ChainImports.{names_size}
use Rattle.macho_fields.specs.Bytes.{bytes_of}
use Rattle.macho_explain.proofs.chains.Chains.names_size.Given as goal

-- the names of the imports before have so many bytes
abbrev pub invariant-loop-earlier : goal.invariant-loop-earlier
invariant-loop-earlier l =
    (l.total ≡ names_size (bytes_of l.self.bytes) l.self.header l.earlier) × (l.total < 2 ^ 64)
