use Rattle.std.proofs.Common.{◌≡◌, ◌≤◌, ◌<◌, ℕ, length}
use Rattle.macho_chains.specs.ChainImports.{names_size, PassesTable}
use Rattle.macho_chains.proofs.chain_imports.first_past_total.Given as goal

-- the names of the imports before it are counted, and have no more bytes than the table
abbrev pub invariant-loop-index : goal.invariant-loop-index
invariant-loop-index l = record {
  sum : l.total ≡ names_size l.bytes.bytes.now l.header l.index;
  few : l.total ≤ length l.bytes.bytes.now;
  none : (k : ℕ) → k < l.index → ¬ PassesTable l.bytes.bytes.now l.header k;
}
