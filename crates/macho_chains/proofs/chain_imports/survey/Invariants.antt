use Rattle.macho_chains.proofs.ChainImports.{AreWalked}
use Rattle.macho_chains.proofs.chain_imports.survey.Given as goal

-- the imports before it are judged
abbrev pub invariant-loop-index : goal.invariant-loop-index
invariant-loop-index l = AreWalked l.libraries l.bytes.bytes.now l.header l.index l.before l.shared l.found
