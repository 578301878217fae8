-- A fault of a writer of std wrote nothing. The other clauses are its own.
use Rattle.std.proofs.Common.{rules}
use Rattle.macho_text.proofs.StreamLemmas.{fault_kept}
use Rattle.macho_text.proofs.from_write.FromWriteOutput.TheImpl.Goals as goal

pub write-tells : goal.write-tells
write-tells g c = record {
  count = search rules;
  progress = search rules;
  failed = search rules;
  stays_failed = search rules;
  wrote = search rules;
  fault = search (rules, fault_kept);
}
