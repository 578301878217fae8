-- A reader of std counts no reads. The other clauses are its own.
use Rattle.std.proofs.Common.{rules, lit≤}
use Rattle.macho_text.proofs.from_read.FromReadInput.TheImpl.Goals as goal

pub read-tells : goal.read-tells
read-tells g c = record {
  count = search rules;
  failed = search rules;
  stays_failed = search rules;
  bytes = search rules;
  counted = lit≤ tt;
}
