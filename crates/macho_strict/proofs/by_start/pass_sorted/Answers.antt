use Rattle.macho_fields.specs.Bytes.{bytes_of}
use Rattle.macho_strict.proofs.Sorted.{passed_sorted}
use Rattle.macho_strict.proofs.by_start.pass_sorted.Goals as goal

pub returns-clause-passed : goal.returns-clause-passed
returns-clause-passed c = λ spans are.
    passed_sorted (bytes_of c.args.bytes) spans c.gaps_in.result c.args.list.spans c.sorted-sorted.result are c.sorted-sorted.ensures.permutation c.sorted-sorted.ensures.rising c.gaps_in.ensures.passed
