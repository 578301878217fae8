use Rattle.std.proofs.Common.{inl}
use Rattle.std.proofs.lemmas.Bool.{both_ways}
use Rattle.macho_fields.specs.Bytes.{bytes_of}
use Rattle.macho_c.proofs.FoundExports.{never_broken, trie_past, never_past}
use Rattle.macho_c.proofs.export_trie.export_trie.Goals as goal

pub returns-in_err-open-clause-all : goal.returns-in_err-open-clause-all
returns-in_err-open-clause-all c = λ keeps. absurd (never_broken (bytes_of c.args.image.now.bytes) c.in_err-open.ensures keeps)

pub returns-else-contains-clause-trie : goal.returns-else-contains-clause-trie
returns-else-contains-clause-trie c = inl (
  c.in_ok-open.ensures.0,
  trie_past (bytes_of c.args.image.now.bytes) _ c.in_ok-table.table c.in_ok-open.ensures.1 c.in_ok-table.ensures.table
      (λ fits. both_ways c.contains.result c.if-contains.false (c.contains.ensures.1 fits)),
)

pub returns-else-contains-clause-all : goal.returns-else-contains-clause-all
returns-else-contains-clause-all c = λ keeps.
    absurd (never_past (bytes_of c.args.image.now.bytes) _ c.in_ok-table.table c.in_ok-open.ensures.1 c.in_ok-table.ensures.inside
    (λ fits. both_ways c.contains.result c.if-contains.false (c.contains.ensures.1 fits)) keeps)
