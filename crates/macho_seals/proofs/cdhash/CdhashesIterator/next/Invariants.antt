use Rattle.std.proofs.Common.{◌≡◌, ◌-◌}
use Rattle.macho_fields.specs.Bytes.{bytes_of}
use Rattle.macho_seals.specs.Cdhashes.{cdhashes_from, entry_count}
use Rattle.macho_seals.proofs.cdhash.CdhashesIterator.next.Given as goal

-- the entries that were passed have none
abbrev pub invariant-loop-self : goal.invariant-loop-self
invariant-loop-self l = record {
  count : l.self-inside.count ≡ entry_count (bytes_of l.self-inside.signature);
  same : l.self-inside.count ≡ l.initial.self-inside.count;
  left : l.fn.self ≡ cdhashes_from (bytes_of l.self-inside.signature) l.self-inside.index (l.self-inside.count - l.self-inside.index);
}

abbrev pub decreases-loop-self : goal.decreases-loop-self
decreases-loop-self l = l.self-inside.count - l.self-inside.index
