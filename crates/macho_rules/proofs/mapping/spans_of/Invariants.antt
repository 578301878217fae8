use Rattle.std.proofs.Common.{take}
use Rattle.std.specs.Prelude.{IsPermutation}
use Rattle.macho_spans.specs.Spans.{AreSorted}
use Rattle.macho_rules.proofs.mapping.spans_of.Given as goal

-- the spans belong to the pairs that were gone over
abbrev pub invariant-loop-span : goal.invariant-loop-span
invariant-loop-span l = record { held : IsPermutation (take l.span-index l.pairs) l.spans.pairs; sorted : AreSorted l.spans.pairs }
