use Rattle.std.proofs.Common.{ℕ, ◌<◌, get_or}
use Rattle.macho_symbols.specs.Addresses.{IsNear}
use Rattle.macho_symbols.proofs.few_spans.FewSpans.have_near.Given as goal

-- the address is near none of the spans before it
abbrev pub invariant-loop-memory : goal.invariant-loop-memory
invariant-loop-memory l =
    (k : ℕ) → k < l.memory-index → ¬ IsNear l.address (get_or l.memory-items k (record { start = 0; len = 0 }))
