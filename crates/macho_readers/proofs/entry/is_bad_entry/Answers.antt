use Rattle.std.proofs.Common.{inl, inr}
use Rattle.std.proofs.lemmas.Bool.{both_ways}
use Rattle.macho_readers.proofs.entry.is_bad_entry.Goals as goal

pub returns-else-is_extra_entry : goal.returns-else-is_extra_entry
returns-else-is_extra_entry c = (
  λ is. inr (c.is_other_entry.ensures.0 is),
  λ bad. elim bad [
    | inl extra ↦ absurd (both_ways c.is_extra_entry.result c.if-is_extra_entry.false (c.is_extra_entry.ensures.1 extra))
    | inr other ↦ c.is_other_entry.ensures.1 other
  ],
)
