use Rattle.std.proofs.Common.{List, ℕ, length, sym, ap, ◌∙◌}
use Rattle.macho_fields.specs.Universal.{entry_count, slices_of}
use Rattle.macho_fields.proofs.Slices.{slice_count}
use Rattle.macho_fat.proofs.slice.FileSlices.count.Goals as goal

pub returns-in-Some-clause-count : goal.returns-in-Some-clause-count
returns-in-Some-clause-count c =
    let known = rw c.in-Some.is at c.self.invariant.read in
    c.from.ensures ∙ c.count.ensures.count ∙ ap entry_count known.0 ∙ sym (slice_count _ known.1) ∙ ap (λ (file : List ℕ). length (slices_of file)) c.self.view_is
