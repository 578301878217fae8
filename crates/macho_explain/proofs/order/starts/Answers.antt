use Rattle.std.proofs.Common.{◌≡◌, ◌<◌, ◌∙◌, arith, subst}
use Rattle.std.specs.Prelude.{slice_get, Some}
use Rattle.macho_fields.specs.Bytes.{bytes_of}
use Rattle.macho_fields.specs.Segment.{nsects}
use Rattle.macho_explain.specs.Explain.{all_segment_loads}
use Rattle.macho_explain.proofs.Sought.{first_some}
use Rattle.macho_explain.proofs.order.starts.Goals as goal

pub overflow_add-first : goal.overflow_add-first
overflow_add-first c = omega (arith, c.requires.near, c.requires.meets)

pub returns-clause-limit : goal.returns-clause-limit
returns-clause-limit c =
    let image = bytes_of c.args.sliced.now.held.bytes in
    let place = c.args.sliced.now.place in
    let is = c.requires in
    let at : slice_get (all_segment_loads image) is.first.index ≡ Some place = subst (λ p. slice_get (all_segment_loads image) is.first.index ≡ Some p) is.meets is.first.listed in
    let counted : 0 < c.args.segment.now.row.section_count = omega arith in
    let some : 0 < nsects image place = subst (λ p. 0 < nsects image p) is.meets (subst (λ n. 0 < n) is.row.sections counted) in
    rw c.alone-2.ensures (c.long.ensures ∙ first_some image is.first.index place at some)
