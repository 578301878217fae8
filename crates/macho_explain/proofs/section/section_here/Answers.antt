use Rattle.std.proofs.Common.{◌∙◌, ◌<◌, arith, inl, inr, subst, sym}
use Rattle.macho_fields.specs.Bytes.{bytes_of}
use Rattle.macho_rows.specs.Sections.{nsects_at}
use Rattle.macho_explain.specs.Explain.{IsSectionOf}
use Rattle.macho_explain.proofs.Sought.{owner, owner_walked}
use Rattle.macho_explain.proofs.section.section_here.Goals as goal

pub returns-in_err-walked : goal.returns-in_err-walked
returns-in_err-walked c =
    let image = bytes_of c.args.sliced.now.held.bytes in
    let place = c.args.sliced.now.place in
    rw c.from_residual.ensures (λ has.
    let (j, k, segment, nth, is) = owner image place has in
    elim c.in_err-walked.ensures [
      | inl none ↦ none j segment is.listed (omega (arith, is.start), omega (arith, is.inside))
      | inr uncounted ↦ has.0 uncounted
    ])

pub returns-in_err-section : goal.returns-in_err-section
returns-in_err-section c =
    let image = bytes_of c.args.sliced.now.held.bytes in
    let place = c.args.sliced.now.place in
    rw c.from_residual-in_err-section.ensures (λ has.
    let (j, k, segment, nth, is) = owner image place has in
    let same = owner_walked image place j k segment nth c.in_ok-walked.walked is c.in_ok-walked.ensures in
    let counted = subst (λ s. nth < nsects_at image s) (sym same) is.counted in
    let start = is.start in
    c.in_err-section.ensures.found nth (counted, omega (arith, start, same), omega (arith, start, same)))

pub returns-then-section-sliced : goal.returns-then-section-sliced
returns-then-section-sliced c =
    let image = bytes_of c.args.sliced.now.held.bytes in
    let place = c.args.sliced.now.place in
    let found = c.in_ok-section.ensures.found in
    λ has.
    let (j, k, segment, nth, is) = owner image place has in
    let same = owner_walked image place j k segment nth c.in_ok-walked.walked is c.in_ok-walked.ensures in
    let (other, few, start) = found.start in
    let begins = is.start in
    c.if-section-sliced.true (omega (arith, start, begins, same, c.in_ok-section.ensures.segment, found.from, found.to))

pub returns-in_err-segment : goal.returns-in_err-segment
returns-in_err-segment c =
    let image = bytes_of c.args.sliced.now.held.bytes in
    let place = c.args.sliced.now.place in
    rw c.from_residual-in_err-segment.ensures (λ has.
    let (j, k, segment, nth, is) = owner image place has in
    let same = owner_walked image place j k segment nth c.in_ok-walked.walked is c.in_ok-walked.ensures in
    c.in_err-segment.ensures k segment is.segment_listed (sym same ∙ sym c.in_ok-section.ensures.segment))

pub returns : goal.returns
returns c =
    let image = bytes_of c.args.sliced.now.held.bytes in
    let found = c.in_ok-section.ensures.found in
    let of = c.in_ok-segment.ensures in
    (c.section_spot.ensures, found.row, c.if-section-sliced.false, of.row, subst (λ s. IsSectionOf image s c.in_ok-section.section.place) (sym of.meets) found.start)
