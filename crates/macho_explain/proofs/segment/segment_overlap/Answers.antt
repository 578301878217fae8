use Rattle.std.proofs.Common.{◌≡◌, ◌∙◌, ap, arith, refl, sym}
use Rattle.macho_fields.specs.Bytes.{bytes_of}
use Rattle.macho_fields.specs.Segment.{vmaddr, vmsize}
use Rattle.macho_explain.specs.Explain.{memory_of}
use Rattle.macho_explain.proofs.Shared.{same_shares, shares_back}
use Rattle.macho_explain.proofs.segment.segment_overlap.Goals as goal

pub returns-in_err-earlier : goal.returns-in_err-earlier
returns-in_err-earlier c =
    let image = bytes_of c.args.sliced.now.held.bytes in
    let place = c.args.sliced.now.place in
    let own = c.memory-own.result in
    let segment = c.in_ok-at.ensures in
    let start : vmaddr image place ≡ own.start = ap (vmaddr image) (sym segment.2) ∙ (sym segment.1.start ∙ sym c.memory-own.ensures.start) in
    let size : vmsize image place ≡ own.len = ap (vmsize image) (sym segment.2) ∙ (sym segment.1.size ∙ sym c.memory-own.ensures.len) in
    rw c.from_residual-in_err-earlier.ensures (λ has.
    let (k, earlier, at, less, share) = has.1 in
    let other = memory_of image earlier in
    c.in_err-earlier.ensures k earlier at (omega (arith, less, segment.2), same_shares (memory_of image place) other own other start size refl refl (shares_back other (memory_of image place) share)))

pub returns-in_err-first : goal.returns-in_err-first
returns-in_err-first c =
    let image = bytes_of c.args.sliced.now.held.bytes in
    let own = c.memory-own.result in
    let earlier = c.in_ok-earlier.earlier in
    let found = c.in_ok-earlier.ensures in
    let start = sym found.row.start ∙ sym c.memory.ensures.start in
    let size = sym found.row.size ∙ sym c.memory.ensures.len in
    absurd (c.in_err-first.ensures.none (same_shares own (memory_of image earlier.place) own c.memory.result refl refl start size found.meets.1))
