use Rattle.std.proofs.Common.{◌≡◌, ◌∙◌, ap, arith, refl, sym}
use Rattle.macho_fields.specs.Bytes.{bytes_of}
use Rattle.macho_fields.specs.Segment.{fileoff, filesize}
use Rattle.macho_tables.specs.Homes.{bytes_of_segment}
use Rattle.macho_explain.proofs.Shared.{same_shares, shares_back}
use Rattle.macho_explain.proofs.segment.segment_file_overlap.Goals as goal

pub returns-in_err-earlier : goal.returns-in_err-earlier
returns-in_err-earlier c =
    let image = bytes_of c.args.sliced.now.held.bytes in
    let place = c.args.sliced.now.place in
    let own = c.file_part-own.result in
    let segment = c.in_ok-at.ensures in
    let start : fileoff image place ≡ own.start = ap (fileoff image) (sym segment.2) ∙ (sym segment.1.file_start ∙ sym c.file_part-own.ensures.start) in
    let size : filesize image place ≡ own.len = ap (filesize image) (sym segment.2) ∙ (sym segment.1.file_size ∙ sym c.file_part-own.ensures.len) in
    rw c.from_residual-in_err-earlier.ensures (λ has.
    let (k, earlier, at, less, share) = has.1 in
    let other = bytes_of_segment image earlier in
    c.in_err-earlier.ensures k earlier at (omega (arith, less, segment.2), same_shares (bytes_of_segment image place) other own other start size refl refl (shares_back other (bytes_of_segment image place) share)))

pub returns-in_err-first : goal.returns-in_err-first
returns-in_err-first c =
    let image = bytes_of c.args.sliced.now.held.bytes in
    let own = c.file_part-own.result in
    let earlier = c.in_ok-earlier.earlier in
    let found = c.in_ok-earlier.ensures in
    let start = sym found.row.file_start ∙ sym c.file_part.ensures.start in
    let size = sym found.row.file_size ∙ sym c.file_part.ensures.len in
    absurd (c.in_err-first.ensures.none (same_shares own (bytes_of_segment image earlier.place) own c.file_part.result refl refl start size found.meets.1))
