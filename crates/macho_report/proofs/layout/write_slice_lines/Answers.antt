use Rattle.std.proofs.Common.{refl}
use Rattle.std.proofs.lemmas.Bool.{false≢true}
use Rattle.macho_report.proofs.Slices.{read_lines, slice_found, unread_lines}
use Rattle.macho_report.proofs.layout.write_slice_lines.Goals as goal

pub returns-in-Some : goal.returns-in-Some
returns-in-Some g c =
    read_lines (g.J.Judge.says c.args.judge.now) _ c.args.verified.now _ c.args.index _ _ (rw c.unwrap-slice.ensures at c.slice.ensures.slice)
    (c.in-Some.ensures.is_image.0 refl) c.in-Some.ensures.image c.write_image_slice.ensures

pub returns-in-None : goal.returns-in-None
returns-in-None g c =
    unread_lines (g.J.Judge.says c.args.judge.now) _ c.args.verified.now c.args.index _ _ (rw c.unwrap-slice.ensures at c.slice.ensures.slice)
    (λ image. false≢true (c.in-None.ensures.is_image.1 image)) c.write_slice.ensures

pub unwrap-slice-requires : goal.unwrap-slice-requires
unwrap-slice-requires g c = slice_found _ _ _ _ c.slice.ensures.slice c.requires
