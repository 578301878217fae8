use Rattle.std.proofs.Common.{inr, subst}
use Rattle.macho_rows.specs.Image.{Shows}
use Rattle.macho_rows.specs.Rows.{IsBrokenImage, HasUnbrokenHeaders}
use Rattle.macho_rows.proofs.image.read_slice.Goals as goal

pub returns-then-slice : goal.returns-then-slice
returns-then-slice c =
    let held = c.requires.0 c.if-slice.true in
    let slice = c.args.slice.now in
    let same = c.in_ok-bytes.ensures.bytes in
    let (kept, shows) = c.in_ok-image.ensures in
    (held.0, held.1, subst (λ bytes. HasUnbrokenHeaders bytes slice.arch) same kept, subst (λ bytes. Shows bytes slice.span.start c.in_ok-image.image) same shows)

pub returns-in_err-image : goal.returns-in_err-image
returns-in_err-image c =
    let held = c.requires.0 c.if-slice.true in
    rw c.from_residual-in_err-image.ensures (inr (inr (held.1, subst (λ bytes. IsBrokenImage bytes c.args.slice.now.arch) c.in_ok-bytes.ensures.bytes c.in_err-image.ensures)))
