use Rattle.std.proofs.Common.{subst, ◌∙◌}
use Rattle.macho_rows.specs.Image.{Shows}
use Rattle.macho_rows.specs.Rows.{IsBrokenImage, HasUnbrokenHeaders}
use Rattle.macho_rows.proofs.image.read_image.Goals as goal

pub returns-in-Ok : goal.returns-in-Ok
returns-in-Ok c =
    let slice = c.args.slice.now in
    let same = c.in-Ok.ensures.image ∙ c.new.ensures in
    (subst (λ bytes. HasUnbrokenHeaders bytes slice.arch) c.new.ensures c.in-Ok.ensures.decides, subst (λ bytes. Shows bytes slice.span.start c.row_of.result) same c.row_of.ensures)

-- Found without this answer; with it a wrong body fails at once.
pub returns-in-Err : goal.returns-in-Err
returns-in-Err c =
    let b = c.in-Err.field-0 in
    subst (λ bytes. IsBrokenImage bytes c.args.slice.now.arch) c.new.ensures (b.rule, b.place, c.in-Err.ensures.stops, c.in-Err.ensures.decides.0)
