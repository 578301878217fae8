use Rattle.std.proofs.Common.{◌≡◌, ◌+◌, ◌≤◌, List, ℕ, Option, None, Some, length, ap, sym, subst}
use Rattle.macho_fields.specs.declared.header.loader.TheConstants as loader
use Rattle.std.specs.Option.{option_map}
use Rattle.macho_image.specs.Symbol.{dysymtab_at}
use Rattle.macho_image.specs.declared.dysymtab.Dysymtab.{Dysymtab}
use Rattle.macho_image.proofs.Kept.{first_inside}
use Rattle.macho_rows.specs.Image.{only}
use Rattle.macho_rows.proofs.image.groups.Goals as goal

named : (image : List ℕ) (first : Option ℕ) (d : Dysymtab) → Some d ≡ option_map (dysymtab_at image) first → Some d.place ≡ first
named image None d is = absurd (cc)
named image (Some place) d is = let same : d ≡ dysymtab_at image place = cc in ap (λ (t : Dysymtab). Some t.place) same

pub groups_at-requires : goal.groups_at-requires
groups_at-requires c =
    let image = c.args.image.now in
    let place = c.in-Some.dysymtab.place in
    let first : Some place ≡ only image loader.LC_DYSYMTAB = named image (only image loader.LC_DYSYMTAB) c.in-Some.dysymtab c.in-Some.ensures in
    let inside : place + 80 ≤ length image = first_inside image loader.LC_DYSYMTAB (Some place) c.bytes.ensures.opened first in
    subst (λ (bytes : List ℕ). place + 80 ≤ length bytes) (sym c.bytes.ensures.bytes) inside
