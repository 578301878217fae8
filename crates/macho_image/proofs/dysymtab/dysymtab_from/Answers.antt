use Rattle.std.proofs.Common.{◌≡◌, ℕ, List, [], ap, refl}
use Rattle.macho_image.proofs.DysymtabWords.{dysymtab_of, both}
use Rattle.macho_image.proofs.dysymtab.dysymtab_from.Goals as goal

pub returns : goal.returns
returns c =
    let none : ◌≡◌ {A = List ℕ} [] [] = refl in
    ap (dysymtab_of c.args.place)
    (both c.field_in.ensures (both c.field_in-2.ensures (both c.field_in-3.ensures
    (both c.field_in-4.ensures (both c.field_in-5.ensures (both c.field_in-6.ensures
    (both c.field_in-7.ensures (both c.field_in-8.ensures (both c.field_in-9.ensures
    (both c.field_in-10.ensures (both c.field_in-11.ensures (both c.field_in-12.ensures
    (both c.field_in-13.ensures (both c.field_in-14.ensures (both c.field_in-15.ensures
    (both c.field_in-16.ensures (both c.field_in-17.ensures (both c.field_in-18.ensures none))))))))))))))))))
