use Rattle.std.proofs.Common.{◌+◌, Some, bit_and, ap, refl, rules, ◌∙◌}
use Rattle.std.proofs.lemmas.Grind.{and_numeral}
use Rattle.macho_fields.specs.Bytes.{bytes_of}
use Rattle.macho_fields.specs.Field.{number}
use Rattle.macho_fields.specs.Universal.{entry_place, masked}
use Rattle.macho_fields.specs.declared.bytes.Order.TheVariants.{Big}
use Rattle.macho_second.proofs.entries.Entries.arch.Goals as goal

pub place-place-requires : goal.place-place-requires
place-place-requires c = c.requires

pub returns : goal.returns
returns c =
    let file = bytes_of c.args.self.file in
    let place = entry_place file c.args.k in
    let subtype = c.read_u32-subtype.result in
    ap (λ n. Some (n, bit_and subtype 16777215)) (c.read_u32.ensures ∙ ap (number Big 4 file) c.place-place.ensures)
    ∙ ap (λ n. Some (number Big 4 file place, n)) (and_numeral subtype 16777214 refl ∙ ap masked (c.read_u32-subtype.ensures ∙ ap (λ n. number Big 4 file (n + 4)) c.place-place.ensures))

pub overflow_add-place : goal.overflow_add-place
overflow_add-place c = search rules

pub read_u32-subtype-requires : goal.read_u32-subtype-requires
read_u32-subtype-requires c = search rules

pub read_u32-requires : goal.read_u32-requires
read_u32-requires c = search rules
