use Rattle.std.proofs.Common.{◌<◌, ◌≤◌, ◌∙◌, Some, length, sym, ap, slice_get, arith}
use Rattle.std.proofs.lemmas.Option.{slice_get_past}
use Rattle.macho_fields.specs.Universal.{entry_count, slices_of}
use Rattle.macho_fields.proofs.Slices.{slice_count, slice_of_entry}
use Rattle.macho_fat.proofs.Listed.{same_slice}
use Rattle.macho_fat.specs.declared.slice.Slice.{Slice}
use Rattle.macho_fat.proofs.slice.listed_at.Goals as goal

pub returns-then-index-from-clause-slice : goal.returns-then-index-from-clause-slice
returns-then-index-from-clause-slice c =
    let counted = slice_count c.args.table.now c.count.ensures.table.universal in
    let past : length (slices_of c.args.table.now) ≤ c.args.index = omega (arith, counted, c.count.ensures.count, c.from.ensures) in
    sym (ap (λ file. slice_get (slices_of file) c.args.index) (sym c.requires) ∙ slice_get_past (slices_of c.args.table.now) c.args.index past)

pub returns-clause-slice : goal.returns-clause-slice
returns-clause-slice c =
    let inside : c.args.index < entry_count c.args.table.now = omega (arith, c.count.ensures.count, c.from.ensures) in
    let slice : Slice = record { span = c.entry-entry.result.span; arch = Some c.entry-entry.result.arch; read = c.has_image.result } in
    ap Some (same_slice slice _ c.entry-entry.ensures.start c.entry-entry.ensures.size c.entry-entry.ensures.arch)
    ∙ sym (slice_of_entry c.args.table.now c.args.index c.count.ensures.table.universal inside)
    ∙ ap (λ file. slice_get (slices_of file) c.args.index) c.requires
