use Rattle.std.proofs.Common.{◌∙◌, sym}
use Rattle.macho_fields.specs.Bytes.{bytes_of}
use Rattle.macho_fields.proofs.Slices.{slice_count}
use Rattle.macho_explain.specs.FirstSlices.{HasSlices}
use Rattle.macho_explain.proofs.FirstImages.{has_table}
use Rattle.macho_explain.proofs.entries.slice_count.Goals as goal

pub returns-then-is_universal : goal.returns-then-is_universal
returns-then-is_universal c =
    let file = bytes_of c.args.file in
    let universal = c.is_universal.ensures.0 c.if-is_universal.true in
    λ (kept : HasSlices file). c.entry_count.ensures (has_table file universal kept) ∙ sym (slice_count file universal)
