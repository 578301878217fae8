use Rattle.macho_fields.specs.FileTypes.{file_type_view}
use Rattle.macho_text.proofs.Holding.{holds_begin, holds_fails, holds_last, holds_next}
use Rattle.macho_report.proofs.Slices.{same_arch, word_is}
use Rattle.macho_report.proofs.layout.write_image_slice.Goals as goal

pub returns-in_err-write_slice : goal.returns-in_err-write_slice
returns-in_err-write_slice g c =
    holds_fails c.from_residual.ensures.0 holds_begin (rw (
      same_arch _ _ _ c.arch.ensures.cpu_type c.arch.ensures.cpu_subtype,
      word_is c.args.image.now (file_type_view c.file_type.result) c.file_type.ensures,
    ) at c.in_err-write_slice.ensures)

pub returns-in_err-write_image : goal.returns-in_err-write_image
returns-in_err-write_image g c =
    holds_fails c.from_residual-in_err-write_image.ensures.0 (holds_next holds_begin (rw (
      same_arch _ _ _ c.arch.ensures.cpu_type c.arch.ensures.cpu_subtype,
      word_is c.args.image.now (file_type_view c.file_type.result) c.file_type.ensures,
    ) at c.in_ok-write_slice.ensures))
    c.in_err-write_image.ensures

pub returns : goal.returns
returns g c =
    holds_last (holds_next (holds_next holds_begin (rw (
      same_arch _ _ _ c.arch.ensures.cpu_type c.arch.ensures.cpu_subtype,
      word_is c.args.image.now (file_type_view c.file_type.result) c.file_type.ensures,
    ) at c.in_ok-write_slice.ensures))
    c.in_ok-write_image.ensures) c.write_more.ensures
