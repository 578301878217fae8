use Rattle.macho_text.proofs.Holding.{holds_begin, holds_fails, holds_last, holds_next}
use Rattle.macho_lines.proofs.image.write_image.Goals as goal

pub returns-in_err-write_id : goal.returns-in_err-write_id
returns-in_err-write_id g c = holds_fails c.from_residual.ensures.0 holds_begin c.in_err-write_id.ensures

pub returns-in_err-write_image_uuid : goal.returns-in_err-write_image_uuid
returns-in_err-write_image_uuid g c = holds_fails c.from_residual-in_err-write_image_uuid.ensures.0 (holds_next holds_begin c.in_ok-write_id.ensures) c.in_err-write_image_uuid.ensures

pub returns-in_err-write_builds : goal.returns-in_err-write_builds
returns-in_err-write_builds g c = holds_fails c.from_residual-in_err-write_builds.ensures.0 (holds_next (holds_next holds_begin c.in_ok-write_id.ensures) c.in_ok-write_image_uuid.ensures) c.in_err-write_builds.ensures

pub returns-in_err-write_segments : goal.returns-in_err-write_segments
returns-in_err-write_segments g c = holds_fails c.from_residual-in_err-write_segments.ensures.0 (holds_next (holds_next (holds_next holds_begin c.in_ok-write_id.ensures) c.in_ok-write_image_uuid.ensures) c.in_ok-write_builds.ensures) c.in_err-write_segments.ensures

pub returns-in_err-write_libraries : goal.returns-in_err-write_libraries
returns-in_err-write_libraries g c = holds_fails c.from_residual-in_err-write_libraries.ensures.0 (holds_next (holds_next (holds_next (holds_next holds_begin c.in_ok-write_id.ensures) c.in_ok-write_image_uuid.ensures) c.in_ok-write_builds.ensures) c.in_ok-write_segments.ensures) c.in_err-write_libraries.ensures

pub returns-in_err-write_symbol_count : goal.returns-in_err-write_symbol_count
returns-in_err-write_symbol_count g c = holds_fails c.from_residual-in_err-write_symbol_count.ensures.0 (holds_next (holds_next (holds_next (holds_next (holds_next holds_begin c.in_ok-write_id.ensures) c.in_ok-write_image_uuid.ensures) c.in_ok-write_builds.ensures) c.in_ok-write_segments.ensures) c.in_ok-write_libraries.ensures) c.in_err-write_symbol_count.ensures

pub returns : goal.returns
returns g c = holds_last (holds_next (holds_next (holds_next (holds_next (holds_next (holds_next holds_begin c.in_ok-write_id.ensures) c.in_ok-write_image_uuid.ensures) c.in_ok-write_builds.ensures) c.in_ok-write_segments.ensures) c.in_ok-write_libraries.ensures) c.in_ok-write_symbol_count.ensures) (rw c.entry.ensures at c.write_entry.ensures)
