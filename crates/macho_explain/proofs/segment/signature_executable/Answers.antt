use Rattle.std.proofs.Common.{◌≡◌, ◌∙◌, Option, ap, refl, subst, sym}
use Rattle.std.specs.Prelude.{IsSomeAnd}
use Rattle.macho_fields.specs.Bytes.{bytes_of}
use Rattle.macho_fields.specs.Segment.{fileoff, filesize}
use Rattle.macho_spans.specs.Span.{Shares}
use Rattle.macho_spans.specs.declared.span.Span.{Span}
use Rattle.macho_tables.specs.Homes.{bytes_of_segment}
use Rattle.macho_explain.proofs.Shared.{same_shares}
use Rattle.macho_explain.proofs.segment.signature_executable.Goals as goal

pub returns-in_err-table : goal.returns-in_err-table
returns-in_err-table c =
    let own = bytes_of_segment (bytes_of c.args.sliced.now.held.bytes) c.args.sliced.now.place in
    rw c.from_residual-in_err-table.ensures (λ has. subst (λ (o : Option Span). IsSomeAnd o (Shares own)) (c.in_err-table.ensures has.1) has.2)

pub returns-in_err-first : goal.returns-in_err-first
returns-in_err-first c =
    let image = bytes_of c.args.sliced.now.held.bytes in
    let place = c.args.sliced.now.place in
    let own = bytes_of_segment image place in
    let segment = c.in_ok-at.ensures in
    let table = c.in_ok-table.table.span in
    let start : fileoff image place ≡ c.file_part.result.start = ap (fileoff image) (sym segment.2) ∙ (sym segment.1.file_start ∙ sym c.file_part.ensures.start) in
    let size : filesize image place ≡ c.file_part.result.len = ap (filesize image) (sym segment.2) ∙ (sym segment.1.file_size ∙ sym c.file_part.ensures.len) in
    rw c.from_residual-in_err-first.ensures (λ has.
    let share : Shares own table = subst (λ (o : Option Span). IsSomeAnd o (Shares own)) c.in_ok-table.ensures has.2 in
    c.in_err-first.ensures.none (same_shares own table c.file_part.result table start size refl refl share))
