use Rattle.std.proofs.Common.{◌≡◌, ℕ, ◌+◌, ◌≤◌, List, length, Option, Some, ◌∙◌, ap, subst, arith}
use Rattle.macho_fields.specs.Bytes.{bytes_of}
use Rattle.macho_fields.specs.Universal.{FileSlice, entry_slice, slice_bytes}
use Rattle.macho_fields.specs.Rules.{BreaksImage}
use Rattle.macho_fields.specs.Layers.{IsLeast, NothingBreaks}
use Rattle.macho_fields.proofs.Entries.{ends_inside}
use Rattle.macho_fields.proofs.Inside.{first_inside}
use Rattle.macho_image.proofs.ReadParts.{length-part}
use Rattle.macho_second.proofs.verdict.judge_slice.Goals as goal

pub overflow_add-place : goal.overflow_add-place
overflow_add-place c =
    let file = bytes_of c.args.entries.file in
    let slice : FileSlice = entry_slice file c.args.k in
    let inside : slice.start + slice.size ≤ length file = ends_inside file c.args.k c.args.entries.universal c.requires.entry c.requires.inside in
    let near : c.in-Err.broken.place ≤ length (bytes_of c.bytes.result) = first_inside (bytes_of c.bytes.result) (Some c.arch.result) c.in-Err.broken c.in-Err.ensures in
    let size : length (slice_bytes file slice) ≡ slice.size = length-part slice.start slice.size file inside in
    let counted : length (bytes_of c.bytes.result) ≡ slice.size = ap length c.bytes.ensures ∙ size in
    omega (arith, counted, c.span.ensures.start)

pub returns-in-Ok-clause-unbroken : goal.returns-in-Ok-clause-unbroken
returns-in-Ok-clause-unbroken c =
    let slice : FileSlice = entry_slice (bytes_of c.args.entries.file) c.args.k in
    subst (λ (bytes : List ℕ). NothingBreaks (BreaksImage bytes slice.arch)) c.bytes.ensures
    (subst (λ (arch : Option (ℕ × ℕ)). NothingBreaks (BreaksImage (bytes_of c.bytes.result) arch)) c.arch.ensures c.in-Ok.ensures)

pub returns-in-Err-clause-first : goal.returns-in-Err-clause-first
returns-in-Err-clause-first c =
    let slice : FileSlice = entry_slice (bytes_of c.args.entries.file) c.args.k in
    let found = c.in-Err.broken in
    let least =
    subst (λ (bytes : List ℕ). IsLeast (BreaksImage bytes slice.arch) found) c.bytes.ensures
    (subst (λ (arch : Option (ℕ × ℕ)). IsLeast (BreaksImage (bytes_of c.bytes.result) arch) found) c.arch.ensures c.in-Err.ensures) in
    (found, least, c.at.ensures.rule, c.at.ensures.place ∙ ap (λ start. start + found.place) c.span.ensures.start)
