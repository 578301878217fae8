use Rattle.std.proofs.Common.{◌∙◌, length, ap, arith}
use Rattle.macho_fat.specs.Slices.{slice_of}
use Rattle.macho_fields.specs.Field.{part}
use Rattle.macho_fields.specs.Universal.{FileSlice, slice_bytes}
use Rattle.macho_readers.proofs.FatEntries.{slice_here, slice_inside}
use Rattle.macho_readers.proofs.files.bytes_of_slice.Goals as goal

pub slice-requires-2 : goal.slice-requires-2
slice-requires-2 c =
    let file = c.args.verified.now in
    let here = slice_here file c.bytes.ensures.unbroken c.requires.universal c.args.index c.requires.entry (slice_of c.unwrap-slice.result.now) (rw c.unwrap-slice.ensures at c.slice.ensures.slice) in
    let inside = slice_inside file c.bytes.ensures.unbroken c.requires.universal c.args.index c.requires.entry in
    let start = ap (λ (s : FileSlice). s.start) here in
    let size = ap (λ (s : FileSlice). s.size) here in
    omega (arith, inside, start, size, ap length c.bytes.ensures.bytes)

pub returns : goal.returns
returns c =
    let file = c.args.verified.now in
    let here = slice_here file c.bytes.ensures.unbroken c.requires.universal c.args.index c.requires.entry (slice_of c.unwrap-slice.result.now) (rw c.unwrap-slice.ensures at c.slice.ensures.slice) in
    let span = c.unwrap-slice.result.now.span in
    c.slice-2.ensures ∙ (ap (part span.start span.len) c.bytes.ensures.bytes ∙ ap (slice_bytes file) here)
