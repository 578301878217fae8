use Rattle.std.proofs.Common.{◌≤◌, ◌<◌, length, arith}
use Rattle.macho_fields.specs.Bytes.{bytes_of}
use Rattle.macho_fields.specs.Universal.{slices_of}
use Rattle.macho_readers.specs.Files.{IsOtherEntry}
use Rattle.macho_readers.proofs.FatEntries.{entry_computed, least_entry, no_entry}
use Rattle.macho_readers.proofs.files.fat_header.Goals as goal

pub overflow_mul-place : goal.overflow_mul-place
overflow_mul-place c =
    let file = c.args.verified.now in
    let less : c.loop-index.index < length (slices_of file) = omega (arith, c.loop-index-test.true, c.loop-index.auto.index-end, c.slice_count-index-end.ensures) in
    let (universal, at, inside, within) = entry_computed file (bytes_of c.bytes.result) c.in_ok-size.size c.loop-index.index c.bytes.ensures.bytes c.bytes.ensures.unbroken c.in_ok-size.ensures less in
    omega (arith, inside, c.bytes.ensures.fits)

pub overflow_add-place : goal.overflow_add-place
overflow_add-place c =
    let file = c.args.verified.now in
    let less : c.loop-index.index < length (slices_of file) = omega (arith, c.loop-index-test.true, c.loop-index.auto.index-end, c.slice_count-index-end.ensures) in
    let (universal, at, inside, within) = entry_computed file (bytes_of c.bytes.result) c.in_ok-size.size c.loop-index.index c.bytes.ensures.bytes c.bytes.ensures.unbroken c.in_ok-size.ensures less in
    omega (arith, inside, c.bytes.ensures.fits)

pub is_other_entry-requires-clause-inside : goal.is_other_entry-requires-clause-inside
is_other_entry-requires-clause-inside c =
    let file = c.args.verified.now in
    let less : c.loop-index.index < length (slices_of file) = omega (arith, c.loop-index-test.true, c.loop-index.auto.index-end, c.slice_count-index-end.ensures) in
    let (universal, at, inside, within) = entry_computed file (bytes_of c.bytes.result) c.in_ok-size.size c.loop-index.index c.bytes.ensures.bytes c.bytes.ensures.unbroken c.in_ok-size.ensures less in
    omega (arith, inside)

pub returns-then-is_other_entry : goal.returns-then-is_other_entry
returns-then-is_other_entry c =
    let file = c.args.verified.now in
    let less : c.loop-index.index < length (slices_of file) = omega (arith, c.loop-index-test.true, c.loop-index.auto.index-end, c.slice_count-index-end.ensures) in
    let (universal, at, inside, within) = entry_computed file (bytes_of c.bytes.result) c.in_ok-size.size c.loop-index.index c.bytes.ensures.bytes c.bytes.ensures.unbroken c.in_ok-size.ensures less in
    least_entry file (IsOtherEntry file) c.loop-index.index _ universal within c.loop-index.invariant (c.is_other_entry.ensures.0 c.if-is_other_entry.true) at

pub returns : goal.returns
returns c =
    let file = c.args.verified.now in
    let all : length (slices_of file) ≤ c.loop-index.index = omega (arith, c.loop-index-test.false, c.loop-index.auto.index-end, c.slice_count-index-end.ensures) in
    no_entry file (bytes_of c.bytes.result) (IsOtherEntry file) c.loop-index.index c.bytes.ensures.bytes c.in_ok-size.ensures.0 all c.loop-index.invariant
