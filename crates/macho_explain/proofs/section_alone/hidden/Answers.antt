use Rattle.std.proofs.Common.{◌≡◌, ◌≢◌, ◌∙◌, ℕ, ◌+◌, ◌-◌, ◌≤◌, ◌<◌, List, Some, ap, arith, inl, inr, refl, sym}
use Rattle.std.specs.Prelude.{min, slice_get, slice_index}
use Rattle.std.proofs.lemmas.Option.{get_or_from_slice_get}
use Rattle.macho_fields.specs.Bytes.{bytes_of}
use Rattle.macho_fields.specs.Segment.{fileoff, filesize, section_address, section_size, vmaddr}
use Rattle.macho_explain.specs.Readers.{IsByteUnder}
use Rattle.macho_explain.proofs.section_alone.hidden.Goals as goal

under : (image : List ℕ) (segment section at addr vm off full size past start len : ℕ) → addr ≡ section_address image section → size ≡ section_size image section → vm ≡ vmaddr image segment
    → off ≡ fileoff image segment → full ≡ filesize image segment → vm ≤ addr → past ≡ addr - vm → start ≡ off + past → len ≡ min (full - past) size → start ≤ at → at < start + len
    → IsByteUnder image segment section at
under image segment section at addr vm off full size past start len one two three four five before is from to after below = (
  omega (arith, one, three, before),
  (at - start, omega (arith, two, to, after, below), omega (arith, one, three, five, before, is, to, after, below), omega (arith, one, three, four, before, is, from, after)),
)

pub returns : goal.returns
returns c =
    let image = bytes_of c.args.sliced.now.held.bytes in
    let row = c.requires.section in
    let its = c.requires.segment in
    let at = c.in_ok-place.place in
    let (holds, nonzero) = c.in_ok-place.ensures.nonzero in
    let byte : slice_get image at ≡ Some c.in_ok-u8_at.field-0 = sym c.u8_at.ensures ∙ c.in_ok-u8_at.was in
    let is : slice_index image at ≡ c.in_ok-u8_at.field-0 = get_or_from_slice_get image at c.in_ok-u8_at.field-0 0 byte in
    let value : c.from-byte.result ≡ c.in_ok-u8_at.field-0 = c.from-byte.ensures in
    let other : slice_index image at ≢ 0 = nonzero.1 in
    let some : 0 < c.from-byte.result = omega (arith, is, value, other) in
    let (before, past) = c.in_ok-past.ensures in
    let start : c.in_ok-checked_add.field-0 ≡ c.args.segment.now.row.fileoff + c.in_ok-past.past = omega (arith, c.in_ok-checked_add.ensures) in
    let len : c.min.result ≡ min (c.args.segment.now.row.filesize - c.in_ok-past.past) c.args.section.now.row.size = omega (arith, c.min.ensures, c.saturating_sub.ensures) in
    let there = under image c.args.segment.now.place c.args.section.now.place at c.args.section.now.row.addr c.args.segment.now.row.vmaddr c.args.segment.now.row.fileoff c.args.segment.now.row.filesize c.args.section.now.row.size
    c.in_ok-past.past c.in_ok-checked_add.field-0 c.min.result row.start row.size its.start its.file_start its.file_size before past start len holds.0 holds.1 in
    rw c.of.ensures (inr (inl (some, (c.args.segment.now.place, at, c.requires.of, there, byte ∙ ap Some (sym value))), refl))
