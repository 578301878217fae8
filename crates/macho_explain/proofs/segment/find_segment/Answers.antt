use Rattle.std.proofs.Common.{◌≡◌, ◌+◌, ℕ, List, [], ap, refl, arith, ◌∙◌, sym}
use Rattle.std.proofs.lemmas.Bool.{false≢true}
use Rattle.std.proofs.lemmas.Option.{slice_get_within}
use Rattle.macho_fields.specs.Bytes.{bytes_of}
use Rattle.macho_explain.specs.Explain.{all_segment_loads, IsSegmentRow, MeetsSegment}
use Rattle.macho_explain.specs.declared.segment.SegmentAt.{SegmentAt}
use Rattle.macho_rows.specs.Loads.{wanted_left}
use Rattle.macho_rows.specs.Segments.{segment_row}
use Rattle.macho_rows.specs.declared.load.Wanted.TheVariants as wanted
use Rattle.macho_rows.specs.declared.segments.KesvuotSegment.{KesvuotSegment}
use Rattle.macho_explain.proofs.Walked.{listed, passed, passed_more, ended}
use Rattle.macho_explain.proofs.segment.find_segment.Goals as goal

-- the fields that are read are those of the segment
is_row : (start : ℕ) (image : List ℕ) (segment : SegmentAt) → segment.row ≡ segment_row start image 0 segment.place → IsSegmentRow image segment
is_row start image segment row = record {
  start = ap (λ (r : KesvuotSegment). r.vmaddr) row;
  size = ap (λ (r : KesvuotSegment). r.vmsize) row;
  last = ap (λ (r : KesvuotSegment). r.last) row;
  file_start = ap (λ (r : KesvuotSegment). r.fileoff) row;
  file_size = ap (λ (r : KesvuotSegment). r.filesize) row;
  maxprot = ap (λ (r : KesvuotSegment). r.maxprot) row;
  initprot = ap (λ (r : KesvuotSegment). r.initprot) row;
  sections = ap (λ (r : KesvuotSegment). r.section_count) row;
}

pub loop-load-init : goal.loop-load-init
loop-load-init c = (0, refl, λ k command less is has. absurd (let none : ⊥ = omega (arith, less) in none))

pub returns-then-is_wanted : goal.returns-then-is_wanted
returns-then-is_wanted c =
    let image = bytes_of c.args.sliced.now.held.bytes in
    let row = is_row c.args.sliced.now.held.place image (record { place = c.in-Some.load.place; index = c.index_of.result; row = c.row_of.result }) c.row_of.ensures in
    let (k, left, before) = c.loop-load.invariant in
    let rest = wanted_left wanted.Segments image c.next_wanted.new.cursor in
    let meets = (c.is_wanted.ensures image row).0 c.if-is_wanted.true in
    record {
      row = row;
      meets = meets;
      first = record { index = k; listed = listed (all_segment_loads image) k c.in-Some.load.place rest (left ∙ c.in-Some.ensures.first); has = meets; first = before };
      near = c.in-Some.ensures.load.0.near;
    }

pub loop-load-preserved : goal.loop-load-preserved
loop-load-preserved c =
    let image = bytes_of c.args.sliced.now.held.bytes in
    let all = all_segment_loads image in
    let (k, left, before) = c.loop-load.invariant in
    let place = c.in-Some.load.place in
    let rest = wanted_left wanted.Segments image c.next_wanted.new.cursor in
    let here = left ∙ c.in-Some.ensures.first in
    let row = is_row c.args.sliced.now.held.place image (record { place = place; index = c.index_of.result; row = c.row_of.result }) c.row_of.ensures in
    let not_sought : ¬ MeetsSegment image c.args.wanted place = λ has. false≢true (sym c.if-is_wanted.false ∙ (c.is_wanted.ensures image row).1 has) in
    (k + 1, passed all k place rest here, passed_more all (MeetsSegment image c.args.wanted) k place (listed all k place rest here) not_sought before)

pub returns : goal.returns
returns c =
    let image = bytes_of c.args.sliced.now.held.bytes in
    let all = all_segment_loads image in
    let (passed, left, before) = c.loop-load.invariant in
    let none : wanted_left wanted.Segments image c.loop-load.cursor ≡ [] = grind arith in
    let past = ended all passed (left ∙ none) in
    λ k command at has.
    let less = slice_get_within all k command at in
    before k command (omega (arith, less, past)) at has
