use Rattle.std.proofs.Common.{◌≡◌, ◌≢◌, ◌+◌, ◌%◌, ℕ, subst, length, ap, ◌∙◌, arith}
use Rattle.macho_fields.specs.Field.{number}
use Rattle.macho_fields.specs.Universal.{entry_place}
use Rattle.macho_fields.specs.declared.bytes.Order.TheVariants.{Big}
use Rattle.macho_spans.specs.Overlap.{sorted_spans}
use Rattle.macho_spans.specs.declared.span.Span.{Span}
use Rattle.macho_readers.proofs.FatEntries.{entry_less, slice_inside}
use Rattle.macho_readers.proofs.SlicePages.{entry_span, image_long, off_page, on_page}
use Rattle.macho_readers.proofs.slice_pages.is_off_pages.Goals as goal

pub shares_page-requires-clause-some : goal.shares_page-requires-clause-some
shares_page-requires-clause-some c =
    let file = c.args.verified.now in
    let k = c.args.index in
    let less = entry_less file c.bytes.ensures.unbroken c.requires.universal k c.requires.entry in
    let (start, size) = entry_span file c.requires.universal k less in
    let long = image_long file k (rw c.bytes_of_slice.ensures at (c.is_read.ensures.0 c.if-not-is_read.false)) in
    omega (arith, long, size, ap (λ (s : Span). s.len) c.slice_span-slice.ensures)

pub shares_page-requires-clause-fits : goal.shares_page-requires-clause-fits
shares_page-requires-clause-fits c =
    let file = c.args.verified.now in
    let k = c.args.index in
    let less = entry_less file c.bytes.ensures.unbroken c.requires.universal k c.requires.entry in
    let (start, size) = entry_span file c.requires.universal k less in
    let inside = slice_inside file c.bytes.ensures.unbroken c.requires.universal k c.requires.entry in
    omega (arith, inside, start, size, ap (λ (s : Span). s.start) c.slice_span-slice.ensures, ap (λ (s : Span). s.len) c.slice_span-slice.ensures, c.bytes.ensures.fits, ap length c.bytes.ensures.bytes)

pub returns-then-slice-page_size-ne0 : goal.returns-then-slice-page_size-ne0
returns-then-slice-page_size-ne0 c =
    let file = c.args.verified.now in
    let k = c.args.index in
    let less = entry_less file c.bytes.ensures.unbroken c.requires.universal k c.requires.entry in
    let (start, size) = entry_span file c.requires.universal k less in
    let begins = ap (λ (s : Span). s.start) c.slice_span-slice.ensures ∙ start in
    let long = ap (λ (s : Span). s.len) c.slice_span-slice.ensures ∙ size in
    let at : c.args.place + 0 ≡ entry_place file k = omega (arith, c.requires.place) in
    let kind = c.read_u32-cputype.ensures ∙ (λ i. number Big 4 (c.bytes.ensures.bytes i) (at i)) in
    let image = rw c.bytes_of_slice.ensures at (c.is_read.ensures.0 c.if-not-is_read.false) in
    off_page file c.requires.universal k c.read_u32-cputype.result c.slice_span-slice.result begins long kind image (subst (λ (p : ℕ). c.slice_span-slice.result.start % p ≢ 0) c.page_size.ensures.size c.if-slice-page_size-ne0.true)

pub returns : goal.returns
returns c =
    let file = c.args.verified.now in
    let k = c.args.index in
    let less = entry_less file c.bytes.ensures.unbroken c.requires.universal k c.requires.entry in
    let (start, size) = entry_span file c.requires.universal k less in
    let begins = ap (λ (s : Span). s.start) c.slice_span-slice.ensures ∙ start in
    let long = ap (λ (s : Span). s.len) c.slice_span-slice.ensures ∙ size in
    let at : c.args.place + 0 ≡ entry_place file k = omega (arith, c.requires.place) in
    let kind = c.read_u32-cputype.ensures ∙ (λ i. number Big 4 (c.bytes.ensures.bytes i) (at i)) in
    let image = rw c.bytes_of_slice.ensures at (c.is_read.ensures.0 c.if-not-is_read.false) in
    let even = subst (λ (p : ℕ). c.slice_span-slice.result.start % p ≡ 0) c.page_size.ensures.size c.if-slice-page_size-ne0.false in
    on_page file c.requires.universal k c.read_u32-cputype.result c.slice_span-slice.result begins long kind image even (sorted_spans c.args.slices.now) c.requires.same c.shares_page.result c.shares_page.ensures
