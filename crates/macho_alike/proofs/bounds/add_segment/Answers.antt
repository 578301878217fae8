use Rattle.std.proofs.Common.{◌≡◌, ℕ, List, sym, subst, arith}
use Rattle.macho_fields.specs.Bytes.{bytes_of}
use Rattle.macho_chains.specs.ChainPointers.{BreaksPageSlot}
use Rattle.macho_chains.proofs.PointerSurveys.{page_starts_inside}
use Rattle.macho_alike.specs.Bounds.{WereGathered}
use Rattle.macho_alike.specs.Indirects.{IsPageBound}
use Rattle.macho_alike.specs.declared.bounds.Bound.{Bound}
use Rattle.macho_alike.proofs.ChainBounds.{OfSegment, segment_pages}
use Rattle.macho_alike.proofs.Gathered.{OfBelow, below_start, below_more, gathered_same}
use Rattle.macho_alike.proofs.bounds.add_segment.Goals as goal

pub loop-page-init : goal.loop-page-init
loop-page-init c =
    below_start (λ (page : ℕ) (bound : Bound). IsPageBound c.args.segment.now.image c.args.chains.start (bytes_of c.args.chains.bytes) c.args.chains.header bound c.args.segment.now.place c.in-Some.starts page)
    c.args.bounds.now.items

pub add_page-requires-clause-start : goal.add_page-requires-clause-start
add_page-requires-clause-start c =
    let inside = page_starts_inside (bytes_of c.args.chains.bytes) c.args.chains.header c.args.index c.in-Some.starts (sym c.in-Some.ensures) in
    omega (arith, inside, c.loop-page-test.true)

pub add_page-requires-clause-slots : goal.add_page-requires-clause-slots
add_page-requires-clause-slots c place broken =
    c.requires.slots c.in-Some.starts (sym c.in-Some.ensures) c.loop-page.page c.loop-page-test.true place
    (subst (λ (b : List ℕ). BreaksPageSlot b c.args.chains.start (bytes_of c.args.chains.bytes) c.args.segment.now.place c.in-Some.starts c.loop-page.page place) c.requires.image broken)

pub loop-page-preserved : goal.loop-page-preserved
loop-page-preserved c =
    below_more
    (λ (page : ℕ) (bound : Bound). IsPageBound c.args.segment.now.image c.args.chains.start (bytes_of c.args.chains.bytes) c.args.chains.header bound c.args.segment.now.place c.in-Some.starts page)
    c.loop-page.page c.args.bounds.now.items c.loop-page.bounds.items c.add_page.new.bounds.items c.loop-page.invariant c.in_ok-add_page.ensures

pub returns : goal.returns
returns c =
    let image = c.args.image.now in
    let segment = c.args.segment.now.place in
    let table = c.args.chains.start in
    let chains = bytes_of c.args.chains.bytes in
    let header = c.args.chains.header in
    let starts = c.in-Some.starts in
    let old = c.args.bounds.now.items in
    let new = c.loop-page.bounds.items in
    let all : c.loop-page.page ≡ starts.page_count = omega (arith, c.loop-page.auto.page-end, c.loop-page-test.false) in
    let walked = subst (λ (n : ℕ). WereGathered (OfBelow (λ (page : ℕ) (bound : Bound). IsPageBound c.args.segment.now.image table chains header bound segment starts page) n) old new) all c.loop-page.invariant in
    gathered_same (OfBelow (λ (page : ℕ) (bound : Bound). IsPageBound image table chains header bound segment starts page) starts.page_count) (OfSegment image table chains header c.args.index) old new
    (segment_pages image table chains header c.args.index starts (sym c.in-Some.ensures) segment c.requires.listed)
    (subst (λ (b : List ℕ). WereGathered (OfBelow (λ (page : ℕ) (bound : Bound). IsPageBound b table chains header bound segment starts page) starts.page_count) old new) c.requires.image walked)
