use Rattle.std.proofs.Common.{◌≡◌, ◌+◌, ◌≤◌, ℕ, List, Some, length, ap, ◌∙◌, sym, subst, arith}
use Rattle.macho_fields.specs.Bytes.{bytes_of}
use Rattle.macho_fields.specs.FirstPlace.{IsLeastPlace}
use Rattle.macho_fields.specs.Image.{long}
use Rattle.macho_fields.specs.Segment.{fileoff}
use Rattle.macho_chains.specs.ChainPages.{AtPointer}
use Rattle.macho_chains.specs.ChainPointers.{pointer_of, pointer_at, HasBadNext, BindsNone}
use Rattle.macho_chains.specs.declared.chain_pointers.ChainPointer.{ChainPointer}
use Rattle.macho_chains.specs.declared.chain_starts.PointerFormat.{PointerFormat}
use Rattle.macho_chains.proofs.ChainPages.{limit_fits, fits_inside, walk_start, slot_on, slot_bad, slot_last, bind_on, bind_end}
use Rattle.macho_chains.proofs.chain_pages.chain_survey.Goals as goal

-- the pointer that was read
is_pointer : (image bytes : List ℕ) (segment start offset : ℕ) (format : PointerFormat) (read : ChainPointer) → bytes ≡ image → start ≡ fileoff image segment
    → read ≡ pointer_of format (long bytes (start + offset)) → read ≡ pointer_at image segment format offset
is_pointer image bytes segment start offset format read same from is =
    is ∙ (ap (λ (b : List ℕ). pointer_of format (long b (start + offset))) same ∙ ap (λ (n : ℕ). pointer_of format (long image (n + offset))) from)

pub overflow_sub-last : goal.overflow_sub-last
overflow_sub-last c =
    let low = (limit_fits c.args.segment.now.image c.args.segment.now.place c.args.starts c.args.page c.args.limits.room c.page_limit-last.result c.requires.room c.page_limit-last.ensures c.args.first).1 c.requires.first in
    omega (arith, low)

pub loop-next-init : goal.loop-next-init
loop-next-init c =
    let image = c.args.segment.now.image in
    let segment = c.args.segment.now.place in
    let low = (limit_fits image segment c.args.starts c.args.page c.args.limits.room c.page_limit-last.result c.requires.room c.page_limit-last.ensures c.args.first).1 c.requires.first in record {
      within = omega (arith, low);
      slot = walk_start image segment c.args.starts c.args.page (HasBadNext image segment c.args.starts c.args.page) c.args.first;
      bind = walk_start image segment c.args.starts c.args.page (BindsNone image segment c.args.starts c.args.limits.imports) c.args.first;
    }

pub overflow_add-place : goal.overflow_add-place
overflow_add-place c =
    let image = c.args.segment.now.image in
    let segment = c.args.segment.now.place in
    let fits = limit_fits image segment c.args.starts c.args.page c.args.limits.room c.page_limit-last.result c.requires.room c.page_limit-last.ensures in
    let first = (fits c.args.first).1 c.requires.first in
    let low : c.loop-next.offset + 8 ≤ c.page_limit-last.result = omega (arith, first, c.loop-next.invariant.within) in
    let inside = fits_inside image segment c.args.starts c.args.page c.requires.file c.loop-next.offset ((fits c.loop-next.offset).0 low) in
    let bound = c.image-image.type_inv in
    omega (arith, inside, bound, c.fileoff-start.ensures, ap length c.image-image.ensures)

pub read-pointer-requires : goal.read-pointer-requires
read-pointer-requires c =
    let image = c.args.segment.now.image in
    let segment = c.args.segment.now.place in
    let fits = limit_fits image segment c.args.starts c.args.page c.args.limits.room c.page_limit-last.result c.requires.room c.page_limit-last.ensures in
    let first = (fits c.args.first).1 c.requires.first in
    let low : c.loop-next.offset + 8 ≤ c.page_limit-last.result = omega (arith, first, c.loop-next.invariant.within) in
    rw (c.image-image.ensures, c.fileoff-start.ensures) (fits_inside image segment c.args.starts c.args.page c.requires.file c.loop-next.offset ((fits c.loop-next.offset).0 low))

pub returns-then-pointer-gt0 : goal.returns-then-pointer-gt0
returns-then-pointer-gt0 c =
    let image = c.args.segment.now.image in
    let segment = c.args.segment.now.place in
    let starts = c.args.starts in
    let page = c.args.page in
    let limit = c.page_limit-last.result in
    let first = (limit_fits image segment starts page c.args.limits.room limit c.requires.room c.page_limit-last.ensures c.args.first).1 c.requires.first in
    let low : c.loop-next.offset + 8 ≤ limit = omega (arith, first, c.loop-next.invariant.within) in
    let is = is_pointer image (bytes_of c.image-image.result) segment c.fileoff-start.result c.loop-next.offset starts.format c.read-pointer.result c.image-image.ensures c.fileoff-start.ensures c.read-pointer.ensures in record {
      slot = subst (λ (n : ℕ). IsLeastPlace (AtPointer image segment starts page c.args.first (HasBadNext image segment starts page)) (Some (n + c.loop-next.offset))) (sym c.fileoff-start.ensures)
          (slot_bad image segment starts page c.args.limits.room limit c.requires.room c.page_limit-last.ensures c.loop-next.offset low c.read-pointer.result is
          c.args.first c.loop-next.invariant.slot c.in_default.ensures c.if-pointer-gt0.true);
      bind = bind_end image segment starts page c.args.limits.room limit c.requires.room c.page_limit-last.ensures c.loop-next.offset low c.read-pointer.result is c.args.limits.imports
          c.fileoff-start.result c.fileoff-start.ensures c.args.first c.loop-next.bind c.note_if.new.found c.binds_none.result c.binds_none.ensures c.note_if.ensures c.loop-next.invariant.bind
          c.in_default.ensures;
    }

pub returns-else-pointer-gt0 : goal.returns-else-pointer-gt0
returns-else-pointer-gt0 c =
    let image = c.args.segment.now.image in
    let segment = c.args.segment.now.place in
    let starts = c.args.starts in
    let page = c.args.page in
    let limit = c.page_limit-last.result in
    let first = (limit_fits image segment starts page c.args.limits.room limit c.requires.room c.page_limit-last.ensures c.args.first).1 c.requires.first in
    let low : c.loop-next.offset + 8 ≤ limit = omega (arith, first, c.loop-next.invariant.within) in
    let is = is_pointer image (bytes_of c.image-image.result) segment c.fileoff-start.result c.loop-next.offset starts.format c.read-pointer.result c.image-image.ensures c.fileoff-start.ensures c.read-pointer.ensures in record {
      slot = slot_last image segment starts page c.args.limits.room limit c.requires.room c.page_limit-last.ensures c.loop-next.offset low c.read-pointer.result is c.args.first
          c.loop-next.invariant.slot c.in_default.ensures (omega (arith, c.if-pointer-gt0.false));
      bind = bind_end image segment starts page c.args.limits.room limit c.requires.room c.page_limit-last.ensures c.loop-next.offset low c.read-pointer.result is c.args.limits.imports
          c.fileoff-start.result c.fileoff-start.ensures c.args.first c.loop-next.bind c.note_if.new.found c.binds_none.result c.binds_none.ensures c.note_if.ensures c.loop-next.invariant.bind
          c.in_default.ensures;
    }

pub loop-next-preserved : goal.loop-next-preserved
loop-next-preserved c =
    let image = c.args.segment.now.image in
    let segment = c.args.segment.now.place in
    let starts = c.args.starts in
    let page = c.args.page in
    let limit = c.page_limit-last.result in
    let first = (limit_fits image segment starts page c.args.limits.room limit c.requires.room c.page_limit-last.ensures c.args.first).1 c.requires.first in
    let low : c.loop-next.offset + 8 ≤ limit = omega (arith, first, c.loop-next.invariant.within) in
    let is = is_pointer image (bytes_of c.image-image.result) segment c.fileoff-start.result c.loop-next.offset starts.format c.read-pointer.result c.image-image.ensures c.fileoff-start.ensures c.read-pointer.ensures in
    let (on, far, within) = c.in-Some.ensures in record {
      within = within;
      slot = slot_on image segment starts page c.args.limits.room limit c.requires.room c.page_limit-last.ensures c.loop-next.offset low c.read-pointer.result is c.in-Some.next on far within
          c.args.first c.loop-next.invariant.slot;
      bind = bind_on image segment starts page c.args.limits.room limit c.requires.room c.page_limit-last.ensures c.loop-next.offset low c.read-pointer.result is c.args.limits.imports
          c.fileoff-start.result c.fileoff-start.ensures c.args.first c.loop-next.bind c.note_if.new.found c.binds_none.result c.binds_none.ensures c.note_if.ensures c.loop-next.invariant.bind
          c.in-Some.next on far;
    }
