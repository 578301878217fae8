use Rattle.std.proofs.Common.{◌≡◌, ◌∙◌, ◌+◌, ◌<◌, ℕ, List, length, sym, ap, subst, arith, inl, inr}
use Rattle.macho_fields.specs.Bytes.{bytes_of}
use Rattle.macho_fields.specs.Image.{long}
use Rattle.macho_fields.specs.Segment.{fileoff}
use Rattle.macho_chains.specs.ChainPointers.{pointer_of, pointer_at, ComesTo}
use Rattle.macho_chains.specs.declared.chain_pointers.ChainPointer.{ChainPointer}
use Rattle.macho_chains.specs.declared.chain_starts.PointerFormat.{PointerFormat}
use Rattle.macho_chains.proofs.ChainPages.{fits_inside}
use Rattle.macho_alike.specs.Bounds.{WereGathered, IsPointerBound}
use Rattle.macho_alike.proofs.ChainBounds.{Rest, Here, rest_splits, rest_last, next_far, next_comes}
use Rattle.macho_alike.proofs.Gathered.{IsWalkedTo, walk_start, walk_step, walk_end}
use Rattle.macho_alike.proofs.bounds.add_chain.Goals as goal

-- the pointer that was read
is_pointer : (image bytes : List ℕ) (segment start offset : ℕ) (format : PointerFormat) (read : ChainPointer) → bytes ≡ image → start ≡ fileoff image segment
    → read ≡ pointer_of format (long bytes (start + offset)) → read ≡ pointer_at image segment format offset
is_pointer image bytes segment start offset format read same from is =
    is ∙ (ap (λ (b : List ℕ). pointer_of format (long b (start + offset))) same ∙ ap (λ (n : ℕ). pointer_of format (long image (n + offset))) from)

pub loop-offset-init : goal.loop-offset-init
loop-offset-init c =
    (c.requires.first, walk_start (Rest c.args.segment.now.image c.args.chains.start (bytes_of c.args.chains.bytes) c.args.chains.header c.args.segment.now.place c.args.starts c.args.page c.args.first) c.args.bounds.now.items)

pub overflow_add-start : goal.overflow_add-start
overflow_add-start c =
    let inside = fits_inside c.args.segment.now.image c.args.segment.now.place c.args.starts c.args.page c.requires.file c.loop-offset.offset c.loop-offset.invariant.0.2 in
    let bound = c.image-image.type_inv in
    omega (arith, inside, bound, c.fileoff-start.ensures, ap length c.image-image.ensures)

pub read-pointer-requires : goal.read-pointer-requires
read-pointer-requires c =
    rw (c.image-image.ensures, c.fileoff-start.ensures) (fits_inside c.args.segment.now.image c.args.segment.now.place c.args.starts c.args.page c.requires.file c.loop-offset.offset c.loop-offset.invariant.0.2)

pub returns-then-pointer-eq0 : goal.returns-then-pointer-eq0
returns-then-pointer-eq0 c =
    let image = c.args.segment.now.image in
    let segment = c.args.segment.now.place in
    let chains = bytes_of c.args.chains.bytes in
    let starts = c.args.starts in
    let page = c.args.page in
    let offset = c.loop-offset.offset in
    let is = is_pointer image (bytes_of c.image-image.result) segment c.fileoff-start.result offset starts.format c.read-pointer.result c.image-image.ensures c.fileoff-start.ensures c.read-pointer.ensures in
    let All = Rest image c.args.chains.start chains c.args.chains.header segment starts page in
    let At = Here image c.args.chains.start chains c.args.chains.header segment starts page offset in
    let old = c.args.bounds.now.items in
    let here : WereGathered At c.loop-offset.bounds.items c.add_pointer.new.bounds.items =
    subst (λ (s : ℕ). WereGathered (IsPointerBound c.args.chains.start chains c.args.chains.header (pointer_at image segment starts.format offset) s offset) c.loop-offset.bounds.items c.add_pointer.new.bounds.items) c.place.ensures
    (subst (λ (p : ChainPointer). WereGathered (IsPointerBound c.args.chains.start chains c.args.chains.header p c.place.result offset) c.loop-offset.bounds.items c.add_pointer.new.bounds.items) is c.in_ok-add_pointer.ensures) in
    let none : (pointer_at image segment starts.format offset).distance ≡ 0 = sym (ap (λ (p : ChainPointer). p.distance) is) ∙ c.if-pointer-eq0.true in
    walk_end (All c.args.first) (λ bound. ⊥) old c.add_pointer.new.bounds.items
    (walk_step (All c.args.first) (All offset) At (λ bound. ⊥) old c.loop-offset.bounds.items c.add_pointer.new.bounds.items c.loop-offset.invariant.1
    (λ bound. (
      λ left. inl ((rest_last image c.args.chains.start chains c.args.chains.header segment starts page offset c.loop-offset.invariant.0.2 none bound).0 left),
      λ either. elim either [ inl at ↦ (rest_last image c.args.chains.start chains c.args.chains.header segment starts page offset c.loop-offset.invariant.0.2 none bound).1 at | inr wrong ↦ absurd wrong ],
    ))
    here)
    (λ bound wrong. wrong)

pub overflow_add-offset : goal.overflow_add-offset
overflow_add-offset c =
    let image = c.args.segment.now.image in
    let segment = c.args.segment.now.place in
    let chains = bytes_of c.args.chains.bytes in
    let starts = c.args.starts in
    let page = c.args.page in
    let offset = c.loop-offset.offset in
    let is = is_pointer image (bytes_of c.image-image.result) segment c.fileoff-start.result offset starts.format c.read-pointer.result c.image-image.ensures c.fileoff-start.ensures c.read-pointer.ensures in
    let some : 0 < (pointer_at image segment starts.format offset).distance = subst (λ (p : ChainPointer). 0 < p.distance) is (omega (arith, c.if-pointer-eq0.false)) in
    let far = next_far image c.args.chains.start chains c.args.chains.header segment starts page c.requires.slots offset c.loop-offset.invariant.0 some in
    let next = next_comes image c.args.chains.start chains c.args.chains.header segment starts page c.requires.slots offset c.loop-offset.invariant.0 some in
    let distance : c.read-pointer.result.distance ≡ (pointer_at image segment starts.format offset).distance = ap (λ (p : ChainPointer). p.distance) is in
    let inside = fits_inside image segment starts page c.requires.file (offset + (pointer_at image segment starts.format offset).distance) next.2 in
    let bound = c.image-image.type_inv in
    omega (arith, inside, bound, distance, ap length c.image-image.ensures)

pub loop-offset-smaller : goal.loop-offset-smaller
loop-offset-smaller c =
    let image = c.args.segment.now.image in
    let segment = c.args.segment.now.place in
    let chains = bytes_of c.args.chains.bytes in
    let starts = c.args.starts in
    let page = c.args.page in
    let offset = c.loop-offset.offset in
    let is = is_pointer image (bytes_of c.image-image.result) segment c.fileoff-start.result offset starts.format c.read-pointer.result c.image-image.ensures c.fileoff-start.ensures c.read-pointer.ensures in
    let some : 0 < (pointer_at image segment starts.format offset).distance = subst (λ (p : ChainPointer). 0 < p.distance) is (omega (arith, c.if-pointer-eq0.false)) in
    let far = next_far image c.args.chains.start chains c.args.chains.header segment starts page c.requires.slots offset c.loop-offset.invariant.0 some in
    let next = next_comes image c.args.chains.start chains c.args.chains.header segment starts page c.requires.slots offset c.loop-offset.invariant.0 some in
    let distance : c.read-pointer.result.distance ≡ (pointer_at image segment starts.format offset).distance = ap (λ (p : ChainPointer). p.distance) is in
    let ends = next.2.0 in
    omega (arith, ends, far, distance)

pub loop-offset-preserved : goal.loop-offset-preserved
loop-offset-preserved c =
    let image = c.args.segment.now.image in
    let segment = c.args.segment.now.place in
    let chains = bytes_of c.args.chains.bytes in
    let starts = c.args.starts in
    let page = c.args.page in
    let offset = c.loop-offset.offset in
    let is = is_pointer image (bytes_of c.image-image.result) segment c.fileoff-start.result offset starts.format c.read-pointer.result c.image-image.ensures c.fileoff-start.ensures c.read-pointer.ensures in
    let some : 0 < (pointer_at image segment starts.format offset).distance = subst (λ (p : ChainPointer). 0 < p.distance) is (omega (arith, c.if-pointer-eq0.false)) in
    let far = next_far image c.args.chains.start chains c.args.chains.header segment starts page c.requires.slots offset c.loop-offset.invariant.0 some in
    let next = next_comes image c.args.chains.start chains c.args.chains.header segment starts page c.requires.slots offset c.loop-offset.invariant.0 some in
    let distance : c.read-pointer.result.distance ≡ (pointer_at image segment starts.format offset).distance = ap (λ (p : ChainPointer). p.distance) is in
    let All = Rest image c.args.chains.start chains c.args.chains.header segment starts page in
    let At = Here image c.args.chains.start chains c.args.chains.header segment starts page offset in
    let old = c.args.bounds.now.items in
    let here : WereGathered At c.loop-offset.bounds.items c.add_pointer.new.bounds.items =
    subst (λ (s : ℕ). WereGathered (IsPointerBound c.args.chains.start chains c.args.chains.header (pointer_at image segment starts.format offset) s offset) c.loop-offset.bounds.items c.add_pointer.new.bounds.items) c.place.ensures
    (subst (λ (p : ChainPointer). WereGathered (IsPointerBound c.args.chains.start chains c.args.chains.header p c.place.result offset) c.loop-offset.bounds.items c.add_pointer.new.bounds.items) is c.in_ok-add_pointer.ensures) in
    let to : offset + (pointer_at image segment starts.format offset).distance ≡ offset + c.read-pointer.result.distance = ap (λ (n : ℕ). offset + n) (sym distance) in (
      subst (ComesTo image chains segment starts page) to next,
      subst (λ (n : ℕ). IsWalkedTo (All c.args.first) (All n) old c.add_pointer.new.bounds.items) to
          (walk_step (All c.args.first) (All offset) At (All (offset + (pointer_at image segment starts.format offset).distance)) old c.loop-offset.bounds.items c.add_pointer.new.bounds.items c.loop-offset.invariant.1
          (rest_splits image c.args.chains.start chains c.args.chains.header segment starts page offset c.loop-offset.invariant.0.2 far) here),
    )
