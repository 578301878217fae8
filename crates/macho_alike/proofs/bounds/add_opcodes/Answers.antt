use Rattle.std.proofs.Common.{◌≡◌, ◌∙◌, ℕ, List, slice_get, Some, Contains, sym, subst}
use Rattle.macho_fields.specs.Segment.{all_segments}
use Rattle.macho_alike.specs.Bounds.{IsBoundBy}
use Rattle.macho_alike.specs.Indirects.{IsOpcodeBound}
use Rattle.macho_alike.specs.declared.binds.Bind.{Bind}
use Rattle.macho_alike.specs.declared.bounds.Bound.{Bound}
use Rattle.macho_alike.proofs.Gathered.{if_ok_same}
use Rattle.macho_alike.proofs.bounds.add_opcodes.Goals as goal

pub returns : goal.returns
returns c =
    let image = c.args.image.now in
    let segments : c.deref.result.now ≡ all_segments image = c.deref.ensures.value ∙ c.in_ok-segments.ensures in
    let binds : c.deref-2.result.now ≡ c.in_ok-binds.binds.items = c.deref-2.ensures.value in
    if_ok_same (λ (bound : Bound). (bind : Bind) × Contains c.deref-2.result.now bind × IsBoundBy c.deref.result.now bind bound) (IsOpcodeBound image) c.args.bounds.now.items c.add_binds.new.bounds.items c.add_binds.result
    (λ bound. (
      λ (bind, has, (at, offset, name)). (
        bind,
        (c.in_ok-binds.ensures.all bind).0 (subst (λ (bs : List Bind). Contains bs bind) binds has),
        subst (λ (ss : List ℕ). slice_get ss bind.segment ≡ Some bound.segment) segments at,
        offset,
        name,
      ),
      λ (bind, is, at, offset, name). (
        bind,
        subst (λ (bs : List Bind). Contains bs bind) (sym binds) ((c.in_ok-binds.ensures.all bind).1 is),
        (subst (λ (ss : List ℕ). slice_get ss bind.segment ≡ Some bound.segment) (sym segments) at, offset, name),
      ),
    ))
    c.add_binds.ensures
