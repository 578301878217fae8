use Rattle.std.proofs.Common.{◌≡◌, ◌∙◌, ◌++◌, ◌+◌, [], ◌∷◌, ℕ, suc, List, map, take, get_or, sym, ap, arith}
use Rattle.macho_alike.specs.Bounds.{span_of, bind_of}
use Rattle.macho_alike.specs.declared.binds.Bind.{Bind}
use Rattle.macho_alike.proofs.SaidNames.{mapped_more, take_past, no_said}
use Rattle.macho_alike.proofs.indirects.binds_of.Goals as goal

pub loop-one-init : goal.loop-one-init
loop-one-init c = (c.new-binds.ensures.items, tt)

pub span_after-name-requires : goal.span_after-name-requires
span_after-name-requires c = rw c.bytes-bytes.ensures.bytes c.loop-one.invariant.1

pub loop-one-preserved : goal.loop-one-preserved
loop-one-preserved c =
    let image = c.args.image.now in
    let said = c.args.said.now in
    let index = c.loop-one.one-index in
    let name : c.span_after-name.result ≡ span_of image (get_or said index no_said).name =
    c.span_after-name.ensures ∙ ap (λ (bytes : List ℕ). span_of bytes (get_or said index no_said).name) c.bytes-bytes.ensures.bytes in
    let bind : c.bind.result ≡ bind_of image (get_or said index no_said) = c.bind.ensures image name in
    let step : suc index ≡ index + 1 = omega arith in (
      c.in_ok-push.ensures.items ∙ (ap (λ (b : Bind). c.loop-one.binds.items ++ b ∷ []) bind
          ∙ (ap (λ (bs : List Bind). bs ++ bind_of image (get_or said index no_said) ∷ []) c.loop-one.invariant.0
          ∙ (sym (mapped_more (bind_of image) said index no_said c.loop-one-test.true) ∙ ap (λ (n : ℕ). map (bind_of image) (take n said)) step))),
      name,
    )

pub returns : goal.returns
returns c = c.loop-one.invariant.0 ∙ ap (map (bind_of c.args.image.now)) (take_past c.args.said.now c.loop-one.one-index c.loop-one-test.false)
