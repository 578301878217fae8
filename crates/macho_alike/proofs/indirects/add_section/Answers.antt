use Rattle.std.proofs.Common.{◌≡◌, ◌∙◌, ℕ, List, get_or, length, sym, subst, arith}
use Rattle.std.proofs.lemmas.Bool.{false≢true}
use Rattle.macho_alike.specs.Bounds.{WereGathered, IsSaidFor, IsSaidBy}
use Rattle.macho_alike.specs.Indirects.{IsPointerOf}
use Rattle.macho_alike.proofs.Gathered.{OfBelow, OfSome, below_start, below_more, below_listed, gathered_none, gathered_same}
use Rattle.macho_alike.proofs.SaidNames.{no_bound}
use Rattle.macho_alike.proofs.indirects.add_section.Goals as goal

pub loop-bound-init : goal.loop-bound-init
loop-bound-init c =
    below_start (λ (k : ℕ). IsSaidFor c.args.image.now (c.args.section.now.segment, c.args.section.now.place) (get_or c.bounds_near-near.result.now k no_bound)) c.args.said.now.items

pub loop-bound-preserved : goal.loop-bound-preserved
loop-bound-preserved c =
    below_more (λ (k : ℕ). IsSaidFor c.args.image.now (c.args.section.now.segment, c.args.section.now.place) (get_or c.bounds_near-near.result.now k no_bound)) c.loop-bound.bound-index
    c.args.said.now.items c.loop-bound.said.items c.add_bound.new.said.items c.loop-bound.invariant c.in_ok-add_bound.ensures

pub returns-then-not-has_pointers : goal.returns-then-not-has_pointers
returns-then-not-has_pointers c =
    let section : ℕ × ℕ = (c.args.section.now.segment, c.args.section.now.place) in
    gathered_none (IsSaidBy c.args.image.now c.args.bounds.now section) c.args.said.now.items
    (λ s (bound, has, (index, pointer, at)).
    let there = subst (λ (bytes : List ℕ). IsPointerOf bytes section bound index) (sym c.requires.image) pointer in
    false≢true (sym c.if-not-has_pointers.true ∙ c.has_pointers.ensures.1 there.0))

pub returns : goal.returns
returns c =
    let image = c.args.image.now in
    let section : ℕ × ℕ = (c.args.section.now.segment, c.args.section.now.place) in
    let near = c.bounds_near-near.result.now in
    let bounds = c.args.bounds.now in
    let old = c.args.said.now.items in
    let new = c.loop-bound.said.items in
    let all : c.loop-bound.bound-index ≡ length near = omega (arith, c.loop-bound.auto.bound-index-end, c.loop-bound-test.false) in
    let listed = gathered_same (OfBelow (λ (k : ℕ). IsSaidFor image section (get_or near k no_bound)) (length near)) (OfSome (IsSaidFor image section) near) old new
    (λ x. below_listed (IsSaidFor image section) near no_bound x)
    (subst (λ (n : ℕ). WereGathered (OfBelow (λ (k : ℕ). IsSaidFor image section (get_or near k no_bound)) n) old new) all c.loop-bound.invariant) in
    gathered_same (OfSome (IsSaidFor image section) near) (IsSaidBy image bounds section) old new
    (λ s. (
      λ (bound, has, said). (bound, c.bounds_near-near.ensures.inside bound has, said),
      λ (bound, has, (index, pointer, said)).
          (bound, c.bounds_near-near.ensures.all bound index has (subst (λ (bytes : List ℕ). IsPointerOf bytes section bound index) (sym c.requires.image) pointer), (index, pointer, said)),
    ))
    listed
