use Rattle.std.proofs.Common.{◌∙◌, ℕ, List, sym, subst}
use Rattle.std.proofs.lemmas.Option.{none-some, same_Some}
use Rattle.macho_alike.specs.Bounds.{IsSaidAt, IsSaidFor}
use Rattle.macho_alike.specs.Indirects.{IsPointerOf}
use Rattle.macho_alike.proofs.Gathered.{gathered_none, if_ok_same}
use Rattle.macho_alike.proofs.indirects.add_bound.Goals as goal

pub returns-in-Some : goal.returns-in-Some
returns-in-Some c =
    let image = c.args.image.now in
    let section : ℕ × ℕ = (c.args.section.now.segment, c.args.section.now.place) in
    let bound = c.args.bound.now in
    let index = c.in-Some.index in
    let pointer = subst (λ (bytes : List ℕ). IsPointerOf bytes section bound index) c.requires.image ((c.entry_index.ensures index).1 c.in-Some.is) in
    if_ok_same (IsSaidAt image index bound.name) (IsSaidFor image section bound) c.args.said.now.items c.add_entry.new.said.items c.add_entry.result
    (λ s. (
      λ at. (index, pointer, at),
      λ (other, also, at).
          let there = (c.entry_index.ensures other).0 (subst (λ (bytes : List ℕ). IsPointerOf bytes section bound other) (sym c.requires.image) also) in
          subst (λ (n : ℕ). IsSaidAt image n bound.name s) (same_Some _ _ (sym there ∙ c.in-Some.is)) at,
    ))
    c.add_entry.ensures

pub returns-in-None : goal.returns-in-None
returns-in-None c =
    let section : ℕ × ℕ = (c.args.section.now.segment, c.args.section.now.place) in
    let bound = c.args.bound.now in
    gathered_none (IsSaidFor c.args.image.now section bound) c.args.said.now.items
    (λ s (other, also, at). none-some other (sym c.in-None.is ∙ (c.entry_index.ensures other).0 (subst (λ (bytes : List ℕ). IsPointerOf bytes section bound other) (sym c.requires.image) also)))
