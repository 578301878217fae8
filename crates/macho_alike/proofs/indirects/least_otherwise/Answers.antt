use Rattle.std.proofs.Common.{◌≡◌, ◌∙◌, ℕ, List, length, map, Contains, Option, None, rules, sym, subst}
use Rattle.std.specs.Prelude.{IsPermutation, Result, Ok, Err, IfOk}
use Rattle.std.proofs.lemmas.List.Sorted.{IsPermutation-sym, Contains-permutation, IsNonDecreasingBy-from_sort_by_key}
use Rattle.macho_fields.specs.FirstPlace.{IsLeastPlace}
use Rattle.macho_tables.proofs.Places.{least_same}
use Rattle.macho_alike.specs.BindLists.{AreInside, ClashAt}
use Rattle.macho_alike.specs.Bounds.{bind_of, SaysOtherwise}
use Rattle.macho_alike.specs.declared.binds.Bind.{Bind}
use Rattle.macho_alike.specs.declared.indirects.Said.{Said}
use Rattle.macho_alike.proofs.SaidNames.{said_inside, otherwise_moved}
use Rattle.macho_alike.proofs.indirects.least_otherwise.Goals as goal

pub agree-requires : goal.agree-requires
agree-requires c = IsNonDecreasingBy-from_sort_by_key (λ one. one.index) _ c.sort_unstable_by_key.ensures.sorted (λ a r q k. search rules)

pub returns-then-agree : goal.returns-then-agree
returns-then-agree c =
    let image = c.args.image.now in
    let old = c.args.said.now in
    let sorted = c.sort_unstable_by_key.new.self in
    least_same (SaysOtherwise image sorted) (SaysOtherwise image old) None (otherwise_moved image old sorted c.sort_unstable_by_key.ensures.permutation) (c.agree.ensures c.if-agree.true)

-- in another order
over : (old new : List Said) → IsPermutation old new → (one : Said) → Contains new one → Contains old one
over old new moved one has = Contains-permutation new old one (IsPermutation-sym old new moved) has

pub least_shared-requires : goal.least_shared-requires
least_shared-requires c =
    let image = c.args.image.now in
    let old = c.args.said.now in
    let sorted = c.sort_unstable_by_key.new.self in
    let new = c.sort_unstable_by_key-2.new.self in
    subst (AreInside (length image)) (sym (c.deref_mut.ensures.value ∙ c.in_ok-binds.ensures))
    (said_inside image new (λ one has. c.requires one (over old sorted c.sort_unstable_by_key.ensures.permutation one (over sorted new c.sort_unstable_by_key-2.ensures.permutation one has))))

least_of : {E : Type 0} (image : List ℕ) (old new : List Said) (binds : List Bind) (r : Result (Option ℕ) E) → binds ≡ map (bind_of image) new → ((place : ℕ) → (SaysOtherwise image new place → SaysOtherwise image old place) × (SaysOtherwise image old place → SaysOtherwise image new place))
    → IfOk r (IsLeastPlace (ClashAt image binds)) → IfOk r (IsLeastPlace (SaysOtherwise image old))
least_of image old new binds (Ok found) is moved least = least_same (SaysOtherwise image new) (SaysOtherwise image old) found moved (subst (λ (bs : List Bind). IsLeastPlace (ClashAt image bs) found) is least)
least_of image old new binds (Err e) is moved least = tt

pub returns : goal.returns
returns c =
    let image = c.args.image.now in
    let old = c.args.said.now in
    let sorted = c.sort_unstable_by_key.new.self in
    let new = c.sort_unstable_by_key-2.new.self in
    let of_new = otherwise_moved image sorted new c.sort_unstable_by_key-2.ensures.permutation in
    let of_sorted = otherwise_moved image old sorted c.sort_unstable_by_key.ensures.permutation in
    least_of image old new c.deref_mut.result.now c.least_shared.result (c.deref_mut.ensures.value ∙ c.in_ok-binds.ensures)
    (λ place. (λ breaks. (of_sorted place).0 ((of_new place).0 breaks), λ breaks. (of_new place).1 ((of_sorted place).1 breaks))) c.least_shared.ensures.least
