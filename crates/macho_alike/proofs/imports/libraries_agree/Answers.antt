use Rattle.std.proofs.Common.{◌≡◌, ◌<◌, [], length, rules, sym, subst, arith}
use Rattle.std.specs.List.Sorted.{IsNonDecreasingBy}
use Rattle.std.proofs.lemmas.Grind.{common_steps}
use Rattle.std.proofs.lemmas.List.Sorted.{IsNonDecreasingBy-from_sort_by_key}
use Rattle.macho_alike.specs.Claims.{Agree}
use Rattle.macho_alike.specs.declared.claims.Claim.{Claim}
use Rattle.macho_alike.proofs.AgreedClaims.{none_claimed, some_claimed, none_by_claims, agree_moved}
use Rattle.macho_alike.proofs.BindLists.{on_any_err}
use Rattle.macho_alike.proofs.imports.libraries_agree.Goals as goal

pub agree-requires : goal.agree-requires
agree-requires c =
    subst (IsNonDecreasingBy (λ (claim : Claim). claim.hash)) (sym c.deref.ensures.value)
    (IsNonDecreasingBy-from_sort_by_key (λ (claim : Claim). claim.hash) c.sort_unstable_by_key.new.self.items c.sort_unstable_by_key.ensures.sorted (λ a r q k. search rules))

pub returns-then-is_empty-clause-agree : goal.returns-then-is_empty-clause-agree
returns-then-is_empty-clause-agree c = λ _.
    let (looks, listed, are) = c.in_ok-note_look_ups.ensures.noted [] c.new-claims.ensures.items in
    let empty : length c.note_look_ups.new.notes.items ≡ 0 = grind (arith, common_steps) in
    none_claimed c.args.image.now looks listed c.note_look_ups.new.notes.items are empty

pub returns-in_err-claim_symbols-clause-memory : goal.returns-in_err-claim_symbols-clause-memory
returns-in_err-claim_symbols-clause-memory c =
    let (looks, listed, are) = c.in_ok-note_look_ups.ensures.noted [] c.new-claims.ensures.items in
    let some : 0 < length c.note_look_ups.new.notes.items = grind (arith, common_steps) in
    on_any_err _ c.from_residual-in_err-claim_symbols.result (some_claimed c.args.image.now looks listed c.note_look_ups.new.notes.items are some)

pub returns-clause-agree : goal.returns-clause-agree
returns-clause-agree c = λ t.
    let (looks, listed, are) = c.in_ok-note_look_ups.ensures.noted [] c.new-claims.ensures.items in
    none_by_claims c.args.image.now looks listed c.note_look_ups.new.notes.items are c.claim_symbols.new.claims.items c.in_ok-claim_symbols.ensures.kept c.in_ok-claim_symbols.ensures.claimed
    (agree_moved c.claim_symbols.new.claims.items c.sort_unstable_by_key.new.self.items c.sort_unstable_by_key.ensures.permutation (subst Agree c.deref.ensures.value (c.agree.ensures t)))
