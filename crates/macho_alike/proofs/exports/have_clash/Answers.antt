use Rattle.std.proofs.Common.{ℕ, List, refl, subst}
use Rattle.std.proofs.lemmas.Bool.{both_ways}
use Rattle.macho_alike.specs.Exports.{HasClash}
use Rattle.macho_alike.proofs.Labels.{no_clash, clash_next, clash_found, all_texts}
use Rattle.macho_alike.proofs.exports.have_clash.Goals as goal

pub loop-count-init : goal.loop-count-init
loop-count-init c = no_clash

pub loop-count-preserved : goal.loop-count-preserved
loop-count-preserved c =
    clash_next c.args.labels.now c.loop-count.count _ c.loop-count-test.true c.loop-count.invariant (λ bad. both_ways c.clashes.result c.if-clashes.false (c.clashes.ensures.1 bad))

pub returns-then-clashes : goal.returns-then-clashes
returns-then-clashes c =
    let has = clash_found c.args.labels.now c.loop-count.count _ c.loop-count-test.true (c.clashes.ensures.0 c.if-clashes.true) in (λ _. has, λ _. refl)

pub returns : goal.returns
returns c =
    let none = subst (λ (labels : List (List ℕ)). ¬ HasClash labels) (all_texts c.args.labels.now c.loop-count.count c.loop-count-test.false) c.loop-count.invariant in
    (λ wrong. absurd (cc), λ has. absurd (none has))
