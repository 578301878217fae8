use Rattle.std.proofs.Common.{◌≡◌, ℕ, subst, arith}
use Rattle.macho_alike.specs.BindLists.{WereAdded, AreSpread}
use Rattle.macho_alike.proofs.BindLists.{spread_none, spread_more}
use Rattle.macho_alike.proofs.binds.add_pointers.Goals as goal

pub loop-k-init : goal.loop-k-init
loop-k-init c = spread_none c.args.first c.args.skip c.args.binds.now.items

pub loop-k-preserved : goal.loop-k-preserved
loop-k-preserved c =
    spread_more c.args.first c.args.skip c.args.binds.now.items c.loop-k.k c.loop-k.binds.items c.push.new.self.items c.loop-k.invariant c.spread.result c.spread.ensures c.in_ok-push.ensures.items

pub returns-clause-added : goal.returns-clause-added
returns-clause-added c =
    let all : c.loop-k.k ≡ c.args.count = omega (arith, c.loop-k.auto.k-end, c.loop-k-test.false) in
    subst (λ (k : ℕ). WereAdded (AreSpread c.args.first k c.args.skip) c.args.binds.now.items c.loop-k.binds.items) all c.loop-k.invariant
