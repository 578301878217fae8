use Rattle.std.proofs.Common.{◌≡◌, ℕ, get_or, length, Contains, subst, arith}
use Rattle.macho_alike.specs.Bounds.{WereGathered, IsBoundBy}
use Rattle.macho_alike.specs.declared.binds.Bind.{Bind}
use Rattle.macho_alike.specs.declared.bounds.Bound.{Bound}
use Rattle.macho_alike.proofs.BindPairs.{no_bind}
use Rattle.macho_alike.proofs.Gathered.{OfBelow, below_start, below_more, below_listed, gathered_same}
use Rattle.macho_alike.proofs.bounds.add_binds.Goals as goal

pub loop-bind-init : goal.loop-bind-init
loop-bind-init c = below_start (λ (k : ℕ). IsBoundBy c.args.segments.now (get_or c.args.binds.now k no_bind)) c.args.bounds.now.items

pub loop-bind-preserved : goal.loop-bind-preserved
loop-bind-preserved c =
    below_more (λ (k : ℕ). IsBoundBy c.args.segments.now (get_or c.args.binds.now k no_bind)) c.loop-bind.bind-index c.args.bounds.now.items c.loop-bind.bounds.items c.add_bind.new.bounds.items
    c.loop-bind.invariant c.in_ok-add_bind.ensures

pub returns : goal.returns
returns c =
    let binds = c.args.binds.now in
    let segments = c.args.segments.now in
    let old = c.args.bounds.now.items in
    let all : c.loop-bind.bind-index ≡ length binds = omega (arith, c.loop-bind.auto.bind-index-end, c.loop-bind-test.false) in
    gathered_same (OfBelow (λ (k : ℕ). IsBoundBy segments (get_or binds k no_bind)) (length binds)) (λ (bound : Bound). (bind : Bind) × Contains binds bind × IsBoundBy segments bind bound) old c.loop-bind.bounds.items
    (λ x. below_listed (IsBoundBy segments) binds no_bind x)
    (subst (λ (n : ℕ). WereGathered (OfBelow (λ (k : ℕ). IsBoundBy segments (get_or binds k no_bind)) n) old c.loop-bind.bounds.items) all c.loop-bind.invariant)
