use Rattle.std.proofs.Common.{◌≡◌, ◌∙◌, ◌+◌, ◌-◌, suc, List, ℕ, Vec, Global, refl, sym, ap, subst, arith}
use Rattle.macho_fields.specs.Bytes.{bytes_of}
use Rattle.macho_exports.proofs.ExportTries.{edge_within}
use Rattle.macho_alike.proofs.TrieBranches.{AreRead, read_start, read_over, read_skip, read_push, read_end}
use Rattle.macho_alike.specs.declared.trie.Branch.{Branch}
use Rattle.macho_alike.proofs.trie.read_branches.Goals as goal
use Rattle.macho_alike.proofs.trie.read_branches.Goals.{in-Some-branch_along+in_ok-push, in_default-branch_along}

pub loop-init : goal.loop-init
loop-init c =
    let image = bytes_of c.args.image in
    let trie = bytes_of c.args.trie in
    let all : c.args.node.edge_count - 0 ≡ c.args.node.edge_count = omega arith in
    record {
      count = refl;
      read =
          subst (λ (n : ℕ). AreRead image trie c.args.names.now c.args.parent c.args.node n c.args.node.edges c.clear.new.self.items) (sym all)
          (subst (AreRead image trie c.args.names.now c.args.parent c.args.node c.args.node.edge_count c.args.node.edges) (sym c.clear.ensures.items)
          (read_start image trie c.args.names.now c.args.parent c.args.node));
    }

pub returns-in_default : goal.returns-in_default
returns-in_default c =
    let image = bytes_of c.args.image in
    let trie = bytes_of c.args.trie in
    let left = c.args.node.edge_count - (c.loop.counter + 1) in
    let step : c.args.node.edge_count - c.loop.counter ≡ suc left = omega (arith, c.loop-test.true) in
    let read = subst (λ (n : ℕ). AreRead image trie c.args.names.now c.args.parent c.args.node n c.loop.place c.loop.branches.items) step c.loop.invariant.read in
    read_over image trie c.args.names.now c.args.parent c.args.node left c.loop.place c.loop.branches.items read (sym c.read.ensures ∙ c.in_default.is)

pub branch_along-requires-clause-label : goal.branch_along-requires-clause-label
branch_along-requires-clause-label c = (edge_within (bytes_of c.args.trie) c.loop.place c.in-Some.edge c.in-Some.next (sym c.in-Some.ensures)).1

pub loop-preserved : goal.loop-preserved
loop-preserved c =
    let image = bytes_of c.args.image in
    let trie = bytes_of c.args.trie in
    let left = c.args.node.edge_count - (c.loop.counter + 1) in
    let step : c.args.node.edge_count - c.loop.counter ≡ suc left = omega (arith, c.loop-test.true) in
    let read = subst (λ (n : ℕ). AreRead image trie c.args.names.now c.args.parent c.args.node n c.loop.place c.loop.branches.items) step c.loop.invariant.read in
    let is_read = λ (branches : List Branch). AreRead image trie c.args.names.now c.args.parent c.args.node left c.in-Some.next branches in
    record {
      count = refl;
      read = elim c.match-branch_along.branch [
        | in-Some-branch_along+in_ok-push w ↦
            subst is_read (sym (ap (λ (v : Vec Branch Global). v.items) w.branches-is ∙ w.in_ok-push.ensures.items))
            (read_push image trie c.args.names.now c.args.parent c.args.node left c.loop.place c.loop.branches.items read c.in-Some.edge c.in-Some.next (sym c.in-Some.ensures)
            c.branch_along.result w.in-Some-branch_along.branch w.in-Some-branch_along.is c.branch_along.ensures)
        | in_default-branch_along w ↦
            subst is_read (sym (ap (λ (v : Vec Branch Global). v.items) w.branches-is))
            (read_skip image trie c.args.names.now c.args.parent c.args.node left c.loop.place c.loop.branches.items read c.in-Some.edge c.in-Some.next (sym c.in-Some.ensures)
            c.branch_along.result w.in_default-branch_along.is c.branch_along.ensures)
      ];
    }

pub returns : goal.returns
returns c =
    let image = bytes_of c.args.image in
    let trie = bytes_of c.args.trie in
    let none : c.args.node.edge_count - c.loop.counter ≡ 0 = omega (arith, c.loop-test.false) in
    read_end image trie c.args.names.now c.args.parent c.args.node c.loop.place c.loop.branches.items
    (subst (λ (n : ℕ). AreRead image trie c.args.names.now c.args.parent c.args.node n c.loop.place c.loop.branches.items) none c.loop.invariant.read)
