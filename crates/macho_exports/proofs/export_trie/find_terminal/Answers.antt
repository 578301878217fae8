use Rattle.std.proofs.Common.{◌≡◌, ◌∙◌, ◌-◌, ◌+◌, ◌≤◌, ◌==◌, ◌⊎◌, false, inl, inr, length, sym, ap₂, arith}
use Rattle.macho_fields.specs.Bytes.{bytes_of}
use Rattle.macho_exports.specs.ExportTrie.{terminal_from, find_terminal}
use Rattle.macho_exports.proofs.ExportTries.{way_headless, way_edgeless, way_node, node_within, way_long, way_ended, way_stuck, way_led, one_met, none_met}
use Rattle.macho_exports.proofs.export_trie.find_terminal.Goals as goal
use Rattle.macho_exports.proofs.export_trie.find_terminal.Goals.{else-is_empty-via-then-is_empty+else-node-gt0, else-is_empty-via-else-is_empty}

pub loop-init : goal.loop-init
unfolding find_terminal
loop-init c = record {
  most = c.len-end.ensures.count;
  same = ap₂ (λ most left. terminal_from most (bytes_of c.args.trie) left 0 c.args.name.now) (let most = c.len-end.ensures.count in omega arith) c.len-left.ensures.count;
}

pub returns-in_err-node-clause-terminal : goal.returns-in_err-node-clause-terminal
returns-in_err-node-clause-terminal c =
    let trie = bytes_of c.args.trie in
    let at = one_met c.len-end.result c.loop.counter trie c.loop.left c.loop.place c.loop.rest.now _ c.loop-test.true c.loop.invariant.same in
    c.from_residual.ensures
    ∙ (sym (way_headless (c.len-end.result - (c.loop.counter + 1)) trie c.loop.left c.loop.place c.loop.rest.now (sym c.in_err-node.ensures.head)) ∙ at)

pub returns-in_err-edge-clause-terminal : goal.returns-in_err-edge-clause-terminal
returns-in_err-edge-clause-terminal c =
    let trie = bytes_of c.args.trie in
    let at = one_met c.len-end.result c.loop.counter trie c.loop.left c.loop.place c.loop.rest.now _ c.loop-test.true c.loop.invariant.same in
    c.from_residual-in_err-edge.ensures
    ∙ (sym (way_edgeless (c.len-end.result - (c.loop.counter + 1)) trie c.loop.left c.loop.place c.loop.rest.now c.in_ok-node.node (sym c.in_ok-node.ensures.head) c.in_err-edge.ensures.first) ∙ at)

pub overflow_sub-end : goal.overflow_sub-end
overflow_sub-end c =
    let past = node_within 0 (bytes_of c.args.trie) c.loop.left c.loop.place c.loop.rest.now c.in_ok-node.node c.in_ok-edge.edge c.in_ok-edge.end (sym c.in_ok-node.ensures.head) c.in_ok-edge.ensures.first in
    omega arith

pub returns-in_err-left-clause-terminal : goal.returns-in_err-left-clause-terminal
returns-in_err-left-clause-terminal c =
    let trie = bytes_of c.args.trie in
    let most = c.len-end.result - (c.loop.counter + 1) in
    let name = c.loop.rest.now in
    let at = one_met c.len-end.result c.loop.counter trie c.loop.left c.loop.place name _ c.loop-test.true c.loop.invariant.same in
    let node = way_node most trie c.loop.left c.loop.place name c.in_ok-node.node c.in_ok-edge.edge c.in_ok-edge.end (sym c.in_ok-node.ensures.head) c.in_ok-edge.ensures.first in
    let past = c.in_err-left.ensures in
    let long = way_long most trie c.loop.left c.loop.place name c.in_ok-node.node.terminal c.in_ok-edge.edge c.in_ok-edge.end (omega (arith, past)) in
    c.from_residual-in_err-left.ensures ∙ (sym long ∙ (sym node ∙ at))

pub returns-then-node-gt0-clause-terminal : goal.returns-then-node-gt0-clause-terminal
returns-then-node-gt0-clause-terminal c =
    let trie = bytes_of c.args.trie in
    let most = c.len-end.result - (c.loop.counter + 1) in
    let name = c.loop.rest.now in
    let at = one_met c.len-end.result c.loop.counter trie c.loop.left c.loop.place name _ c.loop-test.true c.loop.invariant.same in
    let node = way_node most trie c.loop.left c.loop.place name c.in_ok-node.node c.in_ok-edge.edge c.in_ok-edge.end (sym c.in_ok-node.ensures.head) c.in_ok-edge.ensures.first in
    let ended = way_ended most trie c.loop.left c.loop.place name c.in_ok-node.node.terminal c.in_ok-edge.edge c.in_ok-edge.end
    c.in_ok-left.ensures.0 (sym c.if-is_empty.ensures) c.if-node-gt0.true in
    sym ended ∙ (sym node ∙ at)

pub returns-in_err-edge-2-clause-terminal : goal.returns-in_err-edge-2-clause-terminal
returns-in_err-edge-2-clause-terminal c =
    let trie = bytes_of c.args.trie in
    let most = c.len-end.result - (c.loop.counter + 1) in
    let name = c.loop.rest.now in
    let at = one_met c.len-end.result c.loop.counter trie c.loop.left c.loop.place name _ c.loop-test.true c.loop.invariant.same in
    let node = way_node most trie c.loop.left c.loop.place name c.in_ok-node.node c.in_ok-edge.edge c.in_ok-edge.end (sym c.in_ok-node.ensures.head) c.in_ok-edge.ensures.first in
    let goes : ((length name == 0) ≡ false) ⊎ (c.in_ok-node.node.terminal.len ≤ 0) = elim c.else-is_empty.branch [
      | else-is_empty-via-then-is_empty+else-node-gt0 w ↦ inr (omega (arith, w.if-node-gt0.false))
      | else-is_empty-via-else-is_empty w ↦ inl (sym w.if-is_empty.ensures)
    ] in
    let stuck = way_stuck most trie c.loop.left c.loop.place name c.in_ok-node.node.terminal c.in_ok-edge.edge c.in_ok-edge.end
    c.in_ok-left.ensures.0 goes c.in_err-edge-2.was in
    c.from_residual-in_err-edge-2.ensures ∙ (sym stuck ∙ (sym node ∙ at))

pub loop-preserved : goal.loop-preserved
loop-preserved c =
    let trie = bytes_of c.args.trie in
    let most = c.len-end.result - (c.loop.counter + 1) in
    let name = c.loop.rest.now in
    let at = one_met c.len-end.result c.loop.counter trie c.loop.left c.loop.place name _ c.loop-test.true c.loop.invariant.same in
    let node = way_node most trie c.loop.left c.loop.place name c.in_ok-node.node c.in_ok-edge.edge c.in_ok-edge.end (sym c.in_ok-node.ensures.head) c.in_ok-edge.ensures.first in
    let goes : ((length name == 0) ≡ false) ⊎ (c.in_ok-node.node.terminal.len ≤ 0) = elim c.else-is_empty.branch [
      | else-is_empty-via-then-is_empty+else-node-gt0 w ↦ inr (omega (arith, w.if-node-gt0.false))
      | else-is_empty-via-else-is_empty w ↦ inl (sym w.if-is_empty.ensures)
    ] in
    let led = way_led most trie c.loop.left c.loop.place name c.in_ok-node.node.terminal c.in_ok-edge.edge c.in_ok-edge.end c.in_ok-edge-2.edge
    c.in_ok-left.ensures.0 goes c.in_ok-edge-2.was in record {
      most = c.loop.invariant.most;
      same = ap₂ (λ left rest. terminal_from most trie left c.in_ok-edge-2.edge.child rest) c.in_ok-left.ensures.1 c.rest-rest.ensures ∙ (sym led ∙ (sym node ∙ at));
    }

pub returns-clause-terminal : goal.returns-clause-terminal
returns-clause-terminal c = none_met c.len-end.result c.loop.counter (bytes_of c.args.trie) c.loop.left c.loop.place c.loop.rest.now _ (omega arith) c.loop.invariant.same
