use Rattle.std.proofs.Common.{◌≡◌, ◌∙◌, ◌++◌, List, ℕ, Some, reverse, sym, ap, subst}
use Rattle.macho_fields.specs.Bytes.{bytes_of}
use Rattle.macho_exports.specs.ExportNodes.{AreChildren, IsMetAt}
use Rattle.macho_exports.proofs.ExportNodes.{met_headless, met_edgeless, met_children, met_within}
use Rattle.macho_exports.proofs.export_walk.Waiting.meet.Goals as goal

pub returns-in_default-clause-met : goal.returns-in_default-clause-met
returns-in_default-clause-met c = met_headless (bytes_of c.args.trie) c.args.place (sym c.read.ensures.head ∙ c.in_default.is)

pub returns-in_default-2-clause-met : goal.returns-in_default-2-clause-met
returns-in_default-2-clause-met c =
    let trie = bytes_of c.args.trie in
    met_edgeless trie c.args.place c.in-Some.node (sym c.in-Some.ensures.head)
    (subst (AreChildren trie c.in-Some.node c.clear.new.self.items c.read_children.new.children.items) c.in_default-2.is c.in_ok-end.ensures)

pub returns-clause-met : goal.returns-clause-met
returns-clause-met c =
    let trie = bytes_of c.args.trie in
    let stack = c.args.self.now.stack.items in
    let fresh = c.read_children.new.children.items in
    let read = subst (AreChildren trie c.in-Some.node c.clear.new.self.items fresh) c.in-Some-2.is c.in_ok-end.ensures in
    let are = subst (λ (old : List ℕ). AreChildren trie c.in-Some.node old fresh (Some c.in-Some-2.end)) c.clear.ensures.items read in
    let same : c.extend_from_slice.new.self.items ≡ stack ++ reverse fresh =
    c.in_ok-extend_from_slice.ensures.items ∙ ap (λ (p : List ℕ). stack ++ p) (c.deref.ensures.value ∙ c.reverse.ensures.items) in
    subst (λ (p : List ℕ). IsMetAt trie c.args.place (reverse stack) (reverse p) (Some (record { terminal = c.in-Some.node.terminal; end = c.in-Some-2.end }))) (sym same)
    (met_children trie c.args.place c.in-Some.node c.in-Some-2.end stack fresh (sym c.in-Some.ensures.head) are)

pub returns-clause-inside : goal.returns-clause-inside
returns-clause-inside c =
    let trie = bytes_of c.args.trie in
    met_within trie c.args.place c.in-Some.node c.in-Some-2.end c.clear.new.self.items c.read_children.new.children.items (sym c.in-Some.ensures.head)
    (subst (AreChildren trie c.in-Some.node c.clear.new.self.items c.read_children.new.children.items) c.in-Some-2.is c.in_ok-end.ensures)
