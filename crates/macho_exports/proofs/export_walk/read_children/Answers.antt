use Rattle.std.proofs.Common.{◌∙◌, refl, sym}
use Rattle.macho_fields.specs.Bytes.{bytes_of}
use Rattle.macho_exports.proofs.ExportNodes.{read_next, read_over, children_endless}
use Rattle.macho_exports.proofs.export_walk.read_children.Goals as goal

pub returns-in_default : goal.returns-in_default
returns-in_default c =
    let trie = bytes_of c.args.trie in
    let over = read_over c.args.node.edge_count c.loop.counter trie c.loop.place c.loop.children.items c.loop-test.true (sym c.read.ensures ∙ c.in_default.is) in
    children_endless trie c.args.node c.args.children.now.items c.loop.children.items (sym over ∙ c.loop.invariant.same)

pub loop-preserved : goal.loop-preserved
loop-preserved c =
    let next = read_next c.args.node.edge_count c.loop.counter (bytes_of c.args.trie) c.loop.place c.loop.children.items c.in-Some.edge c.in-Some.next c.loop-test.true (sym c.in-Some.ensures) in
    record { count = refl; same = rw c.in_ok-push.ensures.items (next ∙ c.loop.invariant.same) }
