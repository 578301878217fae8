use Rattle.std.proofs.Common.{◌≡◌, ◌∙◌, ◌∷◌, ◌++◌, [], List, ℕ, refl, sym, ap}
use Rattle.std.specs.Borrow.{Bor}
use Rattle.std.proofs.lemmas.List.{map-append}
use Rattle.macho_fields.specs.Bytes.{bytes_of}
use Rattle.macho_exports.proofs.ExportTries.{edge_within}
use Rattle.macho_alike.specs.Exports.{label_of}
use Rattle.macho_alike.specs.Labels.{texts}
use Rattle.macho_alike.proofs.Labels.{read_next, read_over, read_all, labels_read, labels_endless}
use Rattle.macho_alike.proofs.exports.read_labels.Goals as goal

pub returns-in_default : goal.returns-in_default
returns-in_default c =
    let trie = bytes_of c.args.trie in
    let over = read_over c.args.node.edge_count c.loop.counter trie c.loop.place (texts c.loop.labels.items) c.loop-test.true (sym c.read.ensures ∙ c.in_default.is) in
    labels_endless trie c.args.node c.args.labels.now.items c.loop.labels.items (sym over ∙ c.loop.invariant.same)

pub read_part-requires : goal.read_part-requires
read_part-requires c = (edge_within (bytes_of c.args.trie) c.loop.place c.in-Some.edge c.in-Some.next (sym c.in-Some.ensures)).1

pub loop-preserved : goal.loop-preserved
loop-preserved c =
    let next = read_next c.args.node.edge_count c.loop.counter (bytes_of c.args.trie) c.loop.place (texts c.loop.labels.items) c.in-Some.edge c.in-Some.next c.loop-test.true (sym c.in-Some.ensures) in
    let label : c.read_part.result.now ≡ label_of (bytes_of c.args.trie) c.in-Some.edge = c.read_part.ensures in
    let added : texts c.push.new.self.items ≡ texts c.loop.labels.items ++ label_of (bytes_of c.args.trie) c.in-Some.edge ∷ [] =
    ap texts c.in_ok-push.ensures.items ∙ (map-append (λ (l : Bor (List ℕ)). l.now) c.loop.labels.items (c.read_part.result ∷ []) ∙ ap (λ (l : List ℕ). texts c.loop.labels.items ++ l ∷ []) label) in
    record { count = refl; same = rw added (next ∙ c.loop.invariant.same) }

pub returns : goal.returns
returns c =
    labels_read (bytes_of c.args.trie) c.args.node c.args.labels.now.items c.loop.labels.items
    (sym (read_all c.args.node.edge_count c.loop.counter (bytes_of c.args.trie) c.loop.place (texts c.loop.labels.items) c.loop-test.false) ∙ c.loop.invariant.same)
