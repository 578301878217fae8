use Rattle.std.proofs.Common.{◌≡◌, ◌≤◌, ◌∙◌, Option, IfSome, length, refl, sym, subst}
use Rattle.macho_fields.specs.Bytes.{bytes_of}
use Rattle.macho_exports.specs.declared.export_trie.ExportEdge.{ExportEdge}
use Rattle.macho_exports.proofs.ExportTries.{or_edge, edge_within, follow_next, or_this, or_first, or_found}
use Rattle.macho_exports.proofs.export_trie.ExportNode.follow.Goals as goal
use Rattle.macho_exports.proofs.export_trie.ExportNode.follow.Goals.{then-is_none+then-begins, else-is_none, else-is_none-via-then-is_none+else-begins, else-is_none-via-else-is_none}

pub begins-requires : goal.begins-requires
begins-requires c =
    (edge_within (bytes_of c.args.trie) c.loop.place c.in_ok-edge.edge c.in_ok-edge.next (sym c.in_ok-edge.ensures)).1

pub loop-preserved : goal.loop-preserved
loop-preserved c =
    let trie = bytes_of c.args.trie in
    let name = c.args.name.now in
    let edge = c.in_ok-edge.edge in
    let then : (c.if-is_none.first ≡ or_edge trie name c.loop.first edge) × IfSome c.if-is_none.first (λ e. e.label.len ≤ length name) =
    elim c.if-is_none.branch [
      | then-is_none+then-begins w ↦ (
        w.first-is ∙ sym (or_this trie name c.loop.first edge w.if-is_none.ensures (sym w.if-begins.ensures.begins)),
        subst (λ (first : Option ExportEdge). IfSome first (λ e. e.label.len ≤ length name)) (sym w.first-is) (w.if-begins.ensures.fits refl),
      )
      | else-is_none w ↦ (
        w.first-is ∙ sym (elim w.else-is_none.branch [
          | else-is_none-via-then-is_none+else-begins w' ↦ or_first trie name c.loop.first edge (sym w'.if-begins.ensures.begins)
          | else-is_none-via-else-is_none w' ↦ or_found trie name c.loop.first edge w'.if-is_none.ensures
        ]),
        subst (λ (first : Option ExportEdge). IfSome first (λ e. e.label.len ≤ length name)) (sym w.first-is) c.loop.invariant.fits,
      )
    ] in record {
      count = c.loop.invariant.count;
      same = follow_next c.args.self.edge_count c.loop.counter trie c.loop.place name c.loop.first c.if-is_none.first edge c.in_ok-edge.next c.loop-test.true (sym c.in_ok-edge.ensures) then.0
          ∙ c.loop.invariant.same;
      fits = then.1;
    }
