use Rattle.std.proofs.Common.{◌<◌, ◌≤◌, ◌-◌, List, ℕ, Option, IfSome, length, subst, arith, inl, inr}
use Rattle.std.specs.Option.{SomeIff}
use Rattle.std.proofs.lemmas.Bool.{cases_lt}
use Rattle.macho_fields.specs.Bytes.{bytes_of}
use Rattle.macho_spans.specs.Span.{end_of}
use Rattle.macho_exports.specs.ExportNodes.{waiting_places}
use Rattle.macho_exports.specs.declared.export_walk.MetNode.{MetNode}
use Rattle.macho_alike.proofs.ExportWalks.{IsWalkedTo, walked_start, walked_all, search_endless, search_past, search_more}
use Rattle.macho_alike.proofs.exports.least_unclear.Goals as goal

pub loop-place-init : goal.loop-place-init
loop-place-init c = rw (c.in_ok-waiting.ensures, c.len-left.ensures.count) (walked_start (bytes_of c.args.trie))

pub returns-in_default-2 : goal.returns-in_default-2
returns-in_default-2 c =
    search_endless (bytes_of c.args.trie) c.loop-place.left c.in-Some.place (waiting_places c.loop-place.waiting) (waiting_places c.next.new.self) (waiting_places c.meet.new.self)
    c.loop-place.least c.in-Some.ensures c.loop-place.invariant c.in_ok-node.field-0 c.in_default-2.is c.in_ok-node.ensures.met

pub returns-in_default-checked_sub : goal.returns-in_default-checked_sub
returns-in_default-checked_sub c =
    let size = c.in-Some-2.node.end - c.in-Some.place in
    let past : c.loop-place.left < size = elim (cases_lt c.loop-place.left size) [
      | inl past ↦ past
      | inr fits ↦ absurd (subst (λ (o : Option ℕ). SomeIff o (size ≤ c.loop-place.left) (c.loop-place.left - size)) c.in_default-checked_sub.is c.checked_sub.ensures fits)
    ] in
    search_past (bytes_of c.args.trie) c.loop-place.left c.in-Some.place (waiting_places c.loop-place.waiting) (waiting_places c.next.new.self) (waiting_places c.meet.new.self)
    c.loop-place.least c.in-Some.ensures c.loop-place.invariant c.in_ok-node.field-0 c.in-Some-2.node c.in-Some-2.is c.in_ok-node.ensures.met past

pub loop-place-preserved : goal.loop-place-preserved
loop-place-preserved c =
    let (begins, inside) = subst (λ (o : Option MetNode). IfSome o (λ met. (c.in-Some.place < met.end) × (end_of met.terminal ≤ length (bytes_of c.args.trie)))) c.in-Some-2.is c.in_ok-node.ensures.inside in
    search_more (bytes_of c.args.trie) c.loop-place.left c.in-Some.place (waiting_places c.loop-place.waiting) (waiting_places c.next.new.self) (waiting_places c.meet.new.self)
    c.loop-place.least c.in-Some.ensures c.loop-place.invariant c.in_ok-node.field-0 c.in-Some-2.node c.in-Some-2.is c.in_ok-node.ensures.met
    begins (omega arith) c.in-Some-checked_sub.rest (omega arith) c.in_ok-has_clash.field-0 c.least_with-least.result c.in_ok-has_clash.ensures c.least_with-least.ensures

pub loop-place-smaller : goal.loop-place-smaller
loop-place-smaller c =
    let (begins, inside) = subst (λ (o : Option MetNode). IfSome o (λ met. (c.in-Some.place < met.end) × (end_of met.terminal ≤ length (bytes_of c.args.trie)))) c.in-Some-2.is c.in_ok-node.ensures.inside in
    omega (arith, begins)

pub returns : goal.returns
returns c =
    walked_all (bytes_of c.args.trie) c.loop-place.left c.loop-place.least
    (subst (λ (w : List ℕ). IsWalkedTo (bytes_of c.args.trie) c.loop-place.left w c.loop-place.least) c.in_default.ensures c.loop-place.invariant)
