use Rattle.std.proofs.Common.{◌<◌, ◌≤◌, ◌-◌, List, ℕ, Option, IfSome, length, subst, arith, inl, inr}
use Rattle.std.specs.Option.{SomeIff}
use Rattle.std.proofs.lemmas.Bool.{cases_lt}
use Rattle.macho_fields.specs.Bytes.{bytes_of}
use Rattle.macho_spans.specs.Span.{end_of}
use Rattle.macho_exports.specs.ExportNodes.{waiting_places}
use Rattle.macho_exports.specs.declared.export_walk.MetNode.{MetNode}
use Rattle.macho_exports.proofs.ExportSurveys.{IsWalkedTo, walked_start, walked_all, survey_endless, survey_past, survey_more}
use Rattle.macho_exports.proofs.exports.survey.Goals as goal

pub loop-place-init : goal.loop-place-init
loop-place-init c = record {
  destinations = c.in_ok-destinations.ensures;
  walked = rw (c.in_ok-waiting.ensures, c.unbroken-found.ensures, c.len-left.ensures.count) (walked_start c.args.image.now (bytes_of c.args.trie));
}

pub returns-in_default-2 : goal.returns-in_default-2
returns-in_default-2 c =
    survey_endless c.args.image.now (bytes_of c.args.trie) c.loop-place.left c.in-Some.place (waiting_places c.loop-place.waiting) (waiting_places c.next.new.self) (waiting_places c.meet.new.self)
    c.loop-place.found c.in-Some.ensures c.loop-place.invariant.walked c.in_ok-node.field-0 c.in_default-2.is c.in_ok-node.ensures.met c.min.result (omega (arith, c.min.ensures, c.len.ensures.count))

pub returns-in_default-checked_sub : goal.returns-in_default-checked_sub
returns-in_default-checked_sub c =
    let size = c.in-Some-2.node.end - c.in-Some.place in
    let past : c.loop-place.left < size = elim (cases_lt c.loop-place.left size) [
      | inl past ↦ past
      | inr fits ↦ absurd (subst (λ (o : Option ℕ). SomeIff o (size ≤ c.loop-place.left) (c.loop-place.left - size)) c.in_default-checked_sub.is c.checked_sub.ensures fits)
    ] in
    survey_past c.args.image.now (bytes_of c.args.trie) c.loop-place.left c.in-Some.place (waiting_places c.loop-place.waiting) (waiting_places c.next.new.self) (waiting_places c.meet.new.self)
    c.loop-place.found c.in-Some.ensures c.loop-place.invariant.walked c.in_ok-node.field-0 c.in-Some-2.node c.in-Some-2.is c.in_ok-node.ensures.met past

pub loop-place-preserved : goal.loop-place-preserved
loop-place-preserved c =
    let image = c.args.image.now in
    let (begins, inside) = subst (λ (o : Option MetNode). IfSome o (λ met. (c.in-Some.place < met.end) × (end_of met.terminal ≤ length (bytes_of c.args.trie)))) c.in-Some-2.is c.in_ok-node.ensures.inside in
    record {
      destinations = c.breaks_of.ensures.same image c.loop-place.invariant.destinations;
      walked =
          survey_more image (bytes_of c.args.trie) c.loop-place.left c.in-Some.place (waiting_places c.loop-place.waiting) (waiting_places c.next.new.self) (waiting_places c.meet.new.self)
          c.loop-place.found c.in-Some.ensures c.loop-place.invariant.walked c.in_ok-node.field-0 c.in-Some-2.node c.in-Some-2.is c.in_ok-node.ensures.met
          begins (omega arith) c.in-Some-checked_sub.rest (omega arith) c.breaks_of.result c.note.new.self (c.breaks_of.ensures.breaks image c.loop-place.invariant.destinations)
          c.note.ensures.node c.note.ensures.total c.note.ensures.terminal c.note.ensures.library c.note.ensures.address;
    }

pub loop-place-smaller : goal.loop-place-smaller
loop-place-smaller c =
    let (begins, inside) = subst (λ (o : Option MetNode). IfSome o (λ met. (c.in-Some.place < met.end) × (end_of met.terminal ≤ length (bytes_of c.args.trie)))) c.in-Some-2.is c.in_ok-node.ensures.inside in
    omega (arith, begins)

pub returns : goal.returns
returns c =
    walked_all c.args.image.now (bytes_of c.args.trie) c.loop-place.left c.loop-place.found
    (subst (λ (w : List ℕ). IsWalkedTo c.args.image.now (bytes_of c.args.trie) c.loop-place.left w c.loop-place.found) c.in_default.ensures c.loop-place.invariant.walked)
