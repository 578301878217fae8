use Rattle.std.proofs.Common.{◌≡◌, ◌∙◌, ◌⊎◌, ◌++◌, ◌∷◌, ◌<◌, [], arith, inl, inr, refl, subst, sym}
use Rattle.std.specs.Prelude.{slice_get}
use Rattle.std.proofs.lemmas.Bool.{both_ways}
use Rattle.macho_fields.proofs.Options.{of_some}
use Rattle.macho_fields.specs.Bytes.{bytes_of}
use Rattle.macho_exports.proofs.ExportTries.{edge_within}
use Rattle.macho_alike.specs.Exports.{label_of}
use Rattle.macho_explain.specs.Alike.{ClashesAt}
use Rattle.macho_explain.proofs.EdgeLabels.{good_more, label_read, none_bad, read_endless, read_more, read_none, read_whole}
use Rattle.macho_explain.proofs.labels.clash_of.Goals as goal

pub loop-later-init : goal.loop-later-init
loop-later-init c = λ labels is. ([], read_none (bytes_of c.args.trie) c.args.count c.args.edges labels is, λ j less. absurd (omega (arith, less)))

pub returns-in_err-edge : goal.returns-in_err-edge
returns-in_err-edge c = λ labels is.
    let (before, are, good) = c.loop-later.invariant labels is in
    absurd (read_endless (bytes_of c.args.trie) c.args.count c.loop-later.later c.loop-later.place labels before are c.loop-later-test.true (sym c.in_err-edge.ensures))

pub read_part-label-requires : goal.read_part-label-requires
read_part-label-requires c = (edge_within (bytes_of c.args.trie) c.loop-later.place c.in_ok-edge.edge c.in_ok-edge.next (sym c.in_ok-edge.ensures)).1

pub returns-then-is_blank : goal.returns-then-is_blank
returns-then-is_blank c = λ labels is.
    let trie = bytes_of c.args.trie in
    let later = c.loop-later.later in
    let (before, are, good) = c.loop-later.invariant labels is in
    let at = label_read trie c.args.count later c.loop-later.place labels before are c.in_ok-edge.edge c.in_ok-edge.next c.loop-later-test.true (sym c.in_ok-edge.ensures) in
    of_some (λ l. ((later ≡ later) × (l ≡ [])) ⊎ ((later < later) × ClashesAt labels later l)) (slice_get labels later) (label_of trie c.in_ok-edge.edge) at (inl (refl, sym c.read_part-label.ensures ∙ c.is_blank.ensures.0 c.if-is_blank.true))

pub returns-in-Some : goal.returns-in-Some
returns-in-Some c = λ labels is.
    let trie = bytes_of c.args.trie in
    let later = c.loop-later.later in
    let (before, are, good) = c.loop-later.invariant labels is in
    let at = label_read trie c.args.count later c.loop-later.place labels before are c.in_ok-edge.edge c.in_ok-edge.next c.loop-later-test.true (sym c.in_ok-edge.ensures) in
    let (less, clash) = c.in-Some.ensures c.args.count labels (omega (arith, c.loop-later-test.true)) is in
    of_some (λ l. ((c.in-Some.earlier ≡ later) × (l ≡ [])) ⊎ ((c.in-Some.earlier < later) × ClashesAt labels c.in-Some.earlier l)) (slice_get labels later) (label_of trie c.in_ok-edge.edge) at
    (inr (less, subst (ClashesAt labels c.in-Some.earlier) c.read_part-label.ensures clash))

pub loop-later-preserved : goal.loop-later-preserved
loop-later-preserved c = λ labels is.
    let trie = bytes_of c.args.trie in
    let later = c.loop-later.later in
    let (before, are, good) = c.loop-later.invariant labels is in
    let edge = c.in_ok-edge.edge in
    let at = label_read trie c.args.count later c.loop-later.place labels before are edge c.in_ok-edge.next c.loop-later-test.true (sym c.in_ok-edge.ensures) in
    let apart = c.in_default.ensures c.args.count labels (omega (arith, c.loop-later-test.true)) is in (
      before ++ label_of trie edge ∷ [],
      read_more trie c.args.count later c.loop-later.place labels before are edge c.in_ok-edge.next c.loop-later-test.true (sym c.in_ok-edge.ensures),
      good_more labels later (label_of trie edge) at (λ empty. both_ways c.is_blank.result c.if-is_blank.false (c.is_blank.ensures.1 (c.read_part-label.ensures ∙ empty))) (λ j less clash. apart j less (subst (ClashesAt labels j) (sym c.read_part-label.ensures) clash)) good,
    )

pub returns : goal.returns
returns c = λ labels is.
    let (before, are, good) = c.loop-later.invariant labels is in
    none_bad labels c.loop-later.later (read_whole (bytes_of c.args.trie) c.args.count c.loop-later.later c.loop-later.place labels before are c.loop-later-test.false) good
