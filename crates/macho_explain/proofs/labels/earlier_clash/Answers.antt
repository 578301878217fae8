use Rattle.std.proofs.Common.{◌++◌, ◌∷◌, ◌<◌, List, [], ℕ, arith, subst, sym}
use Rattle.std.specs.Prelude.{slice_get}
use Rattle.std.proofs.lemmas.Bool.{both_ways}
use Rattle.macho_fields.proofs.Options.{of_some}
use Rattle.macho_fields.specs.Bytes.{bytes_of}
use Rattle.macho_exports.proofs.ExportTries.{edge_within}
use Rattle.macho_alike.specs.Exports.{label_of, Clash}
use Rattle.macho_explain.proofs.EdgeLabels.{apart_more, label_read, read_endless, read_more, read_none}
use Rattle.macho_explain.proofs.labels.earlier_clash.Goals as goal

pub loop-index-init : goal.loop-index-init
loop-index-init c = λ total labels most is. ([], read_none (bytes_of c.args.trie) total c.args.edges labels is, λ j less. absurd (omega (arith, less)))

pub returns-in_err-edge : goal.returns-in_err-edge
returns-in_err-edge c = λ total labels most is.
    let (before, are, apart) = c.loop-index.invariant total labels most is in
    absurd (read_endless (bytes_of c.args.trie) total c.loop-index.index c.loop-index.place labels before are (omega (arith, c.loop-index-test.true, most)) (sym c.in_err-edge.ensures))

pub read_part-requires : goal.read_part-requires
read_part-requires c = (edge_within (bytes_of c.args.trie) c.loop-index.place c.in_ok-edge.edge c.in_ok-edge.next (sym c.in_ok-edge.ensures)).1

pub returns-then-clash : goal.returns-then-clash
returns-then-clash c = λ total labels most is.
    let trie = bytes_of c.args.trie in
    let index = c.loop-index.index in
    let (before, are, apart) = c.loop-index.invariant total labels most is in
    let at = label_read trie total index c.loop-index.place labels before are c.in_ok-edge.edge c.in_ok-edge.next (omega (arith, c.loop-index-test.true, most)) (sym c.in_ok-edge.ensures) in
    let clash = subst (λ (l : List ℕ). Clash l c.args.label.now) c.read_part.ensures (c.clash.ensures.0 c.if-clash.true) in
    (c.loop-index-test.true, of_some (λ o. Clash o c.args.label.now) (slice_get labels index) (label_of trie c.in_ok-edge.edge) at clash)

pub loop-index-preserved : goal.loop-index-preserved
loop-index-preserved c = λ total labels most is.
    let trie = bytes_of c.args.trie in
    let index = c.loop-index.index in
    let (before, are, apart) = c.loop-index.invariant total labels most is in
    let less : index < total = omega (arith, c.loop-index-test.true, most) in
    let edge = c.in_ok-edge.edge in
    let at = label_read trie total index c.loop-index.place labels before are edge c.in_ok-edge.next less (sym c.in_ok-edge.ensures) in
    let other : ¬ Clash (label_of trie edge) c.args.label.now = λ clash. both_ways c.clash.result c.if-clash.false (c.clash.ensures.1 (subst (λ (l : List ℕ). Clash l c.args.label.now) (sym c.read_part.ensures) clash)) in (
      before ++ label_of trie edge ∷ [],
      read_more trie total index c.loop-index.place labels before are edge c.in_ok-edge.next less (sym c.in_ok-edge.ensures),
      apart_more labels index (label_of trie edge) c.args.label.now at other apart,
    )

pub returns : goal.returns
returns c = λ total labels most is.
    let (before, are, apart) = c.loop-index.invariant total labels most is in
    λ j less. apart j (omega (arith, less, c.loop-index-test.false))
