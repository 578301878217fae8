use Rattle.std.proofs.Common.{◌≡◌, ◌∙◌, ◌<◌, ◌+◌, ◌*◌, ◌^◌, ℕ, List, ap, ap₂, arith, below_more, subst, sym}
use Rattle.macho_fields.specs.Bytes.{bytes_of}
use Rattle.macho_fields.specs.Symbol.{PassesSymbols}
use Rattle.macho_explain.specs.Commanded.{group_shown, symbols_shown}
use Rattle.macho_explain.specs.Explain.{word_at}
use Rattle.macho_explain.proofs.command.symbol_group.Goals as goal
use Rattle.macho_explain.proofs.command.symbol_group.Goals.{else-span-gt0-via-then-span-gt0+else-end-from, else-span-gt0-via-else-span-gt0}

-- the two numbers of a group
numbers : (image : List ℕ) (place k at next first count : ℕ) → k < 3 → place < 2 ^ 33 → first ≡ word_at image at → count ≡ word_at image next → at ≡ place + 8 + 8 * k → next ≡ at + 4
    → (first ≡ (group_shown image place k).0) × (count ≡ (group_shown image place k).1)
numbers image place k at next first count few near one other here there =
    (one ∙ ap (word_at image) here, other ∙ ap (word_at image) (there ∙ ap (λ n. n + 4) here))

pub returns-then-end-from : goal.returns-then-end-from
returns-then-end-from c =
    let image = bytes_of c.args.sliced.now.held.bytes in
    let load = c.in_ok-at.walked.load in
    let k = c.loop-index.index in
    let near = c.in_ok-at.ensures.1.load.near in
    let at : c.saturating_add-place.result ≡ load.place + 8 + 8 * k = omega (arith, c.saturating_add-place.ensures, near, c.loop-index-test.true) in
    let next : c.saturating_add.result ≡ c.saturating_add-place.result + 4 = omega (arith, c.saturating_add.ensures, at, near, c.loop-index-test.true) in
    let own = numbers image load.place k c.saturating_add-place.result c.saturating_add.result c.from.result c.from-in-loop-index.result c.loop-index-test.true near
    (c.from.ensures ∙ c.word.ensures) (c.from-in-loop-index.ensures ∙ c.word-in-loop-index.ensures) at next in
    let first = c.from.result in
    let count = c.from-in-loop-index.result in
    let value : first + count ≡ (group_shown image c.args.sliced.now.place k).0 + (group_shown image c.args.sliced.now.place k).1 =
    subst (λ p. first + count ≡ (group_shown image p k).0 + (group_shown image p k).1) c.in_ok-at.ensures.1.meets (ap₂ (λ a b. a + b) own.0 own.1) in
    let less : c.symbol_count-count.result < first + count = omega (arith, c.if-end-from.true, c.from-then-span-gt0.ensures, c.end.ensures) in
    rw c.shows.ensures (c.in_ok-at.ensures.0, rw c.alone.ensures (less, (k, c.loop-index-test.true, value)))

pub loop-index-preserved : goal.loop-index-preserved
loop-index-preserved c =
    let image = bytes_of c.args.sliced.now.held.bytes in
    let load = c.in_ok-at.walked.load in
    let k = c.loop-index.index in
    let near = c.in_ok-at.ensures.1.load.near in
    let count = c.symbol_count-count.result in
    let at : c.saturating_add-place.result ≡ load.place + 8 + 8 * k = omega (arith, c.saturating_add-place.ensures, near, c.loop-index-test.true) in
    let next : c.saturating_add.result ≡ c.saturating_add-place.result + 4 = omega (arith, c.saturating_add.ensures, at, near, c.loop-index-test.true) in
    let own = numbers image load.place k c.saturating_add-place.result c.saturating_add.result c.from.result c.from-in-loop-index.result c.loop-index-test.true near
    (c.from.ensures ∙ c.word.ensures) (c.from-in-loop-index.ensures ∙ c.word-in-loop-index.ensures) at next in
    let none : ¬ PassesSymbols count (group_shown image load.place k) = λ past. elim c.else-span-gt0.branch [
      | else-span-gt0-via-then-span-gt0+else-end-from w ↦
          omega (arith, w.if-end-from.false, w.from-then-span-gt0.ensures, w.end.ensures, own.0, own.1, past.1)
      | else-span-gt0-via-else-span-gt0 w ↦ omega (arith, w.if-span-gt0.false, own.1, past.0)
    ] in
    below_more (λ j. ¬ PassesSymbols count (group_shown image load.place j)) k c.loop-index.invariant none

pub returns : goal.returns
returns c =
    let image = bytes_of c.args.sliced.now.held.bytes in
    let place = c.args.sliced.now.place in
    let is = c.in_ok-at.ensures.1 in
    λ has.
    let (k, (less, (some, past))) = has.1 in
    let count : c.symbol_count-count.result ≡ symbols_shown image = c.symbol_count-count.ensures has.0.0 in
    let there : PassesSymbols c.symbol_count-count.result (group_shown image place k) = (some, omega (arith, count, past)) in
    c.loop-index.invariant k (omega (arith, less, c.loop-index-test.false)) (subst (λ p. PassesSymbols c.symbol_count-count.result (group_shown image p k)) (sym is.meets) there)
