use Rattle.std.proofs.Common.{ℕ, ◌≡◌, ◌-◌, ◌⊎◌, true, false, sym, ◌∙◌, ap, inl, inr, arith}
use Rattle.std.proofs.lemmas.Bool.{false≢true, le-ltb}
use Rattle.macho_spans.specs.declared.span.Span.{Span}
use Rattle.macho_spans.specs.declared.spans.pairs.CountedPairs.{CountedPairs}
use Rattle.macho_spans.proofs.SortedSpans.{shares_at, shares_beside}
use Rattle.macho_spans.proofs.spans.search.gap_for.Goals as goal
use Rattle.macho_spans.proofs.spans.search.gap_for.Goals.{then-next-gt0, else-next-gt0, then-next-len, else-next-len, then-before, else-before}

pub returns-then-after-clause-gap : goal.returns-then-after-clause-gap
returns-then-after-clause-gap c =
    let pairs = c.args.held.now.pairs.items in
    let among = c.count_starts_by-next.ensures.count.among in
    let found = c.count_starts_by-next.ensures.search.same in
    let same : c.if-next-gt0.held.pairs ≡ c.args.held.now.pairs = elim c.if-next-gt0.branch [
      | then-next-gt0 w ↦ ap (λ (held : CountedPairs). held.pairs) w.held-is ∙ (w.shares-before.ensures.same ∙ found)
      | else-next-gt0 w ↦ ap (λ (held : CountedPairs). held.pairs) w.held-is ∙ found
    ] in
    let count = rw same at c.len.ensures in
    let d : Span × ℕ = (c.args.span, 0) in
    let either : (c.if-next-gt0.before ≡ true) ⊎ (c.if-next-len.after ≡ true) = elim c.if-before.branch [
      | then-before w ↦ inl w.if-before.true
      | else-before w ↦ inr (sym w.value-is ∙ c.if-after.true)
    ] in
    elim either [
      | inl before ↦ elim c.if-next-gt0.branch [
        | then-next-gt0 w ↦ shares_at pairs c.args.span (c.count_starts_by-next.result - 1) d (omega arith)
            ((rw found at (w.shares-before.ensures.shares d)).0 (sym w.before-is ∙ before))
        | else-next-gt0 w ↦ absurd (false≢true (sym (le-ltb 0 c.count_starts_by-next.result w.if-next-gt0.false) ∙ (sym w.before-is ∙ before)))
      ]
      | inr after ↦ elim c.if-next-len.branch [
        | then-next-len w ↦ shares_at pairs c.args.span c.count_starts_by-next.result d (omega (arith, w.if-next-len.true))
            ((rw same at (w.shares-after.ensures.shares d)).0 (sym w.after-is ∙ after))
        | else-next-len w ↦ absurd (false≢true (sym (le-ltb c.count_starts_by-next.result c.len.result w.if-next-len.false) ∙ (sym w.after-is ∙ after)))
      ]
    ]

pub returns-else-after-clause-gap : goal.returns-else-after-clause-gap
returns-else-after-clause-gap c =
    let by = c.count_starts_by-next.ensures.count in
    let found = c.count_starts_by-next.ensures.search.same in
    let same : c.if-next-gt0.held.pairs ≡ c.args.held.now.pairs = elim c.if-next-gt0.branch [
      | then-next-gt0 w ↦ ap (λ (held : CountedPairs). held.pairs) w.held-is ∙ (w.shares-before.ensures.same ∙ found)
      | else-next-gt0 w ↦ ap (λ (held : CountedPairs). held.pairs) w.held-is ∙ found
    ] in
    let count = rw same at c.len.ensures in
    let none_before : c.if-next-gt0.before ≡ false = elim c.if-before.branch [
      | then-before w ↦ absurd (false≢true (sym c.if-after.false ∙ (w.value-is ∙ w.if-before.true)))
      | else-before w ↦ w.if-before.false
    ] in
    let none_after : c.if-next-len.after ≡ false = elim c.if-before.branch [
      | then-before w ↦ absurd (false≢true (sym c.if-after.false ∙ (w.value-is ∙ w.if-before.true)))
      | else-before w ↦ sym w.value-is ∙ c.if-after.false
    ] in (
      λ some. elim (shares_beside c.args.held.now.pairs.items c.requires.sorted c.args.span c.requires.placed c.count_starts_by-next.result by some) [
        | inl (after, (d, before)) ↦ elim c.if-next-gt0.branch [
          | then-next-gt0 w ↦ false≢true (sym none_before ∙ (w.before-is ∙ (rw found at (w.shares-before.ensures.shares d)).1 before))
          | else-next-gt0 w ↦ absurd (omega (arith, w.if-next-gt0.false))
        ]
        | inr (less, (d, next)) ↦ elim c.if-next-len.branch [
          | then-next-len w ↦ false≢true (sym none_after ∙ (w.after-is ∙ (rw same at (w.shares-after.ensures.shares d)).1 next))
          | else-next-len w ↦ absurd (omega (arith, w.if-next-len.false))
        ]
      ],
      by,
    )
