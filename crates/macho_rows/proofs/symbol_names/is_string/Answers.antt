use Rattle.std.proofs.Common.{◌∙◌, sym}
use Rattle.std.specs.Cmp.Lexicographic.{same_text, other_text}
use Rattle.std.proofs.lemmas.Bool.{both_ways, false≢true}
use Rattle.macho_rows.proofs.NamedSymbols.{string_test, other_end, other_front}
use Rattle.macho_rows.proofs.symbol_names.is_string.Goals as goal
use Rattle.macho_rows.proofs.symbol_names.is_string.Goals.{then-has_zero_at, else-has_zero_at}

pub returns-then-starts_with : goal.returns-then-starts_with
returns-then-starts_with c = elim c.if-has_zero_at.branch [
  | then-has_zero_at w ↦ string_test c.args.bytes.now c.args.name.now c.contains.result
      (same_text _ _ (sym c.if-starts_with.true ∙ w.value-is ∙ w.starts_with.ensures.value))
      (c.has_zero_at.ensures.0 w.if-has_zero_at.true) c.contains.ensures.value
  | else-has_zero_at w ↦ absurd (false≢true (sym w.if-has_zero_at.false ∙ (sym w.value-is ∙ c.if-starts_with.true)))
]

pub returns-else-starts_with : goal.returns-else-starts_with
returns-else-starts_with c = (
  (λ yes. absurd (both_ways c.if-has_zero_at.value c.if-starts_with.false yes)),
  λ found. elim c.if-has_zero_at.branch [
    | then-has_zero_at w ↦ absurd (other_front c.args.bytes.now c.args.name.now (other_text _ _ (sym c.if-starts_with.false ∙ w.value-is ∙ w.starts_with.ensures.value)) found)
    | else-has_zero_at w ↦ absurd (other_end c.args.bytes.now c.args.name.now (λ ends. both_ways c.has_zero_at.result w.if-has_zero_at.false (c.has_zero_at.ensures.1 ends)) found)
  ],
)
