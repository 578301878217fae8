use Rattle.std.proofs.Common.{◌≡◌, ◌+◌, ◌*◌, ◌%◌, ◌^◌, ◌∙◌, ℕ, false, ap, arith}
use Rattle.std.proofs.lemmas.Bool.{eq-eqb, ne_eqb}
use Rattle.std.proofs.lemmas.Nat.{mul-mod_second}
use Rattle.macho_opcodes.specs.declared.cursor.Cursor.{Cursor}
use Rattle.macho_opcodes.specs.Cursor.{advanced}
use Rattle.macho_opcodes.proofs.cursor.Cursor.write.Goals as goal

distance_wraps : (offset count skip : ℕ) → (offset + count * ((skip + 8) % 2 ^ 64) % 2 ^ 64) % 2 ^ 64 ≡ (offset + count * (8 + skip)) % 2 ^ 64
distance_wraps offset count skip =
    let product = mul-mod_second count (skip + 8) (2 ^ 64) in
    let turned : skip + 8 ≡ 8 + skip = omega arith in
    rw (product, turned) (omega arith)

advanced_wraps : (cursor : Cursor) (count skip : ℕ) → advanced cursor (count * ((skip + 8) % 2 ^ 64) % 2 ^ 64) ≡ advanced cursor (count * (8 + skip))
advanced_wraps cursor count skip =
    ap (λ (offset : ℕ). let moved : Cursor = record cursor { offset = offset } in moved) (distance_wraps cursor.offset count skip)

pub returns-then-count-gt0 : goal.returns-then-count-gt0
returns-then-count-gt0 c =
    rw (ne_eqb c.args.count 0 (λ none. omega (arith, none, c.if-count-gt0.true)))
    (ap (λ (passed : Cursor). let looked_up : Cursor = record passed { is_new = false } in looked_up) (c.advance.ensures ∙ advanced_wraps c.args.self.now c.args.count c.args.skip))

pub returns-else-count-gt0 : goal.returns-else-count-gt0
returns-else-count-gt0 c =
    rw (eq-eqb c.args.count 0 (omega (arith, c.if-count-gt0.false))) (c.advance.ensures ∙ advanced_wraps c.args.self.now c.args.count c.args.skip)
