use Rattle.std.proofs.Common.{◌≡◌, ◌∙◌, List, [], ◌∷◌, ℕ, arith, inl, inr, length, refl, sym}
use Rattle.std.proofs.lemmas.Bool.{eqb-true}
use Rattle.macho_fields.specs.Bytes.{bytes_of}
use Rattle.macho_explain.proofs.Sought.{segment_inside}
use Rattle.macho_explain.proofs.names.named_conflict.Goals as goal

no_items : (xs : List ℕ) → length xs ≡ 0 → xs ≡ []
no_items [] is = refl
no_items (x ∷ xs) is = absurd (omega (arith, is))

pub overflow_add-start : goal.overflow_add-start
overflow_add-start c = omega (arith, c.requires.near)

pub returns-then-is_empty : goal.returns-then-is_empty
returns-then-is_empty c =
    let image = bytes_of c.args.sliced.now.held.bytes in
    let (k, at) = c.requires.listed in
    let inside = segment_inside image k c.args.segment.now.place at in
    let name = c.name_at-name.ensures (omega (arith, inside)) in
    let none = no_items c.name_at-name.result.now (eqb-true (length c.name_at-name.result.now) 0 (sym c.if-is_empty.ensures)) in
    rw c.alone.ensures (inr (inr (inl (sym name ∙ none, refl, refl))))
