use Rattle.std.proofs.Common.{◌≡◌, ◌∙◌, ◌+◌, ◌*◌, ◌/◌, ◌%◌, ◌<◌, ◌≤◌, ◌-◌, ℕ, ap, arith}
use Rattle.std.proofs.Math.Nat.{mul-div_cancel, mul-mod_left}
use Rattle.macho_explain.proofs.item.item_at.Goals.{then-past-size-ne0-via-then-past-size-ne0, then-past-size-ne0-via-else-past-size-ne0+then-index-count}
use Rattle.macho_explain.proofs.item.item_at.Goals as goal

-- a place at an item is past the first by so many whole ones
whole : (start size k place past : ℕ) → 0 < size → place ≡ start + k * size → start ≤ place → past ≡ place - start → (past % size ≡ 0) × (past / size ≡ k)
whole start size k place past some at less is =
    let same : past ≡ k * size = omega (arith, at, less, is) in
    (ap (λ n. n % size) same ∙ mul-mod_left k size, ap (λ n. n / size) same ∙ mul-div_cancel k some)

pub returns-then-past-size-ne0 : goal.returns-then-past-size-ne0
returns-then-past-size-ne0 c = λ k less at.
    let (from, is) = c.in_ok-past.ensures in
    let (none, index) = whole c.args.start c.args.size k c.args.place c.in_ok-past.past c.requires at (omega (arith, from, is)) (omega (arith, from, is)) in
    elim c.then-past-size-ne0.branch [
      | then-past-size-ne0-via-then-past-size-ne0 w ↦ w.if-past-size-ne0.true none
      | then-past-size-ne0-via-else-past-size-ne0+then-index-count w ↦ (let past = w.if-index-count.true in omega (arith, past, index, less))
    ]
