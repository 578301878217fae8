-- A list of rows, each made of its number.
use Rattle.std.proofs.Common.{◌≡◌, ◌∙◌, ℕ, suc, ◌+◌, ◌≤◌, ◌<◌, List, [], ◌∷◌, length, map, drop, get_or, ap, arith, add-one, drop-cons}
use Rattle.std.specs.List.{range_with_len}
use Rattle.std.proofs.lemmas.List.{drop_all}
use Rattle.std.proofs.lemmas.List.FromFn.{length-map-range_with_len, get_or-map-range_with_len}

module _ {R : Type 0} (row : ℕ → R) (n : ℕ) (rows : List R) (are : rows ≡ map row (range_with_len 0 n)) where
  pub counted : length rows ≡ n
  counted = ap length are ∙ length-map-range_with_len row 0 n

  pub none_past : (k : ℕ) → n ≤ k → drop k rows ≡ []
  none_past k most = drop_all k rows (omega (arith, most, counted))

  pub next_row : (k : ℕ) → k < n → drop k rows ≡ row k ∷ drop (k + 1) rows
  next_row k less =
      let here : get_or rows k (row k) ≡ row k = ap (λ all. get_or all k (row k)) are ∙ get_or-map-range_with_len row 0 n k k (row k) less (omega arith) in
      let held : k < length rows = omega (arith, less, counted) in
      rw (add-one, drop-cons rows k (row k)) (ap (λ x. x ∷ drop (suc k) rows) here)
