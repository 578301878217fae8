-- A group of pages of one size, one past the other.
use Rattle.std.proofs.Common.{◌≡◌, ℕ, ◌+◌, ◌-◌, ◌*◌, ◌%◌, ◌^◌, ◌≤◌, ◌<◌, List, length, length-drop, take, drop, sym, ap, ◌∙◌, arith, inl, inr, le_refl, pow-add}
use Rattle.std.specs.Prelude.{◌==◌, min}
use Rattle.std.proofs.lemmas.Bool.{cases_Bool, eqb-true}
use Rattle.std.proofs.lemmas.List.{drop-drop, drop-take, length-take-le, take-take}
use Rattle.std.proofs.lemmas.Nat.{mul-le}
use Rattle.macho_seals.specs.Pages.{bytes_in, page_span}

-- four pages of whole blocks
pub whole_blocks : (size : ℕ) → 6 ≤ size → 4 * 2 ^ size % 256 ≡ 0
whole_blocks size least =
    let split : 6 + (size - 6) ≡ size = omega (arith, least) in
    let power : 2 ^ size ≡ 64 * 2 ^ (size - 6) = ap (λ n. 2 ^ n) (sym split) ∙ pow-add 2 6 (size - 6) in
    omega (arith, power)

-- so many bytes, inside the image
pub length-group : (image : List ℕ) (size limit first : ℕ) → limit ≤ length image → first * 2 ^ size + 4 * 2 ^ size ≤ limit
    → length (take (4 * 2 ^ size) (drop (first * 2 ^ size) image)) ≡ 4 * 2 ^ size
length-group image size limit first within inside =
    length-take-le (4 * 2 ^ size) (drop (first * 2 ^ size) image) (omega (arith, length-drop (first * 2 ^ size) image, within, inside))

-- each of them is a page of the image, if all are whole
pub page_in_group : (image : List ℕ) (size limit first k : ℕ) → 6 ≤ size → k < 4 → first * 2 ^ size + 4 * 2 ^ size ≤ limit
    → take (2 ^ size) (drop (k * 2 ^ size) (take (4 * 2 ^ size) (drop (first * 2 ^ size) image))) ≡ bytes_in image (page_span size limit (first + k))
page_in_group image size limit first k least few inside = elim (cases_Bool (size == 0)) [
  | inl none ↦ let zero = eqb-true size 0 none in absurd (omega (arith, least, zero))
  | inr other ↦
      let len : ℕ = 2 ^ size in
      let to : k * len + len ≤ 4 * len = let end = mul-le (k + 1) len 4 len (omega (arith, few)) (le_refl len) in omega (arith, end) in
      let start : first * len + k * len ≡ (first + k) * len = omega arith in
      let whole : min len (limit - (first + k) * len) ≡ len = omega (arith, start, to, inside) in
      let left : ℕ = 4 * len - k * len in
      let cut : 4 * len ≡ k * len + left = omega (arith, to) in
      rw (other, whole)
      (ap (λ n. take len (drop (k * len) (take n (drop (first * len) image)))) cut
      ∙ ap (take len) (drop-take (k * len) left (drop (first * len) image))
      ∙ take-take len left (drop (k * len) (drop (first * len) image)) (omega (arith, to))
      ∙ ap (take len) (drop-drop (k * len) (first * len) image ∙ ap (λ n. drop n image) (omega (arith, start))))
]
