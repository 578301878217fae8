-- The relocations of a section: the next row, and how many there are.
use Rattle.std.proofs.Common.{◌≡◌, ◌∙◌, ℕ, ◌+◌, ◌*◌, ◌≤◌, ◌<◌, List, [], length, map, drop, None, inl, inr, arith}
use Rattle.std.specs.Prelude.{nat_le}
use Rattle.std.specs.List.{range_with_len}
use Rattle.std.proofs.Math.Nat.{mul_comm}
use Rattle.std.proofs.lemmas.Bool.{cases_Bool, le-leb, leb-true}
use Rattle.std.proofs.lemmas.List.{drop_all, length-map}
use Rattle.std.proofs.lemmas.Simd.{map-map}
use Rattle.macho_fields.specs.Image.{commands_of}
use Rattle.macho_fields.specs.Layers.{NothingBreaks}
use Rattle.macho_fields.specs.Rules.{BreaksImage}
use Rattle.macho_fields.specs.Symbol.{IsOutside}
use Rattle.macho_fields.specs.declared.rule.Rule.TheVariants as rule
use Rattle.macho_image.specs.Symbol.{items_inside}
use Rattle.macho_image.proofs.OpenedWalk.{opened_commands}
use Rattle.macho_rows.specs.Cursor.{start}
use Rattle.macho_c.specs.Relocations.{relocation_row, relocations_left, HasAllRelocations}
use Rattle.macho_rows.proofs.AllCommands.{has_opened}
use Rattle.macho_rows.proofs.AllSymbols.{items_counted}

-- a table that does not lie inside the image has no rows
pub none_outside : {R : Type 0} (row : ℕ → R) (image : List ℕ) (begin each n k : ℕ) → length image < begin + n * each → drop k (map row (items_inside image begin each n)) ≡ []
none_outside row image begin each n k past = elim (cases_Bool (nat_le (begin + each * n) (length image))) [
  | inl inside ↦ absurd (let most = leb-true _ _ inside in omega (arith, most, past, mul_comm n each))
  | inr outside ↦ rw outside (drop_all k [] (omega arith))
]

-- one that does has a row for each item
pub rows_are : {R : Type 0} (row : ℕ → R) (image : List ℕ) (begin each n : ℕ) → begin + n * each ≤ length image
    → map row (items_inside image begin each n) ≡ map (λ k. row (begin + each * k)) (range_with_len 0 n)
rows_are row image begin each n inside =
    let most : begin + each * n ≤ length image = omega (arith, inside, mul_comm n each) in
    rw (le-leb (begin + each * n) (length image) most) (map-map row (λ k. begin + each * k) (range_with_len 0 n))

-- in an image that breaks no rule the relocations of each section lie inside
pub has_relocations : (image : List ℕ) (from n : ℕ) → NothingBreaks (BreaksImage image None) → HasAllRelocations image from n (relocations_left image from n start)
has_relocations image from n unbroken section (k, segment, less, here, (has, (is_from, is_count))) =
    let outside_not : ¬ IsOutside image (from, n, 8) = λ outside.
    unbroken rule.SectionRelocs section
    (inr (
      commands_of image,
      opened_commands image (has_opened image (λ r place late broken. unbroken r place broken)),
      (k, segment, less, here, (has, (omega (arith, outside.0, is_count), omega (arith, outside.1, is_from, is_count)))),
    )) in
    length-map (items_inside image from 8 n) (relocation_row image) ∙ items_counted image from 8 n outside_not
