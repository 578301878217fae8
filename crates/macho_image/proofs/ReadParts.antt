-- What is read in the bytes of a command is what the image has there.
use Rattle.std.proofs.Common.{◌≡◌, ℕ, suc, zero, ◌+◌, ◌-◌, ◌*◌, ◌≤◌, List, length, slice_index, take, drop, refl, ap, ap₂, ◌∙◌, arith, length-drop}
use Rattle.std.proofs.lemmas.List.{drop-take, drop-drop, get_or-take, length-take-le}
use Rattle.macho_fields.specs.Field.{part}
use Rattle.macho_fields.specs.Image.{word}

-- the number in the bytes from place i on, the lowest first
abbrev low_first : ℕ → ℕ → List ℕ → ℕ
low_first i zero xs = 0
low_first i (suc width) xs = slice_index xs i + 256 * low_first (suc i) width xs

low_first-take : (i width n : ℕ) (xs : List ℕ) → i + width ≤ n → low_first i width (take n xs) ≡ low_first i width xs
low_first-take i zero n xs fits = refl
low_first-take i (suc width) n xs fits =
    ap₂ (λ a b. a + 256 * b) (get_or-take n xs i 0 (omega arith)) (low_first-take (suc i) width n xs (omega arith))

drop-part : (place size offset : ℕ) (xs : List ℕ) → offset ≤ size → drop offset (part place size xs) ≡ take (size - offset) (drop (place + offset) xs)
drop-part place size offset xs within =
    let whole : size ≡ offset + (size - offset) = omega arith in
    ap (λ n. drop offset (take n (drop place xs))) whole ∙ (drop-take offset (size - offset) (drop place xs) ∙ ap (take (size - offset)) (drop-drop offset place xs))

low_first-part : (width place size offset : ℕ) (xs : List ℕ) → offset + width ≤ size → low_first 0 width (drop offset (part place size xs)) ≡ low_first 0 width (drop (place + offset) xs)
low_first-part width place size offset xs fits =
    ap (low_first 0 width) (drop-part place size offset xs (omega arith)) ∙ low_first-take 0 width (size - offset) (drop (place + offset) xs) (omega arith)

pub word_in_part : (place size offset : ℕ) (xs : List ℕ) → offset + 4 ≤ size → word (part place size xs) offset ≡ word xs (place + offset)
word_in_part place size offset xs fits = low_first-part 4 place size offset xs fits

pub length-part : (place size : ℕ) (xs : List ℕ) → place + size ≤ length xs → length (part place size xs) ≡ size
length-part place size xs within = length-take-le size (drop place xs) (let rest : length (drop place xs) ≡ length xs - place = length-drop place xs in omega arith)
