-- The functions of an image: the next one, and all.
use Rattle.std.proofs.Common.{◌≡◌, ◌∙◌, ℕ, ◌+◌, ◌-◌, ◌*◌, ◌==◌, ◌≤◌, ◌<◌, List, [], ◌∷◌, length, take, drop, true, false, Option, Some, None, inl, inr, refl, sym, ap, ap₂, subst, arith, lit<, length-take}
use Rattle.std.specs.Prelude.{nat_le, bit_and, MatchOption, if◌then◌else◌}
use Rattle.std.specs.Option.{option_map_or, unwrap_or}
use Rattle.std.proofs.lemmas.Bool.{cases_Bool, le-leb, leb-true, eq-eqb, ne_eqb}
use Rattle.std.proofs.lemmas.List.{drop-take, drop-drop}
use Rattle.std.proofs.lemmas.Nat.Bits.{and_pow}
use Rattle.macho_fields.specs.Field.{part}
use Rattle.macho_fields.specs.Image.{commands_of}
use Rattle.macho_fields.specs.Segment.{base_of}
use Rattle.macho_fields.specs.declared.header.loader.TheConstants as loader
use Rattle.macho_tables.specs.FunctionStarts.{next_start, function_starts}
use Rattle.macho_tables.proofs.FunctionStarts.{starts_next, starts_none}
use Rattle.macho_rows.specs.Cursor.{start, begun}
use Rattle.macho_c.specs.FunctionStarts.{first_start, starts_at, starts_left, HasAllStarts}
use Rattle.macho_rows.specs.Image.{ShowsUnbroken, image_in, only, bit}
use Rattle.macho_rows.specs.Linkedit.{dataoff, datasize}
use Rattle.macho_rows.specs.Spans.{part_or_none}
use Rattle.macho_rows.specs.declared.cursor.KesvuotCursor.{KesvuotCursor}
use Rattle.macho_rows.specs.declared.image.KesvuotImage.{KesvuotImage}
use Rattle.macho_rows.proofs.AllSymbols.{unbroken}
use Rattle.macho_c.proofs.NamedData.{nothing, named, data_inside, read_part, whole}

-- what is left of a part
part_left : (image : List ℕ) (place len size : ℕ) → 0 < size → size ≤ length (part_or_none place len image)
    → drop size (part_or_none place len image) ≡ part_or_none (place + size) (len - size) image
part_left image place len size some inside = elim (cases_Bool (nat_le (place + len) (length image))) [
  | inl fits ↦ held (leb-true _ _ fits) (rw fits at inside)
  | inr past ↦ absurd (let none : size ≤ 0 = rw past at inside in omega (arith, none, some))
]
  where
    held : place + len ≤ length image → size ≤ length (take len (drop place image)) → drop size (part_or_none place len image) ≡ part_or_none (place + size) (len - size) image
    held fits few =
        let most : size ≤ len = omega (arith, few, length-take len (drop place image)) in
        let all : size + (len - size) ≡ len = omega (arith, most) in
        let left : drop size (take len (drop place image)) ≡ take (len - size) (drop (place + size) image) =
        ap (λ n. drop size (take n (drop place image))) (sym all) ∙ (drop-take size (len - size) (drop place image) ∙ ap (take (len - size)) (drop-drop size place image)) in
        rw (le-leb (place + len) (length image) fits, le-leb ((place + size) + (len - size)) (length image) (omega (arith, fits, all))) left

-- it ends in the image
pub part_ends : (image : List ℕ) (place len size : ℕ) → 0 < size → size ≤ length (part_or_none place len image) → place + size ≤ length image
part_ends image place len size some inside = elim (cases_Bool (nat_le (place + len) (length image))) [
  | inl fits ↦ let most = leb-true _ _ fits in let few : size ≤ length (take len (drop place image)) = rw fits at inside in omega (arith, most, few, length-take len (drop place image))
  | inr past ↦ absurd (let none : size ≤ 0 = rw past at inside in omega (arith, none, some))
]

-- none remain
pub none_left : (image : List ℕ) (row : KesvuotImage) (before at : KesvuotCursor) → at ≡ begun (first_start image row) before
    → None ≡ next_start (part_or_none at.place at.items image) at.segment → starts_left image row before ≡ []
none_left image row before at begins none = ap (starts_at image) (sym begins) ∙ starts_none (part_or_none at.place at.items image) at.segment (sym none)

-- the next function, and the cursor past it
pub next_left : (image : List ℕ) (row : KesvuotImage) (before at after : KesvuotCursor) (first size : ℕ) → at ≡ begun (first_start image row) before
    → Some (first, size) ≡ next_start (part_or_none at.place at.items image) at.segment → 0 < size → size ≤ length (part_or_none at.place at.items image)
    → after.place ≡ at.place + size → after.items ≡ at.items - size → after.segment ≡ first
    → starts_left image row before ≡ first ∷ starts_left image row after
next_left image row before at after first size begins is some inside place items segment =
    let on : after.place == 0 ≡ false = ne_eqb after.place 0 (λ zero. omega (arith, zero, place, some)) in
    let rest : starts_left image row after ≡ starts_at image after = rw on refl in
    let left : function_starts (drop size (part_or_none at.place at.items image)) first ≡ starts_at image after =
    rw (place, items, segment) (ap (λ bytes. function_starts bytes first) (part_left image at.place at.items size some inside)) in
    ap (starts_at image) (sym begins) ∙ (starts_next (part_or_none at.place at.items image) at.segment (first, size) (sym is) ∙ ap (λ starts. first ∷ starts) (left ∙ sym rest))

-- The bit of the base
bit_times : {T : Type 0} (b : ℕ) (part : Option T) → bit b part ≡ b * bit 1 part
bit_times b None = omega arith
bit_times b (Some part) = omega arith

bit_few : {T : Type 0} (part : Option T) → bit 1 part < 2
bit_few None = lit< tt
bit_few (Some part) = lit< tt

sums : (a : ℕ) {b c d e f b' c' d' e' f' : ℕ} → b ≡ b' → c ≡ c' → d ≡ d' → e ≡ e' → f ≡ f' → a + b + c + d + e + f ≡ a + b' + c' + d' + e' + f'
sums a b c d e f = omega (arith, b, c, d, e, f)

second_bit : (has a b c d e f : ℕ) → has ≡ a + 2 * b + 4 * c + 8 * d + 16 * e + 32 * f → a < 2 → b < 2 → bit_and has 2 ≡ 2 * b
second_bit has a b c d e f is few less = let bits = and_pow has 1 in omega (arith, bits, is, few, less)

-- All functions of an image that breaks no rule, by the struct that shows it
no_starts : (address : ℕ) → function_starts [] address ≡ []
unfolding function_starts
no_starts address = refl

none_at : (image : List ℕ) (address : ℕ) → function_starts (part_or_none 0 0 image) address ≡ []
none_at image address = ap (λ bytes. function_starts bytes address) (nothing image) ∙ no_starts address

module _ (file : List ℕ) (row : KesvuotImage) (shows : ShowsUnbroken file row) where
  abbrev image : List ℕ
  image = image_in file row

  abbrev base : Option ℕ
  base = base_of image (commands_of image)

  abbrev data_read : ℕ → ℕ × ℕ
  data_read c = if nat_le (dataoff image c + datasize image c) (length image) then (dataoff image c, datasize image c) else (0, 0)

  has_base : bit_and row.has 2 ≡ 2 * bit 1 base
  has_base =
      let is = shows.0.parts.has in
      let second = bit_times 2 base in
      second_bit row.has _ (bit 1 base) _ _ _ _ (is ∙ sums (bit 1 _) second (bit_times 4 _) (bit_times 8 _) (bit_times 16 _) (bit_times 32 _)) (bit_few _) (bit_few base)

  -- the functions of the data that is found
  abbrev starts_found : ℕ × ℕ → List ℕ
  starts_found found = function_starts (part_or_none found.0 found.1 image) row.base

  abbrev HasAll : Option ℕ → Option ℕ → List ℕ → Type 0
  HasAll origin first starts =
      MatchOption origin (starts ≡ []) (λ base. MatchOption first (starts ≡ []) (λ command.
      (starts ≡ function_starts (part (dataoff image command) (datasize image command) image) base)
      × (length (part (dataoff image command) (datasize image command) image) ≡ datasize image command)))

  of_first : (origin : ℕ) → row.base ≡ origin → (first : Option ℕ) → only image loader.LC_FUNCTION_STARTS ≡ first
      → HasAll (Some origin) first (starts_found (option_map_or data_read first (0, 0)))
  of_first origin is None at = none_at image row.base
  of_first origin is (Some c) at =
      let inside = data_inside image (unbroken file row shows) loader.LC_FUNCTION_STARTS refl c at in
      (ap₂ function_starts (read_part image c inside) is, whole image c inside)

  of_base : (origin : Option ℕ) → bit_and row.has 2 ≡ 2 * bit 1 origin → row.base ≡ unwrap_or origin 0
      → HasAll origin (only image loader.LC_FUNCTION_STARTS) (starts_left image row start)
  of_base None has is = let off : bit_and row.has 2 == 0 ≡ true = eq-eqb _ _ has in rw off (none_at image 0)
  of_base (Some origin) has is =
      let on : bit_and row.has 2 == 0 ≡ false = ne_eqb _ 0 (λ zero. omega (arith, zero, has)) in
      let found : starts_left image row start ≡ starts_found (option_map_or data_read (only image loader.LC_FUNCTION_STARTS) (0, 0)) =
      rw on (ap starts_found (named image (unbroken file row shows) loader.LC_FUNCTION_STARTS refl)) in
      subst (HasAll (Some origin) (only image loader.LC_FUNCTION_STARTS)) (sym found) (of_first origin is (only image loader.LC_FUNCTION_STARTS) refl)

  pub has_starts : HasAllStarts image (starts_left image row start)
  has_starts = of_base base has_base shows.0.parts.base
