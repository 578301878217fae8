-- Walks along the chains of a page, and over the pages of a segment.
use Rattle.std.proofs.Common.{◌≡◌, ◌≢◌, ℕ, zero, suc, ◌+◌, ◌-◌, ◌*◌, ◌/◌, ◌^◌, ◌≤◌, ◌<◌, List, [], ◌∷◌, Bool, true, false, Option, Some, None, cond, refl, sym, ap, ◌∙◌, arith, inl, inr, ◌⊎◌}
use Rattle.std.specs.Prelude.{◌==◌, ◌&&◌, nat_lt, nat_le, if◌then◌else◌}
use Rattle.std.specs.Option.{option_map, option_map_or}
use Rattle.std.proofs.lemmas.Bool.{cases_eq, eq-eqb, ne_eqb, eqb-true, leb-true, and_parts, or_cases}
use Rattle.std.proofs.lemmas.Nat.{and_le_r}
use Rattle.std.proofs.lemmas.Option.{none-some, same_Some, option_and_then_some}
use Rattle.macho_fields.specs.Image.{long}
use Rattle.macho_chains.specs.ChainPointers.{pointer_of, page_start, first_offset, HasChain}
use Rattle.macho_chains.specs.declared.chain_header.ChainHeader.{ChainHeader}
use Rattle.macho_chains.specs.declared.chain_starts.PointerFormat.{PointerFormat}
use Rattle.macho_chains.specs.declared.chain_starts.PointerFormat.TheVariants as format
use Rattle.macho_chains.specs.declared.chain_starts.SegmentStarts.{SegmentStarts}
use Rattle.macho_fixups.specs.ChainedFixups.{chain_up_to, pages_up_to, row_with, row_at, raw_at, value_of, located, is_apart, chain_from, page_rows, pages_from, pages_left}
use Rattle.macho_fixups.specs.Locations.{pointer_place}
use Rattle.macho_fixups.specs.declared.row.KesvuotFixup.{KesvuotFixup}

module _ {R : Type 0} (read : ℕ → Option (R × ℕ)) (end : ℕ)
    (inside : (offset : ℕ) (got : R × ℕ) → read offset ≡ Some got → (offset + 8 ≤ end) × ((got.1 ≡ 0) ⊎ (8 ≤ got.1))) where
  abbrev tail : ℕ → ℕ → List R → R × ℕ → List R
  tail most offset others got = if got.1 == 0 then others else chain_up_to read most (offset + got.1) others

  abbrev step : ℕ → ℕ → List R → Option (R × ℕ) → List R
  step most offset others found = option_map_or (λ got. got.0 ∷ tail most offset others got) found []

  -- a walk that may go on as long as there are bytes finds the same as one that may go on longer
  pub chain_same : (m n offset : ℕ) (others : List R) → end ≤ m + offset → end ≤ n + offset → chain_up_to read m offset others ≡ chain_up_to read n offset others
  chain_same zero zero offset others far long = refl
  chain_same zero (suc n) offset others far long = by (read offset) refl
    where
      by : (found : Option (R × ℕ)) → read offset ≡ found → [] ≡ step n offset others found
      by None is = refl
      by (Some got) is = let here = inside offset got is in absurd (omega (arith, here.0))
  chain_same (suc m) zero offset others far long = by (read offset) refl
    where
      by : (found : Option (R × ℕ)) → read offset ≡ found → step m offset others found ≡ []
      by None is = refl
      by (Some got) is = let here = inside offset got is in absurd (omega (arith, here.0))
  chain_same (suc m) (suc n) offset others far long = by (λ next far long. chain_same m n next others far long) (read offset) refl
    where
      by : ((next : ℕ) → end ≤ m + next → end ≤ n + next → chain_up_to read m next others ≡ chain_up_to read n next others)
          → (found : Option (R × ℕ)) → read offset ≡ found → step m offset others found ≡ step n offset others found
      by on None is = refl
      by on (Some got) is =
          elim (cases_eq got.1 0) [
            | inl last ↦ rw (eq-eqb got.1 0 last) refl
            | inr more ↦
                let some : 8 ≤ got.1 = elim (inside offset got is).1 [ inl last ↦ absurd (more last) | inr far ↦ far ] in
                rw (ne_eqb got.1 0 more) (ap (λ rest. got.0 ∷ rest) (on (offset + got.1) (omega arith) (omega arith)))
          ]

  pub chain_none : (offset : ℕ) (others : List R) → read offset ≡ None → chain_up_to read end offset others ≡ []
  chain_none offset others none = by end
    where
      by : (most : ℕ) → chain_up_to read most offset others ≡ []
      by zero = refl
      by (suc most) = rw none refl

  pub chain_next : (offset : ℕ) (others : List R) (got : R × ℕ) → read offset ≡ Some got
      → chain_up_to read end offset others ≡ got.0 ∷ (if got.1 == 0 then others else chain_up_to read end (offset + got.1) others)
  chain_next offset others got is = by end refl
    where
      by : (most : ℕ) → most ≡ end → chain_up_to read most offset others ≡ got.0 ∷ tail end offset others got
      by zero none = let here = inside offset got is in absurd (omega (arith, here.0))
      by (suc most) whole =
          chain_same (suc most) (suc end) offset others (omega arith) (omega arith) ∙ rw is refl

module _ {R : Type 0} (rows : ℕ → List R → List R) where
  pub pages_none : (count page : ℕ) (others : List R) → count ≤ page → pages_up_to rows (count - page) page others ≡ others
  pages_none count page others past = let none : count - page ≡ 0 = omega arith in rw none refl

  pub pages_next : (count page : ℕ) (others : List R) → page < count
      → pages_up_to rows (count - page) page others ≡ rows page (pages_up_to rows (count - suc page) (suc page) others)
  pages_next count page others less = let some : count - page ≡ suc (count - suc page) = omega arith in rw some refl

-- pointers are less than a page apart, and a step
pub distance_near : (kind : PointerFormat) (raw : ℕ) → (pointer_of kind raw).distance ≤ 0x4000
unfolding pointer_of
distance_near format.Pointer64 raw = let most = and_le_r (raw / 2 ^ 51) 0xfff in omega (arith, most)
distance_near format.Arm64e raw = let most = and_le_r (raw / 2 ^ 51) 0x7ff in omega (arith, most)
distance_near format.Arm64e24 raw = let most = and_le_r (raw / 2 ^ 51) 0x7ff in omega (arith, most)

-- a test that holds, and a value that is there
pub cond_is : {A : Type 0} (test : Bool) (found : Option A) (it : A) → cond test found None ≡ Some it → (test ≡ true) × (found ≡ Some it)
cond_is true found it is = (refl, is)
cond_is false found it is = absurd (none-some it is)

same_distance : (value : Option KesvuotFixup) (at : KesvuotFixup → KesvuotFixup) (distance : ℕ) (got : KesvuotFixup × ℕ)
    → option_map {U = KesvuotFixup × ℕ} (λ v. (at v, distance)) value ≡ Some got → got.1 ≡ distance
same_distance None at distance got is = absurd (none-some got is)
same_distance (Some v) at distance got is = sym (ap (λ (r : KesvuotFixup × ℕ). r.1) (same_Some (at v, distance) got is))

last_or_far : (n distance : ℕ) → n ≡ distance → is_apart distance ≡ true → (n ≡ 0) ⊎ (8 ≤ n)
last_or_far n distance same apart = elim (or_cases (distance == 0) (nat_le 8 distance) apart) [
  | inl last ↦ inl (same ∙ eqb-true distance 0 last)
  | inr far ↦ let least = leb-true 8 distance far in inr (omega (arith, same, least))
]

module _ (image : List ℕ) (base : ℕ) (chains : List ℕ) (header : ChainHeader) (segment index : ℕ) (starts : SegmentStarts) where
  abbrev read : ℕ → ℕ → Option (KesvuotFixup × ℕ)
  read page offset = row_at image base chains header segment index starts page offset

  -- a pointer with a row ends in its page, and the next one does not begin in its bytes
  pub row_inside : (page offset : ℕ) (got : KesvuotFixup × ℕ) → read page offset ≡ Some got
      → (offset + 8 ≤ suc page * starts.page_size) × ((got.1 ≡ 0) ⊎ (8 ≤ got.1))
  unfolding row_at row_with
  row_inside page offset got is =
      option_and_then_some (row_with image base chains header segment index starts offset) (raw_at image segment starts page offset) got is (λ raw there told.
      let value = value_of base chains header starts raw in
      let place = located image segment index offset in
      let distance = (pointer_of starts.format raw).distance in
      let tests = cond_is (nat_lt page starts.page_count && nat_le (offset + 8) (suc page * starts.page_size)) (option_map (long image) (pointer_place image segment offset)) raw there in
      let ends = and_parts (nat_lt page starts.page_count) (nat_le (offset + 8) (suc page * starts.page_size)) tests.0 in
      let apart = cond_is (is_apart distance) (option_map {U = KesvuotFixup × ℕ} (λ v. (place v, distance)) value) got told in
      (leb-true (offset + 8) (suc page * starts.page_size) ends.1, last_or_far got.1 distance (same_distance value place distance got apart.1) apart.0))

  abbrev left_at : ℕ → ℕ → ℕ → List KesvuotFixup → List KesvuotFixup
  left_at page left offset others = pages_left image base chains header segment index starts page left offset others

  pub pages_done : (page left offset : ℕ) (others : List KesvuotFixup) → left ≡ 0 → starts.page_count ≤ page → left_at page left offset others ≡ others
  unfolding pages_left pages_from
  pages_done page left offset others between past =
      rw (eq-eqb left 0 between) (pages_none (page_rows image base chains header segment index starts) starts.page_count page others past)

  pub page_empty : (page left offset : ℕ) (others : List KesvuotFixup) → left ≡ 0 → page < starts.page_count → ¬ HasChain chains starts page
      → left_at page left offset others ≡ left_at (page + 1) left offset others
  unfolding pages_left pages_from
  page_empty page left offset others between less none =
      let is : page_start chains starts page ≡ 0xffff = elim (cases_eq (page_start chains starts page) 0xffff) [ inl same ↦ same | inr other ↦ absurd (none other) ] in
      let next : suc page ≡ page + 1 = omega arith in
      rw (eq-eqb left 0 between)
      (pages_next (page_rows image base chains header segment index starts) starts.page_count page others less
      ∙ rw (eq-eqb _ _ is) (ap (λ p. pages_up_to (page_rows image base chains header segment index starts) (starts.page_count - p) p others) next))

  pub page_begun : (page left offset first : ℕ) (others : List KesvuotFixup) → left ≡ 0 → page < starts.page_count → HasChain chains starts page
      → first ≡ first_offset chains starts page → left_at page left offset others ≡ left_at (page + 1) 1 first others
  unfolding pages_left pages_from
  page_begun page left offset first others between less some is =
      let next : suc page ≡ page + 1 = omega arith in
      let same : page ≡ page + 1 - 1 = omega arith in
      rw (eq-eqb left 0 between)
      (pages_next (page_rows image base chains header segment index starts) starts.page_count page others less
      ∙ rw (ne_eqb _ _ some)
      (ap (λ p. chain_from image base chains header segment index starts page (first_offset chains starts page) (pages_up_to (page_rows image base chains header segment index starts) (starts.page_count - p) p others)) next
      ∙ (ap (λ p. chain_from image base chains header segment index starts p (first_offset chains starts page) (pages_from image base chains header segment index starts (page + 1) others)) same
      ∙ ap (λ o. chain_from image base chains header segment index starts (page + 1 - 1) o (pages_from image base chains header segment index starts (page + 1) others)) (sym is))))

  pub row_none : (page left offset : ℕ) (others : List KesvuotFixup) → left ≢ 0 → read (page - 1) offset ≡ None → left_at page left offset others ≡ []
  unfolding pages_left chain_from
  row_none page left offset others next none =
      rw (ne_eqb left 0 next)
      (chain_none (read (page - 1)) (suc (page - 1) * starts.page_size) (row_inside (page - 1)) offset (pages_from image base chains header segment index starts page others) none)

  pub row_last : (page left offset : ℕ) (others : List KesvuotFixup) (got : KesvuotFixup × ℕ) → left ≢ 0 → read (page - 1) offset ≡ Some got → got.1 ≡ 0
      → left_at page left offset others ≡ got.0 ∷ left_at page 0 offset others
  unfolding pages_left chain_from
  row_last page left offset others got next is last =
      rw (ne_eqb left 0 next)
      (chain_next (read (page - 1)) (suc (page - 1) * starts.page_size) (row_inside (page - 1)) offset (pages_from image base chains header segment index starts page others) got is
      ∙ rw (eq-eqb got.1 0 last) refl)

  pub row_next : (page left offset : ℕ) (others : List KesvuotFixup) (got : KesvuotFixup × ℕ) → left ≢ 0 → read (page - 1) offset ≡ Some got → got.1 ≢ 0
      → left_at page left offset others ≡ got.0 ∷ left_at page left (offset + got.1) others
  unfolding pages_left chain_from
  row_next page left offset others got next is more =
      rw (ne_eqb left 0 next)
      (chain_next (read (page - 1)) (suc (page - 1) * starts.page_size) (row_inside (page - 1)) offset (pages_from image base chains header segment index starts page others) got is
      ∙ rw (ne_eqb got.1 0 more) refl)
