-- The place of the first break of a file lies in the file, or just after its last byte.
use Rattle.std.proofs.Common.{◌≡◌, ℕ, suc, zero, ◌+◌, ◌*◌, ◌≤◌, ◌<◌, List, length, drop, Contains, Option, Some, None, IsSomeAnd, slice_get, refl, ap, ◌∙◌, arith, lit<, inl, inr, length-take}
use Rattle.std.specs.Option.{option_map_or}
use Rattle.std.proofs.lemmas.Bool.{cases_lt}
use Rattle.std.proofs.Math.Nat.{mul-le-mul_right}
use Rattle.macho_fields.specs.Universal.{FileSlice, IsUniversal, IsImage, entry_count, entry_size, entry_place, entry_slice, table_end, slices_of, slice_bytes}
use Rattle.macho_fields.specs.Rules.{AtEntry, BreaksFile, BreaksImage}
use Rattle.macho_fields.specs.Layers.{KeptBelow}
use Rattle.macho_fields.specs.First.{rank, Fault, IsBroken, IsBrokenIn, IsBefore, IsFirstBroken, scope_start}
use Rattle.macho_fields.specs.declared.rule.Rule.{Rule}
use Rattle.macho_fields.specs.declared.rule.Rule.TheVariants as rule
use Rattle.macho_fields.specs.declared.rule.Break.{Break}
use Rattle.macho_fields.proofs.Inside.{item_of_range, place_inside}
use Rattle.macho_fields.proofs.Scopes.{of_slice}
use Rattle.macho_fields.proofs.Sound.{slice_inside}

-- Of a file that breaks no earlier rule of its own
module _ (file : List ℕ) where
  abbrev Below : ℕ → Type 0
  Below n = KeptBelow (BreaksFile file) n

  table_inside : (n : ℕ) → rank rule.FatTruncated < n → Below n → IsUniversal file → table_end file ≤ length file
  table_inside n late below u = elim (cases_lt (length file) (table_end file)) [
    | inl short ↦ absurd (below rule.FatTruncated 4 (omega arith) (refl, u, inr short))
    | inr most ↦ most
  ]

  at_entry : (n : ℕ) → rank rule.FatTruncated < n → Below n → IsUniversal file → (P : ℕ → Type 0) (place : ℕ) → AtEntry file P place → place ≤ length file
  at_entry n late below u P place (k, less, is, p) =
      let most = table_inside n late below u in
      let before : k * entry_size file ≤ entry_count file * entry_size file = mul-le-mul_right (entry_size file) (omega arith) in
      omega (arith, is, before, most)

  slice_starts : (n : ℕ) → rank rule.FatSliceOutside < n → Below n → IsUniversal file → (slice : FileSlice) → Contains (slices_of file) slice → slice.start ≤ length file
  slice_starts n late below u slice has =
      let (k, less, is) = item_of_range (entry_slice file) 0 (entry_count file) slice (rw u.1 at has) in
      entry k less (is ∙ ap (entry_slice file) (let p : 0 + k ≡ k = omega arith in p))
    where
      entry : (k : ℕ) → k < entry_count file → slice ≡ entry_slice file k → slice.start ≤ length file
      entry k less is = elim (cases_lt (length file) ((entry_slice file k).start + (entry_slice file k).size)) [
        | inl out ↦ absurd (below rule.FatSliceOutside (entry_place file k) (omega arith) (u, (k, less, refl, out)))
        | inr most ↦ let start : slice.start ≡ (entry_slice file k).start = ap (λ (s : FileSlice). s.start) is in omega (arith, start)
      ]

  -- the place at which a rule of the file is broken
  file_place_inside : (r : Rule) (place : ℕ) → Below (rank r) → BreaksFile file r place → place ≤ length file
  file_place_inside rule.Magic place below h = let at = h.0 in omega arith
  file_place_inside rule.FatTruncated place below h = let at = h.0 in let long = h.1.0 in omega arith
  file_place_inside rule.FatSliceMagic place below h =
      let (j, slice, less, at, (is, p)) = h.1 in
      let most = slice_starts (rank rule.FatSliceMagic) (lit< tt) below h.0 slice (j, less, at) in omega (arith, is)
  file_place_inside rule.FatEmpty place below h = let at = h.0 in let long = h.1.0 in omega arith
  file_place_inside other place below h = search (lit<, at_entry (rank other))

-- a place of a scope, counted from the start of the file
module _ (file : List ℕ) where
  abbrev NoneBefore : ℕ → Rule → ℕ → Type 0
  NoneBefore scope r place = (other : Fault) → IsBroken file other → ¬ IsBefore other (record { scope = scope; rule = r; place = place })

  in_slice : (k : ℕ) (r : Rule) (place : ℕ) (o : Option FileSlice) → slice_get (slices_of file) k ≡ o
      → IsSomeAnd o (λ slice. IsImage (slice_bytes file slice) × BreaksImage (slice_bytes file slice) slice.arch r place)
      → NoneBefore (suc k) r place → scope_start file (suc k) + place ≤ length file
  in_slice k r place None is broken first = absurd broken
  in_slice k r place (Some slice) is (image, broken) first =
      let bytes = slice_bytes file slice in
      let ends = slice_inside file (λ other p h. first (record { scope = 0; rule = other; place = p }) h (inl (omega arith))) k slice is in
      let most = place_inside bytes slice.arch r place
      (λ other p less h. first (record { scope = suc k; rule = other; place = p }) (of_slice BreaksFile BreaksImage file k slice is image other p h) (inr (refl, inl less)))
      broken in
      let start : scope_start file (suc k) ≡ slice.start = ap (λ o. option_map_or (λ (s : FileSlice). s.start) o 0) is in
      omega (arith, start, length-take slice.size (drop slice.start file))

  in_scope : (scope : ℕ) (r : Rule) (place : ℕ) → IsBrokenIn file scope r place → NoneBefore scope r place → scope_start file scope + place ≤ length file
  in_scope zero r place broken first =
      let most = file_place_inside file r place (λ other p less h. first (record { scope = 0; rule = other; place = p }) h (inr (refl, inl less))) broken in omega arith
  in_scope (suc k) r place broken first = in_slice k r place (slice_get (slices_of file) k) refl broken first

  pub first_place_inside : (b : Break) → IsFirstBroken file b → b.place ≤ length file
  first_place_inside b (fault, broken, first, same, start) = let most = in_scope fault.scope fault.rule fault.place broken first in omega (arith, start)
