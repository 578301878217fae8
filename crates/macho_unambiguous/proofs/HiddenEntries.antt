-- No entry just past the table is for arm64: a byte there is zero, or the first one of a magic number.
use Rattle.std.proofs.Common.{◌≡◌, ℕ, ◌+◌, ◌-◌, ◌*◌, ◌^◌, ◌≤◌, ◌<◌, min, List, length, drop, slice_index, refl, sym, ap, ◌∙◌, arith, inl, inr, length-drop, length-take}
use Rattle.std.proofs.lemmas.Bool.{cases_lt}
use Rattle.std.proofs.lemmas.List.{get_or-drop, get_or_past}
use Rattle.std.proofs.lemmas.Option.{slice_get_within, get_or_from_slice_get}
use Rattle.macho_fields.specs.Field.{part}
use Rattle.macho_fields.specs.First.{IsUnbroken}
use Rattle.macho_fields.specs.Loader.{IsSound}
use Rattle.macho_fields.specs.Rules.{BreaksFile}
use Rattle.macho_fields.specs.Universal.{IsUniversal, IsForeign, HasPlace, entry_count, entry_place, entry_slice, slice_bytes, slices_of, table_end}
use Rattle.macho_fields.specs.declared.header.loader.TheConstants as loader
use Rattle.macho_fields.specs.declared.header.machine.TheConstants as machine
use Rattle.macho_fields.specs.declared.rule.Rule.{Rule}
use Rattle.macho_fields.specs.declared.rule.Rule.TheVariants as rule
use Rattle.macho_fields.proofs.ClippedParts.{read_part}
use Rattle.macho_fields.proofs.Slices.{each_entry, some_entry, some_slice}
use Rattle.macho_fields.proofs.Sound.{unbroken_is_sound}
use Rattle.macho_strict.specs.First.{IsStrictlyUnbroken}
use Rattle.macho_strict.proofs.Accounted.{unbroken_is_accounted}
use Rattle.macho_readers.specs.HiddenEntries.{IsHiddenEntry, IsCountedSlice, IsSliceOfLipo, HasNoHiddenSlice}

-- the first byte of a number of four
module _ (a b c d : ℕ) (fits_a : a < 256) (fits_b : b < 256) (fits_c : c < 256) (fits_d : d < 256) where
  arm64_first : a * 256 ^ 3 + (b * 256 ^ 2 + (c * 256 ^ 1 + (d * 256 ^ 0 + 0))) ≡ machine.CPU_TYPE_ARM64 → a ≡ 1
  arm64_first is = omega (arith, is, fits_b, fits_c, fits_d)

  magic_first : a * 256 ^ 3 + (b * 256 ^ 2 + (c * 256 ^ 1 + (d * 256 ^ 0 + 0))) ≡ loader.MH_MAGIC → 1 < a
  magic_first is = omega (arith, is, fits_b, fits_c, fits_d)

  wide_magic_first : a * 256 ^ 3 + (b * 256 ^ 2 + (c * 256 ^ 1 + (d * 256 ^ 0 + 0))) ≡ loader.MH_MAGIC_64 → 1 < a
  wide_magic_first is = omega (arith, is, fits_b, fits_c, fits_d)

-- no image begins with the byte 1
module _ (bytes : List ℕ) (fits : (k : ℕ) → slice_index bytes k < 256) (first : slice_index bytes 0 ≡ 1) where
  foreign : IsForeign bytes
  foreign (inl (_, magic)) = omega (arith, magic, first)
  foreign (inr (_, inl magic)) = omega (arith, magic, first)
  foreign (inr (_, inr (inl magic))) = let more = magic_first _ _ _ _ (fits 0) (fits 1) (fits 2) (fits 3) magic in omega (arith, more, first)
  foreign (inr (_, inr (inr magic))) = let more = wide_magic_first _ _ _ _ (fits 0) (fits 1) (fits 2) (fits 3) magic in omega (arith, more, first)

module _ (file : List ℕ) (fits : (k : ℕ) → slice_index file k < 256) (unbroken : IsUnbroken file) (strictly : IsStrictlyUnbroken file) (universal : IsUniversal file) where
  sound : IsSound file
  sound = unbroken_is_sound file unbroken

  keeps_file : (r : Rule) (place : ℕ) → ¬ BreaksFile file r place
  keeps_file r place broken = unbroken (record { scope = 0; rule = r; place = place }) broken

  part_fits : (start len k : ℕ) → slice_index (part start len file) k < 256
  part_fits start len k = elim (cases_lt k (length (part start len file))) [
    | inl less ↦ let at = fits (start + k) in omega (arith, read_part file (part start len file) start len refl k less, at)
    | inr past ↦ omega (arith, get_or_past (part start len file) k 0 past)
  ]

  -- no slice has the byte 1 just past the table
  not_first : (k : ℕ) → k < entry_count file → HasPlace (entry_slice file k) (table_end file) → ¬ (slice_index file (table_end file) ≡ 1)
  not_first k less (low, high) one =
      let slice = entry_slice file k in
      let bytes = slice_bytes file slice in
      let after = each_entry file (λ s. (p : ℕ) → HasPlace s p → table_end file ≤ p) universal (sound.after_table universal) k less slice.start (omega arith, omega (arith, low, high)) in
      let same : slice.start ≡ table_end file = omega (arith, low, after) in
      let inside = each_entry file (λ s. s.start + s.size ≤ length file) universal sound.inside k less in
      let cut : length bytes ≡ min slice.size (length file - slice.start) = length-take slice.size (drop slice.start file) ∙ ap (min slice.size) (length-drop slice.start file) in
      let begins : slice_index bytes 0 ≡ slice_index file (slice.start + 0) = read_part file bytes slice.start slice.size refl 0 (omega (arith, cut, inside, low, high)) in
      let at : slice.start + 0 ≡ table_end file = omega (arith, same) in
      let first : slice_index bytes 0 ≡ 1 = begins ∙ (ap (slice_index file) at ∙ one) in
      keeps_file rule.FatSliceMagic slice.start
      (universal, some_slice file (λ s. (slice.start ≡ s.start) × IsForeign (slice_bytes file s)) k universal less (refl, foreign bytes (part_fits slice.start slice.size) first))

  none_hidden : (k : ℕ) → ¬ IsHiddenEntry file k
  none_hidden k (at, long, kind) =
      let place = entry_place file k in
      let end : place ≡ table_end file = ap (entry_place file) at in
      let byte : (i : ℕ) → slice_index (drop place file) i < 256 = λ i. let here = fits (place + i) in omega (arith, here, get_or-drop place file i 0) in
      let leads : slice_index (drop place file) 0 ≡ 1 = arm64_first _ _ _ _ (byte 0) (byte 1) (byte 2) (byte 3) kind in
      let first : slice_index file (table_end file) ≡ 1 =
      ap (slice_index file) (let same : table_end file ≡ place + 0 = omega (arith, end) in same) ∙ (sym (get_or-drop place file 0 0) ∙ leads) in
      elim ((unbroken_is_accounted file unbroken strictly).bytes (table_end file) (omega (arith, end, long), λ zero. omega (arith, first, zero))) [
        | inl (_, before) ↦ omega (arith, before)
        | inr (j, s, at_j, here, _) ↦
            let (i, listed, there) = some_entry file (λ s. HasPlace s (table_end file)) universal (j, s, slice_get_within (slices_of file) j s at_j, get_or_from_slice_get (slices_of file) j s s at_j, here) in
            not_first i listed there first
      ]

pub no_hidden_slice : (file : List ℕ) → ((k : ℕ) → slice_index file k < 256) → IsUnbroken file → IsStrictlyUnbroken file → HasNoHiddenSlice file
no_hidden_slice file fits unbroken strictly universal cputype k = (to, inl)
  where
    to : IsSliceOfLipo file cputype k → IsCountedSlice file cputype k
    to (inl counted) = counted
    to (inr (hidden, _)) = absurd (none_hidden file fits unbroken strictly universal k hidden)
