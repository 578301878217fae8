-- Which addresses of an image have a byte of the file: by its segments, and by its mapping.
use Rattle.std.proofs.Common.{◌≡◌, ◌↔◌, ℕ, ◌+◌, ◌-◌, ◌^◌, ◌≤◌, ◌<◌, ◌⊎◌, List, length, map, slice_get, Bool, IsTrue, Option, Some, None, refl, sym, ap, ◌∙◌, arith, inl, inr}
use Rattle.std.specs.Prelude.{min}
use Rattle.std.specs.Option.{option_map, is_some}
use Rattle.std.proofs.lemmas.Bool.{cases_lt, lt-ltb, le-ltb, false≢true}
use Rattle.std.proofs.lemmas.List.{length-map}
use Rattle.std.proofs.lemmas.Option.{slice_get_cases, slice_get_within}
use Rattle.std.proofs.Math.Nat.{min-eq_left, min-eq_right}
use Rattle.macho_fields.specs.Image.{commands_of}
use Rattle.macho_fields.specs.Layers.{NothingBreaks}
use Rattle.macho_fields.specs.Rules.{BreaksImage}
use Rattle.macho_fields.specs.Segment.{Source, File, Zero, IsAtAddress, Supplies, source, all_segments, vmaddr, vmsize, fileoff, filesize}
use Rattle.macho_fields.specs.declared.rule.Rule.TheVariants as rule
use Rattle.macho_fields.proofs.Decided.{any_or_not, both_or_not, le_or_not}
use Rattle.macho_rules.proofs.Judged.{opened_commands}
use Rattle.macho_rules.proofs.Searches.{any_of, one_of}
use Rattle.macho_rules.proofs.Verdicts.{unbroken_opened}
use Rattle.macho_image.specs.Mapped.{mapped_segments}
use Rattle.macho_image.specs.Segment.{SegmentView, segment_at}
use Rattle.macho_tables.specs.FileBytes.{GivesFileBytes, HasManySegments}
use Rattle.macho_tables.specs.StartNumbers.{HasByteAt, IsFileAddress}

less_or_not : (a b : ℕ) → (a < b) ⊎ ¬ (a < b)
less_or_not a b = elim (cases_lt a b) [ inl less ↦ inl less | inr more ↦ inr (λ less. omega (arith, less, more)) ]

module _ (image : List ℕ) (address : ℕ) where
  pub supplies_or_not : (segment : ℕ) → Supplies image segment address ⊎ ¬ Supplies image segment address
  supplies_or_not segment = both_or_not (le_or_not (vmaddr image segment) address) (less_or_not address (vmaddr image segment + vmsize image segment))

  pub file_or_not : IsFileAddress image address ⊎ ¬ IsFileAddress image address
  file_or_not =
      any_or_not (HasByteAt image address)
      (λ segment. both_or_not (supplies_or_not segment) (less_or_not address (vmaddr image segment + filesize image segment))) (all_segments image)

  file_byte : (segment : ℕ) → HasByteAt image address segment → (place : ℕ) × (source image segment address ≡ File place)
  file_byte segment ((low, high), within) =
      let less : address - vmaddr image segment < filesize image segment = omega (arith, low, within) in
      (fileoff image segment + (address - vmaddr image segment), rw (lt-ltb _ _ less) refl)

  zero_byte : (segment : ℕ) → Supplies image segment address → (place : ℕ) → source image segment address ≡ File place → HasByteAt image address segment
  zero_byte segment supplies place is = elim (cases_lt (address - vmaddr image segment) (filesize image segment)) [
    | inl less ↦ let low = supplies.0 in (supplies, omega (arith, less, low))
    | inr more ↦ let zero : Zero ≡ File place = rw (le-ltb _ _ more) at is in absurd (cc)
  ]

  -- what a mapping gives there
  pub mapped_byte : (given : ℕ → Option Source) → IsAtAddress image address (given address) → GivesFileBytes given address ↔ IsFileAddress image address
  mapped_byte given at = (
    λ (place, is). elim (any_or_not (λ segment. Supplies image segment address) supplies_or_not (all_segments image)) [
      | inl any ↦
          let (segment, has, supplies) = one_of (λ segment. Supplies image segment address) (all_segments image) any in
          let same : Some (source image segment address) ≡ Some (File place) = sym (at.0 segment has supplies) ∙ is in
          let one : source image segment address ≡ File place = cc in
          any_of (HasByteAt image address) (all_segments image) segment has (zero_byte segment supplies place one)
      | inr none ↦
          let missing = at.1 (λ segment has supplies. none (any_of (λ s. Supplies image s address) (all_segments image) segment has supplies)) in
          absurd (cc)
    ],
    λ any. let (segment, has, here) = one_of (HasByteAt image address) (all_segments image) any in
        let (place, is) = file_byte segment here in
        (place, at.0 segment has here.0 ∙ ap Some is),
  )

-- the addresses of a segment that have bytes of the file
pub held_bytes : (image : List ℕ) (address segment : ℕ)
    → ((vmaddr image segment ≤ address) × (address < vmaddr image segment + min (vmsize image segment) (filesize image segment))) ↔ HasByteAt image address segment
held_bytes image address segment = elim (cases_lt (vmsize image segment) (filesize image segment)) [
  | inl less ↦
      let short : vmsize image segment ≤ filesize image segment = omega (arith, less) in
      rw (min-eq_left short) (λ (low, high). ((low, high), omega (arith, high, less)), λ ((low, high), within). (low, high))
  | inr more ↦ rw (min-eq_right more) (λ (low, high). ((low, omega (arith, high, more)), high), λ ((low, high), within). (low, within))
]

-- none of them is 2^64 or more
pub file_address_fits : (image : List ℕ) → NothingBreaks (BreaksImage image None) → (address : ℕ) → IsFileAddress image address → address < 2 ^ 64
file_address_fits image keeps address any =
    let (segment, has, here) = one_of (HasByteAt image address) (all_segments image) any in
    elim (cases_lt (2 ^ 64) (vmaddr image segment + vmsize image segment)) [
      | inl past ↦ absurd (keeps rule.SegmentAddress segment (inr (commands_of image, opened_commands image (unbroken_opened image keeps), (has, past))))
      | inr fits ↦ let high = here.0.1 in omega (arith, high, fits)
    ]

-- whether an image has many mapped segments
pub many_or_few : (image : List ℕ) (all : List SegmentView) → all ≡ map (segment_at image) (mapped_segments image) → (nth : Option SegmentView) → option_map (λ s. s) nth ≡ slice_get all 16
    → (is_many : Bool) → is_many ≡ is_some nth → IsTrue is_many ↔ HasManySegments image
many_or_few image all are nth found is_many is = by nth found is
  where
    count : length all ≡ length (mapped_segments image)
    count = ap length are ∙ length-map (mapped_segments image) (segment_at image)

    by : (o : Option SegmentView) → option_map (λ s. s) o ≡ slice_get all 16 → is_many ≡ is_some o → IsTrue is_many ↔ HasManySegments image
    by None none few = (
      λ many. absurd (false≢true (sym few ∙ many)),
      λ many. let past = slice_get_get all (omega (arith, many, count)) in absurd (cc),
    )
      where
        slice_get_get : (xs : List SegmentView) → 16 < length xs → (x : SegmentView) × (slice_get xs 16 ≡ Some x)
        slice_get_get xs less = elim (slice_get_cases xs 16).1 [ inl (x, inside, at, same) ↦ (x, at) | inr (past, none) ↦ absurd (omega (arith, less, past)) ]
    by (Some s) some many = (λ _. let within = slice_get_within all 16 s (sym some) in omega (arith, within, count), λ _. many)
