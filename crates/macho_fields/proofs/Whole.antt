-- Each part that a structure of a sound image names lies inside it.
use Rattle.std.proofs.Common.{◌≡◌, ℕ, ◌+◌, ◌-◌, List, length, drop, arith, inl, inr, length-drop, length-take}
use Rattle.std.proofs.lemmas.Bool.{cases_lt}
use Rattle.macho_spans.specs.Span.{Covers}
use Rattle.macho_fields.specs.Field.{part}
use Rattle.macho_fields.specs.Loader.{IsPart, Reads, IsSoundImage}
use Rattle.macho_fields.specs.Loader.Reads.{in_command, in_segment, in_section, in_table}

-- the same places, where the numbers are the same
covers_too : (start len own size place : ℕ) → start ≡ own → len ≡ size → Covers start len place → Covers own size place
covers_too start len own size place same fits (low, high) = (omega arith, omega arith)

module _ (image commands : List ℕ) (start len : ℕ) where
  -- the loader reads each place of a part
  part_read : IsPart image commands start len → (place : ℕ) → Covers start len place → Reads image commands place
  part_read (inl (k, command, less, at, (same, fits))) place held = in_command (k, command, less, at, covers_too start len _ _ place same fits held)
  part_read (inr (inl (k, segment, less, at, (same, fits)))) place held = in_segment (k, segment, less, at, covers_too start len _ _ place same fits held)
  part_read (inr (inr (inl (k, segment, less, at, (j, section, below, there, (filled, same, fits)))))) place held =
      in_section (k, segment, less, at, (j, section, below, there, (filled, covers_too start len _ _ place same fits held)))
  part_read (inr (inr (inr table))) place held = in_table start len table held

  pub part_is_whole : IsSoundImage image commands → IsPart image commands start len → length (part start len image) ≡ len
  part_is_whole sound is = elim (cases_lt 0 len) [
    | inl some ↦ let last = sound.reads (start + len - 1) (part_read is (start + len - 1) (omega arith, omega arith)) in omega (arith, length-take len (drop start image), length-drop start image, last)
    | inr none ↦ omega (arith, length-take len (drop start image))
  ]
