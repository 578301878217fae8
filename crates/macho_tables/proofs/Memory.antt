-- What is in memory where a loader cannot write: the file, and so the linked data.
use Rattle.std.proofs.Common.{◌≡◌, ℕ, ◌+◌, ◌-◌, ◌≤◌, ◌<◌, ◌⊎◌, List, length, drop, get_or, slice_get, Any, Contains, Some, None, Bool, true, sym, ap, ◌∙◌, subst, arith, inl, inr}
use Rattle.std.specs.Prelude.{slice_index, not, nat_lt}
use Rattle.std.proofs.lemmas.Bool.{cases_lt, cases_eq, false≢true, ltb-true, and_parts}
use Rattle.std.proofs.lemmas.List.{get_or-take, get_or-drop, length-take}
use Rattle.std.proofs.lemmas.Option.{slice_get_within, get_or_from_slice_get}
use Rattle.macho_fields.specs.Field.{part}
use Rattle.macho_fields.specs.Image.{command_cmd, commands_of}
use Rattle.macho_fields.specs.Layers.{NothingBreaks}
use Rattle.macho_fields.specs.Rules as layout
use Rattle.macho_fields.specs.Segment.{all_segments, vmaddr, vmsize, fileoff, filesize, Supplies}
use Rattle.macho_fields.specs.Symbol.{tables_of}
use Rattle.macho_fields.specs.declared.rule.Rule.TheVariants as rule
use Rattle.macho_rules.proofs.Judged.{opened_commands}
use Rattle.macho_rules.proofs.Searches.{any_of, one_of}
use Rattle.macho_rules.proofs.Verdicts.{unbroken_opened, unbroken_image_sound}
use Rattle.macho_spans.specs.Span.{Covers, Shares}
use Rattle.macho_spans.specs.declared.span.Span.{Span}
use Rattle.macho_tables.specs.Memory.{IsKept}
use Rattle.macho_tables.specs.Homes.{bytes_of_table, Encrypts, IsHome, IsAstray, HasHome, IsHomeless, BreaksTableHome}
use Rattle.macho_tables.specs.Kinds.{names_linked_data}
use Rattle.macho_tables.specs.Segments.{is_writable, is_constant, IsLinkedit}

-- the byte with an offset in a part of the image
part_at : (image : List ℕ) (start size k : ℕ) → k < size → get_or (part start size image) k 0 ≡ get_or image (start + k) 0
part_at image start size k less = get_or-take size (drop start image) k 0 less ∙ get_or-drop start image k 0

-- what encrypts some bytes encrypts those around them
pub encrypts_around : (image : List ℕ) (inner outer : Span) → outer.start ≤ inner.start → inner.start + inner.len ≤ outer.start + outer.len → Any (Encrypts inner image) (commands_of image)
    → Any (Encrypts outer image) (commands_of image)
encrypts_around image inner outer low high any =
    let (c, listed, (cmd, ranges)) = one_of (Encrypts inner image) (commands_of image) any in
    let (range, bounds, (spot, in_range, (from, to))) = one_of (λ r. Shares (bytes_of_table r) inner) (tables_of image c) ranges in
    any_of (Encrypts outer image) (commands_of image) c listed
    (cmd, any_of (λ r. Shares (bytes_of_table r) outer) (tables_of image c) range bounds (spot, in_range, (omega (arith, from, low), omega (arith, to, high))))

-- the segment with an index is one of the image
pub segment_among : (image : List ℕ) (index s : ℕ) → slice_get (all_segments image) index ≡ Some s → Contains (all_segments image) s
segment_among image index s at = (index, slice_get_within (all_segments image) index s at, get_or_from_slice_get (all_segments image) index s s at)

pub writable_mapped : (image : List ℕ) (s : ℕ) → is_writable image s ≡ true → 0 < vmsize image s
writable_mapped image s can = let (mapped, some) = and_parts (nat_lt 0 (vmsize image s)) _ can in ltb-true 0 (vmsize image s) mapped

-- no loader can write a constant segment
pub never_both : (image : List ℕ) (s : ℕ) → is_writable image s ≡ true → is_constant image s ≡ true → ⊥
never_both image s can constant =
    let (readable, cannot) = and_parts _ (not (is_writable image s)) constant in
    false≢true (subst (λ (b : Bool). not b ≡ true) can cannot)

module _ (image : List ℕ) (unbroken : NothingBreaks (layout.BreaksImage image None)) where
  -- a mapped segment has no more bytes in the file than addresses
  file_in_memory : (s : ℕ) → Contains (all_segments image) s → 0 < vmsize image s → filesize image s ≤ vmsize image s
  file_in_memory s has mapped = elim (cases_lt (vmsize image s) (filesize image s)) [
    | inl past ↦
        absurd (unbroken rule.SegmentSize s (inr (commands_of image, opened_commands image (unbroken_opened image unbroken), (has, (mapped, past)))))
    | inr fits ↦ fits
  ]

  -- A pointer in the file bytes of a segment that can be written
  module _ (w offset : ℕ) (among : Contains (all_segments image) w) (can : is_writable image w ≡ true) (inside : offset + 8 ≤ filesize image w) where
    -- has a byte of no other segment
    pub of_one_segment : (s k : ℕ) → Contains (all_segments image) s → 0 < vmsize image s → k < filesize image s → Covers (vmaddr image w + offset) 8 (vmaddr image s + k) → w ≡ s
    of_one_segment s k has mapped below (low, high) =
        let fits_w = file_in_memory w among (writable_mapped image w can) in
        let fits_s = file_in_memory s has mapped in
        let by_w : Supplies image w (vmaddr image s + k) = (omega (arith, low), omega (arith, high, inside, fits_w)) in
        let by_s : Supplies image s (vmaddr image s + k) = (omega arith, omega (arith, below, fits_s)) in
        (unbroken_image_sound image unbroken).one_segment w s (vmaddr image s + k) among has by_w by_s

    -- and no byte that a loader cannot write
    pub never_constant : (s k : ℕ) → Contains (all_segments image) s → 0 < vmsize image s → is_constant image s ≡ true → k < filesize image s
        → Covers (vmaddr image w + offset) 8 (vmaddr image s + k) → ⊥
    never_constant s k has mapped constant below covers =
        let same = of_one_segment s k has mapped below covers in never_both image s (subst (λ (n : ℕ). is_writable image n ≡ true) same can) constant

    -- so where it is written, memory is kept
    pub still_kept : (before after : ℕ → ℕ) → ((address : ℕ) → (after address ≡ before address) ⊎ Covers (vmaddr image w + offset) 8 address) → IsKept image before → IsKept image after
    still_kept before after writes kept s k has mapped constant plain below clear = elim (writes (vmaddr image s + k)) [
      | inl same ↦ same ∙ kept s k has mapped constant plain below clear
      | inr covers ↦ absurd (never_constant s k has mapped constant below covers)
    ]

-- A table of linked data in memory that is kept
module _ (image : List ℕ) (kept : (place : ℕ) → ¬ BreaksTableHome image place) (command : ℕ) (listed : Contains (commands_of image) command)
    (names : names_linked_data (command_cmd image command) ≡ true) (table : ℕ × ℕ × ℕ) (has : Contains (tables_of image command) table) (home : ℕ)
    (found : Any (λ s. IsLinkedit image s × (home + fileoff image s ≡ vmaddr image s + table.0)) (all_segments image)) (memory : ℕ → ℕ) (still : IsKept image memory) where
  abbrev bytes : List ℕ
  bytes = part table.0 table.1 image

  short : (k : ℕ) → k < length bytes → k < table.1
  short k less = let count = length-take table.1 (drop table.0 image) in omega (arith, count, less)

  byte_at : (k : ℕ) → k < length bytes → (l : ℕ) → Contains (all_segments image) l → (home + fileoff image l ≡ vmaddr image l + table.0) → IsHome (bytes_of_table table) image l
      → (¬ Any (Encrypts (bytes_of_table table) image) (commands_of image)) → memory (home + k) ≡ get_or bytes k 0
  byte_at k less l among at (mapped, constant, plain, (low, high)) clear =
      let near = short k less in
      let inside : table.0 + k - fileoff image l < filesize image l = omega (arith, low, high, near) in
      let address : home + k ≡ vmaddr image l + (table.0 + k - fileoff image l) = omega (arith, at, low, near) in
      let place : fileoff image l + (table.0 + k - fileoff image l) ≡ table.0 + k = omega (arith, low, near) in
      let byte : Span = record { start = fileoff image l + (table.0 + k - fileoff image l); len = 1 } in
      ap memory address
      ∙ (still l (table.0 + k - fileoff image l) among mapped constant plain inside (λ any. clear (encrypts_around image byte (bytes_of_table table) (omega (arith, low, near)) (omega (arith, low, near)) any))
      ∙ (ap (slice_index image) place ∙ sym (part_at image table.0 table.1 k near)))

  -- is the file's
  pub same_in_memory : (k : ℕ) → k < length bytes → memory (home + k) ≡ get_or bytes k 0
  same_in_memory k less = elim (cases_eq (memory (home + k)) (get_or bytes k 0)) [
    | inl same ↦ same
    | inr apart ↦ absurd (no_home (λ home_is. lost apart home_is))
  ]
    where
      no_home : ¬ ¬ HasHome (bytes_of_table table) image
      no_home none =
          let near = short k less in
          kept command (listed, inl (names, any_of (IsHomeless image) (tables_of image command) table has (omega (arith, near), none)))

      lost : ¬ (memory (home + k) ≡ get_or bytes k 0) → HasHome (bytes_of_table table) image → ⊥
      lost apart home_is =
          let (l, among, (linkedit, at)) = one_of (λ s. IsLinkedit image s × (home + fileoff image s ≡ vmaddr image s + table.0)) (all_segments image) found in
          home_is.1 (any_of (IsAstray (bytes_of_table table) image) (all_segments image) l among (linkedit, λ here. apart (byte_at k less l among at here home_is.2)))
