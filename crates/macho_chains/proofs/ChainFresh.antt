-- The pointers that a loader is still to come to are in memory as the file has them.
use Rattle.std.proofs.Common.{◌≡◌, ℕ, suc, ◌+◌, ◌≤◌, ◌<◌, ◌⊎◌, List, get_or, slice_get, Some, None, true, refl, sym, ap, ◌∙◌, arith, inl, inr}
use Rattle.std.specs.Prelude.{slice_index, ◌==◌}
use Rattle.std.proofs.lemmas.Bool.{cases_Bool}
use Rattle.std.proofs.lemmas.List.Kept.{AllPairs-filter}
use Rattle.std.proofs.lemmas.Option.{slice_get_within, get_or_from_slice_get}
use Rattle.macho_fields.specs.Image.{command_cmd, commands_of}
use Rattle.macho_fields.specs.Layers.{NothingBreaks}
use Rattle.macho_fields.specs.Rules as layout
use Rattle.macho_fields.specs.Segment.{all_segments, vmaddr, fileoff, filesize}
use Rattle.macho_fields.specs.declared.header.loader.TheConstants as loader
use Rattle.macho_fields.proofs.Chains.{places_rise}
use Rattle.macho_rules.proofs.Judged.{opened_commands}
use Rattle.macho_rules.proofs.Verdicts.{unbroken_opened}
use Rattle.macho_spans.specs.Span.{Covers}
use Rattle.macho_spans.specs.declared.span.Span.{Span}
use Rattle.macho_chains.specs.ChainDyld.{IsInMemory}
use Rattle.macho_chains.specs.ChainPointers.{IsRoomTo}
use Rattle.macho_tables.specs.Homes.{bytes_of_segment}
use Rattle.macho_tables.specs.Limits.{room}
use Rattle.macho_tables.specs.Segments.{is_writable}
use Rattle.macho_tables.proofs.Memory.{encrypts_around, segment_among, writable_mapped, of_one_segment}

-- From an offset of a segment on, and in the segments after it, a loader finds what is in the file
abbrev pub IsFresh : List ℕ → (ℕ → ℕ) → ℕ → ℕ → Type 0
IsFresh image memory segment reach =
    (j s end k : ℕ) → slice_get (all_segments image) j ≡ Some s → IsRoomTo image s end → k < end → ((segment < j) ⊎ ((segment ≡ j) × (reach ≤ k)))
    → memory (vmaddr image s + k) ≡ slice_index image (fileoff image s + k)

-- a segment with some room can be written, and has it in the file
pub room_whole : (image : List ℕ) (s end : ℕ) → IsRoomTo image s end → 0 < end → (is_writable image s ≡ true) × (end ≤ filesize image s)
room_whole image s end to some = elim (cases_Bool (is_writable image s)) [
  | inl t ↦ let whole : room image s ≡ filesize image s = rw t refl in let fits = to.written in (t, omega (arith, fits, whole))
  | inr f ↦ let none : room image s ≡ 0 = rw f refl in let fits = to.written in absurd (omega (arith, fits, none, some))
]

-- memory that has been mapped is
pub fresh_first : (image : List ℕ) (memory : ℕ → ℕ) → IsInMemory image memory → IsFresh image memory 0 0
fresh_first image memory mapped j s end k at to below later =
    let (can, inside) = room_whole image s end to (omega (arith, below)) in
    let byte : Span = record { start = fileoff image s + k; len = 1 } in
    mapped s k (segment_among image j s at) (writable_mapped image s can) to.plain (omega (arith, below, inside))
    (λ any. to.clear (encrypts_around image byte (bytes_of_segment image s) (omega arith) (omega (arith, below, inside)) any))

module _ (image : List ℕ) (before after : ℕ → ℕ) (segment reach : ℕ) (fresh : IsFresh image before segment reach) where
  -- where nothing is written
  pub fresh_same : ((address : ℕ) → after address ≡ before address) → IsFresh image after segment reach
  fresh_same same j s end k at to below later = same (vmaddr image s + k) ∙ fresh j s end k at to below later

  -- from the next segment on
  pub fresh_next : ((address : ℕ) → after address ≡ before address) → IsFresh image after (suc segment) 0
  fresh_next same j s end k at to below later =
      same (vmaddr image s + k)
      ∙ fresh j s end k at to below (inl (elim later [ inl past ↦ (let less : segment < j = omega (arith, past) in less) | inr here ↦ (let less : segment < j = omega (arith, here.0) in less) ]))

  -- past a pointer that is written
  module _ (unbroken : NothingBreaks (layout.BreaksImage image None)) (w offset : ℕ) (there : slice_get (all_segments image) segment ≡ Some w)
      (can : is_writable image w ≡ true) (inside : offset + 8 ≤ filesize image w) (past : reach ≤ offset)
      (writes : (address : ℕ) → (after address ≡ before address) ⊎ Covers (vmaddr image w + offset) 8 address) where
    -- a segment is there once
    once : (j : ℕ) → slice_get (all_segments image) j ≡ Some w → segment < j → ⊥
    once j at less =
        let (count, next, chain) = opened_commands image (unbroken_opened image unbroken) in
        let rise = AllPairs-filter (λ a b. a < b) (λ command. command_cmd image command == loader.LC_SEGMENT_64) (commands_of image) (places_rise image 32 (commands_of image) next chain) in
        let up : get_or (all_segments image) segment 0 < get_or (all_segments image) j 0 = rise segment j 0 less (slice_get_within (all_segments image) j w at) in
        let first = get_or_from_slice_get (all_segments image) segment w 0 there in
        let second = get_or_from_slice_get (all_segments image) j w 0 at in omega (arith, up, first, second)

    pub fresh_past : IsFresh image after segment (offset + 8)
    fresh_past j s end k at to below later = elim (writes (vmaddr image s + k)) [
      | inl same ↦ same ∙ fresh j s end k at to below (elim later [ inl next ↦ inl next | inr here ↦ inr (here.0, omega (arith, here.1, past)) ])
      | inr covers ↦
          let (can_s, inside_s) = room_whole image s end to (omega (arith, below)) in
          let same =
          of_one_segment image unbroken w offset (segment_among image segment w there) can inside s k (segment_among image j s at) (writable_mapped image s can_s) (omega (arith, below, inside_s)) covers in
          elim later [
            | inl next ↦ absurd (once j (at ∙ ap (λ n. Some n) (sym same)) next)
            | inr here ↦ absurd (omega (arith, ap (vmaddr image) same, covers.0, covers.1, here.1))
          ]
    ]
