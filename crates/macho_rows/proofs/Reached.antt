-- The sections of the segment that a cursor has reached.
use Rattle.std.proofs.Common.{◌≡◌, ◌∙◌, ℕ, ◌+◌, ◌*◌, ◌≤◌, ◌<◌, List, [], ◌∷◌, ◌++◌, map, drop, Bool, true, inl, inr, refl, sym, ap₂, arith}
use Rattle.std.specs.Prelude.{◌&&◌, nat_le, flat_map, if◌then◌else◌}
use Rattle.std.specs.List.{range_with_len}
use Rattle.std.proofs.lemmas.Bool.{cases_Bool, and_from, le-leb}
use Rattle.std.proofs.lemmas.Simd.{map-map}
use Rattle.macho_fields.specs.Segment.{nsects}
use Rattle.macho_rows.specs.Loads.{is_command, is_segment, wanted_left}
use Rattle.macho_rows.specs.Sections.{section_row, section_rows, sections_left, rows_reached}
use Rattle.macho_rows.specs.declared.cursor.KesvuotCursor.{KesvuotCursor}
use Rattle.macho_rows.specs.declared.load.Wanted.{Wanted}
use Rattle.macho_rows.specs.declared.load.Wanted.TheVariants as wanted
use Rattle.macho_rows.specs.declared.sections.KesvuotSection.{KesvuotSection}
use Rattle.macho_rows.proofs.Numbered.{none_past, next_row}

module _ (place : ℕ) (image : List ℕ) (segment : ℕ) where
  -- a segment with its sections can be there
  abbrev holds : Bool
  holds = nat_le 32 segment && is_command image segment && is_segment image segment

  rows_are : section_rows place image segment ≡ map (λ k. section_row place image segment (segment + 72 + 80 * k)) (range_with_len 0 (nsects image segment))
  rows_are = map-map (section_row place image segment) (λ k. segment + 72 + 80 * k) (range_with_len 0 (nsects image segment))

  abbrev pub reached : ℕ → List KesvuotSection
  reached k = if holds then drop k (section_rows place image segment) else []

  abbrev count : ℕ
  count = if holds then nsects image segment else 0

  pub none_reached : (k : ℕ) → count ≤ k → reached k ≡ []
  none_reached k most = elim (cases_Bool holds) [
    | inl is ↦ rw is (none_past (λ j. section_row place image segment (segment + 72 + 80 * j)) (nsects image segment) (section_rows place image segment) rows_are k (rw is at most))
    | inr none ↦ rw none refl
  ]

  pub next_reached : (k : ℕ) → k < count → reached k ≡ section_row place image segment (segment + 72 + 80 * k) ∷ reached (k + 1)
  next_reached k less = elim (cases_Bool holds) [
    | inl is ↦ rw is (next_row (λ j. section_row place image segment (segment + 72 + 80 * j)) (nsects image segment) (section_rows place image segment) rows_are k (rw is at less))
    | inr none ↦ absurd (let wrong : k < 0 = rw none at less in omega arith)
  ]

  pub begins : holds ≡ true → reached 0 ≡ section_rows place image segment
  begins is = rw is refl

-- what is wanted next is by two numbers of the cursor
pub same_left : (kind : Wanted) (image : List ℕ) (a b : KesvuotCursor) → a.place ≡ b.place → a.commands ≡ b.commands → wanted_left kind image a ≡ wanted_left kind image b
same_left kind image a b place commands = ap₂ (λ p n. wanted_left kind image (record { place = p; commands = n; segment = 0; items = 0 })) place commands

-- the next segment with its sections, where none of the last remain
pub moves_on : (place : ℕ) (image : List ℕ) (before after : KesvuotCursor) (segment : ℕ) (rest : List ℕ) → rows_reached place image before ≡ [] → wanted_left wanted.Segments image before ≡ segment ∷ rest
    → wanted_left wanted.Segments image after ≡ rest → after.segment ≡ segment → after.items ≡ 0 → 32 ≤ segment → is_command image segment ≡ true → is_segment image segment ≡ true
    → sections_left place image before ≡ sections_left place image after
moves_on place image before after segment rest none first left at fresh past is passes =
    let there : holds place image segment ≡ true = and_from _ _ (and_from _ _ (le-leb 32 segment past) is) passes in
    let reached_now : rows_reached place image after ≡ section_rows place image segment =
    ap₂ (λ s k. reached place image s k) at fresh ∙ begins place image segment there in
    ap₂ (λ rows segments. rows ++ flat_map (section_rows place image) segments) none first
    ∙ sym (ap₂ (λ rows segments. rows ++ flat_map (section_rows place image) segments) reached_now left)
