use Rattle.std.proofs.Common.{◌≡◌, ◌≢◌, ◌∙◌, ◌⊎◌, ◌+◌, ◌-◌, ◌/◌, ◌%◌, ◌^◌, ℕ, List, ap, ap₂, inl, inr, subst}
use Rattle.std.specs.Prelude.{min}
use Rattle.macho_fields.specs.Bytes.{bytes_of}
use Rattle.macho_fields.specs.Segment.{section_size}
use Rattle.macho_image.specs.Segment.{reserved1}
use Rattle.macho_symbols.specs.Indirects.{indirect_count, stride, IsUneven}
use Rattle.macho_explain.specs.Explain.{IsSectionRow}
use Rattle.macho_explain.specs.declared.conflict.Conflict.{Conflict}
use Rattle.macho_explain.specs.declared.section.SectionAt.{SectionAt}
use Rattle.macho_explain.proofs.section.indirect_range.Goals as goal
use Rattle.macho_explain.proofs.section.indirect_range.Goals.{then-stride-eq0-via-then-stride-eq0, then-stride-eq0-via-else-stride-eq0+then-span-stride-ne0}

module _ (image : List ℕ) (place : ℕ) (section : SectionAt) (row : IsSectionRow image section) (there : section.place ≡ place) where
  sized : (len : ℕ) → len ≡ section.row.size → len ≡ section_size image place
  sized len is = is ∙ (row.size ∙ ap (section_size image) there)

  strided : (each : ℕ) → each ≡ stride image section.place → each ≡ stride image place
  strided each is = is ∙ ap (stride image) there

  first : (index : ℕ) → index ≡ section.row.reserved1 → index ≡ reserved1 image place
  first index is = is ∙ (row.reserved1 ∙ ap (reserved1 image) there)

pub returns-then-stride-eq0 : goal.returns-then-stride-eq0
returns-then-stride-eq0 c =
    let image = bytes_of c.args.sliced.now.held.bytes in
    let place = c.args.sliced.now.place in
    let section = c.in_ok-at.section in
    let row = c.in_ok-at.ensures.1 in
    let len = c.file_part-span.result.len in
    let each = c.stride-stride.result in
    let size : len ≡ section_size image place = sized image place section row c.in_ok-at.ensures.2 len c.file_part-span.ensures.len in
    let step : each ≡ stride image place = strided image place section row c.in_ok-at.ensures.2 each (c.stride-stride.ensures image row) in
    let bad : (each ≡ 0) ⊎ (len % each ≢ 0) = elim c.then-stride-eq0.branch [
      | then-stride-eq0-via-then-stride-eq0 w ↦ inl w.if-stride-eq0.true
      | then-stride-eq0-via-else-stride-eq0+then-span-stride-ne0 w ↦ inr w.if-span-stride-ne0.true
    ] in
    let uneven : IsUneven image place =
    subst (λ n. (stride image place ≡ 0) ⊎ (n % stride image place ≢ 0)) size (subst (λ k. (k ≡ 0) ⊎ (len % k ≢ 0)) step bad) in
    rw c.shows.ensures (c.in_ok-at.ensures.0, rw c.alone.ensures (inl (uneven, size, step)))

pub returns : goal.returns
returns c =
    let image = bytes_of c.args.sliced.now.held.bytes in
    let place = c.args.sliced.now.place in
    let section = c.in_ok-at.section in
    let row = c.in_ok-at.ensures.1 in
    let len = c.file_part-span.result.len in
    let each = c.stride-stride.result in
    let size : len ≡ section_size image place = sized image place section row c.in_ok-at.ensures.2 len c.file_part-span.ensures.len in
    let step : each ≡ stride image place = strided image place section row c.in_ok-at.ensures.2 each (c.stride-stride.ensures image row) in
    let start : c.from.result ≡ reserved1 image place = first image place section row c.in_ok-at.ensures.2 c.from.result c.from.ensures in
    let value = ap (λ (k : Conflict). k.value) c.alone-2.ensures ∙ (c.saturating_add-end.ensures ∙ ap₂ (λ a b. min (a + b) (2 ^ 64 - 1)) start (ap₂ (λ a b. a / b) size step)) in
    let limit = ap (λ (k : Conflict). k.limit) c.alone-2.ensures ∙ (c.indirect_count-count.ensures ∙ ap indirect_count c.in_ok-open.ensures.1) in
    rw c.shows-2.ensures (c.in_ok-at.ensures.0, inr (value, limit))

pub returns-in_err-at : goal.returns-in_err-at
returns-in_err-at c = rw c.from_residual.ensures (λ s. c.in_err-at.ensures s.1)

pub returns-in_err-open : goal.returns-in_err-open
returns-in_err-open c = rw c.from_residual-in_err-open.ensures (λ s. s.0 c.in_err-open.ensures)
