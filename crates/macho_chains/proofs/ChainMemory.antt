-- What a loader reads in memory of the table of chained fixups is what the table says.
use Rattle.std.proofs.Common.{◌≡◌, ◌≢◌, ℕ, zero, suc, ◌+◌, ◌*◌, ◌≤◌, ◌<◌, List, length, drop, Option, Some, None, Bool, true, false, refl, sym, ap, ap₂, ◌∙◌, arith}
use Rattle.std.specs.Prelude.{slice_index, cond, nat_lt}
use Rattle.std.specs.Option.{option_map}
use Rattle.std.proofs.lemmas.Bool.{eq-eqb, ne_eqb, ltb-false}
use Rattle.std.proofs.lemmas.List.{get_or-drop}
use Rattle.std.proofs.lemmas.List.FromFn.{get_or-map-range_with_len}
use Rattle.std.proofs.lemmas.Option.{none-some, same_Some}
use Rattle.macho_fields.specs.Image.{word, long}
use Rattle.macho_chains.specs.ChainDyld.{number_in, array_in, count_in, entry_in, starts_in, page_count_in, format_in, page_start_in, page_address, first_in_page}
use Rattle.macho_chains.specs.ChainHeader.{chain_header, header_with, import_format, is_known}
use Rattle.macho_chains.specs.ChainPointers.{page_start, first_offset}
use Rattle.macho_tables.specs.Memory.{bytes_from}
use Rattle.macho_chains.specs.ChainStarts.{pointer_format, seg_info_offset, entry_offset}
use Rattle.macho_tables.specs.Fields.{half}
use Rattle.macho_chains.specs.declared.chain_header.ChainHeader.{ChainHeader}
use Rattle.macho_chains.specs.declared.chain_header.ImportFormat.{ImportFormat}
use Rattle.macho_chains.specs.declared.chain_starts.SegmentStarts.{SegmentStarts}
use Rattle.macho_fields.specs.declared.header.fixup_chains.TheConstants as chained
use Rattle.macho_chains.proofs.UnbrokenStarts.{AreReadAt}

-- the number in the bytes from place i on, the lowest first
abbrev low_first : ℕ → ℕ → List ℕ → ℕ
low_first i zero xs = 0
low_first i (suc width) xs = slice_index xs i + 256 * low_first (suc i) width xs

-- A number whose bytes are in memory as they are in a list
module _ (memory : ℕ → ℕ) (bytes : List ℕ) (width address place : ℕ) (same : (k : ℕ) → k < width → memory (address + k) ≡ slice_index bytes (place + k)) where
  from_same : (i n : ℕ) → i + n ≤ width → low_first i n (bytes_from memory address width) ≡ low_first i n (drop place bytes)
  from_same i zero fits = refl
  from_same i (suc n) fits =
      ap₂ (λ a b. a + 256 * b)
      (get_or-map-range_with_len memory address width i (address + i) 0 (omega arith) refl ∙ (same i (omega arith) ∙ sym (get_or-drop place bytes i 0)))
      (from_same (suc i) n (omega arith))

  number_same : low_first 0 width (bytes_from memory address width) ≡ low_first 0 width (drop place bytes)
  number_same = from_same 0 width (omega arith)

-- a field of 64 bits
pub long_same : (memory : ℕ → ℕ) (bytes : List ℕ) (address place : ℕ) → ((k : ℕ) → k < 8 → memory (address + k) ≡ slice_index bytes (place + k)) → number_in memory 8 address ≡ long bytes place
long_same memory bytes address place same = number_same memory bytes 8 address place same

-- The header is the table's
header_parts : (chains : List ℕ) (header : ChainHeader) (short known : Bool) (format : Option ImportFormat)
    → cond short None (cond known (option_map (header_with chains) format) None) ≡ Some header
    → (short ≡ false) × (header.starts_offset ≡ word chains 4)
header_parts chains header true known format is = absurd (none-some header is)
header_parts chains header false false format is = absurd (none-some header is)
header_parts chains header false true None is = absurd (none-some header is)
header_parts chains header false true (Some found) is = (refl, sym (ap (λ (h : ChainHeader). h.starts_offset) (same_Some _ _ is)))

pub header_read : (chains : List ℕ) (header : ChainHeader) → chain_header chains ≡ Some header → (28 ≤ length chains) × (header.starts_offset ≡ word chains 4)
unfolding chain_header
header_read chains header is =
    let (long_enough, offset) = header_parts chains header (nat_lt (length chains) 28) (is_known chains) (import_format (word chains 20)) is in
    (ltb-false (length chains) 28 long_enough, offset)

-- The bytes of the table are in memory from an address on
module _ (chains : List ℕ) (header : ChainHeader) (is : chain_header chains ≡ Some header) (memory : ℕ → ℕ) (home : ℕ) (same : (k : ℕ) → k < length chains → memory (home + k) ≡ slice_index chains k) where
  number_at : (width address offset : ℕ) → address ≡ home + offset → offset + width ≤ length chains
      → low_first 0 width (bytes_from memory address width) ≡ low_first 0 width (drop offset chains)
  number_at width address offset at inside =
      number_same memory chains width address offset (λ k less. ap memory (let there : address + k ≡ home + (offset + k) = omega (arith, at) in there) ∙ same (offset + k) (omega arith))

  array_is : array_in memory home ≡ home + header.starts_offset
  array_is =
      let (size, offset) = header_read chains header is in
      let read : number_in memory 4 (home + 4) ≡ word chains 4 = number_at 4 (home + 4) 4 refl (omega (arith, size)) in omega (arith, read, offset)

  pub count_same : header.starts_offset + 4 ≤ length chains → count_in memory home ≡ word chains header.starts_offset
  count_same inside = number_at 4 (array_in memory home) header.starts_offset array_is inside

  pub entry_same : (k : ℕ) → entry_offset header k + 4 ≤ length chains → entry_in memory home k ≡ seg_info_offset chains header k
  entry_same k inside = number_at 4 (array_in memory home + 4 + k * 4) (entry_offset header k) (let at = array_is in omega (arith, at)) inside

  -- a segment without starts
  pub no_pages : (k : ℕ) → entry_offset header k + 4 ≤ length chains → seg_info_offset chains header k ≡ 0 → page_count_in memory home k ≡ 0
  no_pages k inside none = rw (eq-eqb (entry_in memory home k) 0 (entry_same k inside ∙ none)) refl

  -- and one that has some
  module _ (k : ℕ) (inside : entry_offset header k + 4 ≤ length chains) (some : seg_info_offset chains header k ≢ 0) (starts : SegmentStarts)
      (read : AreReadAt chains (header.starts_offset + seg_info_offset chains header k) starts) where
    at_offset : starts.offset ≡ header.starts_offset + seg_info_offset chains header k
    at_offset = ap (λ (s : SegmentStarts). s.offset) read.fields

    pub starts_same : starts_in memory home k ≡ home + starts.offset
    starts_same =
        let array = array_is in
        let entry = entry_same k inside in omega (arith, array, entry, at_offset)

    -- a number in the starts
    field_same : (width past : ℕ) → past + width ≤ 22
        → low_first 0 width (bytes_from memory (starts_in memory home k + past) width) ≡ low_first 0 width (drop (starts.offset + past) chains)
    field_same width past fits =
        let whole = read.whole in
        let ends = read.inside in
        let at = starts_same in number_at width (starts_in memory home k + past) (starts.offset + past) (omega (arith, at)) (omega (arith, whole, ends, fits))

    pub pages_same : page_count_in memory home k ≡ starts.page_count
    pages_same =
        rw (ne_eqb (entry_in memory home k) 0 (λ none. some (sym (entry_same k inside) ∙ none)))
        (field_same 2 20 (omega arith) ∙ (ap (λ (n : ℕ). half chains (n + 20)) at_offset ∙ sym (ap (λ (s : SegmentStarts). s.page_count) read.fields)))

    pub format_same : format_in memory home k ≡ Some starts.format
    format_same = ap pointer_format (field_same 2 6 (omega arith) ∙ ap (λ (n : ℕ). half chains (n + 6)) at_offset) ∙ read.known

    -- a page start
    module _ (page : ℕ) (less : page < starts.page_count) where
      start_same : page_start_in memory home k page ≡ page_start chains starts page
      start_same =
          let at = starts_same in
          let whole = read.whole in
          let ends = read.inside in
          number_at 2 (starts_in memory home k + 22 + page * 2) (starts.offset + 22 + page * 2) (omega (arith, at)) (omega (arith, whole, ends, less))

      address_same : (base : ℕ) → page_address base memory home k page ≡ base + starts.segment_offset + page * starts.page_size
      address_same base =
          ap₂ (λ offset size. base + offset + page * size)
          (field_same 8 8 (omega arith) ∙ (ap (λ (n : ℕ). long chains (n + 8)) at_offset ∙ sym (ap (λ (s : SegmentStarts). s.segment_offset) read.fields)))
          (field_same 2 4 (omega arith) ∙ (ap (λ (n : ℕ). half chains (n + 4)) at_offset ∙ sym (ap (λ (s : SegmentStarts). s.page_size) read.fields)))

      pub first_none : (base : ℕ) → page_start chains starts page ≡ chained.DYLD_CHAINED_PTR_START_NONE → first_in_page base memory home k page ≡ None
      first_none base none = rw (eq-eqb (page_start_in memory home k page) chained.DYLD_CHAINED_PTR_START_NONE (start_same ∙ none)) refl

      pub first_some : (base : ℕ) → page_start chains starts page ≢ chained.DYLD_CHAINED_PTR_START_NONE
          → first_in_page base memory home k page ≡ Some (base + starts.segment_offset + first_offset chains starts page)
      first_some base some_start =
          let there : page_address base memory home k page + page_start_in memory home k page ≡ base + starts.segment_offset + first_offset chains starts page =
          let at = address_same base in
          let start = start_same in omega (arith, at, start) in
          rw (ne_eqb (page_start_in memory home k page) chained.DYLD_CHAINED_PTR_START_NONE (λ none. some_start (sym start_same ∙ none))) (ap Some there)
