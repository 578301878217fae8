-- What a loader reads of a table that breaks no rule lies in it.
use Rattle.std.proofs.Common.{◌≡◌, ◌≢◌, ℕ, suc, ◌+◌, ◌*◌, ◌≤◌, ◌<◌, List, length, Some, None, sym, ◌∙◌, subst, arith}
use Rattle.std.specs.Prelude.{slice_index}
use Rattle.macho_chains.specs.ChainDyld.{count_in, entry_in, starts_in, page_count_in, format_in, first_in_page}
use Rattle.macho_chains.specs.ChainPointers.{HasChain, first_offset, page_start}
use Rattle.macho_chains.specs.ChainStarts.{seg_info_offset, entry_offset, starts_of}
use Rattle.macho_chains.specs.declared.chain_header.ChainHeader.{ChainHeader}
use Rattle.macho_chains.specs.declared.chain_starts.PointerFormat.{PointerFormat}
use Rattle.macho_chains.specs.declared.chain_starts.SegmentStarts.{SegmentStarts}
use Rattle.macho_fields.specs.declared.header.fixup_chains.TheConstants as chained
use Rattle.macho_chains.proofs.ChainMemory.{count_same, entry_same, no_pages, starts_same, pages_same, format_same, first_none, first_some}
use Rattle.macho_chains.proofs.UnbrokenChains.{AreGoodChains}
use Rattle.macho_chains.proofs.UnbrokenStarts.{entries, AreReadAt, counted, entries_inside, starts_there, has_entry, its_fields}

module _ (image : List ℕ) (table : ℕ) (chains : List ℕ) (header : ChainHeader) (good : AreGoodChains image table chains header) (memory : ℕ → ℕ) (home : ℕ)
    (same : (k : ℕ) → k < length chains → memory (home + k) ≡ slice_index chains k) where
  -- it has entries for no more segments than the table
  pub below_entries : (segment : ℕ) → segment < count_in memory home → segment < entries chains header
  below_entries segment left = subst (λ (n : ℕ). segment < n) (count_same chains header good.headed memory home same (counted image chains header good.starts)) left

  -- A segment with an entry
  module _ (segment : ℕ) (less : segment < entries chains header) where
    entry_whole : entry_offset header segment + 4 ≤ length chains
    entry_whole = let all = entries_inside image chains header good.starts in omega (arith, all, less)

    pub entry_read : entry_offset header (suc segment) ≤ length chains
    entry_read = let whole = entry_whole in omega (arith, whole)

    -- that is not 0
    module _ (some : entry_in memory home segment ≢ 0) where
      named : seg_info_offset chains header segment ≢ 0
      named none = some (entry_same chains header good.headed memory home same segment entry_whole ∙ none)

      its_starts : (starts : SegmentStarts) × (starts_of chains header segment ≡ Some starts)
      its_starts = starts_there image chains header good.starts segment less named

      pub starts_read : starts_in memory home segment + 22 + page_count_in memory home segment * 2 ≤ home + length chains
      starts_read =
          let (starts, are) = its_starts in
          let fields = its_fields image chains header good.starts segment less starts are in
          let from = starts_same chains header good.headed memory home same segment entry_whole named starts fields in
          let pages = pages_same chains header good.headed memory home same segment entry_whole named starts fields in
          let whole = fields.whole in
          let inside = fields.inside in omega (arith, from, pages, whole, inside)

      pub format_read : (known : PointerFormat) × (format_in memory home segment ≡ Some known)
      format_read =
          let (starts, are) = its_starts in
          (starts.format, format_same chains header good.headed memory home same segment entry_whole named starts (its_fields image chains header good.starts segment less starts are))

    -- with some pages
    pub with_pages : (page : ℕ) → page < page_count_in memory home segment → (starts : SegmentStarts) × (starts_of chains header segment ≡ Some starts)
    with_pages page more =
        starts_there image chains header good.starts segment less
        (λ none. let no_more = no_pages chains header good.headed memory home same segment entry_whole none in omega (arith, more, no_more))

    -- with these starts
    module _ (starts : SegmentStarts) (are : starts_of chains header segment ≡ Some starts) where
      some : seg_info_offset chains header segment ≢ 0
      some = has_entry image chains header good.starts segment less starts are

      fields : AreReadAt chains (header.starts_offset + seg_info_offset chains header segment) starts
      fields = its_fields image chains header good.starts segment less starts are

      pub has_starts : (segment < count_in memory home) × (entry_in memory home segment ≢ 0)
      has_starts = (
        subst (λ (n : ℕ). segment < n) (sym (count_same chains header good.headed memory home same (counted image chains header good.starts))) less,
        λ none. some (sym (entry_same chains header good.headed memory home same segment entry_whole) ∙ none),
      )

      pub format_known : format_in memory home segment ≡ Some starts.format
      format_known = format_same chains header good.headed memory home same segment entry_whole some starts fields

      pub pages_known : page_count_in memory home segment ≡ starts.page_count
      pages_known = pages_same chains header good.headed memory home same segment entry_whole some starts fields

      -- a page without a chain, and one with a chain
      module _ (page : ℕ) (within : page < starts.page_count) (base : ℕ) where
        pub page_ends : page_start chains starts page ≡ chained.DYLD_CHAINED_PTR_START_NONE → first_in_page base memory home segment page ≡ None
        page_ends = first_none chains header good.headed memory home same segment entry_whole some starts fields page within base

        pub page_begins : HasChain chains starts page → first_in_page base memory home segment page ≡ Some (base + starts.segment_offset + first_offset chains starts page)
        page_begins = first_some chains header good.headed memory home same segment entry_whole some starts fields page within base
