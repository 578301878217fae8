-- The pointers of chains that bind imports, one after the other.
use Rattle.std.proofs.Common.{◌≡◌, ◌↔◌, ◌⊎◌, ◌∙◌, ℕ, ◌+◌, ◌≤◌, ◌<◌, List, [], ◌∷◌, ◌++◌, length, get_or, Option, Some, None, refl, sym, ap, subst, arith, inl, inr}
use Rattle.std.specs.Prelude.{IsSomeAnd}
use Rattle.std.proofs.lemmas.Bool.{cases_lt}
use Rattle.macho_fields.specs.Bytes.{bytes_of}
use Rattle.macho_fields.specs.Field.{part}
use Rattle.macho_fields.specs.LoadCommands.{linkedit_data_table}
use Rattle.macho_fields.specs.Segment.{all_segments, fileoff}
use Rattle.macho_fields.specs.Symbol.{table_at}
use Rattle.macho_fields.proofs.Options.{some_of, of_some}
use Rattle.macho_spans.specs.declared.span.Span.{Span}
use Rattle.macho_tables.specs.DataTables.{InTableBytes}
use Rattle.macho_tables.specs.Homes.{bytes_of_table}
use Rattle.macho_chains.specs.ChainHeader.{chain_header}
use Rattle.macho_chains.specs.ChainPointers.{pointer_at, page_start_offset, first_offset, Fits, Lead, HasChain, ComesTo, BreaksPageSlot, OfSomePage, BreaksChainSlot}
use Rattle.macho_chains.specs.ChainStarts.{seg_count, starts_of, HasBadEntries, BreaksChainStarts}
use Rattle.macho_chains.specs.Chains.{BadStarts, InChains, InPointers, OfTable, chained_fixups, IsChainTable, IsTableOf}
use Rattle.macho_chains.specs.declared.chain_header.ChainHeader.{ChainHeader}
use Rattle.macho_chains.specs.declared.chain_pointers.ChainPointer.{ChainPointer}
use Rattle.macho_chains.specs.declared.chain_starts.SegmentStarts.{SegmentStarts}
use Rattle.macho_chains.specs.declared.chains.ChainTable.{ChainTable}
use Rattle.macho_chains.proofs.ChainTables.{chain_table_of}
use Rattle.macho_chains.proofs.UnbrokenPointers.{surely_fits, lead_on}
use Rattle.macho_alike.specs.Bounds.{IsPointerBound, IsRestBound, IsSegmentBound, IsTableBound}
use Rattle.macho_alike.specs.Indirects.{IsImportName, IsPageBound, IsChainBound}
use Rattle.macho_alike.specs.declared.bounds.Bound.{Bound}

-- The chain of a page

module _ (image : List ℕ) (table : ℕ) (chains : List ℕ) (header : ChainHeader) (segment : ℕ) (starts : SegmentStarts) (page : ℕ) where
  abbrev pub pointer : ℕ → ChainPointer
  pointer offset = pointer_at image segment starts.format offset

  abbrev pub Rest : ℕ → Bound → Type 0
  Rest from bound = IsRestBound image table chains header segment starts page from bound

  abbrev pub Here : ℕ → Bound → Type 0
  Here offset bound = IsPointerBound table chains header (pointer offset) segment offset bound

  here_rests : (from : ℕ) → Fits image segment starts page from → (bound : Bound) → Here from bound → Rest from bound
  here_rests from fits bound (its, at, name) = (
    its,
    ([], sym at),
    subst (Fits image segment starts page) (sym at) fits,
    subst (λ (offset : ℕ). IsImportName table chains header (pointer offset) bound.name) (sym at) name,
  )

  -- a pointer that fits, and those to which it leads
  pub rest_splits : (from : ℕ) → Fits image segment starts page from → 8 ≤ (pointer from).distance → (bound : Bound) → Rest from bound ↔ (Here from bound ⊎ Rest (from + (pointer from).distance) bound)
  rest_splits from fits far bound = (
    λ (its, (before, lead), there, name). to its before lead there name,
    λ either. elim either [
      | inl here ↦ here_rests from fits bound here
      | inr (its, (before, lead), there, name) ↦ (its, (from ∷ before, (refl, fits, far, lead)), there, name)
    ],
  )
    where
      to : bound.segment ≡ segment → (before : List ℕ) → Lead image segment starts page from before bound.offset → Fits image segment starts page bound.offset
          → IsImportName table chains header (pointer bound.offset) bound.name → Here from bound ⊎ Rest (from + (pointer from).distance) bound
      to its [] same there name = inl (its, sym same, subst (λ (offset : ℕ). IsImportName table chains header (pointer offset) bound.name) (sym same) name)
      to its (first ∷ rest) (is, first_fits, first_far, lead) there name =
          inr (its, (rest, subst (λ (n : ℕ). Lead image segment starts page (n + (pointer n).distance) rest bound.offset) is lead), there, name)

  -- the last one
  pub rest_last : (from : ℕ) → Fits image segment starts page from → (pointer from).distance ≡ 0 → (bound : Bound) → Rest from bound ↔ Here from bound
  rest_last from fits none bound = (λ (its, (before, lead), there, name). to its before lead there name, here_rests from fits bound)
    where
      to : bound.segment ≡ segment → (before : List ℕ) → Lead image segment starts page from before bound.offset → Fits image segment starts page bound.offset
          → IsImportName table chains header (pointer bound.offset) bound.name → Here from bound
      to its [] same there name = (its, sym same, subst (λ (offset : ℕ). IsImportName table chains header (pointer offset) bound.name) (sym same) name)
      to its (first ∷ rest) (is, first_fits, first_far, lead) there name =
          let far : 8 ≤ (pointer from).distance = subst (λ (n : ℕ). 8 ≤ (pointer n).distance) is first_far in
          absurd (omega (arith, far, none))

  -- from the first on
  pub rest_of_page : HasChain chains starts page → (first : ℕ) → first ≡ first_offset chains starts page → (bound : Bound) → Rest first bound ↔ IsPageBound image table chains header bound segment starts page
  rest_of_page has first at bound = (
    λ (its, (before, lead), fits, name). (its, (has, (before, subst (λ (n : ℕ). Lead image segment starts page n before bound.offset) at lead), fits), name),
    λ (its, (chain, (before, lead), fits), name). (its, (before, subst (λ (n : ℕ). Lead image segment starts page n before bound.offset) (sym at) lead), fits, name),
  )

  module _ (slots : (place : ℕ) → ¬ BreaksPageSlot image table chains segment starts page place) where
    pub first_comes : HasChain chains starts page → ComesTo image chains segment starts page (first_offset chains starts page)
    first_comes has = (
      has,
      ([], refl),
      surely_fits image segment starts page (first_offset chains starts page) (λ bad. slots (table + page_start_offset starts page) (inl (refl, (has, bad)))),
    )

    module _ (offset : ℕ) (comes : ComesTo image chains segment starts page offset) (some : 0 < (pointer offset).distance) where
      pub next_far : 8 ≤ (pointer offset).distance
      next_far = elim (cases_lt (pointer offset).distance 8) [
        | inl near ↦ absurd (slots (fileoff image segment + offset) (inr (offset, refl, comes, (some, inl near))))
        | inr far ↦ far
      ]

      pub next_comes : ComesTo image chains segment starts page (offset + (pointer offset).distance)
      next_comes =
          let (has, (before, lead), fits) = comes in (
            has,
            (before ++ offset ∷ [], lead_on image segment starts page _ before offset lead fits next_far),
            surely_fits image segment starts page (offset + (pointer offset).distance) (λ bad. slots (fileoff image segment + offset) (inr (offset, refl, comes, (some, inr bad)))),
          )

-- The segments of a table

module _ (image : List ℕ) (table : ℕ) (chains : List ℕ) (header : ChainHeader) where
  abbrev pub OfSegment : ℕ → Bound → Type 0
  OfSegment k bound = IsSegmentBound image table chains header k bound

  -- the segment has no starts
  pub segment_unbound : (k : ℕ) → starts_of chains header k ≡ None → (bound : Bound) → ¬ OfSegment k bound
  segment_unbound k none bound here =
      subst (λ (found : Option SegmentStarts). IsSomeAnd found (λ starts. (page : ℕ) × (page < starts.page_count) × IsPageBound image table chains header bound (get_or (all_segments image) k 0) starts page)) none here

  -- the pages of its starts
  pub segment_pages : (k : ℕ) (starts : SegmentStarts) → starts_of chains header k ≡ Some starts → (segment : ℕ) → get_or (all_segments image) k 0 ≡ segment → (bound : Bound)
      → ((page : ℕ) × (page < starts.page_count) × IsPageBound image table chains header bound segment starts page) ↔ OfSegment k bound
  segment_pages k starts is segment at bound =
      subst (λ (n : ℕ). ((page : ℕ) × (page < starts.page_count) × IsPageBound image table chains header bound n starts page) ↔ OfSegment k bound) at
      (subst (λ (found : Option SegmentStarts). ((page : ℕ) × (page < starts.page_count) × IsPageBound image table chains header bound (get_or (all_segments image) k 0) starts page)
      ↔ IsSomeAnd found (λ s. (page : ℕ) × (page < s.page_count) × IsPageBound image table chains header bound (get_or (all_segments image) k 0) s page)) (sym is) (λ here. here, λ here. here))

  -- the segments with an entry
  pub table_segments : (count : ℕ) → seg_count chains header ≡ Some count → ¬ HasBadEntries image chains header count → (bound : Bound)
      → ((k : ℕ) × (k < count) × OfSegment k bound) ↔ IsTableBound image table chains header bound
  table_segments count is good bound =
      subst (λ (n : Option ℕ). ((k : ℕ) × (k < count) × OfSegment k bound)
      ↔ IsSomeAnd n (λ entries. (¬ HasBadEntries image chains header entries) × ((k : ℕ) × (k < entries) × OfSegment k bound))) (sym is)
      (λ here. (good, here), λ (good_too, here). here)

  pub table_uncounted : seg_count chains header ≡ None → (bound : Bound) → ¬ IsTableBound image table chains header bound
  table_uncounted none bound here =
      subst (λ (n : Option ℕ). IsSomeAnd n (λ entries. (¬ HasBadEntries image chains header entries) × ((k : ℕ) × (k < entries) × OfSegment k bound))) none here

  -- the rule of the slots, of a page
  pub page_slots : (count : ℕ) → seg_count chains header ≡ Some count → ¬ HasBadEntries image chains header count → ((place : ℕ) → ¬ BreaksChainSlot image table chains header place)
      → (k : ℕ) → k < count → (segment : ℕ) → get_or (all_segments image) k 0 ≡ segment → (starts : SegmentStarts) → starts_of chains header k ≡ Some starts
      → (page : ℕ) → page < starts.page_count → (place : ℕ) → ¬ BreaksPageSlot image table chains segment starts page place
  page_slots count is good slots k less segment at starts read page within place broken =
      slots place
      (of_some
      (λ n. (¬ HasBadEntries image chains header n) × ((j : ℕ) × (j < n) × IsSomeAnd (starts_of chains header j) (λ s. (p : ℕ) × (p < s.page_count)
      × BreaksPageSlot image table chains (get_or (all_segments image) j 0) s p place)))
      (seg_count chains header) count is (
        good,
        (
          k,
          less,
          of_some (λ s. (p : ℕ) × (p < s.page_count) × BreaksPageSlot image table chains (get_or (all_segments image) k 0) s p place) (starts_of chains header k) starts read
              (page, within, subst (λ (n : ℕ). BreaksPageSlot image table chains n starts page place) (sym at) broken),
        ),
      ))

-- The table of an image

module _ (image : List ℕ) where
  pub none_listed : ((table : Span) → ¬ IsChainTable image table) → (bound : Bound) → ¬ IsChainBound image bound
  none_listed none bound broken =
      let (command, is, (some, here)) =
      some_of (λ c. OfTable image (table_at image c linkedit_data_table) (λ i t chains header offset. OfSomePage i chains header (IsPageBound i t chains header bound)) bound.offset) (chained_fixups image) broken in
      none (bytes_of_table (table_at image command linkedit_data_table)) (chain_table_of image command is some)

  module _ (table : ChainTable) (is : IsTableOf image table) where
    abbrev bytes : List ℕ
    bytes = bytes_of table.bytes

    abbrev OfHeader : Option ChainHeader → List ℕ → Bound → Type 0
    OfHeader found chains bound = IsSomeAnd found (λ header. IsTableBound image table.start chains header bound)

    -- what its header says is what the image says
    pub of_header : (bound : Bound) → OfHeader table.header bytes bound ↔ IsChainBound image bound
    of_header bound =
        let size : ℕ = length bytes in
        let (command, at, (same, some)) = some_of (λ c. (record { start = table.start; len = size } ≡ bytes_of_table (table_at image c linkedit_data_table)) × (0 < size)) (chained_fixups image) is.named in
        let here : OfHeader table.header bytes bound ↔ OfHeader (chain_header bytes) bytes bound = subst (λ (found : Option ChainHeader). OfHeader table.header bytes bound ↔ OfHeader found bytes bound) is.header (λ h. h, λ h. h) in
        let there : OfHeader (chain_header bytes) bytes bound ↔ OfHeader (chain_header (part table.start size image)) (part table.start size image) bound =
        subst (λ (these : List ℕ). OfHeader (chain_header bytes) bytes bound ↔ OfHeader (chain_header these) these bound) is.bytes (λ h. h, λ h. h) in
        let bounded : OfHeader (chain_header (part table.start size image)) (part table.start size image) bound
        ↔ OfTable image (table_at image command linkedit_data_table) (λ i t chains header offset. OfSomePage i chains header (IsPageBound i t chains header bound)) bound.offset =
        subst (λ (s : Span). OfHeader (chain_header (part table.start size image)) (part table.start size image) bound
        ↔ ((0 < s.len) × IsSomeAnd (chain_header (part s.start s.len image)) (λ header. IsTableBound image s.start (part s.start s.len image) header bound))) same
        (λ h. (some, h), λ h. h.1) in
        let named : OfTable image (table_at image command linkedit_data_table) (λ i t chains header offset. OfSomePage i chains header (IsPageBound i t chains header bound)) bound.offset ↔ IsChainBound image bound =
        subst (λ (found : Option ℕ). OfTable image (table_at image command linkedit_data_table) (λ i t chains header offset. OfSomePage i chains header (IsPageBound i t chains header bound)) bound.offset
        ↔ IsSomeAnd found (λ c. OfTable image (table_at image c linkedit_data_table) (λ i t chains header offset. OfSomePage i chains header (IsPageBound i t chains header bound)) bound.offset)) (sym at) (λ h. h, λ h. h) in
        (λ h. named.0 (bounded.0 (there.0 (here.0 h))), λ h. here.1 (there.1 (bounded.1 (named.1 h))))

    pub headless : table.header ≡ None → (bound : Bound) → ¬ IsChainBound image bound
    headless none bound broken = subst (λ (found : Option ChainHeader). OfHeader found bytes bound) none ((of_header bound).1 broken)

    module _ (header : ChainHeader) (at : table.header ≡ Some header) where
      pub headed : (bound : Bound) → IsTableBound image table.start bytes header bound ↔ IsChainBound image bound
      headed bound = subst (λ (found : Option ChainHeader). OfHeader found bytes bound ↔ IsChainBound image bound) at (of_header bound)

      abbrev whole : Span
      whole = record { start = table.start; len = length bytes }

      the_header : chain_header (part table.start (length bytes) image) ≡ Some header
      the_header = ap chain_header (sym is.bytes) ∙ (sym is.header ∙ at)

      pub kept_starts : ((place : ℕ) → ¬ InChains image BadStarts place) → (offset : ℕ) → ¬ BreaksChainStarts image bytes header offset
      kept_starts none offset broken =
          let (command, listed, (same, some)) = some_of (λ c. (whole ≡ bytes_of_table (table_at image c linkedit_data_table)) × (0 < length bytes)) (chained_fixups image) is.named in
          let there : BreaksChainStarts image (part table.start (length bytes) image) header offset = subst (λ (these : List ℕ). BreaksChainStarts image these header offset) is.bytes broken in
          let in_bytes : BadStarts image (part table.start (length bytes) image) offset =
          of_some (λ h. BreaksChainStarts image (part table.start (length bytes) image) h offset) (chain_header (part table.start (length bytes) image)) header the_header there in
          none (table.start + offset)
          (of_some (λ c. InTableBytes image (table_at image c linkedit_data_table) BadStarts (table.start + offset)) (chained_fixups image) command listed
          (subst (λ (s : Span). InTableBytes image (s.start, s.len, 1) BadStarts (table.start + offset)) same (some, (offset, refl, in_bytes))))

      pub kept_slots : ((place : ℕ) → ¬ InPointers image BreaksChainSlot place) → (place : ℕ) → ¬ BreaksChainSlot image table.start bytes header place
      kept_slots none place broken =
          let (command, listed, (same, some)) = some_of (λ c. (whole ≡ bytes_of_table (table_at image c linkedit_data_table)) × (0 < length bytes)) (chained_fixups image) is.named in
          let there : BreaksChainSlot image table.start (part table.start (length bytes) image) header place = subst (λ (these : List ℕ). BreaksChainSlot image table.start these header place) is.bytes broken in
          none place
          (of_some (λ c. OfTable image (table_at image c linkedit_data_table) BreaksChainSlot place) (chained_fixups image) command listed
          (subst (λ (s : Span). OfTable image (s.start, s.len, 1) BreaksChainSlot place) same
          (some, of_some (λ h. BreaksChainSlot image table.start (part table.start (length bytes) image) h place) (chain_header (part table.start (length bytes) image)) header the_header there)))
