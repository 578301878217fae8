-- From what is found of the pages to what is found of an image.
use Rattle.std.proofs.Common.{◌≡◌, ℕ, ◌+◌, ◌≤◌, ◌<◌, ◌==◌, ◌⊎◌, Bool, true, false, List, length, Contains, Option, Some, None, sym, subst, arith, inl, inr}
use Rattle.std.specs.Prelude.{IsSomeAnd, cond, slice_index}
use Rattle.std.proofs.lemmas.Bool.{cases_lt}
use Rattle.std.proofs.lemmas.List.Elements.{Contains-get_or}
use Rattle.std.proofs.lemmas.Option.{none-some}
use Rattle.macho_fields.specs.Field.{part}
use Rattle.macho_fields.specs.FirstPlace.{IsLeastPlace}
use Rattle.macho_fields.specs.Image.{commands_of}
use Rattle.macho_fields.specs.Layers.{NothingBreaks}
use Rattle.macho_fields.specs.LoadCommands.{linkedit_data_table}
use Rattle.macho_fields.specs.Rules.{BreaksImage}
use Rattle.macho_fields.specs.Segment.{all_segments, fileoff, PassesImage}
use Rattle.macho_fields.specs.Symbol.{table_at}
use Rattle.macho_fields.specs.declared.rule.Rule.TheVariants as rule
use Rattle.macho_fields.proofs.Options.{some_of}
use Rattle.macho_image.proofs.ReadParts.{length-part}
use Rattle.macho_rules.proofs.Judged.{opened_commands}
use Rattle.macho_rules.proofs.Verdicts.{unbroken_opened}
use Rattle.macho_spans.specs.declared.span.Span.{Span}
use Rattle.macho_chains.specs.ChainHeader.{chain_header}
use Rattle.macho_chains.specs.ChainPages.{AreLeastPlaces, OfPages, unbroken_pointers, joined_pointers}
use Rattle.macho_chains.specs.ChainPointers.{page_start_offset, Fits, OfSomePage, BreaksPageSlot, BreaksPageBind, BreaksChainSlot, BreaksChainBind}
use Rattle.macho_chains.specs.ChainStarts.{segment_starts, starts_of, seg_info_offset, seg_count, HasBadEntries}
use Rattle.macho_chains.specs.Chains.{chained_fixups, IsChainTable, OfTable, InPointers}
use Rattle.macho_tables.specs.Homes.{bytes_of_table}
use Rattle.macho_tables.specs.Places.{lesser}
use Rattle.macho_tables.specs.Items.{OfItem}
use Rattle.macho_chains.specs.declared.chain_header.ChainHeader.{ChainHeader}
use Rattle.macho_chains.specs.declared.chain_pages.PointerSurvey.{PointerSurvey}
use Rattle.macho_chains.specs.declared.chain_starts.SegmentStarts.{SegmentStarts}
use Rattle.macho_chains.proofs.ChainPages.{fits_inside}
use Rattle.macho_chains.proofs.ChainTables.{chain_table_of, chain_table_some, chains_inside}
use Rattle.macho_tables.proofs.Items.{least_where}
use Rattle.macho_chains.proofs.UnbrokenStarts.{read_starts}
use Rattle.macho_tables.proofs.Places.{least_same, least_joined}

-- Items, one after the other

one_more : (Rule : ℕ → ℕ → Type 0) (k : ℕ) (old one : Option ℕ) → IsLeastPlace (OfItem k Rule) old → IsLeastPlace (Rule k) one → IsLeastPlace (OfItem (k + 1) Rule) (lesser old one)
one_more Rule k old one before here =
    least_same (λ place. OfItem k Rule place ⊎ Rule k place) (OfItem (k + 1) Rule) (lesser old one)
    (λ place. (
      λ broken. elim broken [ inl (j, less, is) ↦ (j, omega arith, is) | inr is ↦ (k, omega arith, is) ],
      λ (j, less, is). elim (cases_lt j k) [ inl early ↦ inl (j, early, is) | inr late ↦ let same : j ≡ k = omega arith in inr (subst (λ n. Rule n place) same is) ],
    ))
    (least_joined (OfItem k Rule) (Rule k) old one before here)

pub survey_none : (Slot Bind : ℕ → Type 0) → ((place : ℕ) → ¬ Slot place) → ((place : ℕ) → ¬ Bind place) → AreLeastPlaces Slot Bind unbroken_pointers
survey_none Slot Bind no_slot no_bind = record { slot = no_slot; bind = no_bind }

pub survey_start : (Slot Bind : ℕ → ℕ → Type 0) → AreLeastPlaces (OfItem 0 Slot) (OfItem 0 Bind) unbroken_pointers
survey_start Slot Bind = survey_none (OfItem 0 Slot) (OfItem 0 Bind) (λ place (k, less, is). omega arith) (λ place (k, less, is). omega arith)

pub survey_more : (Slot Bind : ℕ → ℕ → Type 0) (k : ℕ) (old one : PointerSurvey) → AreLeastPlaces (OfItem k Slot) (OfItem k Bind) old → AreLeastPlaces (Slot k) (Bind k) one
    → AreLeastPlaces (OfItem (k + 1) Slot) (OfItem (k + 1) Bind) (joined_pointers old one)
survey_more Slot Bind k old one before here = record {
  slot = one_more Slot k old.slot one.slot before.slot here.slot;
  bind = one_more Bind k old.bind one.bind before.bind here.bind;
}

-- The starts of a segment

module _ (chains : List ℕ) (header : ChainHeader) (k : ℕ) where
  -- all page starts are in the table
  pub page_starts_inside : (starts : SegmentStarts) → starts_of chains header k ≡ Some starts → page_start_offset starts starts.page_count ≤ length chains
  page_starts_inside starts is = by_entry (seg_info_offset chains header k == 0) is
    where
      by_entry : (none : Bool) → cond none None (segment_starts chains (header.starts_offset + seg_info_offset chains header k)) ≡ Some starts → page_start_offset starts starts.page_count ≤ length chains
      by_entry true wrong = absurd (none-some starts wrong)
      by_entry false read =
          let are = read_starts chains (header.starts_offset + seg_info_offset chains header k) starts read in
          let whole = are.whole in
          let inside = are.inside in omega (arith, whole, inside)

  module _ (Slot Bind : SegmentStarts → ℕ → ℕ → Type 0) where
    abbrev OfThem : Option SegmentStarts → (SegmentStarts → ℕ → ℕ → Type 0) → ℕ → Type 0
    OfThem found Rule place = IsSomeAnd found (λ starts. OfItem starts.page_count (Rule starts) place)

    -- the segment has no starts
    pub pages_none : starts_of chains header k ≡ None → AreLeastPlaces (OfPages chains header k Slot) (OfPages chains header k Bind) unbroken_pointers
    pages_none none =
        subst (λ (found : Option SegmentStarts). AreLeastPlaces (OfThem found Slot) (OfThem found Bind) unbroken_pointers) (sym none)
        (survey_none (OfThem None Slot) (OfThem None Bind) (λ place wrong. wrong) (λ place wrong. wrong))

    pub pages_some : (starts : SegmentStarts) → starts_of chains header k ≡ Some starts → (found : PointerSurvey)
        → AreLeastPlaces (OfItem starts.page_count (Slot starts)) (OfItem starts.page_count (Bind starts)) found → AreLeastPlaces (OfPages chains header k Slot) (OfPages chains header k Bind) found
    pages_some starts is found are = subst (λ (these : Option SegmentStarts). AreLeastPlaces (OfThem these Slot) (OfThem these Bind) found) (sym is) are

-- The segments of an image

module _ (image : List ℕ) (table : ℕ) (chains : List ℕ) (header : ChainHeader) where
  -- the rules of the segment k
  abbrev pub SlotOf : ℕ → ℕ → Type 0
  SlotOf k = OfPages chains header k (BreaksPageSlot image table chains (slice_index (all_segments image) k))

  abbrev pub BindOf : ℕ → ℕ → Type 0
  BindOf k = OfPages chains header k (BreaksPageBind header.imports_count image chains (slice_index (all_segments image) k))

  -- which a survey of it speaks of by its place
  pub its_rules : (k segment : ℕ) (bytes : List ℕ) → bytes ≡ image → slice_index (all_segments image) k ≡ segment → (found : PointerSurvey)
      → AreLeastPlaces (OfPages chains header k (BreaksPageSlot bytes table chains segment)) (OfPages chains header k (BreaksPageBind header.imports_count bytes chains segment)) found
      → AreLeastPlaces (SlotOf k) (BindOf k) found
  its_rules k segment bytes same at found are =
      let here = subst (λ (b : List ℕ). AreLeastPlaces (OfPages chains header k (BreaksPageSlot b table chains segment)) (OfPages chains header k (BreaksPageBind header.imports_count b chains segment)) found) same are in
      subst (λ (n : ℕ). AreLeastPlaces (OfPages chains header k (BreaksPageSlot image table chains n)) (OfPages chains header k (BreaksPageBind header.imports_count image chains n)) found) (sym at) here

  abbrev OfCount : Option ℕ → (ℕ → ℕ → Type 0) → ℕ → Type 0
  OfCount found Rule place = IsSomeAnd found (λ count. (¬ HasBadEntries image chains header count) × OfItem count Rule place)

  abbrev AreOfCount : Option ℕ → PointerSurvey → Type 0
  AreOfCount count found = AreLeastPlaces (OfCount count SlotOf) (OfCount count BindOf) found

  abbrev pub AreOfImage : PointerSurvey → Type 0
  AreOfImage found = AreLeastPlaces (BreaksChainSlot image table chains header) (BreaksChainBind image table chains header) found

  pub entries_none : seg_count chains header ≡ None → AreOfImage unbroken_pointers
  entries_none none = subst (λ (count : Option ℕ). AreOfCount count unbroken_pointers) (sym none) (survey_none (OfCount None SlotOf) (OfCount None BindOf) (λ place wrong. wrong) (λ place wrong. wrong))

  module _ (count : ℕ) (is : seg_count chains header ≡ Some count) where
    pub entries_bad : HasBadEntries image chains header count → AreOfImage unbroken_pointers
    entries_bad bad =
        subst (λ (n : Option ℕ). AreOfCount n unbroken_pointers) (sym is)
        (survey_none (OfCount (Some count) SlotOf) (OfCount (Some count) BindOf) (λ place (good, of). good bad) (λ place (good, of). good bad))

    pub entries_good : ¬ HasBadEntries image chains header count → (found : PointerSurvey) → AreLeastPlaces (OfItem count SlotOf) (OfItem count BindOf) found → AreOfImage found
    entries_good good found are = subst (λ (n : Option ℕ). AreOfCount n found) (sym is) (record {
      slot = least_where (¬ HasBadEntries image chains header count) (OfItem count SlotOf) found.slot good are.slot;
      bind = least_where (¬ HasBadEntries image chains header count) (OfItem count BindOf) found.bind good are.bind;
    })

-- what each segment has in the file lies in the image
pub file_part_inside : (image : List ℕ) → NothingBreaks (BreaksImage image None) → (segment : ℕ) → Contains (all_segments image) segment → ¬ PassesImage image segment
file_part_inside image keeps segment has past =
    keeps rule.SegmentFile segment (inr (commands_of image, opened_commands image (unbroken_opened image keeps), (has, past)))

-- The table of an image

module _ (image : List ℕ) where
  abbrev pub AreInPointers : PointerSurvey → Type 0
  AreInPointers found = AreLeastPlaces (InPointers image BreaksChainSlot) (InPointers image BreaksChainBind) found

  pub pointers_unlisted : ((table : Span) → ¬ IsChainTable image table) → AreInPointers unbroken_pointers
  pointers_unlisted none = survey_none (InPointers image BreaksChainSlot) (InPointers image BreaksChainBind) (nothing BreaksChainSlot) (nothing BreaksChainBind)
    where
      nothing : (Rule : List ℕ → ℕ → List ℕ → ChainHeader → ℕ → Type 0) (place : ℕ) → ¬ InPointers image Rule place
      nothing Rule place broken =
          let (command, is, (some, here)) = some_of (λ c. OfTable image (table_at image c linkedit_data_table) Rule place) (chained_fixups image) broken in
          none (bytes_of_table (table_at image command linkedit_data_table)) (chain_table_of image command is some)

  module _ (table : Span) (is : IsChainTable image table) where
    abbrev chains : List ℕ
    chains = part table.start table.len image

    abbrev OfHeader : Option ChainHeader → (List ℕ → ℕ → List ℕ → ChainHeader → ℕ → Type 0) → ℕ → Type 0
    OfHeader found Rule place = (0 < table.len) × IsSomeAnd found (λ header. Rule image table.start chains header place)

    abbrev AreOfHeader : Option ChainHeader → PointerSurvey → Type 0
    AreOfHeader header found = AreLeastPlaces (OfHeader header BreaksChainSlot) (OfHeader header BreaksChainBind) found

    listed : (found : PointerSurvey) → AreOfHeader (chain_header chains) found → AreInPointers found
    listed found are =
        let (command, at, (same, some)) = some_of (λ c. (table ≡ bytes_of_table (table_at image c linkedit_data_table)) × (0 < table.len)) (chained_fixups image) is in
        let here = subst (λ (t : Span). AreLeastPlaces (OfTable image (t.start, t.len, 1) BreaksChainSlot) (OfTable image (t.start, t.len, 1) BreaksChainBind) found) same are in
        subst (λ (c : Option ℕ). AreLeastPlaces (λ place. IsSomeAnd c (λ command. OfTable image (table_at image command linkedit_data_table) BreaksChainSlot place))
        (λ place. IsSomeAnd c (λ command. OfTable image (table_at image command linkedit_data_table) BreaksChainBind place)) found) (sym at) here

    pub pointers_headless : chain_header chains ≡ None → AreInPointers unbroken_pointers
    pointers_headless none =
        listed unbroken_pointers
        (subst (λ (header : Option ChainHeader). AreOfHeader header unbroken_pointers) (sym none)
        (survey_none (OfHeader None BreaksChainSlot) (OfHeader None BreaksChainBind) (λ place wrong. wrong.1) (λ place wrong. wrong.1)))

    pub pointers_headed : (header : ChainHeader) → chain_header chains ≡ Some header → (found : PointerSurvey) → AreOfImage image table.start chains header found → AreInPointers found
    pointers_headed header at found are =
        let some = chain_table_some image table is in
        listed found (subst (λ (h : Option ChainHeader). AreOfHeader h found) (sym at) (record {
          slot = least_where (0 < table.len) (BreaksChainSlot image table.start chains header) found.slot some are.slot;
          bind = least_where (0 < table.len) (BreaksChainBind image table.start chains header) found.bind some are.bind;
        }))

-- A place at which a rule is broken lies in the image

module _ (image : List ℕ) (keeps : NothingBreaks (BreaksImage image None)) where
  -- the place of a pointer that fits
  pointer_near : (segment : ℕ) → Contains (all_segments image) segment → (starts : SegmentStarts) (page offset place : ℕ) → Fits image segment starts page offset → place ≡ fileoff image segment + offset
      → place ≤ length image
  pointer_near segment has starts page offset place fits at =
      let inside = fits_inside image segment starts page (file_part_inside image keeps segment has) offset fits in omega (arith, inside, at)

  module _ (table : ℕ) (chains : List ℕ) (header : ChainHeader) (place : ℕ) where
    abbrev OfPage : (ℕ → SegmentStarts → ℕ → Type 0) → ℕ → SegmentStarts → Type 0
    OfPage P k starts = (page : ℕ) × (page < starts.page_count) × P (slice_index (all_segments image) k) starts page

    of_some_page : (P : ℕ → SegmentStarts → ℕ → Type 0)
        → ((segment : ℕ) (starts : SegmentStarts) (page : ℕ) → Contains (all_segments image) segment → page_start_offset starts starts.page_count ≤ length chains → page < starts.page_count
        → P segment starts page → place ≤ length image) → OfSomePage image chains header P → place ≤ length image
    of_some_page P near broken =
        let (count, is, (good, (k, less, has))) =
        some_of (λ count. (¬ HasBadEntries image chains header count) × ((k : ℕ) × (k < count) × IsSomeAnd (starts_of chains header k) (OfPage P k))) (seg_count chains header) broken in
        let (starts, at, (page, within, here)) = some_of (OfPage P k) (starts_of chains header k) has in
        elim (cases_lt (length (all_segments image)) count) [
          | inl more ↦ absurd (good (inl more))
          | inr few ↦ near (slice_index (all_segments image) k) starts page (Contains-get_or (all_segments image) k 0 (omega arith)) (page_starts_inside chains header k starts at) within here
        ]

    slot_near : table + length chains ≤ length image → BreaksChainSlot image table chains header place → place ≤ length image
    slot_near lies =
        of_some_page (λ segment starts page. BreaksPageSlot image table chains segment starts page place)
        (λ segment starts page listed inside within broken. elim broken [
          | inl (at, bad) ↦ omega (arith, at, inside, within, lies)
          | inr (offset, at, (chain, lead, fits), bad) ↦ pointer_near segment listed starts page offset place fits at
        ])

    bind_near : BreaksChainBind image table chains header place → place ≤ length image
    bind_near =
        of_some_page (λ segment starts page. BreaksPageBind header.imports_count image chains segment starts page place)
        (λ segment starts page listed inside within (offset, at, (chain, lead, fits), bad). pointer_near segment listed starts page offset place fits at)

  pointers_near : (Rule : List ℕ → ℕ → List ℕ → ChainHeader → ℕ → Type 0)
      → ((table : ℕ) (chains : List ℕ) (header : ChainHeader) (place : ℕ) → table + length chains ≤ length image → Rule image table chains header place → place ≤ length image)
      → (place : ℕ) → InPointers image Rule place → place ≤ length image
  pointers_near Rule near place broken =
      let (command, is, (some, headed)) = some_of (λ c. OfTable image (table_at image c linkedit_data_table) Rule place) (chained_fixups image) broken in
      let table = table_at image command linkedit_data_table in
      let chains = part table.0 table.1 image in
      let (header, at, here) = some_of (λ header. Rule image table.0 chains header place) (chain_header chains) headed in
      let inside = chains_inside image command is keeps some in
      let size = length-part table.0 table.1 image inside in
      near table.0 chains header place (omega (arith, inside, size)) here

  pub slots_near : (place : ℕ) → InPointers image BreaksChainSlot place → place ≤ length image
  slots_near = pointers_near BreaksChainSlot slot_near

  pub binds_near : (place : ℕ) → InPointers image BreaksChainBind place → place ≤ length image
  binds_near = pointers_near BreaksChainBind (λ table chains header place lies. bind_near table chains header place)
