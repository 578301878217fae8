-- The loader model writes the rows of the chains, in its order, each once.
use Rattle.std.proofs.Common.{◌≡◌, ◌∙◌, ℕ, zero, suc, ◌+◌, ◌-◌, ◌*◌, ◌^◌, ◌≤◌, ◌<◌, List, [], ◌∷◌, ◌++◌, length, drop, slice_get, true, false, Option, Some, None, refl, sym, ap, subst, arith, inl, inr}
use Rattle.std.specs.Prelude.{◌==◌, nat_le, IfSome, slice_index}
use Rattle.std.proofs.Math.Seq.{drop-cons}
use Rattle.std.proofs.lemmas.Bool.{cases_lt, cases_eq, eq-eqb, ne_eqb, lt-ltb, le-ltb, le-leb, and_from, and_left, or_left, or_right}
use Rattle.std.proofs.lemmas.Option.{same_Some}
use Rattle.macho_fields.specs.Image.{long, commands_of}
use Rattle.macho_fields.specs.Layers.{NothingBreaks}
use Rattle.macho_fields.specs.Rules as layout
use Rattle.macho_fields.specs.Segment.{all_segments, base_of, vmaddr, vmsize, fileoff, filesize}
use Rattle.macho_fields.specs.declared.rule.Rule.TheVariants as rule
use Rattle.macho_fields.specs.declared.header.fixup_chains.TheConstants as chained
use Rattle.macho_chains.specs.ChainDyld.{ChainState, TurnsSegment, TurnsPage, Follows, ChainMoves, count_in, number_in, next_pointer}
use Rattle.macho_chains.specs.ChainImports.{import_offset}
use Rattle.macho_chains.specs.ChainPointers.{pointer_of, pointer_at, page_start, first_offset}
use Rattle.macho_chains.specs.ChainStarts.{entry_offset, seg_info_offset, segment_starts, starts_of, starts_end}
use Rattle.macho_chains.specs.declared.chain_header.ChainHeader.{ChainHeader}
use Rattle.macho_chains.specs.declared.chain_pointers.ChainPointer.{ChainPointer}
use Rattle.macho_chains.specs.declared.chain_starts.SegmentStarts.{SegmentStarts}
use Rattle.macho_chains.proofs.ChainFresh.{room_whole}
use Rattle.macho_chains.proofs.ChainMemory.{long_same, count_same}
use Rattle.macho_chains.proofs.ChainMoves.{Good, reaches}
use Rattle.macho_chains.proofs.ChainPlaces.{HasCome, IsAtPointer, place_of, next_at}
use Rattle.macho_chains.proofs.ChainReads.{below_entries, with_pages, format_known, pages_known, page_ends, page_begins}
use Rattle.macho_chains.proofs.ChainStarts.{starts_unnamed}
use Rattle.macho_chains.proofs.PointerSurveys.{file_part_inside}
use Rattle.macho_chains.proofs.UnbrokenChains.{AreGoodChains}
use Rattle.macho_chains.proofs.UnbrokenPointers.{import_there, next_past}
use Rattle.macho_chains.proofs.UnbrokenStarts.{entries, counted, count_is, entries_few, entries_inside, segment_there, starts_there, has_entry as has_its_entry, its_address, past_others}
use Rattle.macho_rules.proofs.Judged.{opened_commands}
use Rattle.macho_rules.proofs.Verdicts.{unbroken_opened}
use Rattle.macho_tables.specs.Memory.{IsKept}
use Rattle.macho_tables.proofs.Memory.{segment_among, writable_mapped}
use Rattle.macho_fixups.specs.ChainLoader.{ChainWrites, addresses}
use Rattle.macho_fixups.specs.ChainedFixups.{has_entry, value_by, value_of, located, raw_at, row_at, row_with, starts_at, segments_from, pages_left, is_apart}
use Rattle.std.specs.Int.{int_wrapping_add, w64}
use Rattle.macho_tables.specs.Fields.{half}
use Rattle.macho_fixups.specs.ChainedImports.{has_import, import_addend}
use Rattle.macho_fixups.specs.ChainedPointers.{own_addend, rebase_of, bind_of}
use Rattle.macho_fixups.specs.Locations.{pointer_place, pointer_address}
use Rattle.macho_fixups.specs.declared.row.KesvuotFixup.{KesvuotFixup}
use Rattle.macho_fixups.proofs.ChainSegments.{no_entry, no_starts, with_starts, fresh}
use Rattle.macho_fixups.proofs.ChainWalks.{pages_done, page_empty, page_begun, row_last, row_next}

module _ (image : List ℕ) (unbroken : NothingBreaks (layout.BreaksImage image None)) (short : length image < 2 ^ 64) (table home : ℕ) (chains : List ℕ) (header : ChainHeader)
    (good : AreGoodChains image table chains header) (same : (memory : ℕ → ℕ) → IsKept image memory → (k : ℕ) → k < length chains → memory (home + k) ≡ slice_index chains k)
    (base : ℕ) (is_base : base_of image (commands_of image) ≡ Some base) where
  abbrev from : ℕ → ℕ → List ℕ → List KesvuotFixup
  from k reach segments = segments_from image base chains header k reach segments

  -- Entries and starts

  entry_true : (k : ℕ) → k < entries chains header → has_entry chains header k ≡ true
  entry_true k less =
      let all = entries_inside image chains header good.starts in
      rw (count_is image chains header good.starts)
      (and_from _ _ (lt-ltb k (entries chains header) less) (le-leb (entry_offset header (suc k)) (length chains) (omega (arith, all, less))))

  entry_false : (k : ℕ) → entries chains header ≤ k → has_entry chains header k ≡ false
  entry_false k past = rw (count_is image chains header good.starts) (and_left _ _ (le-ltb k (entries chains header) past))

  its_starts_at : (k : ℕ) (less : k < entries chains header) (starts : SegmentStarts) → starts_of chains header k ≡ Some starts
      → starts_at image base chains header (place_of image k) k ≡ Some starts
  unfolding starts_at
  its_starts_at k less starts is =
      let named = has_its_entry image chains header good.starts k less starts is in
      let read : segment_starts chains (header.starts_offset + seg_info_offset chains header k) ≡ Some starts = rw (ne_eqb (seg_info_offset chains header k) 0 named) at is in
      let (start, is_start, at) = its_address image chains header good.starts k less starts is in
      let same_base : start ≡ base = same_Some start base (sym is_start ∙ is_base) in
      rw (read, eq-eqb (base + starts.segment_offset) (vmaddr image (place_of image k)) (ap (λ b. b + starts.segment_offset) (sym same_base) ∙ at)) refl

  -- What remains

  -- the rows of the segments past one
  abbrev others : ℕ → ℕ → List KesvuotFixup
  others k reach = from (suc k) reach (drop (suc k) (all_segments image))

  abbrev flag : Option ℕ → ℕ
  flag None = 0
  flag (Some address) = 1

  abbrev from_start : ℕ → Option ℕ → ℕ
  from_start k None = 0
  from_start k (Some address) = address - vmaddr image (place_of image k)

  abbrev state_left : ℕ → ℕ → Option ℕ → ℕ → Option SegmentStarts → List KesvuotFixup
  state_left k page next reach None = others k reach
  state_left k page next reach (Some starts) =
      pages_left image base chains header (place_of image k) k starts page (flag next) (from_start k next) (others k (starts_end starts))

  -- the starts of later segments begin past an offset
  abbrev Later : ℕ → ℕ → Type 0
  Later k reach = (j : ℕ) → k ≤ j → j < entries chains header → IfSome (starts_of chains header j) (λ starts. reach ≤ starts.offset)

  pub record Remains (k page : ℕ) (next : Option ℕ) (rows : List KesvuotFixup) : Type 0 where
    pub inside : k < entries chains header → (reach : ℕ) × Later (suc k) reach × (rows ≡ state_left k page next reach (starts_of chains header k))
    pub outside : entries chains header ≤ k → rows ≡ []

  no_more : (k reach : ℕ) (segments : List ℕ) → entries chains header ≤ k → from k reach segments ≡ []
  no_more k reach [] past = refl
  no_more k reach (segment ∷ rest) past = no_entry image base chains header k reach segment rest (entry_false k past)

  -- where the next segment is one with an entry
  enter : (k reach : ℕ) → k < entries chains header → Later k reach → from k reach (drop k (all_segments image)) ≡ state_left k 0 None reach (starts_of chains header k)
  enter k reach less later =
      let few = entries_few image chains header good.starts in
      let there : k < length (all_segments image) = omega (arith, less, few) in
      ap (λ segments. from k reach segments) (drop-cons (all_segments image) k 0 there)
      ∙ elim (cases_eq (seg_info_offset chains header k) 0) [
        | inl none ↦
            no_starts image base chains header k reach (place_of image k) (drop (suc k) (all_segments image)) (entry_true k less) none
            ∙ ap (state_left k 0 None reach) (sym (starts_unnamed chains header k none))
        | inr some ↦
            let (starts, is) = starts_there image chains header good.starts k less some in
            let past : reach ≤ starts.offset = subst (λ (found : Option SegmentStarts). IfSome found (λ s. reach ≤ s.offset)) is (later k (omega arith) less) in
            with_starts image base chains header k reach (place_of image k) (drop (suc k) (all_segments image)) starts (entry_true k less) some (its_starts_at k less starts is) past
            ∙ (sym (fresh image base chains header (place_of image k) k 0 starts (others k (starts_end starts)))
            ∙ ap (state_left k 0 None reach) (sym is))
      ]

  -- the next segment
  arrive : (k reach : ℕ) (rows : List KesvuotFixup) → rows ≡ others k reach → Later (suc k) reach → Remains (suc k) 0 None rows
  arrive k reach rows is later = record {
    inside = λ less. (reach, (λ j past. later j (omega (arith, past))), is ∙ enter (suc k) reach less later);
    outside = λ past. is ∙ no_more (suc k) reach (drop (suc k) (all_segments image)) past;
  }

  later_than : (k : ℕ) (less : k < entries chains header) (starts : SegmentStarts) → starts_of chains header k ≡ Some starts → Later (suc k) (starts_end starts)
  later_than k less starts is j past below = each (starts_of chains header j) refl
    where
      each : (found : Option SegmentStarts) → starts_of chains header j ≡ found → IfSome found (λ s. starts_end starts ≤ s.offset)
      each None none = tt
      each (Some s) at =
          subst (λ (found : Option SegmentStarts). IfSome found (λ o. starts_end o ≤ s.offset)) is
          (past_others image chains header good.starts j below s at k (omega (arith, past)))

  -- between chains it does not matter which offset was last
  between_same : (k page offset : ℕ) (starts : SegmentStarts) (rest : List KesvuotFixup)
      → pages_left image base chains header (place_of image k) k starts page 0 offset rest ≡ pages_left image base chains header (place_of image k) k starts page 0 0 rest
  unfolding pages_left
  between_same k page offset starts rest = refl

  -- The moves

  module _ (a b : ChainState) (reach : ℕ) (come : HasCome image chains header a.memory a.segment a.page a.next reach) where
    there : (k : ℕ) → k < length chains → a.memory (home + k) ≡ slice_index chains k
    there = same a.memory come.kept

    turns_segment : (rows : List KesvuotFixup) → Remains a.segment a.page a.next rows → TurnsSegment home a b → Remains b.segment b.page b.next rows
    turns_segment rows left turn =
        let less = below_entries image table chains header good a.memory home there a.segment turn.left in
        let (past, later, is) = left.inside less in
        rw (turn.segment, turn.page, turn.next) (each less past later (starts_of chains header a.segment) refl is)
      where
        each : (less : a.segment < entries chains header) (past : ℕ) → Later (suc a.segment) past → (found : Option SegmentStarts) → starts_of chains header a.segment ≡ found
            → rows ≡ state_left a.segment a.page a.next past (starts_of chains header a.segment) → Remains (suc a.segment) 0 None rows
        each less past later None none is = arrive a.segment past rows (is ∙ ap (state_left a.segment a.page a.next past) none) later
        each less past later (Some starts) at is =
            let pages = pages_known image table chains header good a.memory home there a.segment less starts at in
            let done = turn.done in
            arrive a.segment (starts_end starts) rows
            (is ∙ (ap (state_left a.segment a.page a.next past) at
            ∙ (ap (λ next. state_left a.segment a.page next past (Some starts)) turn.between
            ∙ pages_done image base chains header (place_of image a.segment) a.segment starts a.page 0 0 (others a.segment (starts_end starts)) refl (omega (arith, pages, done)))))
            (later_than a.segment less starts at)

    turns_page : (rows : List KesvuotFixup) → Remains a.segment a.page a.next rows → TurnsPage image home a b → Remains b.segment b.page b.next rows
    turns_page rows left turn = with_its (with_pages image table chains header good a.memory home there a.segment less a.page turn.more)
      where
        less : a.segment < entries chains header
        less = below_entries image table chains header good a.memory home there a.segment turn.left

        with_its : (starts : SegmentStarts) × (starts_of chains header a.segment ≡ Some starts) → Remains b.segment b.page b.next rows
        with_its (starts, are) =
            let (past, later, is) = left.inside less in
            let within : a.page < starts.page_count = subst (λ (m : ℕ). a.page < m) (pages_known image table chains header good a.memory home there a.segment less starts are) turn.more in
            let rest = others a.segment (starts_end starts) in
            let place = place_of image a.segment in
            let now : rows ≡ pages_left image base chains header place a.segment starts a.page 0 0 rest =
            is ∙ (ap (state_left a.segment a.page a.next past) are ∙ ap (λ next. state_left a.segment a.page next past (Some starts)) turn.between) in
            elim (cases_eq (page_start chains starts a.page) chained.DYLD_CHAINED_PTR_START_NONE) [
              | inl none ↦
                  let next : b.next ≡ None = turn.next base is_base ∙ page_ends image table chains header good a.memory home there a.segment less starts are a.page within base none in
                  rw (turn.segment, turn.page, next) (record {
                    inside = λ _. (
                      past,
                      later,
                      now ∙ (page_empty image base chains header place a.segment starts a.page 0 0 rest refl within (λ has. has none)
                          ∙ (ap (λ p. pages_left image base chains header place a.segment starts p 0 0 rest) (let one : a.page + 1 ≡ suc a.page = omega arith in one)
                          ∙ ap (state_left a.segment (suc a.page) None past) (sym are))),
                    );
                    outside = λ far. absurd (omega (arith, far, less));
                  })
              | inr has ↦
                  let next : b.next ≡ Some (base + starts.segment_offset + first_offset chains starts a.page) =
                  turn.next base is_base ∙ page_begins image table chains header good a.memory home there a.segment less starts are a.page within base has in
                  let (start, is_start, at) = its_address image chains header good.starts a.segment less starts are in
                  let same_base : start ≡ base = same_Some start base (sym is_start ∙ is_base) in
                  let first : base + starts.segment_offset + first_offset chains starts a.page - vmaddr image place ≡ first_offset chains starts a.page = omega (arith, at, same_base) in
                  rw (turn.segment, turn.page, next) (record {
                    inside = λ _. (
                      past,
                      later,
                      now ∙ (page_begun image base chains header place a.segment starts a.page 0 0 (base + starts.segment_offset + first_offset chains starts a.page - vmaddr image place) rest refl within has first
                          ∙ (ap (λ p. pages_left image base chains header place a.segment starts p 1 (base + starts.segment_offset + first_offset chains starts a.page - vmaddr image place) rest) (let one : a.page + 1 ≡ suc a.page = omega arith in one)
                          ∙ ap (state_left a.segment (suc a.page) (Some (base + starts.segment_offset + first_offset chains starts a.page)) past) (sym are))),
                    );
                    outside = λ far. absurd (omega (arith, far, less));
                  })
            ]

    remains_at : (k page : ℕ) (next : Option ℕ) (rows : List KesvuotFixup) → b.segment ≡ k → b.page ≡ page → b.next ≡ next → Remains k page next rows
        → Remains b.segment b.page b.next rows
    remains_at k page next rows segment at follows left = rw (segment, at, follows) left

    -- a pointer
    module _ (move : Follows home a b) where
      here : IsAtPointer image chains header a.segment a.page reach move.address
      here = next_at image chains header a.memory a.segment a.page a.next reach come move.address move.at

      abbrev place : ℕ
      place = place_of image a.segment

      abbrev raw : ℕ
      raw = long image (fileoff image place + here.offset)

      abbrev said : ChainPointer
      said = pointer_at image place here.starts.format here.offset

      among : slice_get (all_segments image) a.segment ≡ Some place
      among = segment_there image chains header good.starts a.segment here.less

      room : (0 < vmsize image place) × (here.offset + 8 ≤ filesize image place)
      room =
          let (can, whole) = room_whole image place (here.offset + 8) here.comes.2.1 (omega arith) in
          (writable_mapped image place can, whole)

      in_file : fileoff image place + filesize image place ≤ length image
      in_file = elim (cases_lt (length image) (fileoff image place + filesize image place)) [
        | inl past ↦
            let whole = room.1 in
            absurd (file_part_inside image unbroken place (segment_among image a.segment place among) ((let some : 0 < filesize image place = omega (arith, whole) in some), past))
        | inr fits ↦ fits
      ]

      in_memory : vmaddr image place + here.offset < 2 ^ 64
      in_memory =
          let whole = room.1 in
          elim (cases_lt (vmsize image place) (filesize image place)) [
            | inl longer ↦
                absurd (unbroken rule.SegmentSize place (inr (commands_of image, opened_commands image (unbroken_opened image unbroken), (segment_among image a.segment place among, (room.0, longer)))))
            | inr fits ↦ elim (cases_lt (2 ^ 64) (vmaddr image place + vmsize image place)) [
              | inl past ↦
                  absurd (unbroken rule.SegmentAddress place (inr (commands_of image, opened_commands image (unbroken_opened image unbroken), (segment_among image a.segment place among, past))))
              | inr below ↦ omega (arith, whole, fits, below)
            ]
          ]

      placed : pointer_place image place here.offset ≡ Some (fileoff image place + here.offset)
      placed =
          let whole = room.1 in
          rw (le-leb (fileoff image place + filesize image place) (length image) in_file)
          (rw (le-leb (here.offset + 8) (filesize image place) whole) (rw (lt-ltb (fileoff image place + here.offset) (2 ^ 64) (let file = in_file in omega (arith, whole, file, short))) refl))

      addressed : pointer_address image place here.offset ≡ move.address
      addressed = let at = here.at in let near = in_memory in omega (arith, at, near)

      read : raw_at image place here.starts here.in_page here.offset ≡ Some raw
      read =
          let ends = here.comes.2.0 in
          rw (lt-ltb here.in_page here.starts.page_count here.within) (rw (le-leb (here.offset + 8) (suc here.in_page * here.starts.page_size) ends) (rw placed refl))

      apart : is_apart said.distance ≡ true
      apart = elim (cases_eq said.distance 0) [
        | inl last ↦ or_left (said.distance == 0) (nat_le 8 said.distance) (eq-eqb said.distance 0 last)
        | inr more ↦
            or_right (said.distance == 0) (nat_le 8 said.distance)
            (le-leb 8 said.distance
            (next_past image chains header good.starts a.segment here.less here.starts here.is here.in_page here.within table good.slots here.offset here.comes (omega (arith, more))))
      ]

      imported : (import : ℕ) → import < header.imports_count → has_import chains header import ≡ true
      imported import less =
          and_from _ _ (lt-ltb import header.imports_count less)
          (le-leb (import_offset header header.imports_count) (length chains)
          (elim (cases_lt (length chains) (import_offset header header.imports_count)) [
            | inl past ↦ absurd (good.imports 0 (inl (refl, ((let some : 0 < header.imports_count = omega (arith, less) in some), past))))
            | inr fits ↦ fits
          ]))

      valued : (value : KesvuotFixup) × (value_of base chains header here.starts raw ≡ Some value)
      unfolding value_of
      valued = by said.import (import_there image chains header good.starts a.segment here.less here.starts here.is here.in_page here.within table good.binds here.offset here.comes)
        where
          by : (import : Option ℕ) → IfSome import (λ i. i < header.imports_count) → (value : KesvuotFixup) × (value_by import base chains header here.starts raw ≡ Some value)
          by None _ = (rebase_of base (half chains (here.starts.offset + 6)) here.starts.format raw, refl)
          by (Some import) less = (
            bind_of here.starts.format raw import (int_wrapping_add w64 (import_addend chains header import) (own_addend here.starts.format raw)),
            rw (imported import less) refl,
          )

      row : KesvuotFixup
      row = located image place a.segment here.offset valued.0

      row_is : row_at image base chains header place a.segment here.starts here.in_page here.offset ≡ Some (row, said.distance)
      unfolding row_at row_with row
      row_is = rw read (rw apart (rw valued.1 refl))

      row_address : row.address ≡ move.address
      unfolding row
      row_address = addressed

      bits_same : number_in a.memory 8 move.address ≡ raw
      bits_same = long_same a.memory image move.address (fileoff image place + here.offset) unwritten
        where
          unwritten : (k : ℕ) → k < 8 → a.memory (move.address + k) ≡ slice_index image (fileoff image place + here.offset + k)
          unwritten k less =
              let start = here.at in
              let past = here.past in
              let at : move.address + k ≡ vmaddr image place + (here.offset + k) = omega (arith, start) in
              let same_place : fileoff image place + (here.offset + k) ≡ fileoff image place + here.offset + k = omega arith in
              ap a.memory at
              ∙ (come.fresh a.segment place (here.offset + 8) (here.offset + k) among here.comes.2.1 (omega (arith, less)) (inr (refl, omega (arith, past)))
              ∙ ap (slice_index image) same_place)

      next_is : b.next ≡ next_pointer move.address said
      next_is =
          move.next here.starts.format (format_known image table chains header good a.memory home there a.segment here.less here.starts here.is)
          ∙ ap (λ bits. next_pointer move.address (pointer_of here.starts.format bits)) bits_same

      follows : (rows : List KesvuotFixup) → Remains a.segment a.page a.next rows → (rest : List KesvuotFixup) × (rows ≡ row ∷ rest) × Remains b.segment b.page b.next rest
      follows rows left =
          let (past, later, is) = left.inside here.less in
          let turned = here.turned in
          let at = here.at in
          let in_page : a.page - 1 ≡ here.in_page = omega (arith, turned) in
          let back : move.address - vmaddr image place ≡ here.offset = omega (arith, at) in
          let now : rows ≡ state_left a.segment a.page (Some move.address) past (Some here.starts) =
          is ∙ (ap (state_left a.segment a.page a.next past) here.is ∙ ap (λ next. state_left a.segment a.page next past (Some here.starts)) move.at) in
          let known : row_at image base chains header place a.segment here.starts (a.page - 1) (move.address - vmaddr image place) ≡ Some (row, said.distance) =
          ap (λ p. row_at image base chains header place a.segment here.starts p (move.address - vmaddr image place)) in_page
          ∙ (ap (λ o. row_at image base chains header place a.segment here.starts here.in_page o) back ∙ row_is) in
          ends_or_goes past later now known
        where
          ends_or_goes : (past : ℕ) → Later (suc a.segment) past → rows ≡ state_left a.segment a.page (Some move.address) past (Some here.starts)
              → row_at image base chains header place a.segment here.starts (a.page - 1) (move.address - vmaddr image place) ≡ Some (row, said.distance)
              → (rest : List KesvuotFixup) × (rows ≡ row ∷ rest) × Remains b.segment b.page b.next rest
          ends_or_goes past later now known = elim (cases_eq said.distance 0) [
            | inl last ↦
                let next : b.next ≡ None = next_is ∙ rw (eq-eqb said.distance 0 last) refl in (
                  state_left a.segment a.page None past (Some here.starts),
                  now
                      ∙ (row_last image base chains header place a.segment here.starts a.page 1 (move.address - vmaddr image place) (others a.segment (starts_end here.starts)) (row, said.distance) (λ none. absurd (omega (arith, none))) known last
                      ∙ ap (λ rest. row ∷ rest) (between_same a.segment a.page (move.address - vmaddr image place) here.starts (others a.segment (starts_end here.starts)))),
                  remains_at a.segment a.page None (state_left a.segment a.page None past (Some here.starts)) move.segment move.page next (record {
                    inside = λ _. (past, later, ap (state_left a.segment a.page None past) (sym here.is));
                    outside = λ far. let less = here.less in absurd (omega (arith, far, less));
                  }),
                )
            | inr more ↦
                let next : b.next ≡ Some (move.address + said.distance) = next_is ∙ rw (ne_eqb said.distance 0 more) refl in
                let at = here.at in
                let ahead : move.address - vmaddr image place + said.distance ≡ move.address + said.distance - vmaddr image place = omega (arith, at) in (
                  state_left a.segment a.page (Some (move.address + said.distance)) past (Some here.starts),
                  now
                      ∙ (row_next image base chains header place a.segment here.starts a.page 1 (move.address - vmaddr image place) (others a.segment (starts_end here.starts)) (row, said.distance) (λ none. absurd (omega (arith, none))) known more
                      ∙ ap (λ o. row ∷ pages_left image base chains header place a.segment here.starts a.page 1 o (others a.segment (starts_end here.starts))) ahead),
                  remains_at a.segment a.page (Some (move.address + said.distance)) (state_left a.segment a.page (Some (move.address + said.distance)) past (Some here.starts)) move.segment move.page next (record {
                    inside = λ _. (past, later, ap (state_left a.segment a.page (Some (move.address + said.distance)) past) (sym here.is));
                    outside = λ far. let less = here.less in absurd (omega (arith, far, less));
                  }),
                )
          ]

  -- All moves

  abbrev At : ℕ → ChainState → Type 0
  At n a = Good image unbroken table home chains header good same n a

  one_more : (n : ℕ) (a b : ChainState) → At n a → ChainMoves image home a b → At (n + 1) b
  one_more n a b at move = reaches image unbroken table home chains header good same 1 n a b at (b, move, refl)

  pub writes : (n m : ℕ) (a last : ChainState) (rows : List KesvuotFixup) (written : List ℕ) → At m a → Remains a.segment a.page a.next rows → ChainWrites image home a n written last
      → (rest : List KesvuotFixup) × (addresses rows ≡ written ++ addresses rest) × Remains last.segment last.page last.next rest × ((k : ℕ) → k < length chains → last.memory (home + k) ≡ slice_index chains k)
  writes zero m a last rows written at left (same_state, none) = (
    rows,
    rw none refl,
    subst (λ (s : ChainState). Remains s.segment s.page s.next rows) same_state left,
    subst (λ (s : ChainState). (k : ℕ) → k < length chains → s.memory (home + k) ≡ slice_index chains k) same_state (there a a at.0 at.1),
  )
  writes (suc n) m a last rows written at left (next, steps) = elim steps [
    | inl turned ↦ elim turned.0 [
      | inl segment ↦ writes n (m + 1) next last rows written (one_more m a next at (inl (inl segment))) (turns_segment a next at.0 at.1 rows left segment) turned.1
      | inr page ↦ writes n (m + 1) next last rows written (one_more m a next at (inl (inr page))) (turns_page a next at.0 at.1 rows left page) turned.1
    ]
    | inr followed ↦
        let (move, later_written, is_written, on) = followed in
        let (rest, is, still) = follows a next at.0 at.1 move rows left in
        let (end, so_far, remains, kept) = writes n (m + 1) next last rest later_written (one_more m a next at (inr move)) still on in (
          end,
          ap addresses is
              ∙ (ap (λ address. address ∷ addresses rest) (row_address a next at.0 at.1 move)
              ∙ (ap (λ addresses. move.address ∷ addresses) so_far ∙ ap (λ w. w ++ addresses end) (sym is_written))),
          remains,
          kept,
        )
  ]

  -- where the loader is done
  pub ended : (last : ChainState) (rest : List KesvuotFixup) → ((k : ℕ) → k < length chains → last.memory (home + k) ≡ slice_index chains k) → Remains last.segment last.page last.next rest
      → count_in last.memory home ≤ last.segment → rest ≡ []
  ended last rest kept left done =
      let count = count_same chains header good.headed last.memory home kept (counted image chains header good.starts) in
      left.outside (omega (arith, count, done))

  -- before all moves
  pub begins : Remains 0 0 None (from 0 0 (all_segments image))
  begins = record {
    inside = λ less. (0, (λ j past below. none_past j), enter 0 0 less (λ j past below. none_past j));
    outside = λ past. no_more 0 0 (all_segments image) past;
  }
    where
      none_past : (j : ℕ) → IfSome (starts_of chains header j) (λ starts. 0 ≤ starts.offset)
      none_past j = each (starts_of chains header j)
        where
          each : (found : Option SegmentStarts) → IfSome found (λ starts. 0 ≤ starts.offset)
          each None = tt
          each (Some starts) = omega arith
