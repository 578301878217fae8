-- A loader moves over the chains of a table that breaks no rule, and comes to pointers that are there.
use Rattle.std.proofs.Common.{◌≡◌, ◌≢◌, ℕ, suc, zero, ◌+◌, ◌<◌, List, length, Option, Some, None, refl, sym, ap, ◌∙◌, subst, arith, inl, inr}
use Rattle.std.specs.Prelude.{IfSome, slice_index}
use Rattle.std.proofs.lemmas.Bool.{cases_eq, eq-eqb, ne_eqb}
use Rattle.std.proofs.lemmas.Option.{same_Some}
use Rattle.macho_fields.specs.Image.{long, commands_of}
use Rattle.macho_fields.specs.Layers.{NothingBreaks}
use Rattle.macho_fields.specs.Rules as layout
use Rattle.macho_fields.specs.Segment.{base_of, vmaddr, fileoff}
use Rattle.macho_chains.specs.ChainDyld.{ChainState, IsPointerThere, IsChainSafe, TurnsSegment, TurnsPage, Follows, ChainMoves, ChainReaches, number_in, count_in, format_in, next_pointer, entry_in}
use Rattle.macho_chains.specs.ChainPointers.{pointer_of, pointer_at, page_start}
use Rattle.macho_chains.specs.ChainStarts.{starts_of}
use Rattle.macho_tables.specs.Memory.{IsKept}
use Rattle.macho_chains.specs.declared.chain_header.ChainHeader.{ChainHeader}
use Rattle.macho_chains.specs.declared.chain_pointers.ChainPointer.{ChainPointer}
use Rattle.macho_chains.specs.declared.chain_starts.PointerFormat.{PointerFormat}
use Rattle.macho_chains.specs.declared.chain_starts.SegmentStarts.{SegmentStarts}
use Rattle.macho_fields.specs.declared.header.fixup_chains.TheConstants as chained
use Rattle.macho_chains.proofs.ChainCounts.{HasMoved, moved_segment, moved_page, moved_pointer, moved_few}
use Rattle.macho_chains.proofs.ChainFresh.{room_whole}
use Rattle.macho_chains.proofs.ChainMemory.{long_same}
use Rattle.macho_chains.proofs.ChainPlaces.{HasCome, IsAtPointer, place_of, come_segment, come_page, come_chain, come_last, come_next, next_at}
use Rattle.macho_chains.proofs.ChainReads.{has_starts, below_entries, entry_read, starts_read, format_read, with_pages, format_known, pages_known, page_ends, page_begins}
use Rattle.macho_chains.proofs.UnbrokenChains.{AreGoodChains}
use Rattle.macho_chains.proofs.UnbrokenImports.{imports_there, names_fit}
use Rattle.macho_chains.proofs.UnbrokenPointers.{import_there}
use Rattle.macho_chains.proofs.UnbrokenStarts.{entries, counted, segment_there, its_address}

-- a pointer that ends a chain, and one that says where the next one is
ends_chain : (address : ℕ) (said : ChainPointer) → said.distance ≡ 0 → next_pointer address said ≡ None
ends_chain address said last = rw (eq-eqb said.distance 0 last) refl

goes_on : (address : ℕ) (said : ChainPointer) → said.distance ≢ 0 → next_pointer address said ≡ Some (address + said.distance)
goes_on address said more = rw (ne_eqb said.distance 0 more) refl

module _ (image : List ℕ) (unbroken : NothingBreaks (layout.BreaksImage image None)) (table home : ℕ) (chains : List ℕ) (header : ChainHeader) (good : AreGoodChains image table chains header)
    (same : (memory : ℕ → ℕ) → IsKept image memory → (k : ℕ) → k < length chains → memory (home + k) ≡ slice_index chains k) where
  -- Where the loader has come after n moves
  abbrev pub Good : ℕ → ChainState → Type 0
  Good n a = (reach : ℕ) × HasCome image chains header a.memory a.segment a.page a.next reach × HasMoved image chains header n a.segment a.page reach

  turn_segment : (n : ℕ) (a b : ChainState) → Good n a → TurnsSegment home a b → Good (suc n) b
  turn_segment n a b (reach, come, moved) turn =
      let less = below_entries image table chains header good a.memory home (same a.memory come.kept) a.segment turn.left in (
        0,
        rw (turn.segment, turn.page, turn.next) (come_segment image chains header a.memory b.memory a.segment a.page a.next reach come turn.memory less),
        rw (turn.segment, turn.page) (moved_segment image chains header good.starts n a.segment a.page reach moved less come.inside),
      )

  turn_page : (n : ℕ) (a b : ChainState) → Good n a → TurnsPage image home a b → Good (suc n) b
  turn_page n a b (reach, come, moved) turn = with_starts (with_pages image table chains header good a.memory home (same a.memory come.kept) a.segment less a.page turn.more)
    where
      there : (k : ℕ) → k < length chains → a.memory (home + k) ≡ slice_index chains k
      there = same a.memory come.kept

      less : a.segment < entries chains header
      less = below_entries image table chains header good a.memory home there a.segment turn.left

      with_starts : (starts : SegmentStarts) × (starts_of chains header a.segment ≡ Some starts) → Good (suc n) b
      with_starts (starts, are) = elim (cases_eq (page_start chains starts a.page) chained.DYLD_CHAINED_PTR_START_NONE) [
        | inl none ↦ (
          reach,
          rw (turn.segment, turn.page, turn.next base is_base ∙ page_ends image table chains header good a.memory home there a.segment less starts are a.page within base none)
              (come_page image chains header a.memory b.memory a.segment a.page a.next reach come turn.memory less turn.between good.starts starts are within),
          rw (turn.segment, turn.page) counted_page,
        )
        | inr has ↦ (
          reach,
          rw (turn.segment, turn.page, turn.next base is_base ∙ page_begins image table chains header good a.memory home there a.segment less starts are a.page within base has)
              (come_chain image chains header a.memory b.memory a.segment a.page a.next reach come turn.memory less turn.between good.starts starts are within table _ good.slots has (omega (arith, at))),
          rw (turn.segment, turn.page) counted_page,
        )
      ]
        where
          within : a.page < starts.page_count
          within = subst (λ (m : ℕ). a.page < m) (pages_known image table chains header good a.memory home there a.segment less starts are) turn.more

          counted_page : HasMoved image chains header (suc n) a.segment (suc a.page) reach
          counted_page = moved_page image chains header good.starts n a.segment a.page reach moved less starts are within

          base : ℕ
          base = (its_address image chains header good.starts a.segment less starts are).0

          is_base : base_of image (commands_of image) ≡ Some base
          is_base = (its_address image chains header good.starts a.segment less starts are).1

          at : base + starts.segment_offset ≡ vmaddr image (place_of image a.segment)
          at = (its_address image chains header good.starts a.segment less starts are).2

  -- The pointer that comes next
  module _ (a : ChainState) (reach : ℕ) (come : HasCome image chains header a.memory a.segment a.page a.next reach) (address : ℕ) (at : a.next ≡ Some address) where
    here : IsAtPointer image chains header a.segment a.page reach address
    here = next_at image chains header a.memory a.segment a.page a.next reach come address at

    abbrev place : ℕ
    place = place_of image a.segment

    -- is in memory as the file has it
    unwritten : (k : ℕ) → k < 8 → a.memory (address + k) ≡ slice_index image (fileoff image place + here.offset + k)
    unwritten k less =
        let start = here.at in
        let past = here.past in
        let there : address + k ≡ vmaddr image place + (here.offset + k) = omega (arith, start) in
        let same_place : fileoff image place + (here.offset + k) ≡ fileoff image place + here.offset + k = omega arith in
        ap a.memory there
        ∙ (come.fresh a.segment place (here.offset + 8) (here.offset + k) (segment_there image chains header good.starts a.segment here.less) here.comes.2.1 (omega (arith, less)) (inr (refl, omega (arith, past)))
        ∙ ap (slice_index image) same_place)

    -- so it says what it says in the file
    bits_same : number_in a.memory 8 address ≡ long image (fileoff image place + here.offset)
    bits_same = long_same a.memory image address (fileoff image place + here.offset) unwritten

    known : format_in a.memory home a.segment ≡ Some here.starts.format
    known = format_known image table chains header good a.memory home (same a.memory come.kept) a.segment here.less here.starts here.is

    says : pointer_of here.starts.format (number_in a.memory 8 address) ≡ pointer_at image place here.starts.format here.offset
    says = ap (pointer_of here.starts.format) bits_same

    -- it is one of a segment that has starts, and it is there
    started : (a.segment < count_in a.memory home) × (entry_in a.memory home a.segment ≢ 0)
    started = has_starts image table chains header good a.memory home (same a.memory come.kept) a.segment here.less here.starts here.is

    is_there : IsPointerThere image a.memory a.segment address
    is_there =
        let (can, whole) = room_whole image place (here.offset + 8) here.comes.2.1 (omega arith) in record {
          place = place;
          offset = here.offset;
          there = segment_there image chains header good.starts a.segment here.less;
          written = can;
          inside = whole;
          at = here.at;
          unwritten = unwritten;
        }

    -- what it binds is there
    binds : IfSome (pointer_of here.starts.format (number_in a.memory 8 address)).import (λ import. import < header.imports_count)
    binds =
        subst (λ (p : ChainPointer). IfSome p.import (λ import. import < header.imports_count)) (sym says)
        (import_there image chains header good.starts a.segment here.less here.starts here.is here.in_page here.within table good.binds here.offset here.comes)

  follow : (n : ℕ) (a b : ChainState) → Good n a → Follows home a b → Good (suc n) b
  follow n a b (reach, come, moved) move =
      elim (cases_eq said.distance 0) [
        | inl last ↦ (
          pointer.offset + 8,
          rw (move.segment, move.page, next_is ∙ ends_chain move.address said last) (come_last image chains header a.memory b.memory a.segment a.page a.next reach come unbroken good.starts move.address pointer move.memory),
          rw (move.segment, move.page) counted_pointer,
        )
        | inr more ↦ (
          pointer.offset + 8,
          rw (move.segment, move.page, next_is ∙ goes_on move.address said more)
              (come_next image chains header a.memory b.memory a.segment a.page a.next reach come unbroken good.starts move.address pointer move.memory table good.slots (omega (arith, more))),
          rw (move.segment, move.page) counted_pointer,
        )
      ]
    where
      pointer : IsAtPointer image chains header a.segment a.page reach move.address
      pointer = here a reach come move.address move.at

      said : ChainPointer
      said = pointer_at image (place_of image a.segment) pointer.starts.format pointer.offset

      next_is : b.next ≡ next_pointer move.address said
      next_is = move.next pointer.starts.format (known a reach come move.address move.at) ∙ ap (next_pointer move.address) (says a reach come move.address move.at)

      counted_pointer : HasMoved image chains header (suc n) a.segment a.page (pointer.offset + 8)
      counted_pointer = moved_pointer image chains header good.starts n a.segment a.page reach moved pointer.less pointer.offset pointer.past pointer.comes.2.1.written

  moves : (n : ℕ) (a b : ChainState) → Good n a → ChainMoves image home a b → Good (suc n) b
  moves n a b good move = elim move [
    | inl turn ↦ elim turn [ inl segment ↦ turn_segment n a b good segment | inr page ↦ turn_page n a b good page ]
    | inr pointer ↦ follow n a b good pointer
  ]

  pub reaches : (n m : ℕ) (a b : ChainState) → Good m a → ChainReaches image home a n b → Good (m + n) b
  reaches zero m a b good at = subst (λ (i : ℕ). Good i b) (let none_more : m ≡ m + zero = omega arith in none_more) (subst (Good m) at good)
  reaches (suc n) m a b good (next, move, on) =
      subst (λ (i : ℕ). Good i b) (let one_more : suc m + n ≡ m + suc n = omega arith in one_more) (reaches n (suc m) next b (moves m a next good move) on)

  pub safe : (n : ℕ) (a : ChainState) → Good n a → IsChainSafe image chains header home n a
  safe n a (reach, come, moved) = record {
    ends = moved_few image chains header good.starts n a.segment a.page reach moved come.few;
    same = same a.memory come.kept;
    kept = come.kept;
    counted = counted image chains header good.starts;
    entry = λ left. entry_read image table chains header good a.memory home (same a.memory come.kept) a.segment (below left);
    starts = λ left. starts_read image table chains header good a.memory home (same a.memory come.kept) a.segment (below left);
    format = λ left. format_read image table chains header good a.memory home (same a.memory come.kept) a.segment (below left);
    started = next_started a.next refl;
    pointer = next_there a.next refl;
    bound = λ address format at is_format.
        subst (λ (f : PointerFormat). IfSome (pointer_of f (number_in a.memory 8 address)).import (λ import. import < header.imports_count))
        (same_Some _ _ (sym (known a reach come address at) ∙ is_format)) (binds a reach come address at);
    imports = imports_there image chains header good.imports good.libraries;
    names = names_fit image chains header good.imports good.names header.imports_count (omega arith);
  }
    where
      next_started : (next : Option ℕ) → a.next ≡ next → IfSome next (λ address. (a.segment < count_in a.memory home) × (entry_in a.memory home a.segment ≢ 0))
      next_started None none = tt
      next_started (Some address) at = started a reach come address at

      next_there : (next : Option ℕ) → a.next ≡ next → IfSome next (IsPointerThere image a.memory a.segment)
      next_there None none = tt
      next_there (Some address) at = is_there a reach come address at

      below : a.segment < count_in a.memory home → a.segment < entries chains header
      below = below_entries image table chains header good a.memory home (same a.memory come.kept) a.segment
