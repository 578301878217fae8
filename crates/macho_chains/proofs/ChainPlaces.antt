-- Where a loader comes in the chains of a table that breaks no rule.
use Rattle.std.proofs.Common.{◌≡◌, ℕ, suc, ◌+◌, ◌*◌, ◌≤◌, ◌<◌, ◌⊎◌, List, get_or, Option, Some, None, refl, sym, ◌∙◌, subst, arith}
use Rattle.std.specs.Prelude.{IfSome, MatchOption}
use Rattle.macho_fields.specs.Layers.{NothingBreaks}
use Rattle.macho_fields.specs.Rules as layout
use Rattle.macho_fields.specs.Segment.{all_segments, vmaddr}
use Rattle.macho_spans.specs.Span.{Covers}
use Rattle.macho_chains.specs.ChainDyld.{IsInMemory}
use Rattle.macho_chains.specs.ChainPointers.{pointer_at, first_offset, ComesTo, HasChain, BreaksChainSlot}
use Rattle.macho_chains.specs.ChainStarts.{starts_of, BreaksChainStarts}
use Rattle.macho_tables.specs.Memory.{IsKept}
use Rattle.macho_tables.specs.Limits.{room}
use Rattle.macho_chains.specs.declared.chain_header.ChainHeader.{ChainHeader}
use Rattle.macho_chains.specs.declared.chain_starts.SegmentStarts.{SegmentStarts}
use Rattle.macho_chains.proofs.ChainFresh.{IsFresh, room_whole, fresh_first, fresh_same, fresh_next, fresh_past}
use Rattle.macho_tables.proofs.Memory.{segment_among, still_kept}
use Rattle.macho_chains.proofs.UnbrokenPointers.{first_comes, next_past, next_comes}
use Rattle.macho_chains.proofs.UnbrokenStarts.{entries, segment_there}

-- the place of the segment with an index
abbrev pub place_of : List ℕ → ℕ → ℕ
place_of image segment = get_or (all_segments image) segment 0

-- Between two pages, what was written of the segment ends before the next one.
abbrev pub IsBetween : List ℕ → ChainHeader → ℕ → ℕ → ℕ → Type 0
IsBetween chains header segment page reach = IfSome (starts_of chains header segment) (λ starts. reach ≤ page * starts.page_size)

-- The chain of the page before comes to a pointer at an address, and what was written of the segment ends before it.
pub record IsAtPointer (image chains : List ℕ) (header : ChainHeader) (segment page reach address : ℕ) : Type 0 where
  pub less : segment < entries chains header
  pub starts : SegmentStarts
  pub is : starts_of chains header segment ≡ Some starts
  pub in_page : ℕ
  pub turned : page ≡ suc in_page
  pub within : in_page < starts.page_count
  pub offset : ℕ
  pub at : address ≡ vmaddr image (place_of image segment) + offset
  pub past : reach ≤ offset
  pub comes : ComesTo image chains (place_of image segment) starts in_page offset

-- Where a loader has come, with what in memory
pub record HasCome (image chains : List ℕ) (header : ChainHeader) (memory : ℕ → ℕ) (segment page : ℕ) (next : Option ℕ) (reach : ℕ) : Type 0 where
  pub kept : IsKept image memory
  pub few : segment ≤ entries chains header
  pub fresh : IsFresh image memory segment reach
  pub inside : reach ≤ room image (place_of image segment)
  pub placed : MatchOption next (IsBetween chains header segment page reach) (IsAtPointer image chains header segment page reach)

-- the pointer that comes next
pub next_at : (image chains : List ℕ) (header : ChainHeader) (memory : ℕ → ℕ) (segment page : ℕ) (next : Option ℕ) (reach : ℕ) → HasCome image chains header memory segment page next reach
    → (address : ℕ) → next ≡ Some address → IsAtPointer image chains header segment page reach address
next_at image chains header memory segment page next reach come address at =
    subst (λ (n : Option ℕ). MatchOption n (IsBetween chains header segment page reach) (IsAtPointer image chains header segment page reach)) at come.placed

-- memory in which nothing is written is kept
kept_same : (image : List ℕ) (before after : ℕ → ℕ) → ((address : ℕ) → after address ≡ before address) → IsKept image before → IsKept image after
kept_same image before after same kept s k has mapped constant plain below clear = same _ ∙ kept s k has mapped constant plain below clear

between_none : (chains : List ℕ) (header : ChainHeader) (segment : ℕ) → IsBetween chains header segment 0 0
between_none chains header segment = each (starts_of chains header segment)
  where
    each : (found : Option SegmentStarts) → IfSome found (λ starts. 0 ≤ 0 * starts.page_size)
    each None = tt
    each (Some starts) = omega arith

pub come_first : (image chains : List ℕ) (header : ChainHeader) (memory : ℕ → ℕ) → IsInMemory image memory → HasCome image chains header memory 0 0 None 0
come_first image chains header memory mapped = record {
  kept = λ s k has is_mapped constant plain below clear. mapped s k has is_mapped plain below clear;
  few = omega arith;
  fresh = fresh_first image memory mapped;
  inside = omega arith;
  placed = between_none chains header 0;
}

module _ (image chains : List ℕ) (header : ChainHeader) (before after : ℕ → ℕ) (segment page : ℕ) (next : Option ℕ) (reach : ℕ)
    (so_far : HasCome image chains header before segment page next reach) where
  -- nothing is written
  module _ (same : (address : ℕ) → after address ≡ before address) (less : segment < entries chains header) where
    -- the next segment
    pub come_segment : HasCome image chains header after (suc segment) 0 None 0
    come_segment = record {
      kept = kept_same image before after same so_far.kept;
      few = omega (arith, less);
      fresh = fresh_next image before after segment reach so_far.fresh same;
      inside = omega arith;
      placed = between_none chains header (suc segment);
    }

    -- a page
    module _ (between : next ≡ None) (none : (offset : ℕ) → ¬ BreaksChainStarts image chains header offset) (starts : SegmentStarts) (is : starts_of chains header segment ≡ Some starts)
        (within : page < starts.page_count) where
      ended : reach ≤ page * starts.page_size
      ended =
          let here : IsBetween chains header segment page reach =
          subst (λ (n : Option ℕ). MatchOption n (IsBetween chains header segment page reach) (IsAtPointer image chains header segment page reach)) between so_far.placed in
          subst (λ (found : Option SegmentStarts). IfSome found (λ s. reach ≤ page * s.page_size)) is here

      -- without a chain
      pub come_page : HasCome image chains header after segment (suc page) None reach
      come_page = record {
        kept = kept_same image before after same so_far.kept;
        few = so_far.few;
        fresh = fresh_same image before after segment reach so_far.fresh same;
        inside = so_far.inside;
        placed = subst (λ (found : Option SegmentStarts). IfSome found (λ s. reach ≤ suc page * s.page_size)) (sym is) (let end = ended in omega (arith, end));
      }

      -- with one
      pub come_chain : (table address : ℕ) → ((place : ℕ) → ¬ BreaksChainSlot image table chains header place) → HasChain chains starts page
          → address ≡ vmaddr image (place_of image segment) + first_offset chains starts page → HasCome image chains header after segment (suc page) (Some address) reach
      come_chain table address slots has at = record {
        kept = kept_same image before after same so_far.kept;
        few = so_far.few;
        fresh = fresh_same image before after segment reach so_far.fresh same;
        inside = so_far.inside;
        placed = record {
          less = less;
          starts = starts;
          is = is;
          in_page = page;
          turned = refl;
          within = within;
          offset = first_offset chains starts page;
          at = at;
          past = let end = ended in omega (arith, end);
          comes = first_comes image chains header none segment less starts is page within table slots has;
        };
      }

  -- a pointer is written
  module _ (unbroken : NothingBreaks (layout.BreaksImage image None)) (none : (offset : ℕ) → ¬ BreaksChainStarts image chains header offset) (address : ℕ)
      (pointer : IsAtPointer image chains header segment page reach address) (writes : (other : ℕ) → (after other ≡ before other) ⊎ Covers address 8 other) where
    abbrev place : ℕ
    place = place_of image segment

    abbrev distance : ℕ
    distance = (pointer_at image place pointer.starts.format pointer.offset).distance

    writes_there : (other : ℕ) → (after other ≡ before other) ⊎ Covers (vmaddr image place + pointer.offset) 8 other
    writes_there = subst (λ (a : ℕ). (other : ℕ) → (after other ≡ before other) ⊎ Covers a 8 other) pointer.at writes

    come_past : (then : Option ℕ) → MatchOption then (IsBetween chains header segment page (pointer.offset + 8)) (IsAtPointer image chains header segment page (pointer.offset + 8))
        → HasCome image chains header after segment page then (pointer.offset + 8)
    come_past then placed =
        let fits = pointer.comes.2.1 in
        let (can, whole) = room_whole image place (pointer.offset + 8) fits (omega arith) in
        let there = segment_there image chains header none segment pointer.less in record {
          kept = still_kept image unbroken place pointer.offset (segment_among image segment place there) can whole before after writes_there so_far.kept;
          few = so_far.few;
          fresh = fresh_past image before after segment reach so_far.fresh unbroken place pointer.offset there can whole pointer.past writes_there;
          inside = fits.written;
          placed = placed;
        }

    -- the last of its page
    pub come_last : HasCome image chains header after segment page None (pointer.offset + 8)
    come_last =
        come_past None
        (subst (λ (found : Option SegmentStarts). IfSome found (λ s. pointer.offset + 8 ≤ page * s.page_size)) (sym pointer.is)
        (subst (λ (n : ℕ). pointer.offset + 8 ≤ n * pointer.starts.page_size) (sym pointer.turned) pointer.comes.2.0))

    -- there is a next one
    pub come_next : (table : ℕ) → ((place : ℕ) → ¬ BreaksChainSlot image table chains header place) → 0 < distance → HasCome image chains header after segment page (Some (address + distance)) (pointer.offset + 8)
    come_next table slots some =
        let far = next_past image chains header none segment pointer.less pointer.starts pointer.is pointer.in_page pointer.within table slots pointer.offset pointer.comes some in
        come_past (Some (address + distance)) (record {
          less = pointer.less;
          starts = pointer.starts;
          is = pointer.is;
          in_page = pointer.in_page;
          turned = pointer.turned;
          within = pointer.within;
          offset = pointer.offset + distance;
          at = let start = pointer.at in omega (arith, start);
          past = omega (arith, far);
          comes = next_comes image chains header none segment pointer.less pointer.starts pointer.is pointer.in_page pointer.within table slots pointer.offset pointer.comes some;
        })
