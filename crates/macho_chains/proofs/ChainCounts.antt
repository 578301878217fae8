-- How often a loader moves over the chains of a table that breaks no rule: a few bytes of the table or of the
-- segments that can be written pay for each move.
use Rattle.std.proofs.Common.{◌≡◌, ℕ, suc, ◌+◌, ◌*◌, ◌/◌, ◌≤◌, ◌<◌, List, length, take, get_or, Option, Some, None, refl, sym, ap, ◌∙◌, subst, arith, add-one}
use Rattle.std.specs.Prelude.{IfSome}
use Rattle.std.specs.List.{sum_by}
use Rattle.std.specs.Option.{option_map_or}
use Rattle.std.proofs.lemmas.List.Sums.{sum_by_more, sum_by-take-le}
use Rattle.macho_fields.specs.Segment.{all_segments}
use Rattle.macho_chains.specs.ChainStarts.{starts_of, starts_end, StartsEndBy, BreaksChainStarts}
use Rattle.macho_tables.specs.Limits.{room, budget_of}
use Rattle.macho_chains.specs.declared.chain_header.ChainHeader.{ChainHeader}
use Rattle.macho_chains.specs.declared.chain_starts.SegmentStarts.{SegmentStarts}
use Rattle.macho_chains.proofs.UnbrokenStarts.{entries, entries_few, entries_inside, its_fields, past_others}

-- how many pointers fit into a segment
abbrev places : List ℕ → ℕ → ℕ
places image segment = room image segment / 8

-- A loader has moved n times, and is in a segment, past so many of its pages and bytes.
pub record HasMoved (image chains : List ℕ) (header : ChainHeader) (n segment page reach : ℕ) : Type 0 where
  -- the page starts of the segments before, their pointers, and the pointers of this one
  pub pages_before : ℕ
  pub pointers_before : ℕ
  pub pointers_here : ℕ
  pub times : n ≤ segment + (pages_before + page) + (pointers_before + pointers_here)
  -- each page start has 2 bytes among the starts of its segment, and so in the table
  pub turned : page ≤ option_map_or (λ starts. starts.page_count) (starts_of chains header segment) 0
  pub starts : (offset : ℕ) → StartsEndBy chains header segment offset → pages_before * 2 ≤ offset
  pub pages : (pages_before + page) * 2 ≤ length chains
  -- each pointer has 8 bytes of its segment, and so of the room of all
  pub rooms : pointers_before ≤ sum_by (places image) (take segment (all_segments image))
  pub reached : pointers_here * 8 ≤ reach
  pub pointers : pointers_before + pointers_here ≤ budget_of image

pub moved_first : (image chains : List ℕ) (header : ChainHeader) → HasMoved image chains header 0 0 0 0
moved_first image chains header = record {
  pages_before = 0;
  pointers_before = 0;
  pointers_here = 0;
  times = omega arith;
  turned = omega arith;
  starts = λ offset by. omega arith;
  pages = omega arith;
  rooms = omega arith;
  reached = omega arith;
  pointers = omega arith;
}

module _ (image chains : List ℕ) (header : ChainHeader) (none : (offset : ℕ) → ¬ BreaksChainStarts image chains header offset) (n segment page reach : ℕ)
    (so_far : HasMoved image chains header n segment page reach) (less : segment < entries chains header) where
  -- the rooms up to this segment
  rooms_more : sum_by (places image) (take (suc segment) (all_segments image)) ≡ sum_by (places image) (take segment (all_segments image)) + places image (get_or (all_segments image) segment 0)
  rooms_more =
      let all = entries_few image chains header none in
      ap (λ k. sum_by (places image) (take k (all_segments image))) (sym (add-one segment)) ∙ sum_by_more (places image) (all_segments image) segment 0 (omega (arith, all, less))

  -- the pages of this segment
  pages_more : (offset : ℕ) → StartsEndBy chains header (suc segment) offset → (so_far.pages_before + page) * 2 ≤ offset
  pages_more offset by = each (starts_of chains header segment) refl
    where
      earlier : (end : ℕ) → StartsEndBy chains header segment end → so_far.pages_before * 2 ≤ end
      earlier = so_far.starts

      each : (found : Option SegmentStarts) → starts_of chains header segment ≡ found → (so_far.pages_before + page) * 2 ≤ offset
      each None is =
          let few : page ≤ 0 = subst (λ (o : Option SegmentStarts). page ≤ option_map_or (λ starts. starts.page_count) o 0) is so_far.turned in
          let most = earlier offset (λ j early. by j (omega arith)) in omega (arith, few, most)
      each (Some starts) is =
          let few : page ≤ starts.page_count = subst (λ (o : Option SegmentStarts). page ≤ option_map_or (λ s. s.page_count) o 0) is so_far.turned in
          let most = earlier starts.offset (past_others image chains header none segment less starts is) in
          let whole = (its_fields image chains header none segment less starts is).whole in
          let ends : starts_end starts ≤ offset = subst (λ (o : Option SegmentStarts). IfSome o (λ s. starts_end s ≤ offset)) is (by segment (omega arith)) in
          omega (arith, few, most, whole, ends)

  -- it is done with the segment
  pub moved_segment : reach ≤ room image (get_or (all_segments image) segment 0) → HasMoved image chains header (suc n) (suc segment) 0 0
  moved_segment fits =
      let times = so_far.times in
      let pages = so_far.pages in
      let rooms = so_far.rooms in
      let reached = so_far.reached in
      let pointers = so_far.pointers in
      let sum = rooms_more in record {
        pages_before = so_far.pages_before + page;
        pointers_before = so_far.pointers_before + so_far.pointers_here;
        pointers_here = 0;
        times = omega (arith, times);
        turned = omega arith;
        starts = pages_more;
        pages = omega (arith, pages);
        rooms = omega (arith, sum, rooms, reached, fits);
        reached = omega arith;
        pointers = omega (arith, pointers);
      }

  -- it has read a page start
  pub moved_page : (starts : SegmentStarts) → starts_of chains header segment ≡ Some starts → page < starts.page_count → HasMoved image chains header (suc n) segment (suc page) reach
  moved_page starts is more =
      let times = so_far.times in
      let most = so_far.starts starts.offset (past_others image chains header none segment less starts is) in
      let whole = (its_fields image chains header none segment less starts is).whole in
      let ends = (its_fields image chains header none segment less starts is).inside in record {
        pages_before = so_far.pages_before;
        pointers_before = so_far.pointers_before;
        pointers_here = so_far.pointers_here;
        times = omega (arith, times);
        turned = subst (λ (o : Option SegmentStarts). suc page ≤ option_map_or (λ s. s.page_count) o 0) (sym is) (omega (arith, more));
        starts = so_far.starts;
        pages = omega (arith, most, whole, ends, more);
        rooms = so_far.rooms;
        reached = so_far.reached;
        pointers = so_far.pointers;
      }

  -- it has written a pointer
  pub moved_pointer : (offset : ℕ) → reach ≤ offset → offset + 8 ≤ room image (get_or (all_segments image) segment 0) → HasMoved image chains header (suc n) segment page (offset + 8)
  moved_pointer offset past fits =
      let times = so_far.times in
      let rooms = so_far.rooms in
      let reached = so_far.reached in
      let sum = rooms_more in
      let all = sum_by-take-le (places image) (all_segments image) (suc segment) in record {
        pages_before = so_far.pages_before;
        pointers_before = so_far.pointers_before;
        pointers_here = suc so_far.pointers_here;
        times = omega (arith, times);
        turned = so_far.turned;
        starts = so_far.starts;
        pages = so_far.pages;
        rooms = so_far.rooms;
        reached = omega (arith, reached, past);
        pointers = omega (arith, sum, all, rooms, reached, past, fits);
      }

-- so it ends
pub moved_few : (image chains : List ℕ) (header : ChainHeader) → ((offset : ℕ) → ¬ BreaksChainStarts image chains header offset) → (n segment page reach : ℕ)
    → HasMoved image chains header n segment page reach → segment ≤ entries chains header → n ≤ length chains + budget_of image
moved_few image chains header none n segment page reach so_far few =
    let times = so_far.times in
    let pages = so_far.pages in
    let pointers = so_far.pointers in
    let all_entries = entries_inside image chains header none in omega (arith, times, pages, pointers, all_entries, few)
