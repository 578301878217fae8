-- The pointers of a table that breaks no rule of them.
use Rattle.std.proofs.Common.{◌≡◌, ℕ, ◌+◌, ◌≤◌, ◌<◌, List, [], ◌∷◌, ◌++◌, get_or, Option, Some, None, refl, sym, ◌∙◌, subst, arith, inl, inr}
use Rattle.std.specs.Prelude.{IfSome, IsSomeAnd}
use Rattle.std.proofs.lemmas.Bool.{cases_lt, false_from_ne_true, false≢true}
use Rattle.macho_fields.specs.Segment.{all_segments, fileoff}
use Rattle.macho_fields.proofs.Options.{of_some}
use Rattle.macho_chains.specs.ChainPointers.{pointer_at, page_start_offset, first_offset, Fits, Lead, HasChain, ComesTo, BreaksPageSlot, BreaksPageBind, OfSomePage, BreaksChainSlot, BreaksChainBind}
use Rattle.macho_chains.specs.ChainStarts.{starts_of, seg_count, HasBadEntries, BreaksChainStarts}
use Rattle.macho_tables.specs.Segments.{is_protected}
use Rattle.macho_chains.specs.declared.chain_header.ChainHeader.{ChainHeader}
use Rattle.macho_chains.specs.declared.chain_starts.SegmentStarts.{SegmentStarts}
use Rattle.macho_chains.proofs.UnbrokenStarts.{entries, count_is, entries_good}

surely_below : (a b : ℕ) → ¬ ¬ (a ≤ b) → a ≤ b
surely_below a b sure = elim (cases_lt b a) [ inl past ↦ absurd (sure (λ less. omega arith)) | inr less ↦ less ]

-- One page

module _ (image : List ℕ) (segment : ℕ) (starts : SegmentStarts) (page : ℕ) where
  -- where it is not so that a pointer does not fit, it fits
  pub surely_fits : (offset : ℕ) → ¬ ¬ Fits image segment starts page offset → Fits image segment starts page offset
  surely_fits offset sure = (
    surely_below _ _ (λ past. sure (λ fits. past fits.0)),
    record {
      written = surely_below _ _ (λ past. sure (λ fits. past fits.1.written));
      plain = false_from_ne_true (is_protected image segment) (λ is. sure (λ fits. false≢true (sym fits.1.plain ∙ is)));
      single = surely_below _ _ (λ more. sure (λ fits. more fits.1.single));
      clear = λ any. sure (λ fits. fits.1.clear any);
    },
  )

  -- pointers that lead to one that fits lead to the next
  pub lead_on : (from : ℕ) (before : List ℕ) (offset : ℕ) → Lead image segment starts page from before offset → Fits image segment starts page offset
      → 8 ≤ (pointer_at image segment starts.format offset).distance
      → Lead image segment starts page from (before ++ offset ∷ []) (offset + (pointer_at image segment starts.format offset).distance)
  lead_on from [] offset same fits far = subst (λ (o : ℕ). Lead image segment starts page o (offset ∷ []) (offset + (pointer_at image segment starts.format offset).distance)) (sym same) (refl, fits, far, refl)
  lead_on from (pointer ∷ rest) offset (at, there, enough, on) fits far = (at, there, enough, lead_on (pointer + (pointer_at image segment starts.format pointer).distance) rest offset on fits far)

module _ (image chains : List ℕ) (header : ChainHeader) (none : (offset : ℕ) → ¬ BreaksChainStarts image chains header offset) (k : ℕ) (less : k < entries chains header)
    (starts : SegmentStarts) (is : starts_of chains header k ≡ Some starts) (page : ℕ) (within : page < starts.page_count) where
  abbrev segment : ℕ
  segment = get_or (all_segments image) k 0

  of_page : (P : ℕ → SegmentStarts → ℕ → Type 0) → P segment starts page → OfSomePage image chains header P
  of_page P here =
      of_some
      (λ n. (¬ HasBadEntries image chains header n)
      × ((j : ℕ) × (j < n) × IsSomeAnd (starts_of chains header j) (λ s. (p : ℕ) × (p < s.page_count) × P (get_or (all_segments image) j 0) s p)))
      (seg_count chains header) (entries chains header) (count_is image chains header none)
      (entries_good image chains header none, (k, less, of_some (λ s. (p : ℕ) × (p < s.page_count) × P segment s p) (starts_of chains header k) starts is (page, within, here)))

  module _ (table : ℕ) (slots : (place : ℕ) → ¬ BreaksChainSlot image table chains header place) where
    slot_kept : (place : ℕ) → ¬ BreaksPageSlot image table chains segment starts page place
    slot_kept place broken = slots place (of_page (λ s these p. BreaksPageSlot image table chains s these p place) broken)

    -- the first pointer fits
    pub first_comes : HasChain chains starts page → ComesTo image chains segment starts page (first_offset chains starts page)
    first_comes has = (
      has,
      ([], refl),
      surely_fits image segment starts page (first_offset chains starts page)
          (λ bad. slot_kept (table + page_start_offset starts page) (inl (refl, (has, bad)))),
    )

    -- and each next one, which is past the one before it
    module _ (offset : ℕ) (comes : ComesTo image chains segment starts page offset) (some : 0 < (pointer_at image segment starts.format offset).distance) where
      abbrev distance : ℕ
      distance = (pointer_at image segment starts.format offset).distance

      pub next_past : 8 ≤ distance
      next_past = elim (cases_lt distance 8) [
        | inl near ↦ absurd (slot_kept (fileoff image segment + offset) (inr (offset, refl, comes, (some, inl near))))
        | inr far ↦ far
      ]

      pub next_comes : ComesTo image chains segment starts page (offset + distance)
      next_comes =
          let (has, (before, lead), fits) = comes in (
            has,
            (before ++ offset ∷ [], lead_on image segment starts page _ before offset lead fits next_past),
            surely_fits image segment starts page (offset + distance)
                (λ bad. slot_kept (fileoff image segment + offset) (inr (offset, refl, comes, (some, inr bad)))),
          )

  -- an import that one binds is there
  pub import_there : (table : ℕ) → ((place : ℕ) → ¬ BreaksChainBind image table chains header place) → (offset : ℕ) → ComesTo image chains segment starts page offset
      → IfSome (pointer_at image segment starts.format offset).import (λ import. import < header.imports_count)
  import_there table binds offset comes = each (pointer_at image segment starts.format offset).import refl
    where
      each : (import : Option ℕ) → (pointer_at image segment starts.format offset).import ≡ import → IfSome import (λ i. i < header.imports_count)
      each None is_import = tt
      each (Some import) is_import = elim (cases_lt import header.imports_count) [
        | inl below ↦ below
        | inr past ↦
            absurd (binds (fileoff image segment + offset) (of_page (λ s these p. BreaksPageBind header.imports_count image chains s these p (fileoff image segment + offset))
            (offset, refl, comes, of_some (λ i. header.imports_count ≤ i) (pointer_at image segment starts.format offset).import import is_import past)))
      ]
