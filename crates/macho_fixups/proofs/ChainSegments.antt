-- The segments of an image, one after another, and what remains at a cursor.
use Rattle.std.proofs.Common.{◌≡◌, ◌≢◌, ℕ, suc, ◌+◌, ◌-◌, ◌*◌, ◌≤◌, ◌<◌, List, [], ◌∷◌, true, false, Option, Some, None, refl, sym, ap, ◌∙◌, arith}
use Rattle.std.specs.Prelude.{◌==◌, nat_le, length}
use Rattle.std.specs.Iterator.{YieldsFirst}
use Rattle.std.specs.Option.{MatchOption}
use Rattle.macho_fields.specs.Image.{command_cmd, command_size}
use Rattle.macho_fields.specs.Segment.{nsects}
use Rattle.std.proofs.lemmas.Bool.{eq-eqb, ne_eqb, le-leb, lt-leb, lt-ltb, leb-true, and_from, and_parts}
use Rattle.macho_chains.specs.ChainStarts.{seg_info_offset, starts_end}
use Rattle.macho_chains.specs.declared.chain_header.ChainHeader.{ChainHeader}
use Rattle.macho_chains.specs.declared.chain_starts.SegmentStarts.{SegmentStarts}
use Rattle.macho_fixups.specs.ChainedFixups.{has_entry, starts_at, segments_from, pages_from, pages_left, later, loads_at, starts_read, fixups_left, all_fixups, IsSameSegment, IsBeforeChains}
use Rattle.macho_fixups.specs.declared.cursor.KesvuotFixupCursor.{KesvuotFixupCursor}
use Rattle.macho_fixups.specs.declared.row.KesvuotFixup.{KesvuotFixup}
use Rattle.macho_rows.specs.Loads.{wanted_left, is_wanted, IsLoad}
use Rattle.macho_rows.specs.declared.load.Load.{Load}
use Rattle.macho_rows.specs.declared.load.Wanted.TheVariants as wanted

same_both : (a b c : KesvuotFixupCursor) → IsSameSegment a b → IsSameSegment b c → IsSameSegment a c
same_both a b c one other = record {
  place = other.place ∙ one.place;
  commands = other.commands ∙ one.commands;
  segment = other.segment ∙ one.segment;
  skip = other.skip ∙ one.skip;
  name = other.name ∙ one.name;
}

module _ (image : List ℕ) (base : ℕ) (chains : List ℕ) (header : ChainHeader) where
  abbrev from : ℕ → ℕ → List ℕ → List KesvuotFixup
  from k reach segments = segments_from image base chains header k reach segments

  pub no_entry : (k reach segment : ℕ) (rest : List ℕ) → has_entry chains header k ≡ false → from k reach (segment ∷ rest) ≡ []
  no_entry k reach segment rest none = rw none refl

  pub no_starts : (k reach segment : ℕ) (rest : List ℕ) → has_entry chains header k ≡ true → seg_info_offset chains header k ≡ 0
      → from k reach (segment ∷ rest) ≡ from (suc k) reach rest
  no_starts k reach segment rest is none = rw (is, eq-eqb _ 0 none) refl

  pub bad_starts : (k reach segment : ℕ) (rest : List ℕ) → has_entry chains header k ≡ true → seg_info_offset chains header k ≢ 0
      → starts_at image base chains header segment k ≡ None → from k reach (segment ∷ rest) ≡ []
  bad_starts k reach segment rest is some bad = rw (is, ne_eqb _ 0 some, bad) refl

  pub early_starts : (k reach segment : ℕ) (rest : List ℕ) (starts : SegmentStarts) → has_entry chains header k ≡ true → seg_info_offset chains header k ≢ 0
      → starts_at image base chains header segment k ≡ Some starts → starts.offset < reach → from k reach (segment ∷ rest) ≡ []
  early_starts k reach segment rest starts is some read early = rw (is, ne_eqb _ 0 some, read, lt-leb reach starts.offset early) refl

  pub with_starts : (k reach segment : ℕ) (rest : List ℕ) (starts : SegmentStarts) → has_entry chains header k ≡ true → seg_info_offset chains header k ≢ 0
      → starts_at image base chains header segment k ≡ Some starts → reach ≤ starts.offset
      → from k reach (segment ∷ rest) ≡ pages_from image base chains header segment k starts 0 (from (suc k) (starts_end starts) rest)
  with_starts k reach segment rest starts is some read past = rw (is, ne_eqb _ 0 some, read, le-leb reach starts.offset past) refl

  -- what remains at a cursor that reads no segment, and at one that reads a segment

  pub left_later : (cursor : KesvuotFixupCursor) → starts_read image base chains header cursor.skip cursor.segment ≡ None
      → fixups_left image base chains header cursor ≡ later image base chains header cursor
  unfolding fixups_left
  left_later cursor none = rw none refl

  pub left_pages : (cursor : KesvuotFixupCursor) (starts : SegmentStarts) → starts_read image base chains header cursor.skip cursor.segment ≡ Some starts
      → fixups_left image base chains header cursor
      ≡ pages_left image base chains header cursor.skip (cursor.segment - 1) starts cursor.page cursor.left cursor.offset (later image base chains header cursor)
  unfolding fixups_left
  left_pages cursor starts is = rw is refl

  pub same_later : (old new : KesvuotFixupCursor) → IsSameSegment old new → later image base chains header new ≡ later image base chains header old
  same_later old new same = rw (same.place, same.commands, same.segment, same.name) refl

  pub none_read : (segment count : ℕ) → segment ≡ 0 → starts_read image base chains header segment count ≡ None
  unfolding starts_read
  none_read segment count none = rw none refl

  pub one_read : (segment count : ℕ) → 0 < segment → segment + 72 ≤ length image → has_entry chains header (count - 1) ≡ true
      → starts_read image base chains header segment count ≡ starts_at image base chains header segment (count - 1)
  unfolding starts_read
  one_read segment count some inside is =
      rw (and_from _ _ (and_from _ _ (lt-ltb 0 segment some) (le-leb (segment + 72) (length image) inside)) is) refl

  pub left_all : (cursor : KesvuotFixupCursor) → IsBeforeChains cursor → fixups_left image base chains header cursor ≡ all_fixups image base chains header
  left_all cursor before =
      left_later cursor (none_read cursor.skip cursor.segment before.skip)
      ∙ rw (before.place, before.commands, before.segment, before.name) refl

  -- The cursor is turned to the next segment

  abbrev left_of : ℕ → ℕ → SegmentStarts → ℕ → ℕ → ℕ → List KesvuotFixup → List KesvuotFixup
  left_of segment index starts page left offset others = pages_left image base chains header segment index starts page left offset others

  pub fresh : (segment index offset : ℕ) (starts : SegmentStarts) (others : List KesvuotFixup)
      → left_of segment index starts 0 0 offset others ≡ pages_from image base chains header segment index starts 0 others
  unfolding pages_left
  fresh segment index offset starts others = refl

  module _ (old new : KesvuotFixupCursor) (segment : ℕ) (rest : List ℕ)
      (first : wanted_left wanted.Segments image (loads_at old) ≡ segment ∷ rest) (left : wanted_left wanted.Segments image (loads_at new) ≡ rest)
      (is : has_entry chains header old.segment ≡ true) (counted : new.segment ≡ old.segment + 1) where
    pub fewer : length (wanted_left wanted.Segments image (loads_at new)) < length (wanted_left wanted.Segments image (loads_at old))
    fewer = let more = ap length first in let same = ap length left in omega (arith, more, same)

    past : (reach : ℕ) → new.name ≡ reach → later image base chains header new ≡ from (suc old.segment) reach rest
    past reach named =
        let next : new.segment ≡ suc old.segment = omega (arith, counted) in
        ap (λ k. from k new.name (wanted_left wanted.Segments image (loads_at new))) next
        ∙ (ap (λ r. from (suc old.segment) r (wanted_left wanted.Segments image (loads_at new))) named
        ∙ ap (λ segments. from (suc old.segment) reach segments) left)

    -- to one without chains
    pub turns_past : seg_info_offset chains header old.segment ≡ 0 → new.skip ≡ 0 → new.name ≡ old.name
        → later image base chains header old ≡ fixups_left image base chains header new
    turns_past none between named =
        ap (λ segments. from old.segment old.name segments) first
        ∙ (no_starts old.segment old.name segment rest is none
        ∙ (sym (past old.name named) ∙ sym (left_later new (none_read new.skip new.segment between))))

    -- to one with chains
    pub turns_to : (starts : SegmentStarts) → seg_info_offset chains header old.segment ≢ 0 → starts_at image base chains header segment old.segment ≡ Some starts
        → old.name ≤ starts.offset → 32 ≤ segment → segment + 72 ≤ length image
        → new.skip ≡ segment → new.name ≡ starts_end starts → new.page ≡ 0 → new.left ≡ 0
        → later image base chains header old ≡ fixups_left image base chains header new
    turns_to starts some read far high inside at named paged between =
        let same : new.segment - 1 ≡ old.segment = omega (arith, counted) in
        let others = later image base chains header new in
        let read_now : starts_read image base chains header new.skip new.segment ≡ Some starts =
        one_read new.skip new.segment (omega (arith, at, high)) (omega (arith, at, inside)) (ap (has_entry chains header) same ∙ is)
        ∙ (ap (λ s. starts_at image base chains header s (new.segment - 1)) at ∙ (ap (λ k. starts_at image base chains header segment k) same ∙ read)) in
        let moved : left_of new.skip (new.segment - 1) starts new.page new.left new.offset others ≡ left_of segment old.segment starts 0 0 new.offset others =
        ap (λ s. left_of s (new.segment - 1) starts new.page new.left new.offset others) at
        ∙ (ap (λ k. left_of segment k starts new.page new.left new.offset others) same
        ∙ (ap (λ p. left_of segment old.segment starts p new.left new.offset others) paged ∙ ap (λ l. left_of segment old.segment starts 0 l new.offset others) between)) in
        ap (λ segments. from old.segment old.name segments) first
        ∙ (with_starts old.segment old.name segment rest starts is some read far
        ∙ (ap (λ rows. pages_from image base chains header segment old.segment starts 0 rows) (sym (past (starts_end starts) named))
        ∙ (sym (fresh segment old.segment new.offset starts others) ∙ sym (left_pages new starts read_now ∙ moved))))

  -- The cursor is moved in the segment that it reads

  module _ (segment index : ℕ) (starts : SegmentStarts) where
    abbrev at : KesvuotFixupCursor → List KesvuotFixup → List KesvuotFixup
    at cursor others = left_of segment index starts cursor.page cursor.left cursor.offset others

    left_read : (cursor : KesvuotFixupCursor) → starts_read image base chains header cursor.skip cursor.segment ≡ Some starts
        → segment ≡ cursor.skip → index ≡ cursor.segment - 1 → fixups_left image base chains header cursor ≡ at cursor (later image base chains header cursor)
    left_read cursor is here counted =
        left_pages cursor starts is
        ∙ (ap (λ s. left_of s (cursor.segment - 1) starts cursor.page cursor.left cursor.offset (later image base chains header cursor)) (sym here)
        ∙ ap (λ k. left_of segment k starts cursor.page cursor.left cursor.offset (later image base chains header cursor)) (sym counted))

    module _ (first old : KesvuotFixupCursor) (begun : fixups_left image base chains header first ≡ fixups_left image base chains header old)
        (is : starts_read image base chains header old.skip old.segment ≡ Some starts) (here : segment ≡ old.skip) (counted : index ≡ old.segment - 1) where
      left_moved : (new : KesvuotFixupCursor) → IsSameSegment old new → fixups_left image base chains header new ≡ at new (later image base chains header old)
      left_moved new same =
          left_read new
          (ap (λ s. starts_read image base chains header s new.segment) same.skip ∙ (ap (λ k. starts_read image base chains header old.skip k) same.segment ∙ is))
          (here ∙ sym same.skip) (counted ∙ ap (λ k. k - 1) (sym same.segment))
          ∙ ap (at new) (same_later old new same)

      -- past all its pages
      pub passed_pages : (new : KesvuotFixupCursor) → IsSameSegment old new
          → ((others : List KesvuotFixup) → (at old others ≡ others) × (at new others ≡ others))
          → (fixups_left image base chains header first ≡ later image base chains header new)
          × (fixups_left image base chains header new ≡ later image base chains header new)
      passed_pages new same done =
          let others = later image base chains header old in (
            begun ∙ (left_read old is here counted ∙ ((done others).0 ∙ sym (same_later old new same))),
            left_moved new same ∙ ((done others).1 ∙ sym (same_later old new same)),
          )

      -- past a pointer
      pub followed : (turned new : KesvuotFixupCursor) (result : Option KesvuotFixup) → IsSameSegment old turned → IsSameSegment turned new
          → ((others : List KesvuotFixup) → at old others ≡ at turned others)
          → MatchOption result ((new ≡ turned) × ((others : List KesvuotFixup) → at turned others ≡ [])) (λ row. (others : List KesvuotFixup) → at turned others ≡ row ∷ at new others)
          → YieldsFirst (fixups_left image base chains header) first result new
      followed turned new result same onward moved rows = by result rows
        where
          by : (found : Option KesvuotFixup)
              → MatchOption found ((new ≡ turned) × ((others : List KesvuotFixup) → at turned others ≡ [])) (λ row. (others : List KesvuotFixup) → at turned others ≡ row ∷ at new others)
              → YieldsFirst (fixups_left image base chains header) first found new
          by None none =
              let others = later image base chains header old in (
                begun ∙ (left_read old is here counted ∙ (moved others ∙ none.1 others)),
                ap (fixups_left image base chains header) none.0 ∙ (left_moved turned same ∙ none.1 others),
              )
          by (Some row) next =
              let others = later image base chains header old in
              begun ∙ (left_read old is here counted ∙ (moved others ∙ (next others
              ∙ ap (λ rest. row ∷ rest) (sym (left_moved new (same_both old turned new same onward))))))

  -- where no segment is read
  pub passed_none : (first cursor : KesvuotFixupCursor) → fixups_left image base chains header first ≡ fixups_left image base chains header cursor
      → starts_read image base chains header cursor.skip cursor.segment ≡ None
      → (fixups_left image base chains header first ≡ later image base chains header cursor)
      × (fixups_left image base chains header cursor ≡ later image base chains header cursor)
  passed_none first cursor begun none = (begun ∙ left_later cursor none, left_later cursor none)

  -- past all segments
  pub finished : (first cursor new : KesvuotFixupCursor)
      → (fixups_left image base chains header first ≡ later image base chains header cursor)
      × (fixups_left image base chains header cursor ≡ later image base chains header cursor)
      → later image base chains header cursor ≡ [] → new ≡ cursor
      → (fixups_left image base chains header first ≡ []) × (fixups_left image base chains header new ≡ [])
  finished first cursor new passed none same = (passed.0 ∙ none, ap (fixups_left image base chains header) same ∙ (passed.1 ∙ none))

-- a segment is in the image
pub segment_inside : (image : List ℕ) (load : Load) → IsLoad image load → is_wanted wanted.Segments image load.place ≡ true → load.place + 72 ≤ length image
segment_inside image load is wanted =
    let fits = and_parts (command_cmd image load.place == 0x19) (nat_le (72 + 80 * nsects image load.place) (command_size image load.place)) wanted in
    let size = leb-true (72 + 80 * nsects image load.place) (command_size image load.place) fits.1 in
    let same = is.size in
    let inside = is.inside in
    omega (arith, size, same, inside)
