-- The starts of a table that breaks no rule of them.
use Rattle.std.proofs.Common.{◌≡◌, ◌≢◌, ℕ, ◌+◌, ◌*◌, ◌≤◌, ◌<◌, ◌⊎◌, List, length, get_or, slice_get, Option, Some, None, Bool, true, false, refl, sym, ◌∙◌, subst, arith, inl, inr}
use Rattle.std.specs.Prelude.{IfSome, IsSomeAnd, cond, nat_lt, nat_le}
use Rattle.std.specs.Option.{option_map}
use Rattle.std.proofs.lemmas.Bool.{cases_lt, cases_eq, and_parts, le-leb, leb-true, ne_eqb}
use Rattle.std.proofs.lemmas.Bool.Decides.{leb_tells}
use Rattle.std.proofs.lemmas.Option.{none-some, same_Some, slice_get-get_or}
use Rattle.macho_fields.specs.Image.{word, commands_of}
use Rattle.macho_fields.specs.Segment.{all_segments, base_of, vmaddr}
use Rattle.macho_chains.specs.ChainStarts.{pointer_format, starts_with, are_whole, segment_starts, seg_count, entry_offset, seg_info_offset, starts_of, starts_end, StartsEndBy, HasBadStarts, HasBadEntries, BreaksChainStarts}
use Rattle.macho_tables.specs.Fields.{half}
use Rattle.macho_tables.specs.Items.{AtItem}
use Rattle.macho_chains.specs.declared.chain_header.ChainHeader.{ChainHeader}
use Rattle.macho_chains.specs.declared.chain_starts.PointerFormat.{PointerFormat}
use Rattle.macho_chains.specs.declared.chain_starts.SegmentStarts.{SegmentStarts}
use Rattle.macho_chains.proofs.ChainStarts.{starts_unnamed, AreGood, bad_unread, bad_read}

-- Starts that were read at an offset
pub record AreReadAt (chains : List ℕ) (offset : ℕ) (starts : SegmentStarts) : Type 0 where
  pub known : pointer_format (half chains (offset + 6)) ≡ Some starts.format
  pub fields : starts ≡ starts_with chains offset starts.format
  pub whole : 22 + starts.page_count * 2 ≤ starts.size
  pub inside : starts_end starts ≤ length chains

-- they are whole, and their format is known
read_parts : (chains : List ℕ) (offset : ℕ) (starts : SegmentStarts) (short whole : Bool) (format : Option PointerFormat)
    → cond short None (cond whole (option_map (starts_with chains offset) format) None) ≡ Some starts
    → (whole ≡ true) × ((known : PointerFormat) × (format ≡ Some known) × (starts_with chains offset known ≡ starts))
read_parts chains offset starts true whole format is = absurd (none-some starts is)
read_parts chains offset starts false false format is = absurd (none-some starts is)
read_parts chains offset starts false true None is = absurd (none-some starts is)
read_parts chains offset starts false true (Some known) is = (refl, (known, refl, same_Some _ _ is))

pub read_starts : (chains : List ℕ) (offset : ℕ) (starts : SegmentStarts) → segment_starts chains offset ≡ Some starts → AreReadAt chains offset starts
unfolding segment_starts
read_starts chains offset starts is =
    let (whole, (known, format, same)) = read_parts chains offset starts (nat_lt (length chains) (offset + 22)) (are_whole chains offset) (pointer_format (half chains (offset + 6))) is in
    let (room, rest) = and_parts (nat_le (22 + half chains (offset + 20) * 2) (word chains offset)) _ whole in
    let (inside, size) = and_parts (nat_le (offset + word chains offset) (length chains)) _ rest in
    subst (AreReadAt chains offset) same (record {
      known = format;
      fields = refl;
      whole = leb-true _ _ room;
      inside = leb-true _ _ inside;
    })

-- how many entries there are
abbrev pub entries : List ℕ → ChainHeader → ℕ
entries chains header = word chains header.starts_offset

module _ (image chains : List ℕ) (header : ChainHeader) (none : (offset : ℕ) → ¬ BreaksChainStarts image chains header offset) where
  -- seg_count is in the table
  pub counted : header.starts_offset + 4 ≤ length chains
  counted = elim (leb_tells (header.starts_offset + 4) (length chains)) [
    | inl (fits, inside) ↦ inside
    | inr (short, past) ↦ absurd (none 0 (rw short refl))
  ]

  pub count_is : seg_count chains header ≡ Some (entries chains header)
  count_is = rw (le-leb (header.starts_offset + 4) (length chains) counted) refl

  broken_in : (offset : ℕ)
      → ((offset ≡ header.starts_offset) × HasBadEntries image chains header (entries chains header))
      ⊎ ((¬ HasBadEntries image chains header (entries chains header)) × AtItem (entry_offset header) (entries chains header) (HasBadStarts image chains header) offset) → ⊥
  broken_in offset here = none offset (rw (le-leb (header.starts_offset + 4) (length chains) counted) here)

  -- there is an entry for each of so many segments
  pub entries_good : ¬ HasBadEntries image chains header (entries chains header)
  entries_good bad = broken_in header.starts_offset (inl (refl, bad))

  pub entries_few : entries chains header ≤ length (all_segments image)
  entries_few = elim (cases_lt (length (all_segments image)) (entries chains header)) [ inl more ↦ absurd (entries_good (inl more)) | inr fits ↦ fits ]

  pub entries_inside : entry_offset header (entries chains header) ≤ length chains
  entries_inside = elim (cases_lt (length chains) (entry_offset header (entries chains header))) [ inl past ↦ absurd (entries_good (inr past)) | inr fits ↦ fits ]

  pub starts_good : (k : ℕ) → k < entries chains header → ¬ HasBadStarts image chains header k
  starts_good k less bad = broken_in (entry_offset header k) (inr (entries_good, (k, less, refl, bad)))

  -- One of them
  module _ (k : ℕ) (less : k < entries chains header) where
    pub segment_there : slice_get (all_segments image) k ≡ Some (get_or (all_segments image) k 0)
    segment_there = let all = entries_few in slice_get-get_or (all_segments image) k 0 (omega (arith, all, less))

    -- if it has an entry, it has starts
    pub starts_there : seg_info_offset chains header k ≢ 0 → (starts : SegmentStarts) × (starts_of chains header k ≡ Some starts)
    starts_there some = either (starts_of chains header k) refl
      where
        either : (found : Option SegmentStarts) → starts_of chains header k ≡ found → (starts : SegmentStarts) × (starts_of chains header k ≡ Some starts)
        either None is = absurd (starts_good k less (bad_unread chains header image k some is))
        either (Some starts) is = (starts, is)

    module _ (starts : SegmentStarts) (is : starts_of chains header k ≡ Some starts) where
      pub has_entry : seg_info_offset chains header k ≢ 0
      has_entry unnamed = none-some starts (sym (starts_unnamed chains header k unnamed) ∙ is)

      pub its_fields : AreReadAt chains (header.starts_offset + seg_info_offset chains header k) starts
      its_fields = read_starts chains (header.starts_offset + seg_info_offset chains header k) starts (rw (ne_eqb (seg_info_offset chains header k) 0 has_entry) at is)

      good : ¬ ¬ AreGood chains header image k starts
      good bad = starts_good k less (bad_read chains header image k starts is has_entry bad)

      -- they are the segment's
      pub its_address : (base : ℕ) × (base_of image (commands_of image) ≡ Some base) × (base + starts.segment_offset ≡ vmaddr image (get_or (all_segments image) k 0))
      its_address = based (base_of image (commands_of image)) refl
        where
          wrong : (base : Option ℕ) → base_of image (commands_of image) ≡ base
              → (¬ IsSomeAnd base (λ start. start + starts.segment_offset ≡ vmaddr image (get_or (all_segments image) k 0))) → ⊥
          wrong base is_base other =
              good (λ are. other (subst (λ (b : Option ℕ). IsSomeAnd b (λ start. start + starts.segment_offset ≡ vmaddr image (get_or (all_segments image) k 0))) is_base are.0.0))

          based : (base : Option ℕ) → base_of image (commands_of image) ≡ base
              → (start : ℕ) × (base ≡ Some start) × (start + starts.segment_offset ≡ vmaddr image (get_or (all_segments image) k 0))
          based None is_base = absurd (wrong None is_base (λ found. found))
          based (Some start) is_base = elim (cases_eq (start + starts.segment_offset) (vmaddr image (get_or (all_segments image) k 0))) [
            | inl same ↦ (start, refl, same)
            | inr other ↦ absurd (wrong (Some start) is_base other)
          ]

      -- and begin past the starts of the segments before it
      pub past_others : StartsEndBy chains header k starts.offset
      past_others j before = each (starts_of chains header j) refl
        where
          each : (found : Option SegmentStarts) → starts_of chains header j ≡ found → IfSome found (λ others. starts_end others ≤ starts.offset)
          each None is_other = tt
          each (Some others) is_other = elim (cases_lt starts.offset (starts_end others)) [
            | inl past ↦
                absurd (good (λ are.
                let ends = subst (λ (found : Option SegmentStarts). IfSome found (λ o. starts_end o ≤ starts.offset)) is_other (are.1 j before) in
                omega (arith, ends, past)))
            | inr fits ↦ fits
          ]

  -- the starts of all segments end in the table
  pub end_inside : (k : ℕ) → k ≤ entries chains header → StartsEndBy chains header k (length chains)
  end_inside k most j before = each (starts_of chains header j) refl
    where
      each : (found : Option SegmentStarts) → starts_of chains header j ≡ found → IfSome found (λ starts. starts_end starts ≤ length chains)
      each None is = tt
      each (Some starts) is = (its_fields j (omega arith) starts is).inside
