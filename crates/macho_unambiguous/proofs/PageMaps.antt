-- All readers show one byte and one protection at each address of each page.
use Rattle.std.proofs.Common.{◌≡◌, ℕ, suc, zero, ◌+◌, ◌-◌, ◌*◌, ◌/◌, ◌%◌, ◌≤◌, ◌<◌, ◌&&◌, ◌⊎◌, min, List, [], ◌∷◌, length, drop, slice_get, slice_index, All, Contains, Some, None, Bool, true, false, bit_and, refl, sym, ap, ◌∙◌, subst, arith, inl, inr, length-drop, length-take}
use Rattle.std.specs.Prelude.{nat_lt, if◌then◌else◌}
use Rattle.std.proofs.lemmas.Bool.{cases_Bool, cases_lt, lt-ltb, ltb-true, ltb-false}
use Rattle.std.proofs.lemmas.List.Elements.{All-contains}
use Rattle.std.proofs.lemmas.Option.{slice_get_within, get_or_from_slice_get}
use Rattle.macho_fields.specs.First.{IsUnbroken}
use Rattle.macho_fields.specs.Image.{cpu_type, commands_of}
use Rattle.macho_fields.specs.Layers.{NothingBreaks}
use Rattle.macho_fields.specs.Loader.{IsSound}
use Rattle.macho_fields.specs.NonZero.{IsNonZero}
use Rattle.macho_fields.specs.Rules.{BreaksFile, BreaksImage}
use Rattle.macho_fields.specs.Segment.{all_segments, vmaddr, vmsize, fileoff, filesize, initprot, Supplies, source}
use Rattle.macho_fields.specs.Universal.{FileSlice, is_universal, IsUniversal, IsImage, HasPlace, OfEachImage, entry_count, entry_place, entry_slice, slice_bytes, slices_of, table_end}
use Rattle.macho_fields.specs.declared.header.loader.TheConstants as loader
use Rattle.macho_fields.specs.declared.rule.Rule.{Rule}
use Rattle.macho_fields.specs.declared.rule.Rule.TheVariants as rule
use Rattle.macho_fields.proofs.ClippedParts.{read_part}
use Rattle.macho_fields.proofs.Parts.{with_cmd_among, with_cmd_is}
use Rattle.macho_fields.proofs.Plain.{plain_slices}
use Rattle.macho_fields.proofs.Scopes.{of_slice}
use Rattle.macho_fields.proofs.Slices.{each_entry, each_slice, slice_of_entry, some_entry}
use Rattle.macho_fields.proofs.Sound.{begins, slice_inside, unbroken_is_sound}
use Rattle.macho_image.specs.Segment.{maxprot}
use Rattle.macho_rules.proofs.Profiles.{before_of, image_keeps}
use Rattle.macho_rules.proofs.Searches.{any_of, one_of}
use Rattle.macho_rules.proofs.Verdicts.{file_keeps}
use Rattle.macho_strict.specs.First.{IsStrictlyUnbroken}
use Rattle.macho_strict.specs.Rules.{BreaksStrictFile, BreaksStrictImage}
use Rattle.macho_strict.proofs.Accounted.{unbroken_is_accounted}
use Rattle.macho_readers.specs.Commands.{is_known, BreaksBytesEncrypted, BreaksCommandKnown}
use Rattle.macho_readers.specs.Files.{BreaksFatPage, entry_bytes, entry_cputype, pages_end}
use Rattle.macho_readers.specs.PageModels.{Shown, byte_of, page_floor, page_ceiling, page_byte, SaysEncrypted, IsDecrypted, ShowsSource, ShowsPage, IsInSegments, IsInPagesOf, HasOneMap, HaveOneMap}
use Rattle.macho_readers.specs.Pages.{page_size, page_end}
use Rattle.macho_readers.specs.Segments.{BreaksSegmentPage, BreaksSegmentProtection}
use Rattle.macho_unambiguous.proofs.Cases.{same_number}
use Rattle.macho_unambiguous.proofs.ImageModels.{one_protection}
use Rattle.macho_unambiguous.proofs.Rounding.{ceiling_above, ceiling_from, ceiling_last, ceiling_none, ceiling_rises, floor_even, sum_even, zero_even}
use Rattle.macho_unambiguous.proofs.SegmentPages.{even_bytes, even_memory, inside, one_page, shorter, supplied_page, zero_padding}
use Rattle.macho_unambiguous.proofs.SliceBytes.{one_slice}
use Rattle.macho_readers.proofs.SlicePages.{image_long}

-- A slice of a file

both_then : (a b : Bool) (x : ℕ) → a ≡ true → b ≡ true → (if a && b then x else 0) ≡ x
both_then a b x is_a is_b = rw is_a (rw is_b refl)

both_or_zero : (a b : Bool) (x : ℕ) → (a ≡ true → b ≡ true → x ≡ 0) → (if a && b then x else 0) ≡ 0
both_or_zero true true x is = is refl refl
both_or_zero true false x is = refl
both_or_zero false b x is = refl

same_shown : (a b : Shown) → a.byte ≡ b.byte → a.protection ≡ b.protection → a ≡ b
same_shown a b bytes protections = λ i. record { byte = bytes i; protection = protections i }

-- What the rules say of the slice: its image keeps them, it begins with a page and lies in the file, and the bytes after
-- it in its last page are zero.
record IsPaged (file : List ℕ) (slice : FileSlice) : Type 0 where
  layout : NothingBreaks (BreaksImage (slice_bytes file slice) None)
  strict : NothingBreaks (BreaksStrictImage (slice_bytes file slice))
  known : (place : ℕ) → ¬ BreaksCommandKnown (slice_bytes file slice) place
  page : (place : ℕ) → ¬ BreaksSegmentPage (slice_bytes file slice) place
  protection : (place : ℕ) → ¬ BreaksSegmentProtection (slice_bytes file slice) place
  encrypted : (place : ℕ) → ¬ BreaksBytesEncrypted (slice_bytes file slice) place
  begins : slice.start % page_size (cpu_type (slice_bytes file slice)) ≡ 0
  fits : slice.start + slice.size ≤ length file
  ends : (place : ℕ) → slice.start + slice.size ≤ place → place < slice.start + page_ceiling (page_size (cpu_type (slice_bytes file slice))) slice.size
      → ¬ IsNonZero file place

module _ (file : List ℕ) (slice : FileSlice) (is : IsPaged file slice) where
  abbrev bytes : List ℕ
  bytes = slice_bytes file slice

  abbrev kind : ℕ
  kind = cpu_type bytes

  abbrev large : ℕ
  large = page_size kind

  long : length bytes ≡ slice.size
  long =
      let cut : length bytes ≡ min slice.size (length file - slice.start) = length-take slice.size (drop slice.start file) ∙ ap (min slice.size) (length-drop slice.start file) in
      omega (arith, cut, is.fits)

  byte_at : (place : ℕ) → place < slice.size → slice_index bytes place ≡ slice_index file (slice.start + place)
  byte_at place less = read_part file bytes slice.start slice.size refl place (omega (arith, less, long))

  zero_at : (list : List ℕ) (place : ℕ) → place < length list → ¬ IsNonZero list place → slice_index list place ≡ 0
  zero_at list place less none = same_number _ _ (λ other. none (less, other))

  module _ (segment : ℕ) (has : Contains (all_segments bytes) segment) (mapped : 0 < vmsize bytes segment) where
    floor_memory : page_floor large (vmaddr bytes segment) ≡ vmaddr bytes segment
    floor_memory = floor_even kind (vmaddr bytes segment) (even_memory bytes is.layout is.page segment has mapped)

    floor_bytes : 0 < filesize bytes segment → page_floor large (slice.start + fileoff bytes segment) ≡ slice.start + fileoff bytes segment
    floor_bytes some = floor_even kind (slice.start + fileoff bytes segment) (sum_even kind slice.start (fileoff bytes segment) is.begins (even_bytes bytes is.layout is.page segment has some))

    -- the file has this byte at an address
    module _ (past : ℕ) where
      -- the rest of the last page is zero
      zero_past : filesize bytes segment ≤ past → past < page_ceiling large (filesize bytes segment) → (place : ℕ) → place ≡ page_floor large (slice.start + fileoff bytes segment) + past → place < length file
          → slice_index file place ≡ 0
      zero_past beyond near place at less =
          let none = ceiling_none kind in
          let some : 0 < filesize bytes segment = elim (cases_lt 0 (filesize bytes segment)) [
            | inl more ↦ more
            | inr least ↦ let empty : filesize bytes segment ≡ 0 = omega (arith, least) in absurd (let far : past < page_ceiling large 0 = subst (λ n. past < page_ceiling large n) empty near in omega (arith, none, far))
          ] in
          let floor = floor_bytes some in
          let end = inside bytes is.layout is.page segment has some in
          let from = ceiling_from kind (fileoff bytes segment) (filesize bytes segment) (even_bytes bytes is.layout is.page segment has some) in
          let rise = ceiling_rises kind (fileoff bytes segment + filesize bytes segment) slice.size (omega (arith, end, long)) in
          elim (cases_lt (fileoff bytes segment + past) slice.size) [
            | inl within ↦
                let same : slice.start + (fileoff bytes segment + past) ≡ place = omega (arith, at, floor) in
                let zeros = zero_at bytes (fileoff bytes segment + past) (omega (arith, within, long))
                (zero_padding bytes is.layout is.page is.strict segment has some (fileoff bytes segment + past) (omega (arith, beyond)) (omega (arith, near))) in
                ap (slice_index file) (sym same) ∙ (sym (byte_at (fileoff bytes segment + past) within) ∙ zeros)
            | inr after ↦ zero_at file place less (is.ends place (omega (arith, at, floor, after)) (omega (arith, at, floor, near, from, rise)))
          ]

    module _ (address : ℕ) (low : vmaddr bytes segment ≤ address) where
      abbrev so_far : ℕ
      so_far = address - vmaddr bytes segment

      floored : address - page_floor large (vmaddr bytes segment) ≡ so_far
      floored = ap (λ n. address - n) floor_memory

      byte_past : filesize bytes segment ≤ so_far → page_byte large file slice address segment ≡ 0
      byte_past beyond = both_or_zero _ _ _ (λ near less.
          let near_is = ltb-true _ _ near in
          zero_past (address - page_floor large (vmaddr bytes segment)) (omega (arith, floored, beyond)) near_is _ refl (ltb-true _ _ less))

      byte_within : so_far < filesize bytes segment → page_byte large file slice address segment ≡ slice_index bytes (fileoff bytes segment + so_far)
      byte_within within =
          let some : 0 < filesize bytes segment = omega (arith, within) in
          let floor = floor_bytes some in
          let end = inside bytes is.layout is.page segment has some in
          let above = ceiling_above kind (filesize bytes segment) in
          let fits = is.fits in
          let place : page_floor large (slice.start + fileoff bytes segment) + (address - page_floor large (vmaddr bytes segment)) ≡ slice.start + (fileoff bytes segment + so_far) = omega (arith, floor, floored) in
          let near : address - page_floor large (vmaddr bytes segment) < page_ceiling large (filesize bytes segment) = omega (arith, floored, within, above) in
          let held : page_floor large (slice.start + fileoff bytes segment) + (address - page_floor large (vmaddr bytes segment)) < length file = omega (arith, place, within, end, long, fits) in
          both_then _ _ _ (lt-ltb _ _ near) (lt-ltb _ _ held)
          ∙ (ap (slice_index file) place ∙ sym (byte_at (fileoff bytes segment + so_far) (omega (arith, within, end, long))))

      -- the page has what the segment has at the address
      byte_is : page_byte large file slice address segment ≡ byte_of bytes (source bytes segment address)
      byte_is = elim (cases_Bool (nat_lt so_far (filesize bytes segment))) [
        | inl t ↦ byte_within (ltb-true _ _ t) ∙ rw t refl
        | inr f ↦ byte_past (ltb-false _ _ f) ∙ rw f refl
      ]

    protection_is : initprot bytes segment ≡ bit_and (bit_and (initprot bytes segment) (maxprot bytes segment)) 7
    protection_is = one_protection bytes is.protection segment has mapped _ _ (inl refl) (inr refl)

  -- no segment is decrypted
  encrypted_command : (command : ℕ) → Contains (commands_of bytes) command → ¬ SaysEncrypted bytes command
  encrypted_command command has (inl old, some) = is.known command (has, ap is_known old)
  encrypted_command command has (inr new, some) = is.encrypted command (has, inl (new, some))

  decrypted : (segment : ℕ) → Contains (all_segments bytes) segment → ¬ IsDecrypted bytes segment
  decrypted segment has (inl flag) =
      is.encrypted segment (with_cmd_among bytes (commands_of bytes) loader.LC_SEGMENT_64 segment has, inr (with_cmd_is bytes (commands_of bytes) loader.LC_SEGMENT_64 segment has, flag))
  decrypted segment has (inr some) = let (command, among, says) = one_of (SaysEncrypted bytes) (commands_of bytes) some in encrypted_command command among says

  module _ (address : ℕ) where
    shows : (answer : Shown) (segment : ℕ) → Contains (all_segments bytes) segment → ShowsSource bytes address answer segment → ShowsPage file slice address answer segment
    shows answer segment has (supplies, byte, protection) =
        let pages = supplied_page bytes is.layout is.page address segment has supplies in
        (pages, inl (byte ∙ sym (byte_is segment has pages.0 address supplies.0)), protection ∙ protection_is segment has pages.0)

    in_pages : (answer : Shown) → IsInSegments bytes address answer → IsInPagesOf file slice address answer
    in_pages answer any =
        let (segment, has, from) = one_of (ShowsSource bytes address answer) (all_segments bytes) any in
        any_of (ShowsPage file slice address answer) (all_segments bytes) segment has (shows answer segment has from)

    page_is : (answer : Shown) (segment : ℕ) → Contains (all_segments bytes) segment → ShowsPage file slice address answer segment → answer.byte ≡ page_byte large file slice address segment
    page_is answer segment has (pages, inl same, protection) = same
    page_is answer segment has (pages, inr other, protection) = absurd (decrypted segment has other)

    same_pages : (a b : Shown) → IsInPagesOf file slice address a → IsInPagesOf file slice address b → a ≡ b
    same_pages a b in_a in_b =
        let (s, has_s, shows_s) = one_of (ShowsPage file slice address a) (all_segments bytes) in_a in
        let (t, has_t, shows_t) = one_of (ShowsPage file slice address b) (all_segments bytes) in_b in
        let same = one_page bytes is.layout is.page address s t has_s has_t shows_s.0 shows_t.0 in
        same_shown a b (page_is a s has_s shows_s ∙ (ap (page_byte large file slice address) same ∙ sym (page_is b t has_t shows_t)))
        (shows_s.2 ∙ (ap (λ u. bit_and (bit_and (initprot bytes u) (maxprot bytes u)) 7) same ∙ sym shows_t.2))

    either : (answer : Shown) → IsInSegments bytes address answer ⊎ IsInPagesOf file slice address answer → IsInPagesOf file slice address answer
    either answer (inl by) = in_pages answer by
    either answer (inr by) = by

    zero_rest : (answer : Shown) → All (λ segment. ¬ Supplies bytes segment address) (all_segments bytes) → IsInPagesOf file slice address answer → answer.byte ≡ 0
    zero_rest answer none any =
        let (segment, has, from) = one_of (ShowsPage file slice address answer) (all_segments bytes) any in
        let (mapped, low, high) = from.0 in
        let floor = floor_memory segment has mapped in
        let begins : vmaddr bytes segment ≤ address = omega (arith, floor, low) in
        let least = shorter bytes is.layout is.page segment has mapped in
        elim (cases_lt address (vmaddr bytes segment + vmsize bytes segment)) [
          | inl within ↦ absurd (All-contains (λ s. ¬ Supplies bytes s address) (all_segments bytes) segment none has (begins, within))
          | inr past ↦ page_is answer segment has from ∙ byte_past segment has mapped address begins (omega (arith, past, least))
        ]

  one_map : HasOneMap file slice
  one_map = record {
    one = λ address a b is_a is_b. same_pages address a b (either address a is_a) (either address b is_b);
    mapped = in_pages;
    rest = zero_rest;
  }

-- The slices of a file

all_one : {X : Type 0} (P : X → Type 0) (x : X) → P x → All P (x ∷ [])
all_one P x here zero d less = here
all_one P x here (suc k) d less = absurd (omega arith)

abbrev Holds : List ℕ → (List ℕ → ℕ → Type 0) → Type 0
Holds file Breaks = OfEachImage (λ image. (place : ℕ) → ¬ Breaks image place) file

module _ (file : List ℕ) (unbroken : IsUnbroken file) (strictly : IsStrictlyUnbroken file) (off : (place : ℕ) → ¬ BreaksFatPage file place)
    (known : Holds file BreaksCommandKnown) (even : Holds file BreaksSegmentPage) (protection : Holds file BreaksSegmentProtection) (encrypted : Holds file BreaksBytesEncrypted) where
  whole_sound : IsSound file
  whole_sound = unbroken_is_sound file unbroken

  keeps_file : (r : Rule) (place : ℕ) → ¬ BreaksFile file r place
  keeps_file r place broken = unbroken (record { scope = 0; rule = r; place = place }) broken

  module _ (k : ℕ) (slice : FileSlice) (at : slice_get (slices_of file) k ≡ Some slice) (image : IsImage (slice_bytes file slice)) where
    paged : slice.start % page_size (cpu_type (slice_bytes file slice)) ≡ 0
        → ((place : ℕ) → slice.start + slice.size ≤ place → place < slice.start + page_ceiling (page_size (cpu_type (slice_bytes file slice))) slice.size → ¬ IsNonZero file place)
        → HasOneMap file slice
    paged begins ends = one_map file slice (record {
      layout = file_keeps file unbroken k slice (sym at) image;
      strict = image_keeps file BreaksStrictFile BreaksStrictImage strictly k slice at image;
      known = before_of (λ bytes. (place : ℕ) → ¬ BreaksCommandKnown bytes place) file known k slice at image;
      page = before_of (λ bytes. (place : ℕ) → ¬ BreaksSegmentPage bytes place) file even k slice at image;
      protection = before_of (λ bytes. (place : ℕ) → ¬ BreaksSegmentProtection bytes place) file protection k slice at image;
      encrypted = before_of (λ bytes. (place : ℕ) → ¬ BreaksBytesEncrypted bytes place) file encrypted k slice at image;
      begins = begins;
      fits = slice_inside file keeps_file k slice at;
      ends = ends;
    })

  module _ (universal : IsUniversal file) (k : ℕ) (less : k < entry_count file) (image : IsImage (entry_bytes file k)) where
    abbrev slice : FileSlice
    slice = entry_slice file k

    abbrev page_of : ℕ
    page_of = page_size (cpu_type (entry_bytes file k))

    found : slice_get (slices_of file) k ≡ Some slice
    found = slice_of_entry file k universal less

    -- the entry has the cputype of its image
    type_is : entry_cputype file k ≡ cpu_type (entry_bytes file k)
    type_is = same_number _ _ (λ other. unbroken (record { scope = suc k; rule = rule.ArchMismatch; place = 4 })
        (of_slice BreaksFile BreaksImage file k slice found image rule.ArchMismatch 4 (inl (refl, inl other))))

    begins_page : slice.start % page_of ≡ 0
    begins_page =
        let even : slice.start % page_size (entry_cputype file k) ≡ 0 = same_number _ _ (λ other. off (entry_place file k) (universal, (k, less, refl, (image, inl other)))) in
        subst (λ t. slice.start % page_size t ≡ 0) type_is even

    zero_after : (place : ℕ) → slice.start + slice.size ≤ place → place < slice.start + page_ceiling page_of slice.size → ¬ IsNonZero file place
    zero_after place past near is = elim ((unbroken_is_accounted file unbroken strictly).bytes place is) [
      | inl (_, before) ↦
          let after = each_entry file (λ s. (p : ℕ) → HasPlace s p → table_end file ≤ p) universal (whole_sound.after_table universal) k less slice.start (omega arith, omega (arith, some)) in
          omega (arith, after, before, past)
      | inr (j, s, at, here, _) ↦
          let (i, listed, there) = some_entry file (λ s. HasPlace s place) universal (j, s, slice_get_within (slices_of file) j s at, get_or_from_slice_get (slices_of file) j s s at, here) in
          let same : i ≡ k = one_slice file (λ p. keeps_file rule.FatOverlap p) off universal place i k (listed, inl there) (less, inr (image, low, high)) in
          let (from, to) = subst (λ n. HasPlace (entry_slice file n) place) same there in
          omega (arith, to, past)
    ]
      where
        some : 0 < slice.size
        some = image_long file k image

        low : slice.start / page_size (entry_cputype file k) * page_size (entry_cputype file k) ≤ place
        low = subst (λ t. page_floor (page_size t) slice.start ≤ place) (sym type_is) (let floor = floor_even (cpu_type (entry_bytes file k)) slice.start begins_page in omega (arith, floor, past))

        high : place < pages_end file k
        high = subst (λ t. place < page_end (page_size t) (slice.start + slice.size - 1)) (sym type_is)
            (let from = ceiling_from (cpu_type (entry_bytes file k)) slice.start slice.size begins_page in
            let last = ceiling_last (cpu_type (entry_bytes file k)) (slice.start + slice.size) (omega (arith, some)) in
            omega (arith, near, from, last))

    entry_map : HasOneMap file slice
    entry_map = paged k slice found image begins_page zero_after

  abbrev whole : FileSlice
  whole = record { start = 0; size = length file; arch = None }

  pub one_maps : HaveOneMap file
  one_maps = elim (cases_Bool (is_universal file)) [
    | inl wide ↦
        let universal : IsUniversal file = (begins file keeps_file, wide) in
        each_slice file (λ s. IsImage (slice_bytes file s) → HasOneMap file s) universal (λ k less image. entry_map universal k less image)
    | inr plain ↦ subst (All (λ s. IsImage (slice_bytes file s) → HasOneMap file s)) (sym (plain_slices file plain))
        (all_one (λ s. IsImage (slice_bytes file s) → HasOneMap file s) whole (λ image.
        paged 0 whole (ap (λ s. slice_get s 0) (plain_slices file plain)) image (zero_even (cpu_type (slice_bytes file whole))) (λ place past near is. let less = is.0 in omega (arith, past, less))))
  ]
