-- Which slice begins in the pages of another one.
use Rattle.std.proofs.Common.{◌≡◌, ◌↔◌, ℕ, ◌+◌, ◌-◌, ◌*◌, ◌/◌, ◌≤◌, ◌<◌, ◌%◌, ◌≢◌, ◌==◌, min, List, [], ◌∷◌, ◌++◌, take, drop, length, length-drop, None, Some, IsTrue, Bool, true, refl, sym, ap, ◌∙◌, subst, arith, inl, inr}
use Rattle.std.specs.Prelude.{IsPermutation}
use Rattle.std.specs.List.Sorted.{IsNonDecreasingBy}
use Rattle.std.proofs.lemmas.Bool.{cases_Bool, cases_lt}
use Rattle.std.proofs.lemmas.List.{get_or_default, length-map, length-take, take_all, take_more}
use Rattle.std.proofs.lemmas.List.Sorted.{Contains-permutation, IsPermutation-sym}
use Rattle.macho_fields.specs.Universal.{FileSlice, IsUniversal, IsImage, entry_count, entry_slice, slices_of}
use Rattle.macho_fields.specs.declared.header.machine.TheConstants as machine
use Rattle.macho_fields.specs.Field.{part}
use Rattle.macho_fields.proofs.Slices.{slice_count, slice_of_entry}
use Rattle.macho_spans.specs.Overlap.{span_at, IsLastBy}
use Rattle.macho_spans.specs.declared.span.Span.{Span}
use Rattle.macho_strict.specs.Verdict.{slice_spans}
use Rattle.macho_strict.proofs.SliceSpans.{span_found}
use Rattle.macho_readers.specs.Files.{entry_bytes, BeginsWithin, SharesPage, IsOffPages, entry_cputype, pages_end}
use Rattle.macho_readers.specs.Pages.{page_size, page_end}

-- Pages

-- the last place of a page
pub page_last : (cputype last : ℕ) → last / page_size cputype * page_size cputype + (page_size cputype - 1) + 1 ≡ page_end (page_size cputype) last
page_last cputype last = elim (cases_Bool (cputype == machine.CPU_TYPE_X86_64)) [ inl t ↦ rw t (omega arith) | inr f ↦ rw f (omega arith) ]

-- Sorted spans

abbrev span_of : FileSlice → Span
span_of s = record { start = s.start; len = s.size }

abbrev no_span : Span
no_span = record { start = 0; len = 0 }

module _ (spans : List Span) (rising : IsNonDecreasingBy (λ span. span.start) spans) (place start end : ℕ) (last : place + 1 ≡ end) where
  -- the last span that begins by the place begins past the start
  pub within_last : (span : Span) → IsLastBy spans place (Some span) → start < span.start → BeginsWithin spans start end
  within_last span (k, less, is, by, after) past =
      let same : (span_at spans k).start ≡ span.start = ap (λ (s : Span). s.start) is in (k, less, omega (arith, past, same), omega (arith, by, same, last))

  pub none_within : (span : Span) → IsLastBy spans place (Some span) → span.start ≤ start → ¬ BeginsWithin spans start end
  none_within span (k, less, is, by, after) before (i, within, past, lower) =
      elim (cases_lt k i) [
        | inl beyond ↦ (let far = after i beyond within in omega (arith, far, lower, last))
        | inr most ↦ (let up : (span_at spans i).start ≤ (span_at spans k).start = rising i k no_span most less in
            let same : (span_at spans k).start ≡ span.start = ap (λ (s : Span). s.start) is in omega (arith, up, same, before, past))
      ]

  pub none_by : IsLastBy spans place None → ¬ BeginsWithin spans start end
  none_by after (i, within, past, lower) = let far = after i within in omega (arith, far, lower, last)

-- The slices of a universal file

-- a slice that is read is not empty
pub image_long : (file : List ℕ) (k : ℕ) → IsImage (entry_bytes file k) → 0 < (entry_slice file k).size
image_long file k (long, _) =
    let slice = entry_slice file k in
    let size : length (part slice.start slice.size file) ≡ min slice.size (length file - slice.start) = length-take slice.size (drop slice.start file) ∙ ap (min slice.size) (length-drop slice.start file) in
    omega (arith, long, size)

pub spans_pushed : (file : List ℕ) (i : ℕ) → i < length (slices_of file) → (old new : List Span) (span : Span) → new ≡ old ++ span ∷ [] → old ≡ take i (slice_spans file)
    → span ≡ span_at (slice_spans file) i → new ≡ take (i + 1) (slice_spans file)
spans_pushed file i less old new span pushed are is =
    let more = take_more (slice_spans file) i no_span (omega (arith, less, length-map (slices_of file) span_of)) in cc

pub spans_all : (file : List ℕ) (i : ℕ) → length (slices_of file) ≤ i → take i (slice_spans file) ≡ slice_spans file
spans_all file i past = take_all i (slice_spans file) (omega (arith, past, length-map (slices_of file) span_of))

module _ (file : List ℕ) (universal : IsUniversal file) where
  -- the span of an entry
  pub entry_span : (j : ℕ) → j < entry_count file → (((span_at (slice_spans file) j).start) ≡ (entry_slice file j).start) × (((span_at (slice_spans file) j).len) ≡ (entry_slice file j).size)
  entry_span j less =
      let same = span_found file j (entry_slice file j) (sym (slice_of_entry file j universal less)) in
      (ap (λ (s : Span). s.start) (sym same), ap (λ (s : Span). s.len) (sym same))

  sized : length (slice_spans file) ≡ entry_count file
  sized = length-map (slices_of file) span_of ∙ slice_count file universal

  module _ (spans : List Span) (moved : IsPermutation (slice_spans file) spans) (k : ℕ) where
    to : BeginsWithin spans (entry_slice file k).start (pages_end file k) → SharesPage file k
    to (i, within, past, lower) =
        let s = span_at spans i in
        let (j, less, at) = Contains-permutation spans (slice_spans file) s (IsPermutation-sym (slice_spans file) spans moved) (i, within, get_or_default spans i s no_span within) in
        let listed : j < entry_count file = omega (arith, less, sized) in
        let is : span_at (slice_spans file) j ≡ s = get_or_default (slice_spans file) j no_span s less ∙ at in
        let begins = (entry_span j listed).0 in
        let same = ap (λ (t : Span). t.start) is in
        (j, listed, omega (arith, past, begins, same), omega (arith, lower, begins, same))

    from : SharesPage file k → BeginsWithin spans (entry_slice file k).start (pages_end file k)
    from (j, listed, past, lower) =
        let s = span_at (slice_spans file) j in
        let less : j < length (slice_spans file) = omega (arith, listed, sized) in
        let (i, within, at) = Contains-permutation (slice_spans file) spans s moved (j, less, get_or_default (slice_spans file) j s no_span less) in
        let is : span_at spans i ≡ s = get_or_default spans i no_span s within ∙ at in
        let begins = (entry_span j listed).0 in
        let same = ap (λ (t : Span). t.start) is in
        (i, within, omega (arith, past, begins, same), omega (arith, lower, begins, same))

    pub begins_shares : BeginsWithin spans (entry_slice file k).start (pages_end file k) ↔ SharesPage file k
    begins_shares = (to, from)

  -- what is read of an entry whose slice is read
  module _ (k cputype : ℕ) (slice : Span) (begins : slice.start ≡ (entry_slice file k).start) (long : slice.len ≡ (entry_slice file k).size) (kind : cputype ≡ entry_cputype file k) (image : IsImage (entry_bytes file k)) where
    pub off_page : slice.start % page_size cputype ≢ 0 → IsTrue true ↔ IsOffPages file k
    off_page off = (λ _. (image, inl (λ even. off ((λ i. begins i % page_size (kind i)) ∙ even))), λ _. refl)

    pub on_page : slice.start % page_size cputype ≡ 0 → (spans : List Span) → IsPermutation (slice_spans file) spans → (shares : Bool)
        → IsTrue shares ↔ BeginsWithin spans slice.start (page_end (page_size cputype) (slice.start + slice.len - 1)) → IsTrue shares ↔ IsOffPages file k
    on_page even spans moved shares is =
        let (there, back) = subst (λ (e : ℕ). IsTrue shares ↔ BeginsWithin spans (entry_slice file k).start e) (λ i. page_end (page_size (kind i)) (begins i + long i - 1))
        (subst (λ (s : ℕ). IsTrue shares ↔ BeginsWithin spans s (page_end (page_size cputype) (slice.start + slice.len - 1))) begins is) in (
          λ found. (image, inr (to spans moved k (there found))),
          λ (_, either). elim either [
            | inl off ↦ absurd (off ((λ i. sym begins i % page_size (sym kind i)) ∙ even))
            | inr other ↦ back (from spans moved k other)
          ],
        )
