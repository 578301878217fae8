-- The first entry whose span shares a place with an earlier entry's, and which rule it breaks.
use Rattle.std.proofs.Common.{◌≡◌, ℕ, ◌+◌, ◌*◌, ◌^◌, ◌<◌, ◌↔◌, List, length, [], ◌∷◌, ◌++◌, map, slice_get, Option, Some, None, Result, Ok, Err, IfOk, OnErr, MatchResult, refl, sym, ap, ap₂, ◌∙◌, subst, arith, inl, inr, length-append}
use Rattle.std.proofs.lemmas.Bool.{cases_lt}
use Rattle.std.specs.List.{range_with_len}
use Rattle.std.proofs.lemmas.List.FromFn.{length-map-range_with_len, get_or-map-range_with_len, map-range_with_len_more}
use Rattle.std.proofs.lemmas.Option.{slice_get-get_or}
use Rattle.std.proofs.lemmas.Simd.{map-map}
use Rattle.macho_fields.specs.Field.{number}
use Rattle.macho_fields.specs.declared.bytes.Order.TheVariants.{Big}
use Rattle.macho_spans.specs.Overlap.{span_at, SharesEarlier, IsLeastSharing, IsUnordered}
use Rattle.macho_fields.specs.First.{rank}
use Rattle.macho_fields.specs.Layers.{KeptBelow}
use Rattle.macho_fields.specs.Rules.{BreaksFile}
use Rattle.macho_spans.specs.Span.{Shares}
use Rattle.macho_spans.specs.SpanOrder.{spans_in, tags_in, IsOrderOf, IsSharingOf}
use Rattle.macho_spans.specs.declared.span_order.SpanOrder.{SpanOrder}
use Rattle.macho_fields.specs.Universal.{IsUniversal, masked, entry_count, entry_place, entry_slice, WithEarlier, SharePlace}
use Rattle.macho_fields.specs.declared.rule.Rule.{Rule}
use Rattle.macho_fields.specs.declared.rule.Rule.TheVariants as rule
use Rattle.macho_spans.specs.declared.span.Span.{Span}
use Rattle.macho_spans.specs.declared.span_order.Sharing.{Sharing}
use Rattle.macho_spans.specs.declared.span_order.Sharing.TheVariants as sharing
use Rattle.macho_fields.proofs.Entries.{Breaks, place_rises}
use Rattle.macho_fields.specs.FirstPlace.{IsLeastPlace}
use Rattle.macho_fat.specs.Slices.{entry_spans, slice_span, arch_span}
use Rattle.macho_fat.specs.TableWalk.{IsEntry, placed_spans, ReturnsSpans, FindsFirstSharing, AnswersByFound, ContinuesOrFaults}
use Rattle.macho_fat.specs.declared.fault.FatFault.{FatFault}
use Rattle.macho_fat.proofs.Faults.{found_judged}
use Rattle.macho_fat.specs.declared.table.Entry.{Entry}

module _ (file : List ℕ) (span : ℕ → Span) where
  spans_of_placed : spans_in (placed_spans file span (entry_count file)) ≡ entry_spans file span
  spans_of_placed = map-map (λ (pair : Span × ℕ). pair.0) (λ k. (span k, entry_place file k)) (range_with_len 0 (entry_count file))

  places_of_placed : tags_in (placed_spans file span (entry_count file)) ≡ map (entry_place file) (range_with_len 0 (entry_count file))
  places_of_placed = map-map (λ (pair : Span × ℕ). pair.1) (λ k. (span k, entry_place file k)) (range_with_len 0 (entry_count file))

  -- one span more
  pub placed_more : (n : ℕ) → placed_spans file span (n + 1) ≡ placed_spans file span n ++ (span n, entry_place file n) ∷ []
  placed_more n = map-range_with_len_more (λ k. (span k, entry_place file k)) 0 n n (omega arith)

  span_count : length (entry_spans file span) ≡ entry_count file
  span_count = length-map-range_with_len span 0 (entry_count file)

  entry_span : (k : ℕ) → k < entry_count file → span_at (entry_spans file span) k ≡ span k
  entry_span k less = get_or-map-range_with_len span 0 (entry_count file) k k (record { start = 0; len = 0 }) less (omega arith)

  -- what the order shows
  pub none_shown : IsSharingOf (placed_spans file span (entry_count file)) sharing.None → FindsFirstSharing file span None
  none_shown none = subst (λ spans. (j : ℕ) → ¬ SharesEarlier spans j) spans_of_placed none

  pub first_shown : (place : ℕ) → IsSharingOf (placed_spans file span (entry_count file)) (sharing.First place) → FindsFirstSharing file span (Some place)
  first_shown place (j, least, at) = (j, first, same)
    where
      first : IsLeastSharing (entry_spans file span) j
      first = subst (λ spans. IsLeastSharing spans j) spans_of_placed least

      same : place ≡ entry_place file j
      same =
          let less : j < entry_count file = omega (arith, first.0.0, span_count) in
          let places = map (entry_place file) (range_with_len 0 (entry_count file)) in
          let here = get_or-map-range_with_len (entry_place file) 0 (entry_count file) j j 0 less (omega arith) in
          let there = slice_get-get_or places j 0 (omega (arith, less, length-map-range_with_len (entry_place file) 0 (entry_count file))) in
          let both : Some place ≡ Some (entry_place file j) = sym at ∙ (ap (λ places. slice_get places j) places_of_placed ∙ (there ∙ ap Some here)) in
          cc

  -- the order shows nothing only of spans that neither ascend nor descend
  pub unordered : (shown : Sharing) → shown ≡ sharing.Unknown → IsSharingOf (placed_spans file span (entry_count file)) shown → IsUnordered (entry_spans file span)
  unordered shown unknown is =
      let (up, down, mixed) = subst (IsSharingOf (placed_spans file span (entry_count file))) unknown is in
      subst IsUnordered spans_of_placed (up, down)

-- where the spans of two entries share a place exactly if the entries have R
module _ (file : List ℕ) (span : ℕ → Span) (R : ℕ → ℕ → Type 0) (exactly : (i j : ℕ) → Shares (span i) (span j) ↔ R i j) where
  shares_earlier : (j : ℕ) → j < entry_count file → WithEarlier R j → SharesEarlier (entry_spans file span) j
  shares_earlier j less (i, lower, both) =
      let known : i < entry_count file = omega arith in
      let shares = (exactly i j).1 both in (
        omega (arith, less, span_count file span),
        (
          i,
          lower,
          subst (λ s. Shares s (span_at (entry_spans file span) j)) (sym (entry_span file span i known))
              (subst (Shares (span i)) (sym (entry_span file span j less)) shares),
        ),
      )

  below_count : (j : ℕ) → SharesEarlier (entry_spans file span) j → j < entry_count file
  below_count j (less, any) = omega (arith, less, span_count file span)

  has_earlier : (j : ℕ) → SharesEarlier (entry_spans file span) j → WithEarlier R j
  has_earlier j (less, (i, lower, shares)) =
      let known : j < entry_count file = omega (arith, less, span_count file span) in
      let before : i < entry_count file = omega arith in (
        i,
        lower,
        (exactly i j).0 (subst (λ s. Shares s (span j)) (entry_span file span i before)
            (subst (Shares (span_at (entry_spans file span) i)) (entry_span file span j known) shares)),
      )

  -- what is found is the least place at which an entry has R with an earlier one
  sharing_breaks : (found : Option ℕ) → IsUniversal file → FindsFirstSharing file span found → IsLeastPlace (Breaks file (WithEarlier R)) found
  sharing_breaks None universal none = λ place (u, (j, less, at, here)). none j (shares_earlier j less here)
  sharing_breaks (Some place) universal (j, (shares, least), at) =
      subst (λ p. IsLeastPlace (Breaks file (WithEarlier R)) (Some p)) (sym at) (
        (universal, (j, below_count j shares, refl, has_earlier j shares)),
        λ other (u, (i, less, there, here)). elim (cases_lt i j) [
          | inl lower ↦ absurd (least i lower (shares_earlier i less here))
          | inr most ↦ (let rises = place_rises file j i most in omega (arith, rises, there))
        ],
      )

-- What is found in a table is the answer of the rule for the file that it is of
pub sharing_judged : {T E : Type 0} (table file : List ℕ) (span : List ℕ → ℕ → Span) (r : Rule) (shown : Sharing) (found : Result (Option ℕ) E) (answer : Result T FatFault)
    → table ≡ file → KeptBelow (BreaksFile file) (rank r) → IsSharingOf (placed_spans table (span table) (entry_count table)) shown
    → ((first : Option ℕ) → FindsFirstSharing table (span table) first → IsLeastPlace (BreaksFile table r) first)
    → IfOk found (FindsFirstSharing table (span table)) → OnErr found (shown ≡ sharing.Unknown) → AnswersByFound r found answer
    → ContinuesOrFaults (BreaksFile file) r (IsUnordered (entry_spans file (span file))) answer
sharing_judged {E = E} table file span r shown found answer same kept order least first asked judged =
    found_judged (BreaksFile file) r _ found answer kept (subst (λ (f : List ℕ). MatchResult found (IsLeastPlace (BreaksFile f r)) (λ _. IsUnordered (entry_spans f (span f)))) same (known found first asked)) judged
  where
    known : (found : Result (Option ℕ) E) → IfOk found (FindsFirstSharing table (span table)) → OnErr found (shown ≡ sharing.Unknown)
        → MatchResult found (IsLeastPlace (BreaksFile table r)) (λ _. IsUnordered (entry_spans table (span table)))
    known (Ok first) is asked = least first is
    known (Err e) is asked = unordered table (span table) shown asked order

-- fat-overlap: the spans of two slices share a place exactly if the slices do
pub least_overlap : (file : List ℕ) → IsUniversal file → (found : Option ℕ) → FindsFirstSharing file (slice_span file) found → IsLeastPlace (BreaksFile file rule.FatOverlap) found
least_overlap file universal found =
    sharing_breaks file (slice_span file) (λ i j. SharePlace (entry_slice file i) (entry_slice file j)) (λ i j. (λ shares. shares, λ shares. shares)) found universal

first_of : Option (ℕ × ℕ) → ℕ
first_of None = 0
first_of (Some pair) = pair.0

second_of : Option (ℕ × ℕ) → ℕ
second_of None = 0
second_of (Some pair) = pair.1

-- the one place that numbers an architecture
abbrev number_span : ℕ → ℕ → Span
number_span type subtype = record { start = type * 2 ^ 24 + masked subtype; len = 1 }

abbrev arch_of : ℕ → ℕ → Option (ℕ × ℕ)
arch_of type subtype = Some (type, masked subtype)

-- two of them are the same exactly if the architectures are
number_spans_share : (t m u n : ℕ) → Shares (number_span t m) (number_span u n) ↔ (arch_of t m ≡ arch_of u n)
unfolding first_of second_of
number_spans_share t m u n = (to, from)
  where
    to : Shares (number_span t m) (number_span u n) → arch_of t m ≡ arch_of u n
    to (place, (first, within), (second, inside)) =
        let types : t ≡ u = omega (arith, first, within, second, inside) in
        let subtypes : masked m ≡ masked n = omega (arith, first, within, second, inside) in
        ap Some (ap₂ (λ x y. (x, y)) types subtypes)

    from : arch_of t m ≡ arch_of u n → Shares (number_span t m) (number_span u n)
    from same =
        let types : t ≡ u = ap first_of same in
        let subtypes : masked m ≡ masked n = ap second_of same in
        (t * 2 ^ 24 + masked m, (omega arith, omega arith), (omega (arith, types, subtypes), omega (arith, types, subtypes)))

arch_spans_share : (file : List ℕ) (i j : ℕ) → Shares (arch_span file i) (arch_span file j) ↔ ((entry_slice file i).arch ≡ (entry_slice file j).arch)
arch_spans_share file i j =
    let type : ℕ → ℕ = λ k. number Big 4 file (entry_place file k) in
    let subtype : ℕ → ℕ = λ k. number Big 4 file (entry_place file k + 4) in
    number_spans_share (type i) (subtype i) (type j) (subtype j)

-- fat-duplicate, by the numbers of the architectures
pub least_duplicate : (file : List ℕ) → IsUniversal file → (found : Option ℕ) → FindsFirstSharing file (arch_span file) found → IsLeastPlace (BreaksFile file rule.FatDuplicate) found
least_duplicate file universal found =
    sharing_breaks file (arch_span file) (λ i j. (entry_slice file i).arch ≡ (entry_slice file j).arch) (arch_spans_share file) found universal

-- the spans of what was read of an entry

span_of : ℕ → ℕ → Span
span_of start len = record { start = start; len = len }

pub slice_read : (file : List ℕ) (k : ℕ) (entry : Entry) (given : Span) → IsEntry file k entry → given ≡ entry.span → given ≡ slice_span file k
unfolding span_of
slice_read file k entry given is same = same ∙ ap₂ span_of is.start is.size

pub arch_read : (file : List ℕ) (k : ℕ) (entry : Entry) (given : Span) → IsEntry file k entry → (given.start ≡ entry.arch.0 * 2 ^ 24 + entry.arch.1) × (given.len ≡ 1) → given ≡ arch_span file k
unfolding first_of second_of span_of
arch_read file k entry given is (start, len) =
    let types : entry.arch.0 ≡ number Big 4 file (entry_place file k) = ap first_of is.arch in
    let subtypes : entry.arch.1 ≡ masked (number Big 4 file (entry_place file k + 4)) = ap second_of is.arch in
    ap₂ span_of (start ∙ ap₂ (λ t m. t * 2 ^ 24 + m) types subtypes) len

-- one span more is noted
pub order_more : (file : List ℕ) (span : ℕ → Span) (n place : ℕ) (given : Span) (old new : SpanOrder) → given ≡ span n → place ≡ entry_place file n
    → ((spans : List (Span × ℕ)) → IsOrderOf spans old → IsOrderOf (spans ++ (given, place) ∷ []) new) → IsOrderOf (placed_spans file span n) old → IsOrderOf (placed_spans file span (n + 1)) new
order_more file span n place given old new same at noted before =
    subst (λ spans. IsOrderOf spans new) (ap₂ (λ s p. placed_spans file span n ++ (s, p) ∷ []) same at ∙ sym (placed_more file span n)) (noted (placed_spans file span n) before)

-- the spans are those that a function returns of the first n entries
pub record AreReturned (returns : Entry → Span → Type 0) (file : List ℕ) (n : ℕ) (spans : List Span) : Type 0 where
  pub count : length spans ≡ n
  pub each : (span : ℕ → Span) → ReturnsSpans returns file span → spans ≡ map span (range_with_len 0 n)

module _ (returns : Entry → Span → Type 0) (file : List ℕ) where
  pub none_returned : (spans : List Span) → spans ≡ [] → AreReturned returns file 0 spans
  none_returned spans is = record { count = ap length is; each = λ span of. is }

  pub returned_more : (n : ℕ) (spans next : List Span) (entry : Entry) (given : Span) → AreReturned returns file n spans → IsEntry file n entry → returns entry given
      → next ≡ spans ++ given ∷ [] → AreReturned returns file (n + 1) next
  returned_more n spans next entry given are is returned more = record {
    count = omega (arith, ap length more, length-append spans (given ∷ []), are.count);
    each = λ span of. more ∙ (ap₂ (λ xs x. xs ++ x ∷ []) (are.each span of) (of n entry given is returned) ∙ sym (map-range_with_len_more span 0 n n (omega arith)));
  }

  -- the spans of all entries
  pub all_returned : (n : ℕ) (spans : List Span) → n ≡ entry_count file → AreReturned returns file n spans → (span : ℕ → Span) → ReturnsSpans returns file span
      → spans ≡ entry_spans file span
  all_returned n spans all are span of = are.each span of ∙ ap (λ n. map span (range_with_len 0 n)) all

module _ (file : List ℕ) (span : ℕ → Span) (spans : List Span) (same : spans ≡ entry_spans file span) where
  pub none_sorted : ((j : ℕ) → ¬ SharesEarlier spans j) → FindsFirstSharing file span None
  none_sorted none = subst (λ spans. (j : ℕ) → ¬ SharesEarlier spans j) same none

  pub first_found : (j : ℕ) (entry : Entry) → IsLeastSharing spans j → IsEntry file j entry → FindsFirstSharing file span (Some entry.place)
  first_found j entry least is = (j, subst (λ spans. IsLeastSharing spans j) same least, is.place)
