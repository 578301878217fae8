-- The mapped segments of an opened image, gone over one after the other.
use Rattle.std.proofs.Common.{◌≡◌, ℕ, suc, zero, ◌<◌, ◌++◌, List, [], ◌∷◌, length, map, filter, get_or, Contains, Bool, true, Option, None, Some, slice_get, refl, sym, ap, ◌∙◌, subst, arith, inl, inr}
use Rattle.std.specs.Iterator.{Yields, YieldsFirst, SkipsThenYields}
use Rattle.std.specs.Option.{option_map}
use Rattle.std.specs.Prelude.{nat_lt, AllPairs}
use Rattle.std.proofs.lemmas.Bool.{cases_Bool, lt-ltb, ltb-true}
use Rattle.std.proofs.lemmas.Iterator.{YieldsList}
use Rattle.std.proofs.lemmas.Iterator.Adapters.{option_map_id}
use Rattle.std.proofs.lemmas.Iterator.Consumers.{YieldsList-from_first, YieldsList-turn, YieldsList-end, nth_from_yields_List}
use Rattle.std.proofs.lemmas.List.{length-map, map-append, map-id}
use Rattle.std.proofs.lemmas.Option.{slice_get-map}
use Rattle.std.proofs.lemmas.List.Elements.{All-contains, Contains-get_or, filter_passes}
use Rattle.macho_fields.proofs.Lists.{contains_first, contains_later}
use Rattle.macho_fields.specs.Image.{commands_of}
use Rattle.macho_fields.specs.Segment.{segments_of, vmsize}
use Rattle.macho_spans.specs.declared.span.Span.{Span}
use Rattle.macho_fields.proofs.Chains.{places_rise}
use Rattle.macho_image.specs.Opened.{IsOpened}
use Rattle.macho_image.specs.Segment.{SegmentView, segment_at}
use Rattle.macho_rules.specs.Mapped.{mapped_segments}
use Rattle.macho_rules.specs.Verdict.{HasMapped}
use Rattle.macho_rules.proofs.Judged.{opened_commands}
use Rattle.macho_rules.proofs.Searches.{Ordered, ordered_filter, unfiltered, any_of, mapped_has}

ordered_from_pairs : {X : Type 0} (R : X → X → Type 0) (xs : List X) → AllPairs R xs → Ordered R xs
ordered_from_pairs R [] all = tt
ordered_from_pairs R (x ∷ xs) all =
    (λ y (k, less, at). subst (R x) at (all 0 (suc k) y (omega arith) (omega arith)), ordered_from_pairs R xs (λ i j d below within. all (suc i) (suc j) d (omega arith) (omega arith)))

pub filtered : {X : Type 0} (test : X → Bool) (xs : List X) (x : X) → Contains xs x → test x ≡ true → Contains (filter test xs) x
filtered test [] x (k, less, at) is = absurd (omega arith)
filtered test (y ∷ ys) x (zero, less, at) is =
    let t = ap test at ∙ is in rw t (subst (Contains (y ∷ filter test ys)) at (contains_first y (filter test ys)))
filtered test (y ∷ ys) x (suc k, less, at) is =
    let rest = filtered test ys x (k, omega arith, at) is in
    elim (cases_Bool (test y)) [ inl t ↦ rw t (contains_later y x (filter test ys) rest) | inr f ↦ rw f rest ]

-- a span is its start and its length
pub span_is : (span : Span) (start len : ℕ) → span.start ≡ start → span.len ≡ len → ◌≡◌ {A = Span} span (record { start = start; len = len })
span_is span start len first count = ap (λ n. record span { start = n }) first ∙ ap (λ n. record { start = start; len = n }) count

module _ (image : List ℕ) where
  abbrev is_mapped : ℕ → Bool
  is_mapped p = nat_lt 0 (vmsize image p)

  pub mapped_all : (places : List ℕ) → map (λ (s : SegmentView). s.place) (map (segment_at image) places) ≡ places
  mapped_all [] = refl
  mapped_all (p ∷ ps) = ap (λ rest. p ∷ rest) (mapped_all ps)

  -- the mapped segments are the segments that have addresses, in the order of the commands
  pub mapped_rise : IsOpened image → Ordered (λ a b. a < b) (mapped_segments image)
  mapped_rise opened =
      let (count, next, chain) = opened_commands image opened in
      ordered_filter (λ a b. a < b) is_mapped _ (ordered_filter (λ a b. a < b) _ (commands_of image)
      (ordered_from_pairs (λ a b. a < b) (commands_of image) (places_rise image 32 (commands_of image) next chain)))

  pub mapped_among : (p : ℕ) → Contains (mapped_segments image) p → Contains (segments_of image (commands_of image)) p
  mapped_among p has = unfiltered is_mapped (segments_of image (commands_of image)) p has

  pub among_mapped : (p : ℕ) → Contains (segments_of image (commands_of image)) p → 0 < vmsize image p → Contains (mapped_segments image) p
  among_mapped p has more = filtered is_mapped (segments_of image (commands_of image)) p has (lt-ltb 0 (vmsize image p) more)

  pub mapped_positive : (p : ℕ) → Contains (mapped_segments image) p → 0 < vmsize image p
  mapped_positive p has = ltb-true 0 (vmsize image p) (All-contains (λ q. is_mapped q ≡ true) (mapped_segments image) p (filter_passes is_mapped (segments_of image (commands_of image))) has)

  -- where one is listed, some segment is mapped
  pub mapped_some : 0 < length (mapped_segments image) → HasMapped image
  mapped_some more =
      let has = Contains-get_or (mapped_segments image) 0 0 more in
      any_of (λ p. 0 < vmsize image p) _ (get_or (mapped_segments image) 0 0) (mapped_among _ has) (mapped_positive _ has)

-- what is pushed for each of the segments
pub pushed : {X B : Type 0} (f : X → B) (yielded : List X) (x : X) (items next : List B) (item : B) → next ≡ items ++ item ∷ [] → items ≡ map f yielded → item ≡ f x → next ≡ map f (yielded ++ x ∷ [])
pushed f yielded x items next item more are is =
    more ∙ (ap (λ all. all ++ item ∷ []) are ∙ (ap (λ one. map f yielded ++ one ∷ []) is ∙ sym (map-append f yielded (x ∷ []))))

-- what f reads of each of the segments
pub at_places : {B : Type 0} (f : List ℕ → ℕ → B) (image ps : List ℕ) → map (λ (s : SegmentView). f s.image s.place) (map (segment_at image) ps) ≡ map (f image) ps
at_places f image [] = refl
at_places f image (p ∷ ps) = ap (λ rest. f image p ∷ rest) (at_places f image ps)

-- the mapped segments, as an iterator yields them
module _ (image : List ℕ) (all : List SegmentView) (given : all ≡ map (segment_at image) (mapped_segments image)) where
  road : YieldsList (YieldsFirst (λ (left : List SegmentView). left)) (λ (s : SegmentView). s) all all
  road = YieldsList-from_first (λ (s : SegmentView). s) (λ (left : List SegmentView). left) all refl

  counted : length all ≡ length (mapped_segments image)
  counted = ap length given ∙ length-map (mapped_segments image) (segment_at image)

  module _ (yielded left rest : List SegmentView) (next : Option SegmentView) (came : Yields (YieldsFirst (λ (these : List SegmentView). these)) all yielded left)
      (steps : YieldsFirst (λ (these : List SegmentView). these) left next rest) where
    pub yielded_image : (s : SegmentView) → next ≡ Some s → s.image ≡ image
    yielded_image s is =
        let (less, at) = YieldsList-turn road yielded left came next rest s is steps in
        let (p, _, same) = mapped_has (segment_at image) (mapped_segments image) s (subst (λ these. Contains these s) given (length yielded, less, sym at)) in
        sym (ap (λ (t : SegmentView). t.image) same)

    pub yielded_mapped : (s : SegmentView) → next ≡ Some s → HasMapped image
    yielded_mapped s is = let (less, _) = YieldsList-turn road yielded left came next rest s is steps in mapped_some image (omega (arith, less, counted))

    -- where none is left, all were yielded
    pub yielded_all : next ≡ None → yielded ≡ map (segment_at image) (mapped_segments image)
    yielded_all is = let (same, _) = YieldsList-end road yielded left came next rest is steps in sym (map-id yielded) ∙ (same ∙ given)

  pub mapped_nth : (found : Option SegmentView) (rest : List SegmentView) (n : ℕ) → SkipsThenYields (YieldsFirst (λ (left : List SegmentView). left)) all n found rest
      → found ≡ option_map (segment_at image) (slice_get (mapped_segments image) n)
  mapped_nth found rest n ran =
      sym (option_map_id found) ∙ (nth_from_yields_List found rest n ran road ∙ (ap (λ these. slice_get these n) given ∙ slice_get-map (segment_at image) (mapped_segments image) n))
