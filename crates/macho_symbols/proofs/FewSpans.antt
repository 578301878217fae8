-- The spans of the mapped segments of an image, one after the other.
use Rattle.std.proofs.Common.{◌≡◌, ◌∙◌, ℕ, ◌+◌, ◌≤◌, ◌<◌, List, [], ◌∷◌, ◌++◌, length, map, take, refl, sym, ap, arith, length-append}
use Rattle.std.proofs.Math.ListN.{set}
use Rattle.std.proofs.lemmas.List.{length-set, length-map, map-append, take_more_set}
use Rattle.macho_image.specs.Segment.{SegmentView, segment_at}
use Rattle.macho_rules.specs.Mapped.{memory_at, mapped_memory, mapped_segments}
use Rattle.macho_rules.proofs.Mapped.{at_places}
use Rattle.macho_rules.proofs.Surveys.{walked_on, walked_all}
use Rattle.macho_spans.specs.declared.span.Span.{Span}

abbrev pub view_memory : SegmentView → Span
view_memory s = memory_at s.image s.place

-- so many spans belong to the segments that were passed
pub record AreNoted (all left : List SegmentView) (spans : List Span) (count : ℕ) : Type 0 where
  pub seen : List SegmentView
  pub reached : all ≡ seen ++ left
  pub at : count ≡ length seen
  pub few : count ≤ 16
  pub size : length spans ≡ 16
  pub same : take count spans ≡ map view_memory seen

pub noted_none : (all : List SegmentView) (spans : List Span) → length spans ≡ 16 → AreNoted all all spans 0
noted_none all spans size = record { seen = []; reached = refl; at = refl; few = omega arith; size = size; same = refl }

module _ (all left rest : List SegmentView) (s : SegmentView) (is : left ≡ s ∷ rest) (spans : List Span) (count : ℕ) (noted : AreNoted all left spans count) where
  noted_next : count < 16 → AreNoted all rest (set spans count (view_memory s)) (count + 1)
  noted_next less = record {
    seen = noted.seen ++ s ∷ [];
    reached = walked_on all noted.seen left s rest noted.reached is;
    at = let size = length-append noted.seen (s ∷ []) in let at = noted.at in omega (arith, size, at);
    few = omega (arith, less);
    size = length-set spans count (view_memory s) ∙ noted.size;
    same =
        take_more_set spans count (view_memory s) (let size = noted.size in omega (arith, size, less))
        ∙ (ap (λ these. these ++ view_memory s ∷ []) noted.same ∙ sym (map-append view_memory noted.seen (s ∷ [])));
  }

  pub noted_more : (memory : Span) → memory ≡ view_memory s → count < 16 → AreNoted all rest (set spans count memory) (count + 1)
  noted_more memory same less = rw same (noted_next less)

module _ (image : List ℕ) (all left : List SegmentView) (are : all ≡ map (segment_at image) (mapped_segments image)) (spans : List Span) (count : ℕ) (noted : AreNoted all left spans count) where
  -- one more than a few
  pub many_noted : (s : SegmentView) (rest : List SegmentView) → left ≡ s ∷ rest → count ≡ 16 → 16 < length (mapped_segments image)
  many_noted s rest is full =
      let size = ap length noted.reached ∙ length-append noted.seen left in
      let more = ap length is in
      let whole = ap length are ∙ length-map (mapped_segments image) (segment_at image) in
      let at = noted.at in omega (arith, size, more, whole, at, full)

  -- all of them
  pub all_noted : left ≡ [] → take count spans ≡ mapped_memory image
  all_noted ended =
      noted.same ∙ (ap (map view_memory) (sym (walked_all all noted.seen left noted.reached ended) ∙ are) ∙ at_places memory_at image (mapped_segments image))
