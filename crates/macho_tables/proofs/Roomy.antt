-- The rooms of the segments of an image, one segment after the other.
use Rattle.std.proofs.Common.{◌≡◌, ℕ, ◌+◌, ◌*◌, ◌/◌, ◌^◌, ◌≤◌, ◌<◌, ◌==◌, Bool, true, false, zero, suc, List, [], ◌∷◌, ◌++◌, length, map, filter, get_or, min, length-append, refl, sym, ap, ◌∙◌, arith, inl, inr}
use Rattle.std.specs.List.{list_all, sum_by}
use Rattle.std.proofs.Math.ListN.{set}
use Rattle.std.proofs.lemmas.List.{length-set, length-map, map-append, get_or-set_same, get_or-set_other}
use Rattle.std.proofs.Math.Seq.{get_or-append_seam}
use Rattle.std.proofs.lemmas.Bool.{cases_Bool, cases_eq, ne_eqb, false≢true}
use Rattle.std.proofs.lemmas.List.Sums.{sum_by-append, sum_by-cons}
use Rattle.macho_fields.specs.Image.{command_cmd, command_size, commands_of, commands_end, Follow}
use Rattle.macho_fields.specs.declared.header.loader.TheConstants as loader
use Rattle.macho_image.specs.Opened.{IsOpened}
use Rattle.macho_image.specs.Segment.{SegmentView, segment_at}
use Rattle.macho_rules.proofs.Judged.{opened_facts, opened_commands}
use Rattle.macho_rules.proofs.Surveys.{walked_on, walked_all}
use Rattle.macho_fields.specs.Segment.{all_segments}
use Rattle.macho_tables.specs.Limits.{room, rooms_of, budget_of, AreRooms}

abbrev pub view_room : SegmentView → ℕ
view_room s = room s.image s.place

-- what was found of the segments that were passed
pub record AreFound (seen : List SegmentView) (sizes : List ℕ) (index budget : ℕ) : Type 0 where
  pub count : index ≡ min (length seen) 16
  pub all : length sizes ≡ 16
  pub same : (k : ℕ) → k < 16 → get_or sizes k 0 ≡ get_or (map view_room seen) k 0
  pub sum : budget ≡ sum_by (λ s. view_room s / 8) seen
  pub few : budget ≤ length seen * 2 ^ 61

-- and of all segments where a walk over them has come
pub record AreRoomed (all left : List SegmentView) (sizes : List ℕ) (index budget : ℕ) : Type 0 where
  pub seen : List SegmentView
  pub reached : all ≡ seen ++ left
  pub found : AreFound seen sizes index budget

get_more : (xs : List ℕ) (x k : ℕ) → (k ≡ length xs → ⊥) → get_or (xs ++ x ∷ []) k 0 ≡ get_or xs k 0
get_more [] x zero apart = absurd (apart refl)
get_more [] x (suc k) apart = refl
get_more (y ∷ ys) x zero apart = refl
get_more (y ∷ ys) x (suc k) apart = get_more ys x k (λ same. apart (omega arith))

-- all are zero, one by one
all_zero : (sizes : List ℕ) → list_all (λ size. size == 0) sizes ≡ true → (k : ℕ) → get_or sizes k 0 ≡ 0
all_zero [] zeros k = refl
all_zero (zero ∷ sizes) zeros zero = refl
all_zero (zero ∷ sizes) zeros (suc k) = all_zero sizes zeros k
all_zero (suc n ∷ sizes) zeros k =
    let other : (suc n == 0) ≡ false = ne_eqb (suc n) 0 (λ wrong. omega arith) in absurd (false≢true (rw other at zeros))

found_none : (sizes : List ℕ) → length sizes ≡ 16 → list_all (λ size. size == 0) sizes ≡ true → AreFound [] sizes 0 0
found_none sizes all zeros = record {
  count = refl;
  all = all;
  same = λ k below. all_zero sizes zeros k;
  sum = refl;
  few = omega arith;
}

-- One segment more

module _ (seen : List SegmentView) (sizes : List ℕ) (index budget : ℕ) (s : SegmentView) (size : ℕ) (is : size ≡ view_room s) (fits : size < 2 ^ 64)
    (found : AreFound seen sizes index budget) where
  more_rooms : map view_room (seen ++ s ∷ []) ≡ map view_room seen ++ size ∷ []
  more_rooms = map-append view_room seen (s ∷ []) ∙ ap (λ n. map view_room seen ++ n ∷ []) (sym is)

  more_length : length (seen ++ s ∷ []) ≡ length seen + 1
  more_length = length-append seen (s ∷ [])

  more_sum : budget + size / 8 ≡ sum_by (λ t. view_room t / 8) (seen ++ s ∷ [])
  more_sum =
      let sum = sum_by-append (λ (t : SegmentView). view_room t / 8) seen (s ∷ []) in
      let single = sum_by-cons (λ (t : SegmentView). view_room t / 8) s [] in
      let same : size / 8 ≡ view_room s / 8 = ap (λ n. n / 8) is in
      let before = found.sum in omega (arith, sum, single, same, before)

  more_few : budget + size / 8 ≤ length (seen ++ s ∷ []) * 2 ^ 61
  more_few = let few = found.few in omega (arith, few, more_length, fits)

  -- it has a place among the first
  found_more : index < 16 → AreFound (seen ++ s ∷ []) (set sizes index size) (index + 1) (budget + size / 8)
  found_more room_left =
      let here : index ≡ length seen = omega (arith, found.count) in record {
        count = omega (arith, more_length, found.count);
        all = length-set sizes index size ∙ found.all;
        same = λ k below. elim (cases_eq k index) [
          | inl same ↦ at_index k same here
          | inr apart ↦ elsewhere k below apart here
        ];
        sum = more_sum;
        few = more_few;
      }
    where
      at_index : (k : ℕ) → k ≡ index → index ≡ length seen → get_or (set sizes index size) k 0 ≡ get_or (map view_room (seen ++ s ∷ [])) k 0
      at_index k same here =
          let inside : index < length sizes = omega (arith, found.all, room_left) in
          let count : length (map view_room seen) ≡ length seen = length-map seen view_room in
          let at : k ≡ length (map view_room seen) = omega arith in
          let set_there : get_or (set sizes index size) k 0 ≡ size = ap (λ i. get_or (set sizes index size) i 0) same ∙ get_or-set_same sizes index size 0 inside in
          let last_there : get_or (map view_room seen ++ size ∷ []) k 0 ≡ size =
          ap (λ i. get_or (map view_room seen ++ size ∷ []) i 0) at ∙ get_or-append_seam (map view_room seen) size [] 0 in
          rw more_rooms (set_there ∙ sym last_there)

      elsewhere : (k : ℕ) → k < 16 → (k ≡ index → ⊥) → index ≡ length seen → get_or (set sizes index size) k 0 ≡ get_or (map view_room (seen ++ s ∷ [])) k 0
      elsewhere k below apart here =
          let count : length (map view_room seen) ≡ length seen = length-map seen view_room in
          rw (more_rooms, get_more (map view_room seen) size k (λ same. apart (omega arith)), get_or-set_other sizes index k size 0 apart) (found.same k below)

  -- it has none
  found_past : 16 ≤ index → AreFound (seen ++ s ∷ []) sizes index (budget + size / 8)
  found_past full =
      let count : length (map view_room seen) ≡ length seen = length-map seen view_room in record {
        count = omega (arith, more_length, found.count);
        all = found.all;
        same = λ k below. rw (more_rooms, get_more (map view_room seen) size k (λ same. omega (arith, same, count, found.count, full, below))) (found.same k below);
        sum = more_sum;
        few = more_few;
      }

-- There are not so many segments that their sum does not fit

pub commands_fit : (image : List ℕ) (start : ℕ) (xs : List ℕ) (next : ℕ) → Follow image start xs next → start ≤ commands_end image
    → start + 8 * length xs ≤ commands_end image
commands_fit image start [] next chain within = omega arith
commands_fit image start (x ∷ xs) next (first, good, rest) within =
    let end : x + command_size image x ≤ commands_end image = good.inside in
    let least : 8 ≤ command_size image x = good.least in
    let more = commands_fit image (x + command_size image x) xs next rest end in omega arith

filter_short : (p : ℕ → Bool) (xs : List ℕ) → length (filter p xs) ≤ length xs
filter_short p [] = omega arith
filter_short p (x ∷ xs) = let more = filter_short p xs in elim (cases_Bool (p x)) [ inl t ↦ rw t (omega arith) | inr f ↦ rw f (omega arith) ]

pub segments_few : (image : List ℕ) → IsOpened image → length image < 2 ^ 64 → length (all_segments image) < 2 ^ 61
segments_few image opened short =
    let facts = opened_facts image opened in
    let inside : commands_end image ≤ length image = facts.inside in
    let (length_is, next, chain) = opened_commands image opened in
    let fit = commands_fit image 32 (commands_of image) next chain (omega arith) in
    let few = filter_short (λ command. command_cmd image command == loader.LC_SEGMENT_64) (commands_of image) in
    omega (arith, fit, few, inside, short)

-- so with one more it fits
pub budget_fits : (image : List ℕ) (all left : List SegmentView) (sizes : List ℕ) (index budget size : ℕ) → IsOpened image → length image < 2 ^ 64
    → all ≡ map (segment_at image) (all_segments image) → AreRoomed all left sizes index budget → size < 2 ^ 64 → budget + size / 8 < 2 ^ 128
budget_fits image all left sizes index budget size opened short are walked fits =
    let few = segments_few image opened short in
    let count : length all ≡ length (all_segments image) = ap length are ∙ length-map (all_segments image) (segment_at image) in
    let parts : length all ≡ length walked.seen + length left = ap length walked.reached ∙ length-append walked.seen left in
    let sum = walked.found.few in omega (arith, few, count, parts, sum, fits)

-- all segments are found
found_all : (image : List ℕ) (all : List SegmentView) (sizes : List ℕ) (index budget : ℕ) → all ≡ map (segment_at image) (all_segments image)
    → AreFound all sizes index budget → AreRooms (rooms_of image) sizes × (budget ≡ budget_of image)
found_all image all sizes index budget are found = (
  λ k below. found.same k below ∙ ap (λ rooms. get_or rooms k 0) (ap (map view_room) are ∙ mapped (all_segments image)),
  found.sum ∙ (ap (sum_by (λ s. view_room s / 8)) are ∙ summed (all_segments image)),
)
  where
    mapped : (places : List ℕ) → map view_room (map (segment_at image) places) ≡ map (room image) places
    mapped [] = refl
    mapped (place ∷ places) = ap (λ rooms. room image place ∷ rooms) (mapped places)

    summed : (places : List ℕ) → sum_by (λ s. view_room s / 8) (map (segment_at image) places) ≡ sum_by (λ place. room image place / 8) places
    summed [] = refl
    summed (place ∷ places) =
        sum_by-cons (λ (s : SegmentView). view_room s / 8) (segment_at image place) (map (segment_at image) places)
        ∙ (ap (λ n. room image place / 8 + n) (summed places) ∙ sym (sum_by-cons (λ place. room image place / 8) place places))

-- A walk over the segments

pub rooms_start : (all : List SegmentView) (sizes : List ℕ) → length sizes ≡ 16 → list_all (λ size. size == 0) sizes ≡ true → AreRoomed all all sizes 0 0
rooms_start all sizes size zeros = record { seen = []; reached = refl; found = found_none sizes size zeros }

module _ (all left rest : List SegmentView) (s : SegmentView) (is : left ≡ s ∷ rest) (sizes : List ℕ) (index budget size : ℕ) (same : size ≡ view_room s) (fits : size < 2 ^ 64)
    (walked : AreRoomed all left sizes index budget) where
  abbrev passed : List SegmentView
  passed = walked.seen ++ s ∷ []

  on : all ≡ passed ++ rest
  on = walked_on all walked.seen left s rest walked.reached is

  pub rooms_more : index < 16 → AreRoomed all rest (set sizes index size) (index + 1) (budget + size / 8)
  rooms_more few = record { seen = passed; reached = on; found = found_more walked.seen sizes index budget s size same fits walked.found few }

  pub rooms_past : 16 ≤ index → AreRoomed all rest sizes index (budget + size / 8)
  rooms_past full = record { seen = passed; reached = on; found = found_past walked.seen sizes index budget s size same fits walked.found full }

-- after the last segment
pub rooms_all : (image : List ℕ) (all left : List SegmentView) (sizes : List ℕ) (index budget : ℕ) → all ≡ map (segment_at image) (all_segments image) → left ≡ []
    → AreRoomed all left sizes index budget → AreRooms (rooms_of image) sizes × (budget ≡ budget_of image)
rooms_all image all left sizes index budget are none walked =
    found_all image walked.seen sizes index budget (sym (walked_all all walked.seen left walked.reached none) ∙ are) walked.found
