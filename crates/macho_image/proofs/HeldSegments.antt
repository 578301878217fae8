-- The segments of an opened image, and their sections.
use Rattle.std.proofs.Common.{◌≡◌, ℕ, ◌+◌, ◌*◌, ◌≤◌, ◌==◌, None, inl, inr, List, [], ◌∷◌, ◌++◌, length, map, cond, Bool, true, false, All, Contains, refl, sym, ap, ◌∙◌, subst, arith}
use Rattle.std.specs.List.{sum_by, flat_map}
use Rattle.std.proofs.lemmas.List.{map-append}
use Rattle.std.proofs.lemmas.Simd.{map-map}
use Rattle.std.proofs.lemmas.Bool.{cases_Bool, eqb-true}
use Rattle.std.proofs.lemmas.List.Elements.{All-contains_itself, All-map, All-tail}
use Rattle.std.proofs.lemmas.List.Sums.{sum_by-cons}
use Rattle.macho_fields.specs.Image.{command_cmd, command_size, commands_end, commands_of, Follow}
use Rattle.macho_fields.specs.Segment.{nsects, segments_of, sections_in, section_count}
use Rattle.macho_fields.specs.declared.header.loader.TheConstants as loader
use Rattle.macho_fields.proofs.Opened.{sections_inside, command_inside}
use Rattle.macho_fields.proofs.Parts.{with_cmd_is, with_cmd_among}
use Rattle.macho_image.specs.Opened.{IsOpened}
use Rattle.macho_image.specs.Command.{CommandView, command_at}
use Rattle.macho_image.specs.Segment.{segment_of, sections_among, SegmentView, SectionView, segment_at, section_at, sections_with, sections_of}
use Rattle.macho_image.specs.Views.{HaveAll, HoldsSegment, HoldSegments, HoldsSection}
use Rattle.macho_image.specs.Symbol.{items_from}
use Rattle.macho_image.proofs.Opened.{opened_keeps}
use Rattle.macho_image.proofs.OpenedWalk.{opened_commands}
use Rattle.macho_image.proofs.Ranges.{items_are, items_held}

-- a segment among the commands of an opened image lies inside it
pub held_segment : (image : List ℕ) (segment : ℕ) → IsOpened image → Contains (commands_of image) segment → command_cmd image segment ≡ loader.LC_SEGMENT_64 → HoldsSegment image segment
held_segment image segment opened among is =
    let facts = opened_keeps image opened in
    let are = opened_commands image opened in
    let holds : 72 + 80 * nsects image segment ≤ command_size image segment = sections_inside image (commands_of image) facts are segment among is in
    let inside : segment + command_size image segment ≤ length image = command_inside image (commands_of image) facts are segment among in omega arith

-- another command does not describe a segment
pub no_segment : (image : List ℕ) (command : CommandView) → ¬ (command.cmd ≡ loader.LC_SEGMENT_64) → segment_of image command ≡ None
no_segment image command other = elim (cases_Bool (command.cmd == loader.LC_SEGMENT_64)) [
  | inl t ↦ absurd (other (eqb-true command.cmd loader.LC_SEGMENT_64 t))
  | inr f ↦ rw f refl
]

-- the segments of an opened image lie inside it
pub all_segments_hold : (image : List ℕ) (all : List CommandView) → IsOpened image → HaveAll loader.LC_SEGMENT_64 image all → HoldSegments image all
all_segments_hold image all opened have =
    let segments = segments_of image (commands_of image) in
    subst (All (λ c. HoldsSegment image c.place)) (sym have) (All-map (λ c. HoldsSegment image c.place) (command_at image) segments
    (λ k d less.
    let has = All-contains_itself segments k d less in
    held_segment image _ opened (with_cmd_among image (commands_of image) loader.LC_SEGMENT_64 _ has) (with_cmd_is image (commands_of image) loader.LC_SEGMENT_64 _ has)))

-- Sections

-- the sections of a segment that lies inside the image do too
pub sections_held : (image : List ℕ) (segment : ℕ) → HoldsSegment image segment → All (HoldsSection image segment) (items_from 80 (segment + 72) (nsects image segment))
sections_held image segment held k d less = record {
  held = held;
  inside = items_held image 80 (segment + 72) (nsects image segment) (omega (arith, held)) k d less;
}

-- the items that are counted by what is seen of the segment
pub items_counted_by : (image : List ℕ) (segment count : ℕ) (seen : SegmentView) (items : List ℕ) → segment_at image segment ≡ seen → count ≡ nsects seen.image seen.place
    → items ≡ items_from 80 (segment + 72) count → items ≡ items_from 80 (segment + 72) (nsects image segment)
items_counted_by image segment count seen items same counts are =
    are ∙ ap (items_from 80 (segment + 72)) (counts ∙ sym (ap (λ (s : SegmentView). nsects s.image s.place) same))

pub sections_seen : (image : List ℕ) (segment : ℕ) → map (λ place. section_at image (segment, place)) (items_from 80 (segment + 72) (nsects image segment)) ≡ map (section_at image) (sections_with image segment)
sections_seen image segment =
    ap (map (λ place. section_at image (segment, place))) (items_are (segment + 72) 80 (nsects image segment))
    ∙ sym (map-map (section_at image) (λ section. (segment, section)) (sections_in image segment))

-- the sections of some segments
sections_by_segment : (image segments : List ℕ) → sections_among (map (segment_at image) segments) ≡ map (section_at image) (flat_map (sections_with image) segments)
sections_by_segment image [] = refl
sections_by_segment image (x ∷ xs) =
    ap (λ rest. map (section_at image) (sections_with image x) ++ rest) (sections_by_segment image xs) ∙ sym (map-append (section_at image) (sections_with image x) (flat_map (sections_with image) xs))

-- after none of another segment
pub all_sections_seen : (image commands : List ℕ) (read : ℕ → SectionView) (none : List ℕ) (all : List SegmentView) → none ≡ [] → all ≡ map (segment_at image) (segments_of image commands)
    → map read none ++ sections_among all ≡ map (section_at image) (sections_of image commands)
all_sections_seen image commands read none all empty is =
    ap (λ places. map read places ++ sections_among all) empty ∙ (ap sections_among is ∙ sections_by_segment image (segments_of image commands))

-- The number of sections

-- the sections of the segments
abbrev pub counted : List SegmentView → ℕ
counted segments = sum_by (λ s. nsects s.image s.place) segments

pub counted_more : (old rest : List SegmentView) (s : SegmentView) → old ≡ s ∷ rest → counted old ≡ nsects s.image s.place + counted rest
counted_more old rest s is = ap counted is ∙ sum_by-cons (λ t. nsects t.image t.place) s rest

counted_places : (image xs : List ℕ) → counted (map (segment_at image) xs) ≡ sum_by (nsects image) xs
counted_places image [] = refl
counted_places image (x ∷ xs) =
    counted_more (map (segment_at image) (x ∷ xs)) (map (segment_at image) xs) (segment_at image x) refl
    ∙ (ap (λ n. nsects image x + n) (counted_places image xs) ∙ sym (sum_by-cons (nsects image) x xs))

pub all_counted : (image : List ℕ) (all : List SegmentView) → all ≡ map (segment_at image) (segments_of image (commands_of image))
    → counted all ≡ section_count image (commands_of image)
all_counted image all is = ap counted is ∙ counted_places image (segments_of image (commands_of image))

-- the sections of a command, where it is a segment, lie in it
abbrev HoldsItsSections : List ℕ → ℕ → Type 0
HoldsItsSections image command =
    command_cmd image command ≡ loader.LC_SEGMENT_64 → 80 * nsects image command ≤ command_size image command

count_first : (image xs : List ℕ) (x : ℕ) (b : Bool) → sum_by (nsects image) (cond b (x ∷ xs) xs) ≡ cond b (nsects image x) 0 + sum_by (nsects image) xs
count_first image xs x true = sum_by-cons (nsects image) x xs
count_first image xs x false = omega arith

in_command : (n size : ℕ) (b : Bool) → (b ≡ true → 80 * n ≤ size) → 80 * cond b n 0 ≤ size
in_command n size true holds = holds refl
in_command n size false holds = omega arith

-- so all sections of a chain of commands fit into it
count_in_chain : (image : List ℕ) (start : ℕ) (xs : List ℕ) (next : ℕ) → Follow image start xs next → start ≤ commands_end image → All (HoldsItsSections image) xs
    → start + 80 * section_count image xs ≤ commands_end image
count_in_chain image start [] next chain within hold = omega arith
count_in_chain image start (x ∷ xs) next (first, good, rest) within hold =
    let is_segment : Bool = command_cmd image x == loader.LC_SEGMENT_64 in
    let n : ℕ = cond is_segment (nsects image x) 0 in
    let size : ℕ = command_size image x in
    let end : x + size ≤ commands_end image = good.inside in
    let sum : section_count image (x ∷ xs) ≡ n + section_count image xs = count_first image (segments_of image xs) x is_segment in
    let here : 80 * n ≤ size = in_command (nsects image x) size is_segment (λ h. hold 0 x (omega arith) (eqb-true (command_cmd image x) loader.LC_SEGMENT_64 h)) in
    let more : x + size + 80 * section_count image xs ≤ commands_end image = count_in_chain image (x + size) xs next rest end (All-tail (HoldsItsSections image) x xs hold) in omega arith

pub count_fits_commands : (image : List ℕ) → IsOpened image → 32 + 80 * section_count image (commands_of image) ≤ commands_end image
count_fits_commands image is_opened =
    let opened = opened_keeps image is_opened in
    let commands = commands_of image in
    let are = opened_commands image is_opened in
    let (length_is, next, chain) = are in
    count_in_chain image 32 commands next chain (omega arith)
    (λ k d less is_segment. let holds = sections_inside image commands opened are _ (All-contains_itself commands k d less) is_segment in omega arith)

pub count_fits : (image : List ℕ) → IsOpened image → 80 * section_count image (commands_of image) ≤ length image
count_fits image is_opened =
    let opened = opened_keeps image is_opened in
    let inside : commands_end image ≤ length image = opened.inside in omega (arith, count_fits_commands image is_opened)
