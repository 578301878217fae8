-- What the walk over segments and sections notes, one after the other, and what it has found at the end.
use Rattle.std.proofs.Common.{◌≡◌, ◌↔◌, ℕ, ◌+◌, ◌-◌, ◌*◌, ◌^◌, ◌≤◌, ◌<◌, min, List, [], ◌∷◌, ◌++◌, length, map, filter, Bool, true, false, IsTrue, Contains, Option, None, Some, refl, sym, ap, ◌∙◌, subst, arith, rules, tests, inl, inr, length-append, append_assoc}
use Rattle.std.specs.Prelude.{◌&&◌, ◌==◌, nat_lt, flat_map, find, sum_by, if◌then◌else◌}
use Rattle.std.specs.List.{AllByRecursion}
use Rattle.std.specs.Option.{option_map, option_or}
use Rattle.std.proofs.lemmas.Bool.{cases_Bool, lt-ltb}
use Rattle.std.proofs.lemmas.Grind.{flat_map-append}
use Rattle.std.proofs.lemmas.List.{append-nil, map-append, length-map}
use Rattle.std.proofs.lemmas.List.Elements.{Contains-append_cases, Contains-append_left, Contains-append_right, filter-append}
use Rattle.std.proofs.lemmas.List.Folds.{find-append}
use Rattle.std.proofs.lemmas.List.Sums.{sum_by-cons, sum_by-append}
use Rattle.macho_fields.specs.FirstPlace.{IsFirstOf, IsNoted}
use Rattle.macho_fields.specs.First.{rank}
use Rattle.macho_fields.specs.Rules.{BreaksCommands}
use Rattle.macho_fields.specs.Image.{command_size, commands_of}
use Rattle.macho_fields.specs.Segment.{segments_of, sections_in, section_count, nsects, vmaddr, vmsize, fileoff, filesize, shows_start}
use Rattle.macho_spans.specs.SpanOrder.{IsOrderOf}
use Rattle.macho_fields.specs.declared.header.loader.TheConstants as loader
use Rattle.macho_fields.specs.declared.rule.Rule.{Rule}
use Rattle.macho_fields.specs.declared.rule.Rule.TheVariants as rule
use Rattle.macho_spans.specs.declared.span.Span.{Span}
use Rattle.macho_fields.proofs.FirstPlaces.{AreBreaks, first_of_kept, first_of_broken}
use Rattle.macho_fields.proofs.Lists.{none_in_nil, contains_first, contains_later, first_or_later}
use Rattle.macho_fields.proofs.Opened.{sections_inside, command_inside}
use Rattle.macho_fields.proofs.Parts.{with_cmd_is, with_cmd_among}
use Rattle.macho_image.specs.Opened.{IsOpened}
use Rattle.macho_image.specs.Segment.{SegmentView, SectionView, segment_at, section_at, sections_with, sections_among}
use Rattle.macho_rules.specs.Mapped.{memory_at, mapped_segments, tagged_memory}
use Rattle.macho_rules.specs.Survey.{Notes, AreNotedByRule, AreFirstByRule, AreLeastByRule, BreaksSegment, BreaksSection, segment_notes, section_notes, EndBy, memory_among, base_among, AreFirstSegments, AreFirstSections, AreMapped, IsImageSurvey}
use Rattle.macho_rules.specs.declared.survey.Mapped.{Mapped}
use Rattle.macho_rules.specs.declared.survey.SectionBreaks.{SectionBreaks}
use Rattle.macho_rules.specs.declared.survey.SegmentBreaks.{SegmentBreaks}
use Rattle.macho_rules.proofs.Judged.{opened_facts, opened_commands, least_place}
use Rattle.macho_rules.proofs.Searches.{Ordered, Rising, ordered_map, mapped_has}
use Rattle.macho_rules.proofs.SectionItems.{after_segment, sections_rise, with_segment, section_before, section_rule_breaks}
use Rattle.macho_rules.proofs.SegmentItems.{AreSegments, EndsBefore, segment_rule_breaks, segments_spread, segment_of, segment_among}

-- A walk: these items were seen, and those are left

module _ {X : Type 0} (all seen left : List X) (x : X) (rest : List X) (reached : all ≡ seen ++ left) (next : left ≡ x ∷ rest) where
  pub walked : all ≡ seen ++ x ∷ rest
  walked = reached ∙ ap (λ ys. seen ++ ys) next

  pub walked_on : all ≡ (seen ++ x ∷ []) ++ rest
  walked_on = walked ∙ sym (append_assoc seen (x ∷ []) rest)

pub walked_all : {X : Type 0} (all seen left : List X) → all ≡ seen ++ left → left ≡ [] → all ≡ seen
walked_all all seen left reached ended = reached ∙ (ap (λ ys. seen ++ ys) ended ∙ append-nil seen)

reached_has : {X : Type 0} (all seen : List X) (x : X) (rest : List X) → all ≡ seen ++ x ∷ rest → Contains all x
reached_has all seen x rest is = subst (λ ys. Contains ys x) (sym is) (Contains-append_right seen (x ∷ rest) x (contains_first x rest))

-- an item of an ordered list and each one before it have R
pub ordered_before : {X : Type 0} (R : X → X → Type 0) (xs : List X) (x : X) (ys : List X) → Ordered R (xs ++ x ∷ ys) → (y : X) → Contains xs y → R y x
ordered_before R [] x ys order y has = absurd (none_in_nil y has)
ordered_before R (z ∷ zs) x ys (first, rest) y has =
    elim (first_or_later z y zs has) [
      | inl same ↦ subst (λ w. R w x) same (first x (Contains-append_right zs (x ∷ ys) x (contains_first x ys)))
      | inr later ↦ ordered_before R zs x ys rest y later
    ]

-- what comes before an item of a list whose places do not fall
pub rising_end_by : {X : Type 0} (place : X → ℕ) (all seen : List X) (x : X) (rest : List X) → all ≡ seen ++ x ∷ rest → Rising place all → EndBy place seen (place x)
rising_end_by place all seen x rest here rising = ordered_before (λ a b. place a ≤ place b) seen x rest (subst (Rising place) here rising)

-- A place is noted

pub noted_as : {P : Type 0} (b : Bool) → (IsTrue b ↔ P) → (place : ℕ) (old new : Option ℕ) → IsNoted (IsTrue b) place old new → IsNoted P place old new
noted_as b same place old new (inl (broken, is)) = inl (same.0 broken, is)
noted_as b same place old new (inr (kept, is)) = inr ((λ p. kept (same.1 p)), is)

pub first_noted : {X : Type 0} (place : X → ℕ) (P : X → Type 0) (items : List X) (x : X) (old new : Option ℕ) → EndBy place items (place x) → IsNoted (P x) (place x) old new
    → IsFirstOf place P items old → IsFirstOf place P (items ++ x ∷ []) new
first_noted place P items x old new after (inl (broken, is)) first = subst (IsFirstOf place P (items ++ x ∷ [])) (sym is) (first_of_broken place P items x old after broken first)
first_noted place P items x old new after (inr (kept, is)) first = subst (IsFirstOf place P (items ++ x ∷ [])) (sym is) (first_of_kept place P items x old kept first)

-- and so of each rule that is noted
pub noted_more : {X B : Type 0} (place : X → ℕ) (Breaks : Rule → X → Type 0) (notes : Notes B) (items : List X) (x : X) (old new : B) → EndBy place items (place x)
    → AreNotedByRule place Breaks notes x old new → AreFirstByRule place Breaks notes items old → AreFirstByRule place Breaks notes (items ++ x ∷ []) new
noted_more place Breaks [] items x old new after noted first = tt
noted_more place Breaks ((r, field) ∷ notes) items x old new after (noted, others) (first, rest) =
    (first_noted place (Breaks r) items x (field old) (field new) after noted first, noted_more place Breaks notes items x old new after others rest)

-- One segment more

module _ (passed : List SegmentView) (s : SegmentView) where
  mapped_append : memory_among (passed ++ s ∷ []) ≡ memory_among passed ++ memory_among (s ∷ [])
  mapped_append =
      ap (map (λ t. (memory_at t.image t.place, t.place))) (filter-append (λ t. nat_lt 0 (vmsize t.image t.place)) passed (s ∷ []))
      ∙ map-append (λ (t : SegmentView). (memory_at t.image t.place, t.place)) (filter (λ t. nat_lt 0 (vmsize t.image t.place)) passed) (filter (λ t. nat_lt 0 (vmsize t.image t.place)) (s ∷ []))

  or_map : (first next : Option SegmentView) → option_map (λ t. vmaddr t.image t.place) (option_or first next)
      ≡ option_or (option_map (λ t. vmaddr t.image t.place) first) (option_map (λ t. vmaddr t.image t.place) next)
  or_map None next = refl
  or_map (Some t) next = refl

  base_append : base_among (passed ++ s ∷ []) ≡ option_or (base_among passed) (base_among (s ∷ []))
  base_append =
      ap (option_map (λ t. vmaddr t.image t.place)) (find-append (λ t. shows_start t.image t.place) passed (s ∷ []))
      ∙ or_map (find (λ t. shows_start t.image t.place) passed) (find (λ t. shows_start t.image t.place) (s ∷ []))

  pub sections_append : sections_among (passed ++ s ∷ []) ≡ sections_among passed ++ map (section_at s.image) (sections_with s.image s.place)
  sections_append =
      flat_map-append (λ t. map (section_at t.image) (sections_with t.image t.place)) passed (s ∷ [])
      ∙ ap (λ more. sections_among passed ++ more) (append-nil (map (section_at s.image) (sections_with s.image s.place)))

  pub unmapped_more : (mapped : Mapped) → vmsize s.image s.place ≡ 0 → AreMapped passed mapped → AreMapped (passed ++ s ∷ []) mapped
  unmapped_more mapped none are = record {
    order = subst (λ pairs. IsOrderOf pairs mapped.order) (sym same) are.order;
    count = are.count ∙ ap (λ pairs. min (length pairs) (2 ^ 64 - 1)) (sym same);
    base = are.base ∙ sym (base_append ∙ based);
  }
    where
      same : memory_among (passed ++ s ∷ []) ≡ memory_among passed
      same = mapped_append ∙ rw none (append-nil (memory_among passed))

      or_none : (first : Option ℕ) → option_or first None ≡ first
      or_none None = refl
      or_none (Some p) = refl

      false_last : (test : Bool) → option_map (λ t. vmaddr t.image t.place) (if test && false then Some s else None) ≡ None
      false_last true = refl
      false_last false = refl

      no_base : base_among (s ∷ []) ≡ None
      no_base = rw none (false_last (fileoff s.image s.place == 0 && nat_lt 0 (filesize s.image s.place)))

      based : option_or (base_among passed) (base_among (s ∷ [])) ≡ base_among passed
      based = ap (option_or (base_among passed)) no_base ∙ or_none (base_among passed)

  pub mapped_more : (old new : Mapped) → 0 < vmsize s.image s.place → ((pairs : List (Span × ℕ)) → IsOrderOf pairs old.order → IsOrderOf (pairs ++ (memory_at s.image s.place, s.place) ∷ []) new.order)
      → new.count ≡ min (old.count + 1) (2 ^ 64 - 1) → new.base ≡ option_or old.base (base_among (s ∷ [])) → AreMapped passed old → AreMapped (passed ++ s ∷ []) new
  mapped_more old new more order count base are = record {
    order = subst (λ pairs. IsOrderOf pairs new.order) (sym same) (order (memory_among passed) are.order);
    count = let longer = ap length same ∙ length-append (memory_among passed) ((memory_at s.image s.place, s.place) ∷ []) in omega (arith, count, are.count, longer);
    base = base ∙ (ap (λ first. option_or first (base_among (s ∷ []))) are.base ∙ sym base_append);
  }
    where
      same : memory_among (passed ++ s ∷ []) ≡ memory_among passed ++ (memory_at s.image s.place, s.place) ∷ []
      same = mapped_append ∙ (let t = lt-ltb 0 (vmsize s.image s.place) more in rw t refl)

pub counted_more : (passed : List SegmentView) (s : SegmentView) (old count new : ℕ) → new ≡ min (old + count) (2 ^ 64 - 1) → count ≡ nsects s.image s.place
    → old ≡ min (sum_by (λ t. nsects t.image t.place) passed) (2 ^ 64 - 1) → new ≡ min (sum_by (λ t. nsects t.image t.place) (passed ++ s ∷ [])) (2 ^ 64 - 1)
counted_more passed s old count new is here before =
    let sum = sum_by-append (λ (t : SegmentView). nsects t.image t.place) passed (s ∷ []) in
    let single = sum_by-cons (λ (t : SegmentView). nsects t.image t.place) s [] in omega (arith, is, here, before, sum, single)

-- The sections of a segment

module _ (s : SegmentView) (all : List SectionView) (are : all ≡ map (section_at s.image) (sections_with s.image s.place)) (seen : List SectionView) (x : SectionView) (rest : List SectionView)
    (here : all ≡ seen ++ x ∷ rest) where
  found : (pair : ℕ × ℕ) × Contains (sections_with s.image s.place) pair × (section_at s.image pair ≡ x)
  found = mapped_has (section_at s.image) (sections_with s.image s.place) x (subst (λ xs. Contains xs x) are (reached_has all seen x rest here))

  past_segment : s.place ≤ x.place
  past_segment =
      let (same, among) = with_segment s.image s.place found.0 found.1 in
      let at : found.0.1 ≡ x.place = ap (λ (t : SectionView). t.place) found.2 in
      let low = after_segment s.image s.place found.0.1 among in omega (arith, at, low)

  -- the sections before it are not past it
  pub sections_end_by : (passed : List SectionView) → EndBy (λ t. t.place) passed s.place → EndBy (λ t. t.place) (passed ++ seen) x.place
  sections_end_by passed after y has = elim (Contains-append_cases passed seen y has) [
    | inl before ↦ let low : y.place ≤ s.place = after y before in let high = past_segment in omega (arith, low, high)
    | inr among ↦ ordered_before (λ (a b : SectionView). a.place ≤ b.place) seen x rest
        (subst (Ordered (λ (a b : SectionView). a.place ≤ b.place)) (sym are ∙ here)
        (ordered_map (λ (a b : SectionView). a.place ≤ b.place) (section_at s.image) (sections_with s.image s.place) (sections_rise s.image s.place))) y among
  ]

-- All segments of an opened image

-- of each rule that was noted of all items, the image breaks it first where it is noted
least_places : {X B : Type 0} (image : List ℕ) (opened : IsOpened image) (place : X → ℕ) (Breaks : Rule → X → Type 0) (all : List X) (notes : Notes B) (breaks : B)
    → AllByRecursion (λ note. (rank rule.SegmentAddress ≤ rank note.0) × AreBreaks (BreaksCommands image (commands_of image) note.0) place (Breaks note.0) all) notes
    → AreFirstByRule place Breaks notes all breaks → AreLeastByRule image notes breaks
least_places image opened place Breaks all [] breaks are first = tt
least_places image opened place Breaks all ((r, field) ∷ notes) breaks ((late, breaking), others) (first, rest) =
    (least_place image opened r late place (Breaks r) all breaking (field breaks) first, least_places image opened place Breaks all notes breaks others rest)

of_sections : (segments : List SegmentView) (q : SectionView) → Contains (sections_among segments) q
    → (t : SegmentView) × Contains segments t × Contains (map (section_at t.image) (sections_with t.image t.place)) q
of_sections [] q has = absurd (none_in_nil q has)
of_sections (t ∷ ts) q has = elim (Contains-append_cases (map (section_at t.image) (sections_with t.image t.place)) (sections_among ts) q has) [
  | inl here ↦ (t, contains_first t ts, here)
  | inr later ↦ (let (u, among, in_u) = of_sections ts q later in (u, contains_later t u ts among, in_u))
]

module _ (image : List ℕ) (opened : IsOpened image) (all : List SegmentView) (are : AreSegments image all) where
  module _ (seen : List SegmentView) (x : SegmentView) (rest : List SegmentView) (here : all ≡ seen ++ x ∷ rest) where
    spread : (y : SegmentView) → Contains seen y → EndsBefore image y.place x.place
    spread y among =
        ordered_before (λ (a b : SegmentView). EndsBefore image a.place b.place) seen x rest
        (subst (Ordered (λ (a b : SegmentView). EndsBefore image a.place b.place)) (sym are ∙ here)
        (ordered_map (λ (a b : SegmentView). EndsBefore image a.place b.place) (segment_at image) _ (segments_spread image opened))) y among

    seen_among : (y : SegmentView) → Contains seen y → Contains all y
    seen_among y among = subst (λ ys. Contains ys y) (sym here) (Contains-append_left seen (x ∷ rest) y among)

    pub segments_end_by : EndBy (λ t. t.place) seen x.place
    segments_end_by y among = let apart = spread y among in omega (arith, apart)

    -- the sections of the segments before it come before it
    pub all_end_by : EndBy (λ t. t.place) (sections_among seen) x.place
    all_end_by q has =
        let (t, among, in_t) = of_sections seen q has in
        let is : t.image ≡ image = ap (λ (u : SegmentView). u.image) (segment_of image all are t (seen_among t among)) in
        let (pair, with_t, at) = mapped_has (section_at t.image) (sections_with t.image t.place) q in_t in
        let (same, inside) = with_segment t.image t.place pair with_t in
        let before = section_before image opened t.place x.place pair.1 (segment_among image all are t (seen_among t among)) (spread t among)
        (subst (λ bytes. Contains (sections_in bytes t.place) pair.1) is inside) in
        let place : pair.1 ≡ q.place = ap (λ (u : SectionView). u.place) at in omega (arith, before, place)

-- What is found at the end

module _ (image : List ℕ) where
  sections_all : (ps : List ℕ) → sections_among (map (segment_at image) ps) ≡ map (section_at image) (flat_map (sections_with image) ps)
  sections_all [] = refl
  sections_all (p ∷ ps) =
      ap (λ rest. map (section_at image) (sections_with image p) ++ rest) (sections_all ps) ∙ sym (map-append (section_at image) (sections_with image p) (flat_map (sections_with image) ps))

  mapped_all : (ps : List ℕ) → memory_among (map (segment_at image) ps) ≡ map (λ p. (memory_at image p, p)) (filter (λ p. nat_lt 0 (vmsize image p)) ps)
  mapped_all [] = refl
  mapped_all (p ∷ ps) =
      let rest = mapped_all ps in
      elim (cases_Bool (nat_lt 0 (vmsize image p))) [ inl t ↦ rw t (ap (λ pairs. (memory_at image p, p) ∷ pairs) rest) | inr f ↦ rw f rest ]

  base_all : (ps : List ℕ) → base_among (map (segment_at image) ps) ≡ option_map (vmaddr image) (find (shows_start image) ps)
  base_all [] = refl
  base_all (p ∷ ps) = let rest = base_all ps in elim (cases_Bool (shows_start image p)) [ inl t ↦ rw t refl | inr f ↦ rw f rest ]

  counted_all : (ps : List ℕ) → sum_by (λ s. nsects s.image s.place) (map (segment_at image) ps) ≡ sum_by (nsects image) ps
  counted_all [] = refl
  counted_all (p ∷ ps) =
      sum_by-cons (λ (s : SegmentView). nsects s.image s.place) (segment_at image p) (map (segment_at image) ps)
      ∙ (ap (λ n. nsects image p + n) (counted_all ps) ∙ sym (sum_by-cons (nsects image) p ps))

  fits_from : (ps : List ℕ) (low : ℕ) → low ≤ length image → Ordered (EndsBefore image) ps
      → ((p : ℕ) → Contains ps p → (low ≤ p) × (p + command_size image p ≤ length image) × (80 * nsects image p ≤ command_size image p)) → low + 80 * sum_by (nsects image) ps ≤ length image
  fits_from [] low within order hold = omega arith
  fits_from (p ∷ ps) low within (first, rest) hold =
      let (below, inside, holds) = hold p (contains_first p ps) in
      let more = fits_from ps (p + command_size image p) inside rest (λ q has. let (_, ends, fits) = hold q (contains_later p q ps has) in (first q has, ends, fits)) in
      let sum = sum_by-cons (nsects image) p ps in omega (arith, below, holds, more, sum)

  -- so many sections lie inside the image
  count_fits : IsOpened image → 80 * section_count image (commands_of image) ≤ length image
  count_fits opened =
      let fits = fits_from (segments_of image (commands_of image)) 0 (omega arith) (segments_spread image opened)
      (λ p has.
      let among = with_cmd_among image (commands_of image) loader.LC_SEGMENT_64 p has in
      let holds = sections_inside image (commands_of image) (opened_facts image opened) (opened_commands image opened) p among (with_cmd_is image (commands_of image) loader.LC_SEGMENT_64 p has) in
      (omega arith, command_inside image (commands_of image) (opened_facts image opened) (opened_commands image opened) p among, omega (arith, holds))) in
      omega (arith, fits)

  pub survey_found : (opened : IsOpened image) (all : List SegmentView) → AreSegments image all → (segments : SegmentBreaks) (sections : SectionBreaks) (mapped : Mapped) (count : ℕ)
      → length image < 2 ^ 64 → AreFirstSegments all segments → AreFirstSections (sections_among all) sections → AreMapped all mapped
      → count ≡ min (sum_by (λ s. nsects s.image s.place) all) (2 ^ 64 - 1) → IsImageSurvey image segments sections mapped count
  survey_found opened all are segments sections mapped count short first_segments first_sections are_mapped counted = record {
    opened = opened;
    segment_rules = least_places image opened (λ s. s.place) BreaksSegment all segment_notes segments (search (rules, tests, segment_rule_breaks image all are)) first_segments;
    section_rules = least_places image opened (λ s. s.place) BreaksSection (sections_among all) section_notes sections (search (rules, tests, section_rule_breaks image _ opened are_sections)) first_sections;
    section_count =
        let sum = ap (sum_by (λ s. nsects s.image s.place)) are ∙ counted_all (segments_of image (commands_of image)) in
        let fits = count_fits opened in omega (arith, counted, sum, fits, short);
    order = subst (λ pairs. IsOrderOf pairs mapped.order) pairs are_mapped.order;
    mapped_count =
        let many = ap length pairs ∙ length-map (mapped_segments image) (λ p. (memory_at image p, p)) in omega (arith, are_mapped.count, many);
    base = are_mapped.base ∙ (ap base_among are ∙ base_all (segments_of image (commands_of image)));
  }
    where
      are_sections : sections_among all ≡ map (section_at image) (flat_map (sections_with image) (segments_of image (commands_of image)))
      are_sections = ap sections_among are ∙ sections_all (segments_of image (commands_of image))

      pairs : memory_among all ≡ tagged_memory image
      pairs = ap memory_among are ∙ mapped_all (segments_of image (commands_of image))
