-- The search for the first segment that fixups name and that has another number or start by its sections.
use Rattle.std.proofs.Common.{◌≡◌, ◌↔◌, ℕ, zero, suc, ◌+◌, ◌*◌, ◌^◌, ◌≤◌, ◌<◌, ◌⊎◌, ◌==◌, List, [], ◌∷◌, ◌++◌, map, filter, length, get_or, Contains, Bool, true, false, Some, IsTrue, drop, le_refl, refl, sym, ap, ◌∙◌, subst, arith, rules, tests, inl, inr, length-append, append_assoc}
use mir.Val.{bool_byte}
use Rattle.std.specs.Prelude.{nat_lt, not}
use Rattle.std.specs.List.{range_with_len}
use Rattle.std.proofs.lemmas.Bool.{cases_Bool, cases_lt, lt-ltb, false≢true}
use Rattle.std.proofs.lemmas.List.{append-nil}
use Rattle.std.proofs.lemmas.List.Elements.{filter-append, Contains-append_cases, Contains-append_right}
use Rattle.macho_fields.specs.FirstPlace.{IsLeastPlace}
use Rattle.macho_fields.specs.Image.{commands_of}
use Rattle.macho_fields.specs.Segment.{all_segments, nsects, vmaddr, section_address}
use Rattle.macho_fields.proofs.Lists.{contains_first, contains_later, first_or_later, only_one, none_in_nil}
use Rattle.macho_image.specs.Opened.{IsOpened}
use Rattle.macho_image.specs.Segment.{SectionView, SegmentView, section_at, segment_at, sections_with}
use Rattle.macho_rules.proofs.Judged.{opened_commands}
use Rattle.macho_rules.proofs.Searches.{Ordered, ordered_filter, ordered_after}
use Rattle.macho_rules.proofs.Surveys.{ordered_before}
use Rattle.macho_tables.proofs.Roomy.{segments_few}
use Rattle.macho_readers.specs.Fixups.{FixupsName}
use Rattle.macho_readers.specs.Order.{earlier_segments, segment_number, earlier_runs, HasPageZero, IsRunNumber, LacksStart, ShiftsFixups, DiffersBy, ShiftsFixupsAt}
use Rattle.macho_readers.proofs.Counts.{not_lower}
use Rattle.macho_readers.proofs.Numbers.{filter_all}
use Rattle.macho_readers.proofs.Platforms.{rises_from}

-- The first section of a segment

abbrev views : List ℕ → ℕ → ℕ → List SectionView
views image segment n = map (section_at image) (map (λ section. (segment, section)) (map (λ k. segment + 72 + 80 * k) (range_with_len 0 n)))

first_view : (image : List ℕ) (segment n : ℕ) (s : SectionView) (rest : List SectionView) → 0 < n → views image segment n ≡ s ∷ rest → s ≡ section_at image (segment, segment + 72)
first_view image segment zero s rest some is = absurd (omega arith)
first_view image segment (suc n) s rest some is =
    sym (ap (λ (these : List SectionView). get_or these 0 s) is) ∙ ap (λ (place : ℕ). section_at image (segment, place)) (omega arith)

no_views : (image : List ℕ) (segment n : ℕ) → 0 < n → views image segment n ≡ [] → ⊥
no_views image segment zero some is = absurd (omega arith)
no_views image segment (suc n) some is = absurd (cc)

differ : (a b : ℕ) → IsTrue (not (a == b)) ↔ ¬ (a ≡ b)
differ a b = search (rules, tests)

late : (image : List ℕ) (segment : ℕ) (s : SectionView) (rest : List SectionView) → 0 < nsects image segment → map (section_at image) (sections_with image segment) ≡ s ∷ rest
    → (addr start : ℕ) → addr ≡ section_address s.image s.place → start ≡ vmaddr image segment → IsTrue (not (addr == start)) ↔ ¬ (section_address image (segment + 72) ≡ vmaddr image segment)
late image segment s rest some is addr start at from =
    let first = first_view image segment (nsects image segment) s rest some is in
    let address : addr ≡ section_address image (segment + 72) = at ∙ ap (λ (v : SectionView). section_address v.image v.place) first in
    subst (λ (n : ℕ). IsTrue (not (addr == start)) ↔ ¬ (n ≡ vmaddr image segment)) address (subst (λ (n : ℕ). IsTrue (not (addr == start)) ↔ ¬ (addr ≡ n)) from (differ addr start))

no_first : (image : List ℕ) (segment : ℕ) → 0 < nsects image segment → map (section_at image) (sections_with image segment) ≡ [] → ⊥
no_first image segment some is = no_views image segment (nsects image segment) some is

view_some : (image : List ℕ) (segment n : ℕ) (s : SectionView) (rest : List SectionView) → views image segment n ≡ s ∷ rest → 0 < n
view_some image segment zero s rest is = absurd (cc)
view_some image segment (suc n) s rest is = omega arith

pub lacks_some : (image : List ℕ) (segment : ℕ) (s : SectionView) (rest : List SectionView) → map (section_at image) (sections_with image segment) ≡ s ∷ rest
    → (addr start : ℕ) → addr ≡ section_address s.image s.place → start ≡ vmaddr image segment → IsTrue (not (addr == start)) ↔ LacksStart image segment
lacks_some image segment s rest is addr start at from =
    let some = view_some image segment (nsects image segment) s rest is in
    let here = late image segment s rest some is addr start at from in (
      λ true_is. inr (here.0 true_is),
      λ lacks. elim lacks [ inl none ↦ absurd (omega (arith, none, some)) | inr other ↦ here.1 other ],
    )

pub lacks_none : (image : List ℕ) (segment : ℕ) → map (section_at image) (sections_with image segment) ≡ [] → IsTrue true ↔ LacksStart image segment
lacks_none image segment is = (
  λ _. elim (cases_lt 0 (nsects image segment)) [ inl some ↦ absurd (no_first image segment some is) | inr none ↦ inl (omega (arith, none)) ],
  λ _. refl,
)

-- The segments that were passed, and those that are left

-- what is counted before the first segment
abbrev pub IsFirstRun : List ℕ → ℕ → Type 0
IsFirstRun image first = (HasPageZero image × (first ≡ 1)) ⊎ ((¬ HasPageZero image) × (first ≡ 0))

pub first_run : (image : List ℕ) (is : Bool) (first : ℕ) → IsTrue is ↔ HasPageZero image → first ≡ bool_byte is → IsFirstRun image first
first_run image true first says at = inl (says.0 refl, at)
first_run image false first says at = inr ((λ has. absurd (false≢true (says.1 has))), at)

abbrev has_sections : List ℕ → ℕ → Bool
has_sections image segment = nat_lt 0 (nsects image segment)

pub record AreCounted (image : List ℕ) (views : List SegmentView) (number run : ℕ) : Type 0 where
  pub seen : List ℕ
  pub left : List ℕ
  pub first : ℕ
  pub all : all_segments image ≡ seen ++ left
  pub are : views ≡ map (segment_at image) left
  pub number_is : number ≡ length seen
  pub first_is : IsFirstRun image first
  pub run_is : run ≡ length (filter (has_sections image) seen) + first
  pub none : (segment : ℕ) → Contains seen segment → ¬ ShiftsFixups image segment

pub counted_none : (image : List ℕ) (these : List SegmentView) (first : ℕ) → these ≡ map (segment_at image) (all_segments image) → IsFirstRun image first → AreCounted image these 0 first
counted_none image these first are is = record {
  seen = [];
  left = all_segments image;
  first = first;
  all = refl;
  are = are;
  number_is = refl;
  first_is = is;
  run_is = omega arith;
  none = λ segment has. absurd (none_in_nil segment has);
}

filter_none : (test : ℕ → Bool) (xs : List ℕ) → ((x : ℕ) → Contains xs x → test x ≡ false) → filter test xs ≡ []
filter_none test [] none = refl
filter_none test (x ∷ xs) none = rw (none x (contains_first x xs)) (filter_none test xs (λ y has. none y (contains_later x y xs has)))

filter_short : (test : ℕ → Bool) (xs : List ℕ) → length (filter test xs) ≤ length xs
filter_short test [] = omega arith
filter_short test (x ∷ xs) = let more = filter_short test xs in elim (cases_Bool (test x)) [ inl t ↦ rw t (omega arith) | inr f ↦ rw f (omega arith) ]

-- the next view is of the next segment
split : (image places : List ℕ) (v : SegmentView) (rest : List SegmentView) → map (segment_at image) places ≡ v ∷ rest
    → (p : ℕ) × (ps : List ℕ) × (places ≡ p ∷ ps) × (v ≡ segment_at image p) × (rest ≡ map (segment_at image) ps)
split image [] v rest is = absurd (cc)
split image (p ∷ ps) v rest is = (p, ps, refl, sym (ap (λ (these : List SegmentView). get_or these 0 v) is), sym (ap (λ (these : List SegmentView). drop 1 these) is))

run_one : (image : List ℕ) (segment a b : ℕ) → IsRunNumber image segment a → IsRunNumber image segment b → a ≡ b
run_one image segment a b (inl (_, x)) (inl (_, y)) = x ∙ sym y
run_one image segment a b (inl (has, x)) (inr (without, y)) = absurd (without has)
run_one image segment a b (inr (without, x)) (inl (has, y)) = absurd (without has)
run_one image segment a b (inr (_, x)) (inr (_, y)) = x ∙ sym y

module _ (image : List ℕ) (opened : IsOpened image) where
  rise : Ordered (λ a b. a < b) (all_segments image)
  rise = ordered_filter (λ a b. a < b) _ (commands_of image) (let (count, next, chain) = opened_commands image opened in rises_from image 32 (commands_of image) next chain)

  module _ (seen rest : List ℕ) (s : ℕ) (is : all_segments image ≡ seen ++ s ∷ rest) where
    order : Ordered (λ a b. a < b) (seen ++ s ∷ rest)
    order = subst (Ordered (λ a b. a < b)) is rise

    below : (x : ℕ) → Contains seen x → x < s
    below = ordered_before (λ a b. a < b) seen s rest order

    above : (x : ℕ) → Contains rest x → s < x
    above = (ordered_after (λ a b. a < b) seen (s ∷ rest) order).0

    earlier : earlier_segments image s ≡ seen
    earlier =
        ap (filter (λ e. nat_lt e s)) is
        ∙ (filter-append (λ e. nat_lt e s) seen (s ∷ rest)
        ∙ (ap (λ (these : List ℕ). these ++ filter (λ e. nat_lt e s) (s ∷ rest)) (filter_all (λ e. nat_lt e s) seen (λ x has. let less = below x has in lt-ltb x s less))
        ∙ (ap (λ (these : List ℕ). seen ++ these) (filter_none (λ e. nat_lt e s) (s ∷ rest) no_later) ∙ append-nil seen)))
      where
        no_later : (x : ℕ) → Contains (s ∷ rest) x → nat_lt x s ≡ false
        no_later x has = elim (first_or_later s x rest has) [
          | inl same ↦ not_lower x s (subst (λ y. s ≤ y) same (le_refl s))
          | inr later ↦ let more = above x later in not_lower x s (omega (arith, more))
        ]

  module _ {views : List SegmentView} {number run : ℕ} (counted : AreCounted image views number run) (v : SegmentView) (rest : List SegmentView) (next : views ≡ v ∷ rest) where
    its : (p : ℕ) × (ps : List ℕ) × (counted.left ≡ p ∷ ps) × (v ≡ segment_at image p) × (rest ≡ map (segment_at image) ps)
    its = split image counted.left v rest (sym counted.are ∙ next)

    here : all_segments image ≡ counted.seen ++ its.0 ∷ its.1
    here = counted.all ∙ ap (λ (these : List ℕ). counted.seen ++ these) its.2

    its_number : segment_number image its.0 ≡ number
    its_number = ap length (earlier counted.seen its.1 its.0 here) ∙ sym counted.number_is

    its_run : IsRunNumber image its.0 run
    its_run = either counted.first_is
      where
        runs : run ≡ earlier_runs image its.0 + counted.first
        runs = counted.run_is ∙ ap (λ (these : List ℕ). length (filter (has_sections image) these) + counted.first) (sym (earlier counted.seen its.1 its.0 here))

        either : IsFirstRun image counted.first → IsRunNumber image its.0 run
        either (inl (has, first)) = inl (has, runs ∙ ap (λ n. earlier_runs image its.0 + n) first)
        either (inr (without, first)) = inr (without, runs ∙ (ap (λ n. earlier_runs image its.0 + n) first ∙ omega arith))

    shifts : DiffersBy number run image its.0 × FixupsName image number ↔ ShiftsFixups image its.0
    shifts = (
      λ (differs, named). (
        subst (FixupsName image) (sym its_number) named,
        elim differs [ inl other ↦ inl (run, its_run, λ same. other (sym its_number ∙ same)) | inr begins ↦ inr begins ],
      ),
      λ (named, differs). (
        elim differs [ inl other ↦ inl (λ same. other.2 (its_number ∙ (same ∙ run_one image its.0 run other.0 its_run other.1))) | inr begins ↦ inr begins ],
        subst (FixupsName image) its_number named,
      ),
    )

    abbrev pub Shifted : SegmentView → Type 0
    Shifted w = DiffersBy number run w.image w.place × FixupsName image number

    pub found : Shifted v → IsLeastPlace (ShiftsFixupsAt image) (Some v.place)
    found shifted =
        subst (λ (w : SegmentView). IsLeastPlace (ShiftsFixupsAt image) (Some w.place)) (sym its.3) (
          (subst (λ (these : List ℕ). Contains these its.0) (sym here) (Contains-append_right counted.seen (its.0 ∷ its.1) its.0 (contains_first its.0 its.1)), broken),
          λ place (has, shifts_there). least place shifts_there (Contains-append_cases counted.seen (its.0 ∷ its.1) place (subst (λ (these : List ℕ). Contains these place) here has)),
        )
      where
        broken : ShiftsFixups image its.0
        broken = shifts.0 (subst Shifted its.3 shifted)

        least : (place : ℕ) → ShiftsFixups image place → Contains counted.seen place ⊎ Contains (its.0 ∷ its.1) place → its.0 ≤ place
        least place there (inl before) = absurd (counted.none place before there)
        least place there (inr after) = elim (first_or_later its.0 place its.1 after) [
          | inl same ↦ subst (λ y. its.0 ≤ y) same (le_refl its.0)
          | inr later ↦ let more = above counted.seen its.1 its.0 here place later in omega (arith, more)
        ]

    more : ¬ Shifted v → (now : ℕ) → now ≡ length (filter (has_sections image) (counted.seen ++ its.0 ∷ [])) + counted.first → AreCounted image rest (number + 1) now
    more kept now run_now = record {
      seen = counted.seen ++ its.0 ∷ [];
      left = its.1;
      first = counted.first;
      all = here ∙ sym (append_assoc counted.seen (its.0 ∷ []) its.1);
      are = its.4;
      number_is = let size = length-append counted.seen (its.0 ∷ []) in let at = counted.number_is in omega (arith, size, at);
      first_is = counted.first_is;
      run_is = run_now;
      none = λ segment has. none segment (Contains-append_cases counted.seen (its.0 ∷ []) segment has);
    }
      where
        not_here : ¬ ShiftsFixups image its.0
        not_here broken = kept (subst Shifted (sym its.3) (shifts.1 broken))

        none : (segment : ℕ) → Contains counted.seen segment ⊎ Contains (its.0 ∷ []) segment → ¬ ShiftsFixups image segment
        none segment (inl before) = counted.none segment before
        none segment (inr last) = subst (λ q. ¬ ShiftsFixups image q) (only_one its.0 segment last) not_here

    last : filter (has_sections image) (counted.seen ++ its.0 ∷ []) ≡ filter (has_sections image) counted.seen ++ filter (has_sections image) (its.0 ∷ [])
    last = filter-append (has_sections image) counted.seen (its.0 ∷ [])

    pub with_sections : ¬ Shifted v → 0 < nsects v.image v.place → AreCounted image rest (number + 1) (run + 1)
    with_sections kept some = more kept (run + 1) counts
      where
        has : has_sections image its.0 ≡ true
        has = lt-ltb 0 (nsects image its.0) (subst (λ (w : SegmentView). 0 < nsects w.image w.place) its.3 some)

        one : filter (has_sections image) (its.0 ∷ []) ≡ its.0 ∷ []
        one = rw has refl

        counts : run + 1 ≡ length (filter (has_sections image) (counted.seen ++ its.0 ∷ [])) + counted.first
        counts =
            let size = ap length last ∙ (length-append (filter (has_sections image) counted.seen) (filter (has_sections image) (its.0 ∷ [])) ∙ ap (λ (these : List ℕ). length (filter (has_sections image) counted.seen) + length these) one) in
            let at = counted.run_is in omega (arith, size, at)

    pub without_sections : ¬ Shifted v → nsects v.image v.place ≤ 0 → AreCounted image rest (number + 1) run
    without_sections kept some = more kept run counts
      where
        has : has_sections image its.0 ≡ false
        has = not_lower 0 (nsects image its.0) (subst (λ (w : SegmentView). nsects w.image w.place ≤ 0) its.3 some)

        nothing : filter (has_sections image) (its.0 ∷ []) ≡ []
        nothing = rw has refl

        counts : run ≡ length (filter (has_sections image) (counted.seen ++ its.0 ∷ [])) + counted.first
        counts =
            let size = ap length last ∙ (length-append (filter (has_sections image) counted.seen) (filter (has_sections image) (its.0 ∷ [])) ∙ ap (λ (these : List ℕ). length (filter (has_sections image) counted.seen) + length these) nothing) in
            let at = counted.run_is in omega (arith, size, at)

  pub number_fits : {views : List SegmentView} {number run : ℕ} → AreCounted image views number run → length image < 2 ^ 64 → (number + 1 < 2 ^ 64) × (run + 1 < 2 ^ 64)
  number_fits {run = run} counted short =
      let few = segments_few image opened short in
      let size = ap length counted.all ∙ length-append counted.seen counted.left in
      let at = counted.number_is in
      let runs = counted.run_is in
      let less = filter_short (has_sections image) counted.seen in
      let first : counted.first ≤ 1 = elim counted.first_is [ inl one ↦ let is = one.1 in omega (arith, is) | inr none ↦ let is = none.1 in omega (arith, is) ] in
      (omega (arith, few, size, at), omega (arith, few, size, runs, less, first))

  pub ended : {views : List SegmentView} {number run : ℕ} → AreCounted image views number run → views ≡ [] → (place : ℕ) → ¬ ShiftsFixupsAt image place
  ended counted over place (has, shifts_there) = either (Contains-append_cases counted.seen counted.left place (subst (λ (these : List ℕ). Contains these place) counted.all has))
    where
      nothing : (places : List ℕ) → map (segment_at image) places ≡ [] → Contains places place → ⊥
      nothing [] is among = none_in_nil place among
      nothing (p ∷ ps) is among = absurd (let same : length (map (segment_at image) (p ∷ ps)) ≡ 0 = ap length is in omega (arith, same))

      either : Contains counted.seen place ⊎ Contains counted.left place → ⊥
      either (inl before) = counted.none place before shifts_there
      either (inr after) = nothing counted.left (sym counted.are ∙ over) after
