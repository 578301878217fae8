-- The load commands of any bytes lie one behind the other.
use Rattle.std.proofs.Common.{◌≡◌, ◌∙◌, ℕ, zero, suc, ◌+◌, ◌-◌, ◌*◌, ◌%◌, ◌≤◌, ◌<◌, List, [], ◌∷◌, length, Bool, true, ◌==◌, filter, ◌⊎◌, inl, inr, refl, sym, ap, arith, subst}
use Rattle.std.specs.Prelude.{slice_get, Some, None, nat_le, ◌&&◌}
use Rattle.std.proofs.lemmas.Bool.{cases_Bool, cases_lt, cases_order, and_from, and_parts, eqb-true, le-leb, leb-true, lt-ltb}
use Rattle.std.proofs.lemmas.Option.{same_Some}
use Rattle.macho_fields.specs.Image.{command_cmd, command_size, command_count, commands_end}
use Rattle.macho_fields.specs.Segment.{nsects}
use Rattle.macho_fields.specs.declared.header.loader.TheConstants as loader
use Rattle.macho_rows.specs.Loads.{is_command, is_segment, is_wanted, commands_from}
use Rattle.macho_rows.specs.declared.load.Wanted.TheVariants as wanted
use Rattle.macho_rows.specs.Sections.{nsects_at}
use Rattle.macho_spans.specs.Span.{Covers}
use Rattle.macho_explain.specs.Commanded.{HasEarlier, HasSection}
use Rattle.macho_explain.specs.Compared.{HasCommand}
use Rattle.macho_explain.specs.Explain.{all_loads, all_segment_loads, long_at, IsFirstOf, IsUncounted, IsWalked, Meets, NoneMeetsBefore}
use Rattle.macho_explain.specs.Readers.{first_address}
use Rattle.macho_explain.specs.declared.walk.Sought.{Sought}
use Rattle.macho_explain.specs.declared.walk.Sought.TheVariants as sought
use Rattle.macho_explain.specs.declared.walk.Walked.{Walked}

module _ {A : Type 0} (p : A → Bool) where
  -- it is at an index, and passes
  abbrev pub IsIn : List A → A → Type 0
  IsIn xs x = (j : ℕ) × (slice_get xs j ≡ Some x) × (p x ≡ true)

  later : (y : A) (xs : List A) (x : A) → IsIn xs x → IsIn (y ∷ xs) x
  later y xs x (j, at, passes) = (suc j, at, passes)

  first : (y : A) (xs rest : List A) (k : ℕ) (x : A) → ((j : ℕ) → slice_get rest j ≡ Some x → IsIn xs x) → p y ≡ true → slice_get (y ∷ rest) k ≡ Some x → IsIn (y ∷ xs) x
  first y xs rest zero x among passes is = let same : y ≡ x = same_Some y x is in (0, is, subst (λ z. p z ≡ true) same passes)
  first y xs rest (suc k) x among passes is = later y xs x (among k is)

  -- what is kept was there, and passes
  pub kept : (xs : List A) (k : ℕ) (x : A) → slice_get (filter p xs) k ≡ Some x → IsIn xs x
  kept [] k x is = absurd (cc)
  kept (y ∷ xs) k x is = elim (cases_Bool (p y)) [
    | inl passes ↦ first y xs (filter p xs) k x (λ j. kept xs j x) passes (rw passes at is)
    | inr fails ↦ later y xs x (kept xs k x (rw fails at is))
  ]

  one_more : (y : A) (xs : List A) (x : A) → p y ≡ true → (k : ℕ) × (slice_get (filter p xs) k ≡ Some x) → (k : ℕ) × (slice_get (filter p (y ∷ xs)) k ≡ Some x)
  one_more y xs x holds (k, at) = (suc k, rw holds at)

  -- what passes is kept
  pub keeps : (xs : List A) (j : ℕ) (x : A) → slice_get xs j ≡ Some x → p x ≡ true → (k : ℕ) × (slice_get (filter p xs) k ≡ Some x)
  keeps [] j x is passes = absurd (cc)
  keeps (y ∷ xs) zero x is passes =
      let same : y ≡ x = same_Some y x is in
      let holds : p y ≡ true = subst (λ z. p z ≡ true) (sym same) passes in (0, rw holds is)
  keeps (y ∷ xs) (suc j) x is passes = elim (cases_Bool (p y)) [
    | inl holds ↦ one_more y xs x holds (keeps xs j x is passes)
    | inr fails ↦ let (k, at) = keeps xs j x is passes in (k, rw fails at)
  ]

  -- the first that passes is kept first
  pub kept_first : (xs : List A) (k : ℕ) (x : A) → slice_get xs k ≡ Some x → p x ≡ true → ((j : ℕ) (y : A) → j < k → slice_get xs j ≡ Some y → ¬ (p y ≡ true))
      → slice_get (filter p xs) 0 ≡ Some x
  kept_first [] k x is passes before = absurd (cc)
  kept_first (y ∷ xs) zero x is passes before =
      let same : y ≡ x = same_Some y x is in
      let holds : p y ≡ true = subst (λ z. p z ≡ true) (sym same) passes in rw holds is
  kept_first (y ∷ xs) (suc k) x is passes before = elim (cases_Bool (p y)) [
    | inl holds ↦ absurd (before 0 y (omega arith) refl holds)
    | inr fails ↦ rw fails (kept_first xs k x is passes (λ j z less at. before (suc j) z (omega (arith, less)) at))
  ]

  pub none_kept : (xs : List A) → ((j : ℕ) (y : A) → slice_get xs j ≡ Some y → ¬ (p y ≡ true)) → slice_get (filter p xs) 0 ≡ None
  none_kept [] none = refl
  none_kept (y ∷ xs) none = elim (cases_Bool (p y)) [
    | inl holds ↦ absurd (none 0 y refl holds)
    | inr fails ↦ rw fails (none_kept xs (λ j z at. none (suc j) z at))
  ]

no_element : (k x : ℕ) → ¬ (slice_get {X = ℕ} [] k ≡ Some x)
no_element k x is = cc

-- a command in a walk
pub record IsStep (image : List ℕ) (start command : ℕ) : Type 0 where
  pub on : start ≤ command
  pub is : is_command image command ≡ true

-- the rest of a walk
abbrev after : List ℕ → ℕ → ℕ → List ℕ
after image start left = commands_from image (start + command_size image start) left

step_in : (image : List ℕ) (start left k command : ℕ) → ((j : ℕ) → slice_get (after image start left) j ≡ Some command → IsStep image (start + command_size image start) command)
    → is_command image start ≡ true → slice_get (start ∷ after image start left) k ≡ Some command → IsStep image start command
step_in image start left zero command rest is at = let same : start ≡ command = same_Some start command at in record { on = omega arith; is = subst (λ c. is_command image c ≡ true) same is }
step_in image start left (suc k) command rest is at = let next = rest k at in record { on = omega (arith, next.on); is = next.is }

pub step : (image : List ℕ) (start left k command : ℕ) → slice_get (commands_from image start left) k ≡ Some command → IsStep image start command
step image start zero k command at = absurd (cc)
step image start (suc left) k command at = elim (cases_Bool (is_command image start)) [
  | inl is ↦ step_in image start left k command (λ j. step image (start + command_size image start) left j command) is (rw is at at)
  | inr none ↦ absurd (no_element k command (rw none at at))
]

module _ (image : List ℕ) (a b : ℕ) where
  one_in : (start left j k place : ℕ) → ((i h : ℕ) → slice_get (after image start left) i ≡ Some a → slice_get (after image start left) h ≡ Some b → a ≡ b)
      → slice_get (start ∷ after image start left) j ≡ Some a → slice_get (start ∷ after image start left) k ≡ Some b → Covers a (command_size image a) place
      → Covers b (command_size image b) place → a ≡ b
  one_in start left zero zero place rest at bt from to = sym (same_Some start a at) ∙ same_Some start b bt
  one_in start left zero (suc k) place rest at bt from to =
      let same = same_Some start a at in
      let size : command_size image start ≡ command_size image a = ap (command_size image) same in
      let next = step image (start + command_size image start) left k b bt in absurd (let none : ⊥ = omega (arith, next.on, same, size, from.1, to.0) in none)
  one_in start left (suc j) zero place rest at bt from to =
      let same = same_Some start b bt in
      let size : command_size image start ≡ command_size image b = ap (command_size image) same in
      let next = step image (start + command_size image start) left j a at in absurd (let none : ⊥ = omega (arith, next.on, same, size, to.1, from.0) in none)
  one_in start left (suc j) (suc k) place rest at bt from to = rest j k at bt

  -- only one has a byte
  pub only_one : (start left j k place : ℕ) → slice_get (commands_from image start left) j ≡ Some a → slice_get (commands_from image start left) k ≡ Some b
      → Covers a (command_size image a) place → Covers b (command_size image b) place → a ≡ b
  only_one start zero j k place at bt from to = absurd (cc)
  only_one start (suc left) j k place at bt from to = elim (cases_Bool (is_command image start)) [
    | inl is ↦
        one_in start left j k place (λ i h here there. only_one (start + command_size image start) left i h place here there from to) (rw is at at) (rw is at bt) from to
    | inr none ↦ absurd (no_element j a (rw none at at))
  ]

  module _ (p : ℕ → Bool) where
    order_in : (start left j k : ℕ) → ((i h : ℕ) → slice_get (filter p (after image start left)) i ≡ Some a → slice_get (filter p (after image start left)) h ≡ Some b → h ≤ i → b ≤ a)
        → slice_get (start ∷ filter p (after image start left)) j ≡ Some a → slice_get (start ∷ filter p (after image start left)) k ≡ Some b → k ≤ j → b ≤ a
    order_in start left zero zero rest at bt less = let same : start ≡ a = same_Some start a at in let also : start ≡ b = same_Some start b bt in omega arith
    order_in start left zero (suc k) rest at bt less = absurd (let none : ⊥ = omega arith in none)
    order_in start left (suc j) zero rest at bt less =
        let same = same_Some start b bt in
        let (i, there, passes) = kept p (after image start left) j a at in
        let next = step image (start + command_size image start) left i a there in omega (arith, next.on, same)
    order_in start left (suc j) (suc k) rest at bt less = rest j k at bt (omega arith)

    by_test : (start left j k : ℕ) → ((i h : ℕ) → slice_get (filter p (after image start left)) i ≡ Some a → slice_get (filter p (after image start left)) h ≡ Some b → h ≤ i → b ≤ a)
        → slice_get (filter p (start ∷ after image start left)) j ≡ Some a → slice_get (filter p (start ∷ after image start left)) k ≡ Some b → k ≤ j → b ≤ a
    by_test start left j k rest at bt less = elim (cases_Bool (p start)) [
      | inl passes ↦ order_in start left j k rest (rw passes at at) (rw passes at bt) less
      | inr fails ↦ rest j k (rw fails at at) (rw fails at bt) less
    ]

    -- of those that pass, a later one is not before it
    not_before : (start left j k : ℕ) → slice_get (filter p (commands_from image start left)) j ≡ Some a → slice_get (filter p (commands_from image start left)) k ≡ Some b → k ≤ j → b ≤ a
    not_before start zero j k at bt less = absurd (cc)
    not_before start (suc left) j k at bt less = elim (cases_Bool (is_command image start)) [
      | inl is ↦ by_test start left j k (not_before (start + command_size image start) left) (rw is at at) (rw is at bt) less
      | inr none ↦ absurd (no_element j a (rw none at at))
    ]

-- a command that begins earlier has a smaller index
pub earlier_index : (image : List ℕ) (j k a b : ℕ) → slice_get (all_loads image) j ≡ Some a → slice_get (all_loads image) k ≡ Some b → a < b → j < k
earlier_index image j k a b at bt less = elim (cases_lt j k) [
  | inl before ↦ before
  | inr not ↦ let on = not_before image a b (is_wanted wanted.All image) 32 (command_count image - 0) j k at bt not in absurd (let none : ⊥ = omega (arith, on, less) in none)
]

-- the segment whose section begins at a place, as the command that it is
pub record IsOwner (image : List ℕ) (place j k segment nth : ℕ) : Type 0 where
  pub listed : slice_get (all_loads image) j ≡ Some segment
  pub segment_listed : slice_get (all_segment_loads image) k ≡ Some segment
  pub past : 32 ≤ segment
  pub counted : nth < nsects_at image segment
  pub start : place ≡ segment + 72 + 80 * nth
  pub inside : place + 80 ≤ segment + command_size image segment

pub owner : (image : List ℕ) (place : ℕ) → HasSection image place → (j : ℕ) × (k : ℕ) × (segment : ℕ) × (nth : ℕ) × IsOwner image place j k segment nth
owner image place (few, (k, segment, nth, at, less, start)) =
    let all = commands_from image 32 (command_count image - 0) in
    let (i, there, is) = kept (is_segment image) all k segment at in
    let (j, listed) = keeps (λ (c : ℕ). true) all i segment there refl in
    let walked = step image 32 (command_count image - 0) i segment there in
    let whole : 72 + 80 * nsects image segment ≤ command_size image segment =
    leb-true (72 + 80 * nsects image segment) (command_size image segment) (and_parts (command_cmd image segment == loader.LC_SEGMENT_64) (nat_le (72 + 80 * nsects image segment) (command_size image segment)) is).1 in
    let can : nat_le 32 segment && is_command image segment && is_segment image segment ≡ true = and_from _ _ (and_from _ _ (le-leb 32 segment walked.on) walked.is) is in
    let count : nsects_at image segment ≡ nsects image segment = rw can refl in (
      j,
      k,
      segment,
      nth,
      record {
        listed = listed;
        segment_listed = at;
        past = walked.on;
        counted = omega (arith, less, count);
        start = start;
        inside = omega (arith, whole, less, start);
      },
    )

-- it is the command that has the place
pub owner_walked : (image : List ℕ) (place j k segment nth : ℕ) (walked : Walked) → IsOwner image place j k segment nth → IsWalked image (sought.At place) walked → walked.load.place ≡ segment
owner_walked image place j k segment nth walked is has =
    let all = commands_from image 32 (command_count image - 0) in
    let (i, there, passes) = kept (λ (c : ℕ). true) all j segment is.listed in
    let (h, here, also) = kept (λ (c : ℕ). true) all walked.index walked.load.place has.listed in
    only_one image walked.load.place segment 32 (command_count image - 0) h i place here there has.meets (omega (arith, is.start), omega (arith, is.inside))

-- a command that none before is sought with has no earlier one
pub no_earlier : (image : List ℕ) (place : ℕ) (which : Sought) (P : ℕ → Type 0) (walked : Walked) → IsWalked image (sought.From place) walked → ((c : ℕ) → P c → Meets image which c)
    → NoneMeetsBefore image which walked.index ⊎ IsUncounted image → ¬ (HasCommand image place × HasEarlier (all_loads image) P place)
no_earlier image place which P walked is meets (inl none) (has, (k, earlier, at, less, passes)) =
    none k earlier (earlier_index image k walked.index earlier walked.load.place at is.listed (omega (arith, less, is.meets))) at (meets earlier passes)
no_earlier image place which P walked is meets (inr uncounted) (has, earlier) = has.0 uncounted

-- a segment lies in the image, with its sections
pub segment_inside : (image : List ℕ) (k segment : ℕ) → slice_get (all_segment_loads image) k ≡ Some segment → segment + 72 + 80 * nsects image segment ≤ length image
segment_inside image k segment at =
    let (i, there, is) = kept (is_segment image) (commands_from image 32 (command_count image - 0)) k segment at in
    let walked = step image 32 (command_count image - 0) i segment there in
    let whole : 72 + 80 * nsects image segment ≤ command_size image segment =
    leb-true (72 + 80 * nsects image segment) (command_size image segment) (and_parts (command_cmd image segment == loader.LC_SEGMENT_64) (nat_le (72 + 80 * nsects image segment) (command_size image segment)) is).1 in
    let inside = nat_le (commands_end image) (length image) in
    let head = nat_le (segment + 8) (commands_end image) in
    let even = command_size image segment % 8 == 0 in
    let least = nat_le 8 (command_size image segment) in
    let (rest, last) = and_parts (inside && head && even && least) (nat_le (segment + command_size image segment) (commands_end image)) walked.is in
    let ends : segment + command_size image segment ≤ commands_end image = leb-true (segment + command_size image segment) (commands_end image) last in
    let within : commands_end image ≤ length image =
    leb-true (commands_end image) (length image) (and_parts inside head (and_parts (inside && head) even (and_parts (inside && head && even) least rest).0).0).0 in
    omega (arith, whole, ends, within)

pub segment_cmd : (image : List ℕ) (k segment : ℕ) → slice_get (all_segment_loads image) k ≡ Some segment → command_cmd image segment ≡ loader.LC_SEGMENT_64
segment_cmd image k segment at =
    let (i, there, is) = kept (is_segment image) (commands_from image 32 (command_count image - 0)) k segment at in
    eqb-true (command_cmd image segment) loader.LC_SEGMENT_64
    (and_parts (command_cmd image segment == loader.LC_SEGMENT_64) (nat_le (72 + 80 * nsects image segment) (command_size image segment)) is).0

-- there is one first
pub only_first : (places : List ℕ) (P : ℕ → Type 0) (a b : ℕ) → IsFirstOf places P a → IsFirstOf places P b → a ≡ b
only_first places P a b one other = elim (cases_order one.index other.index) [
  | inl same ↦ same_Some a b (sym one.listed ∙ (ap (slice_get places) same ∙ other.listed))
  | inr (inl less) ↦ absurd (other.first one.index a less one.listed one.has)
  | inr (inr more) ↦ absurd (one.first other.index b more other.listed other.has)
]

-- the address of the first section of a segment
pub first_none : (image : List ℕ) (segment : ℕ) → nsects image segment ≡ 0 → 0 ≡ first_address image segment
first_none image segment none = rw none refl

pub first_some : (image : List ℕ) (k segment : ℕ) → slice_get (all_segment_loads image) k ≡ Some segment → 0 < nsects image segment → long_at image (segment + 72 + 32) ≡ first_address image segment
first_some image k segment at some =
    let inside = segment_inside image k segment at in
    rw (lt-ltb 0 (nsects image segment) some) (rw (le-leb (segment + 72 + 32 + 8) (length image) (omega (arith, inside, some))) refl)
