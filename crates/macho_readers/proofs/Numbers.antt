-- Readers that count all segments or libraries, and those that leave some out, come to one number.
use Rattle.std.proofs.Common.{◌≡◌, ℕ, ◌+◌, ◌<◌, ◌⊎◌, ◌==◌, ◌&&◌, ◌||◌, List, [], ◌∷◌, filter, length, Contains, Bool, true, false, refl, sym, ap, ◌∙◌, subst, arith, rules, tests, inl, inr}
use Rattle.std.specs.Prelude.{nat_lt, not, bit_and}
use Rattle.std.proofs.lemmas.Bool.{cases_Bool, cases_eq, lt-ltb}
use Rattle.std.proofs.lemmas.List.Elements.{All-contains, filter_passes}
use Rattle.macho_fields.proofs.Lists.{contains_first, contains_later}
use Rattle.macho_fields.proofs.Parts.{with_cmd_is, with_cmd_among}
use Rattle.macho_fields.specs.Image.{command_cmd, commands_of}
use Rattle.macho_fields.specs.Segment.{all_segments, vmaddr, vmsize, initprot, nsects, section_address}
use Rattle.macho_fields.specs.declared.header.loader.TheConstants as loader
use Rattle.macho_fields.specs.declared.header.vm_prot.TheConstants as vm_prot
use Rattle.macho_image.specs.Segment.{segment_name}
use Rattle.macho_rules.proofs.Searches.{any_of, unfiltered}
use Rattle.macho_tables.specs.Limits.{loads_library}
use Rattle.macho_tables.specs.Segments.{is_writable}
use Rattle.macho_readers.specs.Fixups.{FixupsName}
use Rattle.macho_readers.specs.Models.{earlier_mapped, runs_before, begins_run, HasOneNumberOfSegment, IsSegmentOfNumber, HasOneSegmentOfNumber, IsStartOfSegment, HasOneStartOfSegment, earlier_libraries, HasOneOrdinal}
use Rattle.macho_readers.specs.Order.{IsEager, earlier_segments, segment_number, earlier_runs, HasPageZero, IsRunNumber, BreaksNumberShift}
use Rattle.macho_readers.specs.Segments.{BreaksSegmentName}
use Rattle.macho_readers.proofs.Counts.{lower, one_with_count}

filter_has : (test : ℕ → Bool) (xs : List ℕ) (x : ℕ) → Contains (filter test xs) x → Contains xs x × (test x ≡ true)
filter_has test xs x has = (unfiltered test xs x has, All-contains (λ y. test y ≡ true) (filter test xs) x (filter_passes test xs) has)

pub filter_all : (test : ℕ → Bool) (xs : List ℕ) → ((x : ℕ) → Contains xs x → test x ≡ true) → filter test xs ≡ xs
filter_all test [] pass = refl
filter_all test (x ∷ xs) pass =
    rw (pass x (contains_first x xs)) (ap (λ (rest : List ℕ). x ∷ rest) (filter_all test xs (λ y has. pass y (contains_later x y xs has))))

-- an answer is one of two numbers, which are one
agree : (m n a b : ℕ) → m ≡ n → (a ≡ m) ⊎ (a ≡ n) → (b ≡ m) ⊎ (b ≡ n) → a ≡ b
agree m n a b same (inl x) (inl y) = x ∙ sym y
agree m n a b same (inl x) (inr y) = x ∙ (same ∙ sym y)
agree m n a b same (inr x) (inl y) = x ∙ (sym same ∙ sym y)
agree m n a b same (inr x) (inr y) = x ∙ sym y

some_or : (n : ℕ) → (n ≡ 0 → ⊥) → nat_lt 0 n ≡ true
some_or n some = search (rules, tests)

both_true : (a b : Bool) → (a && b) ≡ true → (a ≡ true) × (b ≡ true)
both_true true b is = (refl, is)
both_true false b is = absurd (cc)

other_number : (n m : ℕ) → (n ≡ m → ⊥) → not (n == m) ≡ true
other_number n m other = search (rules, tests)

filter_same : (test other : ℕ → Bool) (xs : List ℕ) → ((x : ℕ) → Contains xs x → test x ≡ other x) → filter test xs ≡ filter other xs
filter_same test other [] same = refl
filter_same test other (x ∷ xs) same =
    let rest = filter_same test other xs (λ y has. same y (contains_later x y xs has)) in
    let here = same x (contains_first x xs) in
    elim (cases_Bool (other x)) [
      | inl passes ↦ rw (here ∙ passes) (rw passes (ap (λ (ys : List ℕ). x ∷ ys) rest))
      | inr fails ↦ rw (here ∙ fails) (rw fails rest)
    ]

has_items : (xs : List ℕ) → ¬ (xs ≡ []) → nat_lt 0 (length xs) ≡ true
has_items [] some = absurd (some refl)
has_items (x ∷ xs) some = lt-ltb 0 (length (x ∷ xs)) (omega arith)

either_way : (a b c : Bool) → b ≡ true → (a && (b || c)) ≡ a
either_way true true c is = refl
either_way false true c is = refl
either_way a false c is = absurd (cc)

all_pass : (xs : List ℕ) → filter (λ x. true) xs ≡ xs
all_pass xs = filter_all (λ x. true) xs (λ x has. refl)

module _ (image : List ℕ) (none : (place : ℕ) → ¬ BreaksNumberShift image place) where
  -- all segments before one that can be written are mapped
  mapped_before : (segment : ℕ) → Contains (all_segments image) segment → is_writable image segment ≡ true → segment_number image segment ≡ length (earlier_mapped image segment)
  mapped_before segment has writable = ap length (sym (filter_all (λ earlier. nat_lt 0 (vmsize image earlier)) (earlier_segments image segment) mapped))
    where
      mapped : (x : ℕ) → Contains (earlier_segments image segment) x → nat_lt 0 (vmsize image x) ≡ true
      mapped x among =
          let (listed, before) = filter_has (λ earlier. nat_lt earlier segment) (all_segments image) x among in
          some_or (vmsize image x) (λ unmapped. none x (inl (
            with_cmd_among image (commands_of image) loader.LC_SEGMENT_64 x listed,
            inl (
              with_cmd_is image (commands_of image) loader.LC_SEGMENT_64 x listed,
              unmapped,
              any_of (λ later. (x < later) × (is_writable image later ≡ true)) (all_segments image) segment has (lower x segment before, writable),
            ),
          )))

  pub one_number : HasOneNumberOfSegment image
  one_number segment has writable a b =
      agree (segment_number image segment) (length (earlier_mapped image segment)) a b (mapped_before segment has writable)

  pub one_of_number : ((place : ℕ) → ¬ BreaksSegmentName image place) → HasOneSegmentOfNumber image
  one_of_number names number segment named (has, is) writable a b one other = found a one ∙ sym (found b other)
    where
      its_name : FixupsName image (segment_number image segment)
      its_name = subst (FixupsName image) is named

      with_sections : nat_lt 0 (nsects image segment) ≡ true
      with_sections = some_or (nsects image segment) (λ without. none segment (inr (has, (its_name, inr (inl without)))))

      is_mapped : nat_lt 0 (vmsize image segment) ≡ true
      is_mapped = (both_true (nat_lt 0 (vmsize image segment)) (nat_lt 0 (bit_and (initprot image segment) vm_prot.VM_PROT_WRITE)) writable).0

      -- its number by its sections is its number
      by_sections : (run : ℕ) → IsRunNumber image segment run → run ≡ number
      by_sections run runs = elim (cases_eq (segment_number image segment) run) [
        | inl same ↦ sym (is ∙ same)
        | inr differs ↦ absurd (none segment (inr (has, (its_name, inl (run, runs, differs)))))
      ]

      -- each segment has a name, so each with sections begins a run
      begins : (x : ℕ) → Contains (all_segments image) x → begins_run image x ≡ nat_lt 0 (nsects image x)
      begins x listed =
          either_way (nat_lt 0 (nsects image x)) _ _ (has_items (segment_name image x) (λ nameless. names x (listed, inr (inr (inr nameless)))))

      its_runs : (answer : ℕ) → runs_before image answer ≡ earlier_runs image answer
      its_runs answer =
          ap length (filter_same (begins_run image) (λ x. nat_lt 0 (nsects image x)) (earlier_segments image answer)
          (λ x among. begins x (filter_has (λ earlier. nat_lt earlier answer) (all_segments image) x among).0))

      runs : (answer : ℕ) → ((HasPageZero image × (number ≡ runs_before image answer + 1)) ⊎ ((¬ HasPageZero image) × (number ≡ runs_before image answer))) → earlier_runs image answer ≡ earlier_runs image segment
      runs answer (inl (zero, at)) = let same = by_sections (earlier_runs image segment + 1) (inl (zero, refl)) in let its = its_runs answer in omega (arith, at, same, its)
      runs answer (inr (without, at)) = let same = by_sections (earlier_runs image segment) (inr (without, refl)) in let its = its_runs answer in omega (arith, at, same, its)

      found : (answer : ℕ) → IsSegmentOfNumber image number answer → answer ≡ segment
      found answer (inl (listed, at)) =
          one_with_count (λ x. true) (all_segments image) answer segment listed has refl refl
          (ap length (all_pass (earlier_segments image answer)) ∙ (sym at ∙ (is ∙ sym (ap length (all_pass (earlier_segments image segment))))))
      found answer (inr (inl (listed, mapped, at))) =
          one_with_count (λ x. nat_lt 0 (vmsize image x)) (all_segments image) answer segment listed has (lt-ltb 0 (vmsize image answer) mapped) is_mapped
          (sym at ∙ (is ∙ mapped_before segment has writable))
      found answer (inr (inr (listed, some, run))) =
          one_with_count (λ x. nat_lt 0 (nsects image x)) (all_segments image) answer segment listed has (sym (begins answer listed) ∙ some) with_sections
          (runs answer run)

  pub one_start : HasOneStartOfSegment image
  one_start segment has named a b one other = start a one ∙ sym (start b other)
    where
      start : (answer : ℕ) → IsStartOfSegment image segment answer → answer ≡ vmaddr image segment
      start answer (inl is) = is
      start answer (inr is) = elim (cases_eq (section_address image (segment + loader.SEGMENT_COMMAND_64_SIZE)) (vmaddr image segment)) [
        | inl same ↦ is ∙ same
        | inr differs ↦ absurd (none segment (inr (has, (named, inr (inr differs)))))
      ]

  pub one_ordinal : HasOneOrdinal image
  one_ordinal command has eager a b =
      agree (length (earlier_libraries image command) + 1) (length (filter (λ earlier. not (command_cmd image earlier == loader.LC_LAZY_LOAD_DYLIB)) (earlier_libraries image command)) + 1) a b
      (ap (λ (xs : List ℕ). length xs + 1) (sym (filter_all (λ earlier. not (command_cmd image earlier == loader.LC_LAZY_LOAD_DYLIB)) (earlier_libraries image command) prompt)))
    where
      prompt : (x : ℕ) → Contains (earlier_libraries image command) x → not (command_cmd image x == loader.LC_LAZY_LOAD_DYLIB) ≡ true
      prompt x among =
          let (listed, passes) = filter_has (λ earlier. nat_lt earlier command && loads_library (command_cmd image earlier)) (commands_of image) x among in
          let (before, _) = both_true (nat_lt x command) (loads_library (command_cmd image x)) passes in
          other_number (command_cmd image x) loader.LC_LAZY_LOAD_DYLIB (λ late. none x (inl (
            listed,
            inr (late, any_of (λ later. (x < later) × IsEager (command_cmd image later)) (commands_of image) command has (lower x command before, eager)),
          )))
