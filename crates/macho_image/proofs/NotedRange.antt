-- The range of the commands of an opened image that pass a test, as a walk over all of them has noted it.
use Rattle.std.proofs.Common.{◌≡◌, ℕ, zero, suc, ◌+◌, ◌-◌, ◌≤◌, ◌<◌, List, [], ◌∷◌, ◌++◌, map, filter, get_or, length, All, Contains, Bool, true, false, Option, None, Some, ◌≢◌, refl, sym, ap, ◌∙◌, subst, arith, inl, inr}
use Rattle.std.specs.Prelude.{◌==◌, IfSome, slice_get, not}
use Rattle.std.specs.List.{last_or}
use Rattle.std.specs.Option.{option_map_or}
use Rattle.std.proofs.lemmas.Bool.{cases_Bool, ne_eqb, true≢false}
use Rattle.std.proofs.lemmas.List.{append-nil, append_assoc, append_cancel_left}
use Rattle.std.proofs.lemmas.List.Elements.{All-contains_itself, Contains-append_left, Contains-append_right, filter-append}
use Rattle.macho_fields.specs.Image.{command_cmd, command_count, command_size, commands_of, IsGood, places_from}
use Rattle.macho_fields.specs.LoadCommands.{names_library, structure_of, table_fields}
use Rattle.macho_fields.specs.Symbol.{table_at, tables_of}
use Rattle.macho_fields.specs.declared.load_command.Structure.{Structure}
use Rattle.macho_fields.specs.declared.load_command.TableFields.{TableFields}
use Rattle.macho_fields.proofs.Parts.{command_good}
use Rattle.macho_image.specs.Command.{CommandView, command_at, commands_left}
use Rattle.macho_image.specs.Library.{is_library, libraries, libraries_left}
use Rattle.macho_image.specs.Opened.{IsOpened}
use Rattle.macho_image.specs.Walk.{CanWalk, IsRange, Passes, first_commands, has_cmd, has_tables, names_table}
use Rattle.macho_image.specs.Views.{HaveAll, HaveLibraries}
use Rattle.macho_image.specs.Table.{HaveTables}
use Rattle.macho_image.specs.declared.landmarks.CommandRange.{CommandRange}
use Rattle.macho_image.proofs.Noted.{passed_and, passed_are, passed_next}
use Rattle.macho_image.proofs.OpenedWalk.{opened_commands, opened_inside}
use Rattle.macho_image.proofs.WithOneCmd.{keep_or_pass, left_with_cmd-map}

-- the first of some places, and those after them
split : (image : List ℕ) (start count all : ℕ) → count ≤ all → (after : List ℕ) × (places_from image start all ≡ places_from image start count ++ after)
split image start zero all most = (places_from image start all, refl)
split image start (suc count) zero most = absurd (omega arith)
split image start (suc count) (suc all) most =
    let (after, same) = split image (start + command_size image start) count all (omega arith) in (after, ap (λ ps. start ∷ ps) same)

-- where no place passes the test, all have what a place has that fails it
none_passes : (test : ℕ → Bool) (xs : List ℕ) → filter test xs ≡ [] → (P : ℕ → Type 0) → ((x : ℕ) → test x ≡ false → P x) → All P xs
none_passes test xs none P to k d less = to (get_or xs k d) (fails xs none (get_or xs k d) (All-contains_itself xs k d less))
  where
    fails : (ys : List ℕ) → filter test ys ≡ [] → (y : ℕ) → Contains ys y → test y ≡ false
    fails [] none y (k, less, at) = absurd (omega arith)
    fails (x ∷ ys) none y (zero, less, at) = elim (cases_Bool (test x)) [ inl t ↦ absurd (let some = rw t at none in cc) | inr f ↦ ap test (sym at) ∙ f ]
    fails (x ∷ ys) none y (suc k, less, at) = elim (cases_Bool (test x)) [ inl t ↦ absurd (let some = rw t at none in cc) | inr f ↦ fails ys (rw f at none) y (k, omega arith, at) ]

last_of : (xs : List ℕ) (x : ℕ) (o : Option ℕ) → last_or o (xs ++ x ∷ []) ≡ Some x
last_of [] x o = refl
last_of (y ∷ xs) x o = last_of xs x (Some y)

module _ (image : List ℕ) (opened : IsOpened image) (test : ℕ → Bool) (range : CommandRange) (are : IsRange image test (command_count image) range) where
  abbrev before : List ℕ
  before = are.start.places

  abbrev among : List ℕ
  among = places_from image range.place range.count

  abbrev rest : ℕ
  rest = command_count image - range.before

  pub parts : (after : List ℕ) × (places_from image range.place rest ≡ among ++ after)
  parts = split image range.place range.count rest (omega (arith, are.most))

  pub whole : commands_of image ≡ before ++ among ++ parts.0
  whole =
      ap (first_commands image) (let e : command_count image ≡ range.before + rest = omega (arith, are.most) in e)
      ∙ (passed_and image range.before range.place are.start rest ∙ (ap (λ ps. before ++ ps) parts.1 ∙ sym (append_assoc before among parts.0)))

  with_before : first_commands image (range.before + range.count) ≡ before ++ among
  with_before = passed_and image range.before range.place are.start range.count

  none_before : filter test before ≡ []
  none_before = ap (filter test) (sym (passed_are image range.before range.place are.start)) ∙ are.none_before

  none_after : filter test parts.0 ≡ []
  none_after =
      append_cancel_left (filter test (before ++ among)) (filter test parts.0) [] (sym (filter-append test (before ++ among) parts.0)
      ∙ (ap (filter test) (sym whole) ∙ (sym are.none_after ∙ (ap (filter test) with_before ∙ sym (append-nil (filter test (before ++ among)))))))

  -- those that pass the test are in the range
  kept : filter test among ≡ filter test (commands_of image)
  kept =
      sym (sym are.none_after ∙ (ap (filter test) with_before ∙ (filter-append test before among ∙ ap (λ first. first ++ filter test among) none_before)))

  pub can_walk_range : CanWalk image range.place range.count
  can_walk_range = record {
    good = λ k d less. good (get_or among k d) (All-contains_itself among k d less);
    inside = opened_inside image opened;
  }
    where
      good : (p : ℕ) → Contains among p → IsGood image p
      good p has =
          command_good image (commands_of image) p (opened_commands image opened)
          (subst (λ ps. Contains ps p) (sym whole) (Contains-append_left (before ++ among) parts.0 p (Contains-append_right before among p has)))

  -- its first passes the test, and so does its last
  first_passes : (P : ℕ → Type 0) → ((p : ℕ) → test p ≡ true → P p) → IfSome (slice_get among 0) P
  first_passes P to = by range.count are.first
    where
      by : (n : ℕ) → (0 < n → test range.place ≡ true) → IfSome (slice_get (places_from image range.place n) 0) P
      by zero passes = tt
      by (suc n) passes = to range.place (passes (omega arith))

  last_passes : (P : ℕ → Type 0) → ((p : ℕ) → test p ≡ true → P p) → IfSome (last_or None among) P
  last_passes P to = by range.count refl
    where
      at_end : (n : ℕ) → range.count ≡ suc n → (end : Passes image test (range.before + range.count - 1)) → among ≡ places_from image range.place n ++ end.place ∷ []
      at_end n is end =
          let place : range.before + range.count - 1 ≡ range.before + n = omega arith in
          let all : range.before + range.count ≡ range.before + range.count - 1 + 1 = omega arith in
          append_cancel_left before among (places_from image range.place n ++ end.place ∷ []) (sym with_before
          ∙ (ap (first_commands image) all
          ∙ (passed_next image (range.before + range.count - 1) end.place end.at
          ∙ (ap (λ ps. ps ++ end.place ∷ []) (ap (first_commands image) place ∙ passed_and image range.before range.place are.start n)
          ∙ append_assoc before (places_from image range.place n) (end.place ∷ [])))))

      by : (n : ℕ) → range.count ≡ n → IfSome (last_or None among) P
      by zero is = rw is tt
      by (suc n) is =
          let end = are.last (let some : 0 < range.count = omega arith in some) in
          subst (λ o. IfSome o P) (sym (ap (last_or None) (at_end n is end) ∙ last_of (places_from image range.place n) end.place None)) (to end.place end.passes)

pub have_all : (cmd : ℕ) (image : List ℕ) (opened : IsOpened image) (range : CommandRange) → IsRange image (has_cmd cmd image) (command_count image) range
    → HaveAll cmd image (commands_left image range.place range.count)
have_all cmd image opened range are =
    left_with_cmd-map image cmd (places_from image range.place range.count) ∙ ap (map (command_at image)) (kept image opened (has_cmd cmd image) range are)

libraries_left-map : (image xs : List ℕ) → libraries_left (map (command_at image) xs) ≡ map (command_at image) (libraries image xs)
libraries_left-map image [] = refl
libraries_left-map image (x ∷ xs) =
    keep_or_pass image x (libraries_left (map (command_at image) xs)) (libraries image xs) (names_library (command_cmd image x)) (libraries_left-map image xs)

pub have_libraries : (image : List ℕ) (opened : IsOpened image) (range : CommandRange) → IsRange image (is_library image) (command_count image) range
    → HaveLibraries image (commands_left image range.place range.count)
have_libraries image opened range are =
    libraries_left-map image (places_from image range.place range.count) ∙ ap (map (command_at image)) (kept image opened (is_library image) range are)

-- what the commands of a range are in the bytes of an image, they are in what the image is seen as
pub can_walk_seen : {bytes image : List ℕ} {place left : ℕ} → bytes ≡ image → CanWalk bytes place left → CanWalk image place left
can_walk_seen {bytes} {image} {place} {left} same walk = subst (λ seen. CanWalk seen place left) same walk

pub as_seen : (P : List ℕ → List CommandView → Type 0) {bytes image : List ℕ} {these : List CommandView} (range : CommandRange) → bytes ≡ image → these ≡ commands_left image range.place range.count
    → P bytes (commands_left bytes range.place range.count) → P image these
as_seen P {bytes} {image} {these} range same are holds = subst (P image) (sym are) (subst (λ seen. P seen (commands_left seen range.place range.count)) same holds)

-- the test for tables finds whether there are some

no_tables : (image : List ℕ) (command : ℕ) → names_table image command ≡ false → tables_of image command ≡ []
no_tables image command = by (structure_of (command_cmd image command))
  where
    none : (fields : List TableFields) → not (length fields == 0) ≡ false → map (table_at image command) fields ≡ []
    none [] fails = refl
    none (x ∷ xs) fails = absurd (true≢false (sym (ap not (ne_eqb (length (x ∷ xs)) 0 (λ same. absurd (omega arith)))) ∙ fails))

    by : (o : Option Structure) → option_map_or has_tables o false ≡ false → option_map_or (λ s. map (table_at image command) (table_fields s)) o [] ≡ []
    by None fails = refl
    by (Some s) fails = none (table_fields s) fails

some_tables : (image : List ℕ) (command : ℕ) → names_table image command ≡ true → tables_of image command ≢ []
some_tables image command passes is = by (structure_of (command_cmd image command)) passes is
  where
    some : (fields : List TableFields) → not (length fields == 0) ≡ true → map (table_at image command) fields ≢ []
    some [] passes is = absurd (true≢false (sym passes))
    some (x ∷ xs) passes is = absurd (cc)

    by : (o : Option Structure) → option_map_or has_tables o false ≡ true → option_map_or (λ s. map (table_at image command) (table_fields s)) o [] ≢ []
    by None passes is = absurd (true≢false (sym passes))
    by (Some s) passes is = some (table_fields s) passes is

pub have_tables : (image : List ℕ) (opened : IsOpened image) (range : CommandRange) → IsRange image (names_table image) (command_count image) range
    → HaveTables image (commands_left image range.place range.count)
have_tables image opened range are = record {
  before = are.start.places;
  among = places_from image range.place range.count;
  after = (parts image opened (names_table image) range are).0;
  are = refl;
  whole = whole image opened (names_table image) range are;
  none_before = none_passes (names_table image) _ (none_before image opened (names_table image) range are) (λ command. tables_of image command ≡ []) (no_tables image);
  none_after = none_passes (names_table image) _ (none_after image opened (names_table image) range are) (λ command. tables_of image command ≡ []) (no_tables image);
  first = first_passes image opened (names_table image) range are (λ command. tables_of image command ≢ []) (some_tables image);
  last = last_passes image opened (names_table image) range are (λ command. tables_of image command ≢ []) (some_tables image);
}
