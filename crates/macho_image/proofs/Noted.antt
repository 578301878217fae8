-- One command more among those that a walk has passed, and what is noted of it.
use Rattle.std.proofs.Common.{◌≡◌, ◌≢◌, ℕ, zero, suc, ◌+◌, ◌-◌, ◌≤◌, ◌<◌, List, [], ◌∷◌, ◌++◌, length, filter, Contains, Bool, true, false, Option, None, ◌==◌, refl, sym, ap, ap₂, ◌∙◌, subst, arith, inl, inr}
use Rattle.std.specs.Option.{option_map_or}
use Rattle.std.proofs.lemmas.Bool.{cases_lt, ne_eqb}
use Rattle.std.proofs.lemmas.List.{append-nil}
use Rattle.std.proofs.lemmas.List.Elements.{Contains-append_right, filter-append}
use Rattle.macho_fields.specs.Image.{command_count, command_cmd, command_size, commands_of, IsGood, Follow, places_from}
use Rattle.macho_fields.specs.LoadCommands.{IsUnique, is_dylib_command, structure_of}
use Rattle.macho_fields.specs.declared.header.loader.TheConstants as loader
use Rattle.macho_fields.specs.declared.load_command.Structure.{Structure}
use Rattle.macho_fields.specs.declared.load_command.Structure.TheVariants as structure
use Rattle.macho_fields.proofs.Lists.{none_in_nil, first_or_later}
use Rattle.macho_fields.proofs.Parts.{command_good}
use Rattle.macho_image.specs.Library.{is_library}
use Rattle.macho_image.specs.Opened.{IsOpened}
use Rattle.macho_image.specs.Walk.{AreFirst, AreLandmarks, IsAt, IsRange, Passes, first_commands, has_cmd, has_tables, names_table}
use Rattle.macho_image.specs.declared.landmarks.CommandRange.{CommandRange}
use Rattle.macho_image.specs.declared.landmarks.Landmarks.{Landmarks}
use Rattle.macho_image.proofs.FirstWithCmd.{first_kept, unlisted_is_not_unique, unlisted_is_not}
use Rattle.macho_image.proofs.OpenedWalk.{opened_commands}
use Rattle.macho_image.proofs.Places.{at_first}

-- The places of a chain, and those after it

places_on : (image : List ℕ) (start : ℕ) (xs : List ℕ) (next more n : ℕ) → n ≡ length xs + more → Follow image start xs next
    → places_from image start n ≡ xs ++ places_from image next more
places_on image start [] next more n is chain = let e : n ≡ more = omega arith in ap₂ (places_from image) chain e
places_on image start (x ∷ xs) next more zero is chain = absurd (omega arith)
places_on image start (x ∷ xs) next more (suc n) is (at, good, rest) =
    ap (λ p. p ∷ places_from image (p + command_size image p) n) (sym at)
    ∙ ap (λ ps. x ∷ ps) (places_on image (x + command_size image x) xs next more n (omega arith) rest)

chain_up : (image : List ℕ) (start : ℕ) (xs : List ℕ) (next : ℕ) → Follow image start xs next → start ≤ next
chain_up image start [] next chain = omega arith
chain_up image start (x ∷ xs) next (at, good, rest) = let more = chain_up image (x + command_size image x) xs next rest in omega arith

chain_below : (image : List ℕ) (start : ℕ) (xs : List ℕ) (next : ℕ) → Follow image start xs next → (q : ℕ) → Contains xs q → q < next
chain_below image start [] next chain q has = absurd (none_in_nil q has)
chain_below image start (x ∷ xs) next (at, good, rest) q has = elim (first_or_later x q xs has) [
  | inl same ↦ let more = chain_up image (x + command_size image x) xs next rest in let least : 8 ≤ command_size image x = good.least in omega arith
  | inr later ↦ chain_below image (x + command_size image x) xs next rest q later
]

module _ (image : List ℕ) (walked place : ℕ) (at : IsAt image walked place) where
  pub passed_and : (more : ℕ) → first_commands image (walked + more) ≡ at.places ++ places_from image place more
  passed_and more = places_on image 32 at.places place more (walked + more) (omega (arith, at.count)) at.chain

  pub passed_are : first_commands image walked ≡ at.places
  passed_are = places_on image 32 at.places place 0 walked (omega (arith, at.count)) at.chain ∙ append-nil at.places

  -- the next command is the last of one more
  pub passed_next : first_commands image (walked + 1) ≡ first_commands image walked ++ place ∷ []
  passed_next = passed_and 1 ∙ ap (λ ps. ps ++ place ∷ []) (sym passed_are)

  -- it is after the header
  pub passed_header : 0 < place
  passed_header = let after = chain_up image 32 at.places place at.chain in omega (arith, after)

  -- those that were passed are before it
  pub passed_before : (q : ℕ) → Contains (first_commands image walked) q → q < place
  passed_before q has = chain_below image 32 at.places place at.chain q (subst (λ ps. Contains ps q) passed_are has)

  -- where commands are left, it is one of them
  pub next_of_all : (left : ℕ) → walked + suc left ≡ command_count image → Contains (commands_of image) place
  next_of_all left all =
      subst (λ n. Contains (first_commands image n) place) all
      (subst (λ ps. Contains ps place) (sym (passed_and (suc left))) (Contains-append_right at.places (place ∷ places_from image (place + command_size image place) left) place (0, omega arith, refl)))

  -- The range of the commands that pass a test, with one command more
  module _ (test : ℕ → Bool) (range : CommandRange) (are : IsRange image test walked range) where
    passed_over : test place ≡ false → filter test (first_commands image (walked + 1)) ≡ filter test (first_commands image walked)
    passed_over fails =
        ap (filter test) passed_next
        ∙ (filter-append test (first_commands image walked) (place ∷ [])
        ∙ (ap (λ rest. filter test (first_commands image walked) ++ rest) (rw fails refl)
        ∙ append-nil (filter test (first_commands image walked))))

    pub range_kept : test place ≡ false → IsRange image test (walked + 1) range
    range_kept fails = record {
      most = omega (arith, are.most);
      start = are.start;
      none_before = are.none_before;
      none_after = are.none_after ∙ sym (passed_over fails);
      first = are.first;
      last = are.last;
    }

    -- the last command before so many is this one
    is_last : (more : ℕ) → more ≡ walked + 1 → test place ≡ true → Passes image test (more - 1)
    is_last more all passes = record { place = place; at = subst (λ n. IsAt image n place) (let e : walked ≡ more - 1 = omega arith in e) at; passes = passes }

    first_noted : test place ≡ true → range.count ≡ 0 → IsRange image test (walked + 1) (record { place = place; before = walked; count = 1 })
    first_noted passes empty = record {
      most = omega arith;
      start = at;
      none_before = sym are.none_after ∙ (ap (λ n. filter test (first_commands image n)) (let e : range.before + range.count ≡ range.before = omega arith in e) ∙ are.none_before);
      none_after = refl;
      first = λ some. passes;
      last = λ some. is_last (walked + 1) refl passes;
    }

    more_noted : test place ≡ true → 0 < range.count → IsRange image test (walked + 1) (record range { count = walked + 1 - range.before })
    more_noted passes some =
        let all : range.before + (walked + 1 - range.before) ≡ walked + 1 = omega (arith, are.most) in record {
          most = omega (arith, are.most);
          start = are.start;
          none_before = are.none_before;
          none_after = ap (λ n. filter test (first_commands image n)) all;
          first = λ more. are.first some;
          last = λ more. is_last (range.before + (walked + 1 - range.before)) all passes;
        }

    pub range_noted : (noted : CommandRange) → test place ≡ true → (range.count ≡ 0 → noted ≡ record { place = place; before = walked; count = 1 })
        → (0 < range.count → noted ≡ record range { count = walked + 1 - range.before }) → IsRange image test (walked + 1) noted
    range_noted noted passes first more = elim (cases_lt 0 range.count) [
      | inl some ↦ subst (IsRange image test (walked + 1)) (sym (more some)) (more_noted passes some)
      | inr none ↦ let empty : range.count ≡ 0 = omega arith in subst (IsRange image test (walked + 1)) (sym (first empty)) (first_noted passes empty)
    ]

  -- what the tests answer of a command, by its cmd
  module _ (cmd : ℕ) (is : cmd ≡ command_cmd image place) where
    -- where the cmd is known, or known not to be
    pub at_cmd : (test : ℕ → Bool) (known : ℕ) → cmd ≡ known → test (command_cmd image place) ≡ test known
    at_cmd test known same = ap test (sym is ∙ same)

    pub other_cmd : (known : ℕ) → cmd ≢ known → (command_cmd image place == known) ≡ false
    other_cmd known other = ne_eqb (command_cmd image place) known (λ same. other (is ∙ same))

    -- where its structure is known, or known to be missing
    pub listed_by : (test : Structure → Bool) (o : Option Structure) → structure_of cmd ≡ o → option_map_or test (structure_of (command_cmd image place)) false ≡ option_map_or test o false
    listed_by test o listed = ap (λ found. option_map_or test found false) (sym (ap structure_of is) ∙ listed)

    -- a command that may come again, and that names neither a library nor a table, is in no other range
    pub others_kept : (landmarks : Landmarks) (segments builds : CommandRange) → ¬ IsUnique cmd → is_library image place ≡ false → names_table image place ≡ false
        → IsRange image (has_cmd loader.LC_SEGMENT_64 image) (walked + 1) segments → IsRange image (has_cmd loader.LC_BUILD_VERSION image) (walked + 1) builds
        → AreLandmarks image walked landmarks → AreLandmarks image (walked + 1) (record landmarks { segments = segments; builds = builds })
    others_kept landmarks segments builds other no_library no_table are_segments are_builds are = record {
      first = subst (λ ps. AreFirst image ps landmarks.unique) (sym passed_next) (first_kept image (first_commands image walked) landmarks.unique are.first cmd place other is passed_header);
      segments = are_segments;
      builds = are_builds;
      libraries = range_kept (is_library image) landmarks.libraries are.libraries no_library;
      tables = range_kept (names_table image) landmarks.tables are.tables no_table;
    }

    -- a landmark is a listed command
    pub landmarks_kept : (landmarks : Landmarks) → structure_of cmd ≡ None → AreLandmarks image walked landmarks → AreLandmarks image (walked + 1) landmarks
    landmarks_kept landmarks none are =
        others_kept landmarks landmarks.segments landmarks.builds (unlisted_is_not_unique cmd none) (listed_by is_dylib_command None none) (listed_by has_tables None none)
        (range_kept (has_cmd loader.LC_SEGMENT_64 image) landmarks.segments are.segments (other_cmd loader.LC_SEGMENT_64 (unlisted_is_not loader.LC_SEGMENT_64 structure.SegmentCommand64 refl cmd none)))
        (range_kept (has_cmd loader.LC_BUILD_VERSION image) landmarks.builds are.builds (other_cmd loader.LC_BUILD_VERSION (unlisted_is_not loader.LC_BUILD_VERSION structure.BuildVersionCommand refl cmd none)))
        are

pub no_dylib : (s : Structure) → (s ≡ structure.DylibCommand → ⊥) → is_dylib_command s ≡ false
no_dylib structure.DylibCommand other = absurd (other refl)
no_dylib s other = refl

pub no_range : (image : List ℕ) (test : ℕ → Bool) → IsRange image test 0 (record { place = 32; before = 0; count = 0 })
no_range image test = record { most = omega arith; start = at_first image; none_before = refl; none_after = refl; first = λ some. absurd (omega arith); last = λ some. absurd (omega arith) }

-- the next command of an opened image is good
pub next_good : (image : List ℕ) → IsOpened image → (walked place : ℕ) → IsAt image walked place → walked < command_count image → IsGood image place
next_good image opened walked place at less =
    command_good image (commands_of image) place (opened_commands image opened)
    (next_of_all image walked place at (command_count image - walked - 1) (let e : walked + suc (command_count image - walked - 1) ≡ command_count image = omega arith in e))
