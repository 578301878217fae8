-- In an image whose headers break no rule, the walk goes over all commands, and each that is wanted has
-- its structure.
use Rattle.std.proofs.Common.{◌≡◌, ◌∙◌, ℕ, zero, suc, ◌+◌, ◌-◌, ◌^◌, ◌≤◌, ◌<◌, ◌==◌, List, [], ◌∷◌, length, map, Bool, true, false, All, Contains, Option, None, Some, inl, inr, refl, sym, ap, arith}
use Rattle.std.specs.Prelude.{filter, ◌&&◌, nat_le}
use Rattle.std.proofs.lemmas.Bool.{cases_Bool, and_parts, eqb-true, le-leb, eq-eqb}
use Rattle.std.proofs.lemmas.List.Elements.{All-tail, All-contains_itself}
use Rattle.macho_fields.specs.Image.{command_cmd, command_size, command_count, commands_end, commands_of, IsGood, places_from, with_cmd}
use Rattle.macho_fields.specs.LoadCommands.{structure_of, structure_size}
use Rattle.macho_fields.specs.Segment.{segments_of}
use Rattle.macho_fields.specs.declared.header.loader.TheConstants as loader
use Rattle.macho_fields.specs.declared.load_command.Structure.{Structure}
use Rattle.macho_fields.specs.declared.load_command.Structure.TheVariants.{BuildVersionCommand, DylibCommand, SymtabCommand, DysymtabCommand, DyldInfoCommand, EncryptionInfoCommand64, LinkeditDataCommand}
use Rattle.macho_fields.proofs.LoadCommands.{library_structure}
use Rattle.macho_fields.proofs.Opened.{structure_inside, sections_inside, command_inside}
use Rattle.std.specs.Option.{option_map, option_map_or}
use Rattle.std.proofs.lemmas.Option.{same_Some}
use Rattle.macho_fields.proofs.Parts.{command_good, with_cmd_is, with_cmd_among}
use Rattle.macho_image.specs.Command.{CommandView, command_of, command_at}
use Rattle.macho_image.specs.declared.command.Command.{Command}
use Rattle.macho_image.specs.Opened.{IsOpened}
use Rattle.macho_image.specs.Walk.{CanWalk}
use Rattle.macho_image.proofs.Opened.{may_open, opened_below, opened_keeps}
use Rattle.macho_image.proofs.OpenedWalk.{opened_commands, opened_inside, can_walk}
use Rattle.macho_image.proofs.Kept.{got_first}
use Rattle.macho_rows.specs.BoundedTables.{bounding, has_cmd}
use Rattle.macho_rows.specs.Builds.{builds_in, builds_left, build_row, names_platform}
use Rattle.macho_rows.specs.Commands.{commands_in}
use Rattle.macho_rows.specs.Cursor.{start}
use Rattle.macho_rows.specs.Image.{only, id_in}
use Rattle.macho_rows.specs.Libraries.{loaded_by, libraries_left, library_row}
use Rattle.macho_rows.proofs.Counts.{no_more}
use Rattle.macho_rows.specs.Loads.{IsLoad, is_command, is_segment, is_library, is_build, is_dyld_info, is_source_version, loads_library, version_min_platform, commands_from, commands_left, wanted_left}
use Rattle.macho_rows.specs.Rows.{HasUnbrokenHeaders}
use Rattle.macho_rows.specs.declared.load.Wanted.TheVariants as wanted

pub has_opened : (image : List ℕ) → HasUnbrokenHeaders image None → IsOpened image
has_opened image kept = may_open image kept

pub good_is : (image : List ℕ) (place : ℕ) → commands_end image ≤ length image → IsGood image place → is_command image place ≡ true
good_is image place inside good =
    rw (le-leb _ _ inside) (rw (le-leb _ _ good.head) (rw (eq-eqb _ _ good.whole) (rw (le-leb _ _ good.least) (le-leb _ _ good.inside))))

all_from : (image : List ℕ) (place left : ℕ) → commands_end image ≤ length image → All (IsGood image) (places_from image place left) → commands_from image place left ≡ places_from image place left
all_from image place zero inside good = refl
all_from image place (suc left) inside good =
    rw (good_is image place inside (good 0 place (omega arith)))
    (ap (λ rest. place ∷ rest) (all_from image (place + command_size image place) left inside (All-tail (IsGood image) place (places_from image (place + command_size image place) left) good)))

pub commands_all : (image : List ℕ) → IsOpened image → commands_left image start ≡ commands_of image
commands_all image opened =
    let can : CanWalk image 32 (command_count image) = can_walk image None (command_count image) refl (λ r place late broken. opened_below image opened r place (omega (arith, late)) broken) in
    ap (commands_from image 32) (let whole : command_count image - 0 ≡ command_count image = omega arith in whole)
    ∙ all_from image 32 (command_count image) can.inside can.good

-- tests that agree on the elements keep the same ones
filter_same : (p q : ℕ → Bool) (xs : List ℕ) → All (λ x. p x ≡ q x) xs → filter p xs ≡ filter q xs
filter_same p q [] same = refl
filter_same p q (x ∷ xs) same =
    let rest = filter_same p q xs (All-tail (λ y. p y ≡ q y) x xs same) in
    let first : p x ≡ q x = same 0 x (omega arith) in
    elim (cases_Bool (q x)) [
      | inl passes ↦ rw (first ∙ passes) (rw passes (ap (λ ys. x ∷ ys) rest))
      | inr fails ↦ rw (first ∙ fails) (rw fails rest)
    ]

keeps_all : (xs : List ℕ) → filter (λ x. true) xs ≡ xs
keeps_all [] = refl
keeps_all (x ∷ xs) = ap (λ ys. x ∷ ys) (keeps_all xs)

both : (a b : Bool) → (a ≡ true → b ≡ true) → (a && b) ≡ a
both true b holds = holds refl
both false b holds = refl

-- the structure of the commands with one cmd
pub by_cmd : (cmd : ℕ) (s : Structure) → structure_of cmd ≡ Some s → (other : ℕ) → (other == cmd) ≡ true → structure_of other ≡ Some s
by_cmd cmd s listed other is = ap structure_of (eqb-true other cmd is) ∙ listed

pub dyld_info_structure : (cmd : ℕ) → is_dyld_info cmd ≡ true → structure_of cmd ≡ Some DyldInfoCommand
dyld_info_structure cmd is = elim (cases_Bool (cmd == loader.LC_DYLD_INFO)) [
  | inl info ↦ ap structure_of (eqb-true cmd loader.LC_DYLD_INFO info)
  | inr other ↦ let only_form : cmd == loader.LC_DYLD_INFO_ONLY ≡ true = rw other at is in ap structure_of (eqb-true cmd loader.LC_DYLD_INFO_ONLY only_form)
]

module _ (image : List ℕ) (opened : IsOpened image) where
  among : (P : ℕ → Type 0) → ((c : ℕ) → Contains (commands_of image) c → P c) → All P (commands_of image)
  among P each k d less = each _ (All-contains_itself (commands_of image) k d less)

  pub all_wanted : wanted_left wanted.All image start ≡ commands_of image
  all_wanted = keeps_all (commands_left image start) ∙ commands_all image opened

  pub segments_wanted : wanted_left wanted.Segments image start ≡ segments_of image (commands_of image)
  segments_wanted =
      ap (filter (is_segment image)) (commands_all image opened)
      ∙ filter_same (is_segment image) (λ c. command_cmd image c == loader.LC_SEGMENT_64) (commands_of image) (among _ (λ c has.
      both _ _ (λ is. le-leb _ _ (sections_inside image (commands_of image) (opened_keeps image opened) (opened_commands image opened) c has (eqb-true _ _ is)))))

  pub libraries_wanted : wanted_left wanted.Libraries image start ≡ loaded_by image
  libraries_wanted =
      ap (filter (is_library image)) (commands_all image opened)
      ∙ filter_same (is_library image) (λ c. loads_library (command_cmd image c)) (commands_of image) (among _ (λ c has.
      both (loads_library (command_cmd image c)) (nat_le 24 (command_size image c)) (λ is.
      let whole = structure_inside image (commands_of image) (opened_keeps image opened) (opened_commands image opened) c DylibCommand has (library_structure (command_cmd image c) (and_parts _ _ is).0) in
      le-leb 24 (command_size image c) (omega (arith, whole)))))

  -- a command of a structure is long enough for it
  whole_structure : (s : Structure) (test : ℕ → Bool) → ((cmd : ℕ) → test cmd ≡ true → structure_of cmd ≡ Some s) → (c : ℕ) → Contains (commands_of image) c
      → (test (command_cmd image c) && nat_le (structure_size s) (command_size image c)) ≡ test (command_cmd image c)
  whole_structure s test listed c has =
      both (test (command_cmd image c)) (nat_le (structure_size s) (command_size image c)) (λ is.
      let whole = structure_inside image (commands_of image) (opened_keeps image opened) (opened_commands image opened) c s has (listed (command_cmd image c) is) in
      le-leb (structure_size s) (command_size image c) (omega (arith, whole)))

  pub builds_wanted : wanted_left wanted.Builds image start ≡ builds_in image
  builds_wanted =
      ap (filter (is_build image)) (commands_all image opened)
      ∙ filter_same (is_build image) (names_platform image) (commands_of image) (among _ (λ c has. by c has (version_min_platform (command_cmd image c))))
    where
      by : (c : ℕ) → Contains (commands_of image) c → (platform : Option ℕ)
          → option_map_or (λ p. nat_le 16 (command_size image c)) platform ((command_cmd image c == loader.LC_BUILD_VERSION) && nat_le 24 (command_size image c))
          ≡ option_map_or (λ p. nat_le 16 (command_size image c)) platform (command_cmd image c == loader.LC_BUILD_VERSION)
      by c has (Some p) = refl
      by c has None = whole_structure BuildVersionCommand (λ cmd. cmd == loader.LC_BUILD_VERSION) (by_cmd loader.LC_BUILD_VERSION BuildVersionCommand refl) c has

  pub versions_wanted : wanted_left wanted.SourceVersions image start ≡ filter (is_source_version image) (commands_of image)
  versions_wanted = ap (filter (is_source_version image)) (commands_all image opened)

  -- all commands of a structure
  structures_wanted : (s : Structure) (test : ℕ → Bool) → ((cmd : ℕ) → test cmd ≡ true → structure_of cmd ≡ Some s)
      → filter (λ c. test (command_cmd image c) && nat_le (structure_size s) (command_size image c)) (commands_left image start) ≡ filter (λ c. test (command_cmd image c)) (commands_of image)
  structures_wanted s test listed =
      ap (filter (λ c. test (command_cmd image c) && nat_le (structure_size s) (command_size image c))) (commands_all image opened)
      ∙ filter_same (λ c. test (command_cmd image c) && nat_le (structure_size s) (command_size image c)) (λ c. test (command_cmd image c)) (commands_of image) (among _ (whole_structure s test listed))

  pub symtabs_wanted : wanted_left wanted.Symtabs image start ≡ bounding wanted.Symtabs image
  symtabs_wanted = structures_wanted SymtabCommand (has_cmd wanted.Symtabs) (by_cmd loader.LC_SYMTAB SymtabCommand refl)

  pub dysymtabs_wanted : wanted_left wanted.Dysymtabs image start ≡ bounding wanted.Dysymtabs image
  dysymtabs_wanted = structures_wanted DysymtabCommand (has_cmd wanted.Dysymtabs) (by_cmd loader.LC_DYSYMTAB DysymtabCommand refl)

  pub dyld_infos_wanted : wanted_left wanted.DyldInfos image start ≡ bounding wanted.DyldInfos image
  dyld_infos_wanted = structures_wanted DyldInfoCommand (has_cmd wanted.DyldInfos) dyld_info_structure

  pub encryption_infos_wanted : wanted_left wanted.EncryptionInfos image start ≡ bounding wanted.EncryptionInfos image
  encryption_infos_wanted = structures_wanted EncryptionInfoCommand64 (has_cmd wanted.EncryptionInfos) (by_cmd loader.LC_ENCRYPTION_INFO_64 EncryptionInfoCommand64 refl)

  pub data_wanted : (cmd : ℕ) → structure_of cmd ≡ Some LinkeditDataCommand → wanted_left (wanted.LinkeditData cmd) image start ≡ with_cmd image cmd (commands_of image)
  data_wanted cmd listed = structures_wanted LinkeditDataCommand (λ other. other == cmd) (by_cmd cmd LinkeditDataCommand listed)

  -- the libraries that are loaded are no more than the commands
  pub libraries_few : (place : ℕ) → length (libraries_left place image start) ≤ length (commands_in image)
  libraries_few place =
      no_more image (λ c. loads_library (command_cmd image c)) (library_row place image) (libraries_left place image start) (ap (map (library_row place image)) libraries_wanted)

  -- the builds are no more than the commands
  pub builds_few : length (builds_left image start) ≤ length (commands_in image)
  builds_few = no_more image (names_platform image) (build_row image) (builds_left image start) (ap (map (build_row image)) builds_wanted)

  -- the first command that says what the image is as a library
  pub id_held : (c : Command) → option_map command_of (Some c) ≡ option_map (command_at image) (only image loader.LC_ID_DYLIB) → commands_end image < 2 ^ 33
      → IsLoad image (record { place = c.place; cmd = c.cmd; size = c.size }) × (24 ≤ c.size) × (id_in image ≡ Some c.place)
  id_held c is near = by (only image loader.LC_ID_DYLIB) refl is
    where
      by : (first : Option ℕ) → only image loader.LC_ID_DYLIB ≡ first → Some (command_of c) ≡ option_map (command_at image) first
          → IsLoad image (record { place = c.place; cmd = c.cmd; size = c.size }) × (24 ≤ c.size) × (id_in image ≡ Some c.place)
      by None at first = absurd (cc)
      by (Some place) at first =
          let same : command_of c ≡ command_at image place = same_Some (command_of c) (command_at image place) first in
          let here : c.place ≡ place = ap (λ (v : CommandView). v.place) same in
          let cmd : c.cmd ≡ command_cmd image place = ap (λ (v : CommandView). v.cmd) same in
          let size : c.size ≡ command_size image place = ap (λ (v : CommandView). v.size) same in
          let has : Contains (with_cmd image loader.LC_ID_DYLIB (commands_of image)) place = got_first (with_cmd image loader.LC_ID_DYLIB (commands_of image)) place at in
          let in_all = with_cmd_among image (commands_of image) loader.LC_ID_DYLIB place has in
          let named : command_cmd image place ≡ loader.LC_ID_DYLIB = with_cmd_is image (commands_of image) loader.LC_ID_DYLIB place has in
          let keeps = opened_keeps image opened in
          let are = opened_commands image opened in
          let good = command_good image (commands_of image) place are in_all in
          let inside = command_inside image (commands_of image) keeps are place in_all in
          let whole = structure_inside image (commands_of image) keeps are place DylibCommand in_all (ap structure_of named) in
          let head = good.head in (
            record {
              cmd = cmd ∙ ap (command_cmd image) (sym here);
              size = size ∙ ap (command_size image) (sym here);
              inside = omega (arith, inside, here, size);
              least = omega (arith, whole, size);
              near = omega (arith, near, head, here);
              is = ap (is_command image) here ∙ good_is image place (opened_inside image opened) good;
            },
            omega (arith, whole, size),
            at ∙ ap Some (sym here),
          )
