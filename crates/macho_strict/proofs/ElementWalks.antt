-- A walk over the elements of an image, step by step.
use Rattle.std.proofs.Common.{◌≡◌, ℕ, ◌-◌, ◌*◌, ◌^◌, ◌≤◌, ◌<◌, ◌==◌, List, [], ◌∷◌, ◌++◌, map, Bool, true, false, All, Contains, get_or, Option, Some, None, Fits, w64, refl, sym, ap, ap₂, ◌∙◌, subst, arith, inl, inr}
use Rattle.std.specs.Prelude.{nat_lt, flat_map, if◌then◌else◌}
use Rattle.std.specs.List.{list_all}
use Rattle.std.specs.Option.{option_map, option_map_or}
use Rattle.std.proofs.Math.Nat.{mul-le-mul_right}
use Rattle.std.proofs.lemmas.Bool.{cases_Bool, ltb-true, ltb-false, eqb-true}
use Rattle.std.proofs.lemmas.List.{append-nil, append_assoc}
use Rattle.std.proofs.lemmas.Option.{none-some, same_Some}
use Rattle.std.proofs.lemmas.List.Elements.{All-nil, All-map, All-contains_itself}
use Rattle.std.proofs.lemmas.List.Folds.{flat_map-map}
use Rattle.std.proofs.lemmas.List.Sums.{AllPass-from_list_all}
use Rattle.macho_fields.specs.Image.{command_cmd, command_size, commands_of}
use Rattle.macho_fields.specs.LoadCommands.{structure_of, width_size, table_fields, unlisted_tables}
use Rattle.macho_fields.specs.Segment.{sections_in}
use Rattle.macho_fields.specs.declared.header.loader.TheConstants as loader
use Rattle.macho_fields.specs.declared.load_command.Structure.{Structure}
use Rattle.macho_fields.specs.declared.load_command.Structure.TheVariants as structure
use Rattle.macho_fields.specs.declared.load_command.TableFields.{TableFields}
use Rattle.macho_fields.proofs.LoadCommands.{unlisted_each, unlisted_inside}
use Rattle.macho_fields.proofs.Opened.{command_inside, table_fields_inside}
use Rattle.macho_image.specs.Command.{CommandView, command_at}
use Rattle.macho_image.specs.Opened.{IsOpened, IsCommandOf}
use Rattle.macho_image.specs.Segment.{SectionView, SegmentView, segment_at, section_at, sections_with, segment_of}
use Rattle.macho_rules.proofs.Judged.{opened_facts, opened_commands}
use Rattle.macho_strict.specs.Elements.{contents, relocations, headers, section_elements, described_tables, command_elements, elements_of}
use Rattle.macho_strict.specs.ElementWalk.{tables_left, section_elements_left, elements_left, described_left, HoldsTable}
use Rattle.macho_strict.specs.declared.elements.Element.{Element}

-- Tables

-- the size of a table of so many items has 64 bits, where the size of one with the most items has
pub size_fits : (count bound size : ℕ) → count < bound → (bound - 1) * size < 2 ^ 64 → Fits w64 (count * size)
size_fits count bound size few all = let most : count * size ≤ (bound - 1) * size = mul-le-mul_right size (omega arith) in omega arith

-- of each structure the fields of a table are wide enough for the size of an item
is_near : TableFields → Bool
is_near fields = nat_lt ((2 ^ (8 * width_size fields.width) - 1) * fields.item_size) (2 ^ 64)

all_near : (s : Structure) → list_all is_near (table_fields s) ≡ true
unfolding is_near
all_near structure.SymtabCommand = refl
all_near other = refl

unlisted_near : (cmd : ℕ) → list_all is_near (unlisted_tables cmd) ≡ true
unfolding is_near
unlisted_near cmd = unlisted_each (λ tables. list_all is_near tables ≡ true) refl refl refl cmd

module _ (image : List ℕ) (opened : IsOpened image) (command : ℕ) (listed : Contains (commands_of image) command) where
  of_structure : (o : Option Structure) → structure_of (command_cmd image command) ≡ o → All (HoldsTable image command) (option_map_or table_fields o [])
  unfolding is_near
  of_structure None is = All-nil (HoldsTable image command)
  of_structure (Some s) is = λ k d less.
      let (place, count) = table_fields_inside image (commands_of image) (opened_facts image opened) (opened_commands image opened) command s listed is k d less in
      record { place = place; count = count; near = ltb-true _ _ (AllPass-from_list_all is_near (table_fields s) (all_near s) k d less) }

  -- of a command that is not judged its table, if the command is long enough
  unlisted_hold : (cmd : ℕ) → loader.LINKEDIT_DATA_COMMAND_SIZE ≤ command_size image command → All (HoldsTable image command) (unlisted_tables cmd)
  unfolding is_near
  unlisted_hold cmd long = λ k d less.
      let inside = command_inside image (commands_of image) (opened_facts image opened) (opened_commands image opened) command listed in
      let fields = get_or (unlisted_tables cmd) k d in
      let (place, count) = unlisted_inside cmd k d less in
      record { place = omega arith; count = omega arith; near = ltb-true _ _ (AllPass-from_list_all is_near (unlisted_tables cmd) (unlisted_near cmd) k d less) }

  of_tables : (cmd size : ℕ) (o : Option Structure) → structure_of (command_cmd image command) ≡ o → size ≡ command_size image command
      → All (HoldsTable image command) (option_map_or table_fields o (if nat_lt size loader.LINKEDIT_DATA_COMMAND_SIZE then [] else unlisted_tables cmd))
  of_tables cmd size None is same = elim (cases_Bool (nat_lt size loader.LINKEDIT_DATA_COMMAND_SIZE)) [
    | inl t ↦ rw t (All-nil (HoldsTable image command))
    | inr f ↦ rw f (unlisted_hold cmd (let long = ltb-false size loader.LINKEDIT_DATA_COMMAND_SIZE f in omega (arith, long, same)))
  ]
  of_tables cmd size (Some s) is same = of_structure (Some s) is

  pub tables_hold : (cmd size : ℕ) → cmd ≡ command_cmd image command → size ≡ command_size image command → All (HoldsTable image command) (described_tables cmd size)
  tables_hold cmd size is same = elim (cases_Bool (cmd == loader.LC_ENCRYPTION_INFO_64)) [
    | inl t ↦ rw t (All-nil (HoldsTable image command))
    | inr f ↦ rw f (of_tables cmd size (structure_of cmd) (ap structure_of (sym is)) same)
  ]

-- Sections

pub sections_same : (image : List ℕ) (segment : ℕ) → section_elements_left (map (section_at image) (sections_with image segment)) ≡ flat_map (section_elements image) (sections_in image segment)
sections_same image segment =
    flat_map-map (λ (s : SectionView). section_elements s.image s.place) (section_at image) (sections_with image segment)
    ∙ flat_map-map (λ (pair : ℕ × ℕ). section_elements image pair.1) (λ section. (segment, section)) (sections_in image segment)

-- one section more
left_more : (seen : List SectionView) (s : SectionView) → section_elements_left (seen ++ s ∷ []) ≡ section_elements_left seen ++ section_elements s.image s.place
left_more [] s = refl
left_more (x ∷ xs) s = ap (λ rest. contents x.image x.place ∷ relocations x.image x.place ∷ rest) (left_more xs s)

pub sections_more : (elements : List Element) (seen : List SectionView) (s : SectionView)
    → ((elements ++ section_elements_left seen) ++ contents s.image s.place ∷ []) ++ relocations s.image s.place ∷ [] ≡ elements ++ section_elements_left (seen ++ s ∷ [])
sections_more elements seen s =
    append_assoc (elements ++ section_elements_left seen) (contents s.image s.place ∷ []) (relocations s.image s.place ∷ [])
    ∙ (append_assoc elements (section_elements_left seen) (section_elements s.image s.place) ∙ ap (λ rest. elements ++ rest) (sym (left_more seen s)))

-- Commands

-- what a command describes that is not a segment
pub other_elements : (image : List ℕ) (command : ℕ) → (command_cmd image command == loader.LC_SEGMENT_64) ≡ false
    → command_elements image command ≡ tables_left image command (described_tables (command_cmd image command) (command_size image command))
other_elements image command not_segment = rw not_segment refl

-- what a segment describes
of_segment : (image : List ℕ) (command : ℕ) → (command_cmd image command == loader.LC_SEGMENT_64) ≡ true → command_elements image command ≡ flat_map (section_elements image) (sections_in image command)
of_segment image command is = rw is refl

pub segment_elements : (image : List ℕ) (command : ℕ) → (command_cmd image command == loader.LC_SEGMENT_64) ≡ true
    → command_elements image command
    ≡ section_elements_left (map (section_at image) (sections_with image command)) ++ tables_left image command (described_tables (command_cmd image command) (command_size image command))
segment_elements image command is =
    rw is
    (sym (sections_same image command) ∙ (sym (append-nil (section_elements_left (map (section_at image) (sections_with image command))))
    ∙ ap (λ cmd. section_elements_left (map (section_at image) (sections_with image command)) ++ tables_left image command (described_tables cmd (command_size image command)))
    (sym (eqb-true (command_cmd image command) loader.LC_SEGMENT_64 is))))

module _ (image : List ℕ) (c : CommandView) (of : IsCommandOf image c) where
  has_cmd : c.cmd ≡ command_cmd image c.place
  has_cmd = ap (λ (v : CommandView). v.cmd) of.same

  has_size : c.size ≡ command_size image c.place
  has_size = ap (λ (v : CommandView). v.size) of.same

  -- its tables can be read
  pub described_hold : All (HoldsTable image c.place) (described_tables c.cmd c.size)
  described_hold = tables_hold image of.opened c.place of.listed c.cmd c.size has_cmd has_size

  tables_same : described_tables c.cmd c.size ≡ described_tables (command_cmd image c.place) (command_size image c.place)
  tables_same = ap₂ described_tables has_cmd has_size

  is_segment : (c.cmd == loader.LC_SEGMENT_64) ≡ true → segment_of image c ≡ Some (segment_at image c.place)
  is_segment t = rw t refl

  is_other : (c.cmd == loader.LC_SEGMENT_64) ≡ false → segment_of image c ≡ None
  is_other f = rw f refl

  -- what it describes as a segment
  pub segment_described : (s : SegmentView) → segment_of image c ≡ Some s → section_elements_left (map (section_at s.image) (sections_with s.image s.place)) ≡ command_elements image c.place
  segment_described s is = elim (cases_Bool (c.cmd == loader.LC_SEGMENT_64)) [
    | inl t ↦
        let here : segment_at image c.place ≡ s = same_Some (segment_at image c.place) s (sym (is_segment t) ∙ is) in
        ap (λ (v : SegmentView). section_elements_left (map (section_at v.image) (sections_with v.image v.place))) (sym here)
        ∙ (sections_same image c.place ∙ sym (of_segment image c.place (subst (λ cmd. (cmd == loader.LC_SEGMENT_64) ≡ true) has_cmd t)))
    | inr f ↦ absurd (none-some s (sym (is_other f) ∙ is))
  ]

  -- and as another command
  pub other_described : segment_of image c ≡ None → tables_left image c.place (described_tables c.cmd c.size) ≡ command_elements image c.place
  other_described is = elim (cases_Bool (c.cmd == loader.LC_SEGMENT_64)) [
    | inl t ↦ absurd (none-some (segment_at image c.place) (sym is ∙ is_segment t))
    | inr f ↦ ap (tables_left image c.place) tables_same ∙ sym (other_elements image c.place (subst (λ cmd. (cmd == loader.LC_SEGMENT_64) ≡ false) has_cmd f))
  ]

  -- as either
  pub as_described : (sections : Option (List SectionView)) (tables : List Element) → sections ≡ option_map (λ s. map (section_at s.image) (sections_with s.image s.place)) (segment_of image c)
      → tables ≡ tables_left image c.place (described_tables c.cmd c.size) → described_left None sections tables ≡ command_elements image c.place
  as_described sections tables have are = elim (cases_Bool (c.cmd == loader.LC_SEGMENT_64)) [
    | inl t ↦
        ap₂ (described_left None) (have ∙ ap (option_map (λ s. map (section_at s.image) (sections_with s.image s.place))) (is_segment t)) (are ∙ ap (tables_left image c.place) tables_same)
        ∙ sym (segment_elements image c.place (subst (λ cmd. (cmd == loader.LC_SEGMENT_64) ≡ true) has_cmd t))
    | inr f ↦
        ap₂ (described_left None) (have ∙ ap (option_map (λ s. map (section_at s.image) (sections_with s.image s.place))) (is_other f)) (are ∙ ap (tables_left image c.place) tables_same)
        ∙ sym (other_elements image c.place (subst (λ cmd. (cmd == loader.LC_SEGMENT_64) ≡ false) has_cmd f))
  ]

-- The walk begins

pub commands_of_image : (image : List ℕ) (commands : List CommandView) → IsOpened image → commands ≡ map (command_at image) (commands_of image) → All (IsCommandOf image) commands
commands_of_image image commands opened all =
    subst (All (IsCommandOf image)) (sym all)
    (All-map (IsCommandOf image) (command_at image) (commands_of image) (λ k d less. record { opened = opened; listed = All-contains_itself (commands_of image) k d less; same = refl }))

pub elements_begun : (image : List ℕ) (commands : List CommandView) → commands ≡ map (command_at image) (commands_of image) → headers image ∷ elements_left image commands ≡ elements_of image
elements_begun image commands all =
    ap (λ left. headers image ∷ elements_left image left) all
    ∙ ap (λ rest. headers image ∷ rest) (flat_map-map (λ (c : CommandView). command_elements image c.place) (command_at image) (commands_of image))
