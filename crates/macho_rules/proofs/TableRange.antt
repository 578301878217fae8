-- The rule on the tables that commands name.
use Rattle.std.proofs.Common.{◌≡◌, ℕ, ◌+◌, ◌≤◌, ◌<◌, List, [], ◌∷◌, ◌++◌, map, length, slice_index_or, All, Any, Contains, None, Some, refl, sym, ap, ◌∙◌, subst, arith, inl, inr}
use Rattle.std.proofs.lemmas.Bool.{cases_order}
use Rattle.std.proofs.lemmas.List.{get_or_default}
use Rattle.std.proofs.lemmas.List.Elements.{All-contains, Contains-append_cases, Contains-append_left, Contains-append_right}
use Rattle.macho_fields.proofs.Lists.{none_in_nil, contains_mapped}
use Rattle.macho_fields.specs.Image.{command_cmd, commands_of}
use Rattle.macho_fields.specs.LoadCommands.{structure_of, width_size, table_fields}
use Rattle.macho_fields.specs.Symbol.{table_at, tables_of, IsOutside}
use Rattle.macho_fields.specs.declared.load_command.Structure.{Structure}
use Rattle.macho_fields.specs.declared.load_command.TableFields.{TableFields}
use Rattle.macho_fields.proofs.LoadCommands.{tables_listed, tables_unlisted}
use Rattle.macho_fields.proofs.Opened.{table_fields_inside}
use Rattle.macho_image.specs.Command.{CommandView, command_at}
use Rattle.macho_image.specs.Opened.{IsOpened}
use Rattle.macho_image.specs.Table.{HaveTables}
use Rattle.macho_rules.proofs.Judged.{opened_facts, opened_commands}
use Rattle.macho_fields.proofs.FirstPlaces.{AreBreaks}
use Rattle.macho_rules.proofs.Searches.{mapped_has, any_of, one_of, Rising, ordered_after, ordered_before, ordered_map, Searching, search_all, first_among, are_breaks_at}
use Rattle.macho_rules.proofs.SegmentItems.{commands_rise}

-- Tables of a command

-- none of the first n tables has items and ends past the image
abbrev pub NoneOutside : List ℕ → ℕ → List TableFields → ℕ → Type 0
NoneOutside image command tables n = (k : ℕ) (d : TableFields) → k < n → ¬ IsOutside image (table_at image command (slice_index_or tables k d))

module _ (image : List ℕ) (command : ℕ) where
  abbrev Outside : TableFields → Type 0
  Outside fields = IsOutside image (table_at image command fields)

  pub none_at_first : (tables : List TableFields) → NoneOutside image command tables 0
  none_at_first tables k d less outside = absurd (omega arith)

  pub none_further : (tables : List TableFields) (n : ℕ) (d : TableFields) → n < length tables → NoneOutside image command tables n → ¬ Outside (slice_index_or tables n d)
      → NoneOutside image command tables (n + 1)
  none_further tables n d inside none here k e less outside =
      elim (cases_order k n) [
        | inl same ↦ here (subst Outside (ap (λ i. slice_index_or tables i e) same ∙ get_or_default tables n e d inside) outside)
        | inr (inl before) ↦ none k e before outside
        | inr (inr after) ↦ absurd (omega arith)
      ]

  module _ (s : Structure) (tables : List TableFields) (listed : structure_of (command_cmd image command) ≡ Some s) (is : tables ≡ table_fields s) where
    bounded : tables_of image command ≡ map (table_at image command) tables
    bounded = tables_listed image command s listed ∙ ap (map (table_at image command)) (sym is)

    pub one_outside : (n : ℕ) (d : TableFields) → n < length tables → Outside (slice_index_or tables n d) → Any (IsOutside image) (tables_of image command)
    one_outside n d inside outside =
        subst (Any (IsOutside image)) (sym bounded)
        (any_of (IsOutside image) _ _
        (contains_mapped (table_at image command) tables (slice_index_or tables n d) (n, inside, get_or_default tables n (slice_index_or tables n d) d inside)) outside)

    pub none_of_all : (n : ℕ) → length tables ≤ n → NoneOutside image command tables n → ¬ Any (IsOutside image) (tables_of image command)
    none_of_all n all none any =
        let (table, has, outside) = one_of (IsOutside image) _ (subst (Any (IsOutside image)) bounded any) in
        let (fields, (k, less, at), same) = mapped_has (table_at image command) tables table has in
        none k fields (omega arith) (subst Outside (sym at) (subst (IsOutside image) (sym same) outside))

    -- the fields that bound a table lie inside the image
    abbrev LieInside : TableFields → Type 0
    LieInside fields = (command + fields.place + width_size fields.width ≤ length image) × (command + fields.count + width_size fields.width ≤ length image)

    pub fields_held : IsOpened image → Contains (commands_of image) command → (n : ℕ) (d : TableFields) → n < length tables → LieInside (slice_index_or tables n d)
    fields_held opened has n d less =
        subst (All LieInside) (sym is) (table_fields_inside image (commands_of image) (opened_facts image opened) (opened_commands image opened) command s has listed) n d less

  pub none_listed : structure_of (command_cmd image command) ≡ None → ¬ Any (IsOutside image) (tables_of image command)
  none_listed none any =
      let (table, has, _) = one_of (IsOutside image) [] (subst (Any (IsOutside image)) (tables_unlisted image command none) any) in none_in_nil table has

-- Commands

-- a command names a table that has items and ends past the image
abbrev pub HasTableOutside : List ℕ → ℕ → Type 0
HasTableOutside image command = Any (IsOutside image) (tables_of image command)

-- the commands from the first that names a table to the last
module _ (image : List ℕ) (all : List CommandView) (opened : IsOpened image) (have : HaveTables image all) where
  pub views_search : (Q : CommandView → Type 0) → Searching (λ v. v.place) Q all all
  views_search Q =
      search_all (λ v. v.place) Q all (subst (Rising (λ v. v.place)) (sym have.are)
      (ordered_map (λ (v w : CommandView). v.place ≤ w.place) (command_at image) have.among
      (ordered_after ◌≤◌ have.before have.among (ordered_before ◌≤◌ (have.before ++ have.among) have.after (subst (Rising (λ p. p)) have.whole (commands_rise image opened))))))

  is_command : (p : ℕ) → Contains have.among p → Contains (commands_of image) p
  is_command p has =
      subst (λ ps. Contains ps p) (sym have.whole) (Contains-append_left (have.before ++ have.among) have.after p (Contains-append_right have.before have.among p has))

  -- a command that names a table is one of them
  is_among : (p : ℕ) → Contains (commands_of image) p → HasTableOutside image p → Contains have.among p
  is_among p has named = elim (Contains-append_cases (have.before ++ have.among) have.after p (subst (λ ps. Contains ps p) have.whole has)) [
    | inl within ↦ elim (Contains-append_cases have.before have.among p within) [
      | inl early ↦ absurd (none_named (All-contains (λ command. tables_of image command ≡ []) have.before p have.none_before early) named)
      | inr here ↦ here
    ]
    | inr late ↦ absurd (none_named (All-contains (λ command. tables_of image command ≡ []) have.after p have.none_after late) named)
  ]
    where
      none_named : tables_of image p ≡ [] → ¬ HasTableOutside image p
      none_named none any = let (table, within, _) = one_of (IsOutside image) [] (subst (Any (IsOutside image)) none any) in none_in_nil table within

  pub views_break : AreBreaks (λ p. Contains (commands_of image) p × HasTableOutside image p) (λ v. v.place) (λ v. HasTableOutside image v.place) all
  views_break =
      subst (AreBreaks (λ p. Contains (commands_of image) p × HasTableOutside image p) (λ v. v.place) (λ v. HasTableOutside image v.place)) (sym have.are)
      (are_breaks_at (λ p. Contains (commands_of image) p × HasTableOutside image p) (λ (v : CommandView). v.place) (λ v. HasTableOutside image v.place) (command_at image) have.among
      (λ p has named. (is_command p has, named)) (λ p broken. (p, is_among p broken.0 broken.1, broken.1, refl)))

  -- a command that is left is one of the image
  pub view_left : (Q : CommandView → Type 0) (left rest : List CommandView) (v : CommandView) → left ≡ v ∷ rest → Searching (λ w. w.place) Q all left
      → Contains (commands_of image) v.place × (v.cmd ≡ command_cmd image v.place)
  view_left Q left rest v is search =
      let (p, has, at) = mapped_has (command_at image) have.among v (subst (λ these. Contains these v) have.are (first_among (λ w. w.place) Q all left rest v is search)) in
      subst (λ (w : CommandView). Contains (commands_of image) w.place × (w.cmd ≡ command_cmd image w.place)) at (is_command p has, refl)
