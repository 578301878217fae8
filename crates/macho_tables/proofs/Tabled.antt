-- The commands from the first that names a table to the last.
use Rattle.std.proofs.Common.{◌≡◌, ◌∙◌, ◌==◌, ◌<◌, ◌≤◌, ◌&&◌, ◌||◌, ℕ, List, [], ◌∷◌, ◌++◌, map, filter, length, slice_get, Contains, Bool, true, false, Option, None, Some, refl, sym, ap, subst, arith, lit<, inl, inr}
use Rattle.std.specs.List.{find}
use Rattle.std.specs.Option.{option_map, option_map_or}
use Rattle.std.proofs.lemmas.Bool.{cases_Bool, or_cases, and_parts, false≢true}
use Rattle.std.proofs.lemmas.Bool.Decides.{nat_tests}
use Rattle.std.proofs.lemmas.List.{append-nil, length-map}
use Rattle.std.proofs.lemmas.List.Elements.{All-contains, Contains-append_cases, Contains-append_left, Contains-append_right, filter-append}
use Rattle.macho_fields.specs.Image.{command_cmd, commands_of}
use Rattle.macho_fields.specs.LoadCommands.{structure_of, table_fields}
use Rattle.macho_fields.specs.Symbol.{table_at, tables_of}
use Rattle.macho_fields.specs.declared.header.loader.TheConstants as loader
use Rattle.macho_fields.specs.declared.load_command.Structure.{Structure}
use Rattle.macho_fields.specs.declared.load_command.TableFields.{TableFields}
use Rattle.macho_fields.proofs.Lists.{contains_first, contains_later}
use Rattle.macho_image.specs.Command.{CommandView, command_at, first_with_cmd}
use Rattle.macho_image.specs.Opened.{IsOpened}
use Rattle.macho_image.specs.Table.{HaveTables}
use Rattle.macho_rules.proofs.Searches.{one_of, Rising, ordered_after, ordered_before}
use Rattle.macho_rules.proofs.SegmentItems.{commands_rise}
use Rattle.macho_tables.specs.Homes.{HasLost}
use Rattle.macho_tables.specs.Kinds.{is_one_of, is_fixups, is_exports, is_alone, names_linked_data, share_kind, RepeatsEarlier}

-- the fields that bound the tables of a command with this cmd
abbrev pub fields_of : ℕ → List TableFields
fields_of cmd = option_map_or table_fields (structure_of cmd) []

-- such a command names a table
abbrev pub NamesTables : ℕ → Type 0
NamesTables cmd = 0 < length (fields_of cmd)

-- and so it does if it has such fields
pub some_fields : (fields : List TableFields) (cmd : ℕ) → fields ≡ fields_of cmd → false ≡ (length fields == 0) → NamesTables cmd
some_fields fields cmd are some = subst (λ (these : List TableFields). 0 < length these) are (more fields some)
  where
    more : (these : List TableFields) → false ≡ (length these == 0) → 0 < length these
    more [] wrong = absurd (false≢true wrong)
    more (one ∷ others) _ = omega arith

-- the tables are bounded by them
bounded : (image : List ℕ) (command : ℕ) → tables_of image command ≡ map (table_at image command) (fields_of (command_cmd image command))
bounded image command = by_structure (structure_of (command_cmd image command))
  where
    by_structure : (s : Option Structure) → option_map_or (λ t. map (table_at image command) (table_fields t)) s [] ≡ map (table_at image command) (option_map_or table_fields s [])
    by_structure None = refl
    by_structure (Some s) = refl

module _ (image : List ℕ) {all : List CommandView} (have : HaveTables image all) where
  pub is_command : (p : ℕ) → Contains have.among p → Contains (commands_of image) p
  is_command p has =
      subst (λ ps. Contains ps p) (sym have.whole) (Contains-append_left (have.before ++ have.among) have.after p (Contains-append_right have.before have.among p has))

  pub tabled_rise : IsOpened image → Rising (λ p. p) have.among
  tabled_rise opened =
      ordered_after ◌≤◌ have.before have.among (ordered_before ◌≤◌ (have.before ++ have.among) have.after (subst (Rising (λ p. p)) have.whole (commands_rise image opened)))

  -- where a command names none, its cmd does not
  unnamed : (p : ℕ) → tables_of image p ≡ [] → ¬ NamesTables (command_cmd image p)
  unnamed p none names =
      let count = length-map (fields_of (command_cmd image p)) (table_at image p) in
      let zero = ap length (sym (bounded image p) ∙ none) in
      omega (arith, names, count, zero)

  -- a command that names a table is one of them
  pub is_tabled : (p : ℕ) → Contains (commands_of image) p → NamesTables (command_cmd image p) → Contains have.among p
  is_tabled p has names = elim (Contains-append_cases (have.before ++ have.among) have.after p (subst (λ ps. Contains ps p) have.whole has)) [
    | inl within ↦ elim (Contains-append_cases have.before have.among p within) [
      | inl early ↦ absurd (unnamed p (All-contains (λ command. tables_of image command ≡ []) have.before p have.none_before early) names)
      | inr here ↦ here
    ]
    | inr late ↦ absurd (unnamed p (All-contains (λ command. tables_of image command ≡ []) have.after p have.none_after late) names)
  ]

  module _ (cmd : ℕ) (names : NamesTables cmd) where
    abbrev wanted : ℕ → Bool
    wanted p = command_cmd image p == cmd

    none_with_cmd : (ps : List ℕ) → ((p : ℕ) → Contains ps p → tables_of image p ≡ []) → filter wanted ps ≡ []
    none_with_cmd [] none = refl
    none_with_cmd (p ∷ ps) none = elim (cases_Bool (wanted p)) [
      | inl t ↦ let same : command_cmd image p ≡ cmd = grind (arith, nat_tests, t) in absurd (unnamed p (none p (contains_first p ps)) (subst NamesTables (sym same) names))
      | inr f ↦ rw f (none_with_cmd ps (λ q has. none q (contains_later p q ps has)))
    ]

    first_at : (ps : List ℕ) → option_map (λ (v : CommandView). v.place) (find (λ (v : CommandView). v.cmd == cmd) (map (command_at image) ps)) ≡ slice_get (filter wanted ps) 0
    first_at [] = refl
    first_at (p ∷ ps) = elim (cases_Bool (wanted p)) [ inl t ↦ rw t refl | inr f ↦ rw f (first_at ps) ]

    -- the first command with such a cmd is the first of them
    pub first_tabled : option_map (λ (v : CommandView). v.place) (find (λ (v : CommandView). v.cmd == cmd) all) ≡ first_with_cmd image cmd (commands_of image)
    first_tabled =
        ap (λ (vs : List CommandView). option_map (λ (v : CommandView). v.place) (find (λ (v : CommandView). v.cmd == cmd) vs)) have.are
        ∙ (first_at have.among ∙ sym (ap (λ ps. slice_get ps 0) kept))
      where
        kept : filter wanted (commands_of image) ≡ filter wanted have.among
        kept =
            ap (filter wanted) have.whole
            ∙ (filter-append wanted (have.before ++ have.among) have.after
            ∙ (ap (λ ps. filter wanted (have.before ++ have.among) ++ ps) (none_with_cmd have.after (λ p has. All-contains (λ command. tables_of image command ≡ []) have.after p have.none_after has))
            ∙ (append-nil (filter wanted (have.before ++ have.among))
            ∙ (filter-append wanted have.before have.among
            ∙ ap (λ ps. ps ++ filter wanted have.among) (none_with_cmd have.before (λ p has. All-contains (λ command. tables_of image command ≡ []) have.before p have.none_before has))))))

-- Which of them name a table

one_of_three : (P : ℕ → Type 0) (cmd a b c : ℕ) → P a → P b → P c → is_one_of (a ∷ b ∷ c ∷ []) cmd ≡ true → P cmd
one_of_three P cmd a b c at_a at_b at_c is = elim (or_cases (cmd == a) (cmd == b || (cmd == c || false)) is) [
  | inl t ↦ let same : cmd ≡ a = grind (arith, nat_tests, t) in subst P (sym same) at_a
  | inr rest ↦ elim (or_cases (cmd == b) (cmd == c || false) rest) [
    | inl t ↦ let same : cmd ≡ b = grind (arith, nat_tests, t) in subst P (sym same) at_b
    | inr last ↦ elim (or_cases (cmd == c) false last) [
      | inl t ↦ let same : cmd ≡ c = grind (arith, nat_tests, t) in subst P (sym same) at_c
      | inr wrong ↦ absurd (false≢true wrong)
    ]
  ]
]

pub linked_named : (cmd : ℕ) → names_linked_data cmd ≡ true → NamesTables cmd
linked_named cmd is = elim (or_cases (is_fixups cmd) (is_exports cmd || is_alone cmd) is) [
  | inl fixups ↦ one_of_three NamesTables cmd loader.LC_DYLD_INFO loader.LC_DYLD_INFO_ONLY loader.LC_DYLD_CHAINED_FIXUPS (lit< tt) (lit< tt) (lit< tt) fixups
  | inr other ↦ elim (or_cases (is_exports cmd) (is_alone cmd) other) [
    | inl exports ↦ one_of_three NamesTables cmd loader.LC_DYLD_INFO loader.LC_DYLD_INFO_ONLY loader.LC_DYLD_EXPORTS_TRIE (lit< tt) (lit< tt) (lit< tt) exports
    | inr alone ↦ one_of_three NamesTables cmd loader.LC_FUNCTION_STARTS loader.LC_DATA_IN_CODE loader.LC_CODE_SIGNATURE (lit< tt) (lit< tt) (lit< tt) alone
  ]
]

by_fixups : (cmd : ℕ) → is_fixups cmd ≡ true → names_linked_data cmd ≡ true
by_fixups cmd is = ap (λ b. b || (is_exports cmd || is_alone cmd)) is

by_others : (cmd : ℕ) → (is_exports cmd || is_alone cmd) ≡ true → names_linked_data cmd ≡ true
by_others cmd is = elim (cases_Bool (is_fixups cmd)) [
  | inl t ↦ by_fixups cmd t
  | inr f ↦ ap (λ b. b || (is_exports cmd || is_alone cmd)) f ∙ is
]

by_exports : (cmd : ℕ) → is_exports cmd ≡ true → names_linked_data cmd ≡ true
by_exports cmd is = by_others cmd (ap (λ b. b || is_alone cmd) is)

by_alone : (cmd : ℕ) → is_alone cmd ≡ true → names_linked_data cmd ≡ true
by_alone cmd is = by_others cmd (elim (cases_Bool (is_exports cmd)) [ inl t ↦ ap (λ b. b || is_alone cmd) t | inr f ↦ ap (λ b. b || is_alone cmd) f ∙ is ])

-- commands of a common kind name linked data
pub share_named : (cmd other : ℕ) → share_kind cmd other ≡ true → (names_linked_data cmd ≡ true) × (names_linked_data other ≡ true)
share_named cmd other is = elim (or_cases (is_fixups cmd && is_fixups other) ((is_exports cmd && is_exports other) || (is_alone cmd && cmd == other)) is) [
  | inl fixups ↦ let both = and_parts (is_fixups cmd) (is_fixups other) fixups in (by_fixups cmd both.0, by_fixups other both.1)
  | inr rest ↦ elim (or_cases (is_exports cmd && is_exports other) (is_alone cmd && cmd == other) rest) [
    | inl exports ↦ let both = and_parts (is_exports cmd) (is_exports other) exports in (by_exports cmd both.0, by_exports other both.1)
    | inr alone ↦
        let both = and_parts (is_alone cmd) (cmd == other) alone in
        let same : cmd ≡ other = let t = both.1 in grind (arith, nat_tests, t) in
        (by_alone cmd both.0, by_alone other (subst (λ n. is_alone n ≡ true) same both.0))
  ]
]

-- a command of a kind of an earlier one names a table
pub repeats_named : (image : List ℕ) (p : ℕ) → RepeatsEarlier image p → NamesTables (command_cmd image p)
repeats_named image p repeats =
    let (earlier, _, here) = one_of (λ q. (q < p) × (share_kind (command_cmd image q) (command_cmd image p) ≡ true)) (commands_of image) repeats in
    linked_named (command_cmd image p) (share_named (command_cmd image earlier) (command_cmd image p) here.1).1

-- and so does one that names what has no home
pub lost_named : (image : List ℕ) (p : ℕ) → HasLost image p → NamesTables (command_cmd image p)
lost_named image p lost = elim lost [
  | inl (linked, _) ↦ linked_named (command_cmd image p) linked
  | inr (inl (symtab, _)) ↦ subst NamesTables (sym symtab) (lit< tt)
  | inr (inr (dysymtab, _)) ↦ subst NamesTables (sym dysymtab) (lit< tt)
]
