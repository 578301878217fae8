-- What describes the elements of an opened image: its places do not fall from one element to the next.
use Rattle.std.proofs.Common.{◌≡◌, ◌==◌, ℕ, ◌+◌, ◌*◌, ◌≤◌, List, [], ◌∷◌, map, Contains, ap, subst, arith, inl, inr, le_refl}
use Rattle.std.specs.Prelude.{flat_map}
use Rattle.std.proofs.lemmas.Bool.{cases_Bool}
use Rattle.std.proofs.lemmas.List.Elements.{Contains-append_cases}
use Rattle.macho_fields.specs.Image.{command_cmd, command_size, commands_of, Follow}
use Rattle.macho_fields.specs.Segment.{sections_in, nsects}
use Rattle.macho_fields.specs.Symbol.{table_at}
use Rattle.macho_fields.specs.declared.load_command.TableFields.{TableFields}
use Rattle.macho_fields.specs.declared.header.loader.TheConstants as loader
use Rattle.macho_fields.proofs.Lists.{none_in_nil, contains_first, contains_later, first_or_later}
use Rattle.macho_image.specs.Opened.{IsOpened}
use Rattle.macho_image.proofs.OpenedWalk.{opened_commands}
use Rattle.macho_rules.proofs.Mapped.{filtered}
use Rattle.macho_rules.proofs.Searches.{numbers_rise, ordered_append, Rising}
use Rattle.macho_rules.proofs.SectionItems.{after_segment, section_before}
use Rattle.macho_strict.specs.Elements.{contents, relocations, section_elements, table_element, described_tables, command_elements, elements_of}
use Rattle.macho_strict.specs.declared.elements.Element.{Element}

abbrev pub place_of : Element → ℕ
place_of element = element.described

-- each element is described from the one place to the other
abbrev pub Between : ℕ → ℕ → List Element → Type 0
Between low high elements = (e : Element) → Contains elements e → (low ≤ e.described) × (e.described ≤ high)

module _ (image : List ℕ) where
  -- Sections

  abbrev of : List ℕ → List Element
  of sections = flat_map (section_elements image) sections

  -- the two elements of a section are described by it
  by_section : (sections : List ℕ) (e : Element) → Contains (of sections) e → Contains sections e.described
  by_section [] e has = absurd (none_in_nil e has)
  by_section (s ∷ ss) e has = elim (first_or_later (contents image s) e (relocations image s ∷ of ss) has) [
    | inl same ↦ subst (Contains (s ∷ ss)) (ap place_of same) (contains_first s ss)
    | inr later ↦ elim (first_or_later (relocations image s) e (of ss) later) [
      | inl same ↦ subst (Contains (s ∷ ss)) (ap place_of same) (contains_first s ss)
      | inr rest ↦ contains_later s e.described ss (by_section ss e rest)
    ]
  ]

  sections_rise : (sections : List ℕ) → Rising (λ p. p) sections → Rising place_of (of sections)
  sections_rise [] rising = tt
  sections_rise (s ∷ ss) (first, rising) =
      ((λ e has. not_below e (by_section (s ∷ ss) e (contains_later (contents image s) e (relocations image s ∷ of ss) has))), (λ e has. first e.described (by_section ss e has), sections_rise ss rising))
    where
      not_below : (e : Element) → Contains (s ∷ ss) e.described → s ≤ e.described
      not_below e has = elim (first_or_later s e.described ss has) [ inl same ↦ omega arith | inr later ↦ first e.described later ]

  -- Tables

  abbrev table_of : ℕ → TableFields → Element
  table_of command fields = table_element command (table_at image command fields)

  of_table : (command : ℕ) (tables : List TableFields) (e : Element) → Contains (map (table_of command) tables) e → command ≡ e.described
  of_table command [] e has = absurd (none_in_nil e has)
  of_table command (t ∷ ts) e has = elim (first_or_later (table_of command t) e (map (table_of command) ts) has) [ inl same ↦ ap place_of same | inr later ↦ of_table command ts e later ]

  tables_rise : (command : ℕ) (tables : List TableFields) → Rising place_of (map (table_of command) tables)
  tables_rise command [] = tt
  tables_rise command (t ∷ ts) = ((λ e has. let same = of_table command ts e has in omega arith), tables_rise command ts)

  abbrev tables_here : ℕ → List TableFields
  tables_here command = described_tables (command_cmd image command) (command_size image command)

  -- Commands

  command_rises : (command : ℕ) → Rising place_of (command_elements image command)
  command_rises command = elim (cases_Bool (command_cmd image command == loader.LC_SEGMENT_64)) [
    | inl t ↦ rw t (sections_rise (sections_in image command) (numbers_rise (λ k. command + 72 + 80 * k) (λ i k less. omega arith) 0 (nsects image command)))
    | inr f ↦ rw f (tables_rise command (tables_here command))
  ]

  module _ (opened : IsOpened image) where
    pub command_between : (command : ℕ) → Contains (commands_of image) command → Between command (command + command_size image command) (command_elements image command)
    command_between command listed = elim (cases_Bool (command_cmd image command == loader.LC_SEGMENT_64)) [
      | inl t ↦ rw t (λ e has. let among = by_section (sections_in image command) e has in (
        after_segment image command e.described among,
        section_before image opened command (command + command_size image command) e.described (filtered (λ c. command_cmd image c == loader.LC_SEGMENT_64) (commands_of image) command listed t) (le_refl (command + command_size image command)) among,
      ))
      | inr f ↦ rw f (λ e has. let same = of_table command (tables_here command) e has in (omega arith, omega arith))
    ]

    -- the elements of some commands are described from a place on, in order
    abbrev Rise : ℕ → List ℕ → Type 0
    Rise start commands =
        Rising place_of (flat_map (command_elements image) commands) × ((e : Element) → Contains (flat_map (command_elements image) commands) e → start ≤ e.described)

    with_command : (c : ℕ) (cs : List ℕ) → Between c (c + command_size image c) (command_elements image c) → Rise (c + command_size image c) cs → Rise c (c ∷ cs)
    with_command c cs between rest = (
      ordered_append (λ (a b : Element). a.described ≤ b.described) (command_elements image c) (flat_map (command_elements image) cs) (command_rises c) rest.0
          (λ a b has_a has_b. let here = (between a has_a).1 in let there = rest.1 b has_b in omega arith),
      λ e has. elim (Contains-append_cases (command_elements image c) (flat_map (command_elements image) cs) e has) [
        | inl here ↦ (between e here).0
        | inr later ↦ let low = rest.1 e later in omega arith
      ],
    )

    chain_rises : (start : ℕ) (commands : List ℕ) (next : ℕ) → Follow image start commands next → ((command : ℕ) → Contains commands command → Contains (commands_of image) command) → Rise start commands
    chain_rises start [] next chain among = (tt, λ e has. absurd (none_in_nil e has))
    chain_rises start (c ∷ cs) next (is, _, chain) among =
        subst (λ p. Rise p (c ∷ cs)) is
        (with_command c cs (command_between c (among c (contains_first c cs)))
        (chain_rises (c + command_size image c) cs next chain (λ command has. among command (contains_later c command cs has))))

    pub elements_rise : Rising place_of (elements_of image)
    elements_rise =
        let (count, next, chain) = opened_commands image opened in
        ((λ e has. omega arith), (chain_rises 32 (commands_of image) next chain (λ command has. has)).0)
