-- The bytes of load commands that nothing in them describes.
use Rattle.std.specs.Prelude.{IfSome}
use Rattle.std.specs.Option.{is_some}
use Rattle.std.proofs.Common.{◌≡◌, ℕ, ◌+◌, ◌≤◌, ◌<◌, true, false, List, [], ◌∷◌, map, length, slice_get, Contains, Option, None, Some, refl, sym, ap, ◌∙◌, subst, arith, inl, inr}
use Rattle.std.proofs.lemmas.Bool.{true≢false, cases_lt, cases_eq}
use Rattle.std.proofs.lemmas.List.Elements.{All-contains}
use Rattle.std.proofs.lemmas.Option.{slice_get_within, get_or_from_slice_get}
use Rattle.macho_fields.specs.Command.{IsBadName, least_size, name_start, name_offset}
use Rattle.macho_fields.specs.Field.{HasZero}
use Rattle.macho_fields.specs.FirstPlace.{IsLeastPlace}
use Rattle.macho_fields.specs.Image.{command_cmd, command_size, commands_of, Follow}
use Rattle.macho_fields.specs.LoadCommands.{structure_of, structure_size, has_name, records_of}
use Rattle.macho_fields.specs.NonZero.{IsNonZero}
use Rattle.macho_fields.specs.declared.load_command.Structure.{Structure}
use Rattle.macho_fields.specs.declared.load_command.Structure.TheVariants as structure
use Rattle.macho_fields.specs.declared.rule.Rule.TheVariants as rule
use Rattle.macho_fields.proofs.Chains.{places_above}
use Rattle.macho_fields.proofs.LoadCommands.{has_structure, name_inside}
use Rattle.macho_fields.proofs.Lists.{any_of, none_in_nil, contains_mapped, first_or_later}
use Rattle.macho_fields.proofs.Opened.{command_inside, structure_inside, name_ended}
use Rattle.macho_fields.proofs.Options.{of_some}
use Rattle.macho_image.specs.Command.{CommandView, command_at}
use Rattle.macho_image.specs.Opened.{IsOpened, IsCommandOf}
use Rattle.macho_image.proofs.Opened.{opened_keeps}
use Rattle.macho_image.proofs.OpenedWalk.{opened_commands}
use Rattle.macho_rules.proofs.Searches.{Rising, Searching, search_all, first_among, not_before, none_left, mapped_has, ordered_map, one_of}
use Rattle.macho_rules.proofs.SegmentItems.{commands_rise}
use Rattle.macho_strict.specs.Rules.{BreaksStrictImage, IsSlack, IsInName}
use Rattle.macho_strict.specs.Slack.{IsNonZeroSlack, IsNonZeroWithin, IsNonZeroAround, IsCounted}
use Rattle.macho_strict.proofs.Passed.{least_same}

-- Around a name

-- where each byte from start up to the name is zero, the first that is not comes after the byte that ends the name
pub least_around : (image : List ℕ) (command start end name ending : ℕ) (before after : Option ℕ) → name ≡ name_start image command → start ≤ name → name ≤ ending
    → ending < end → slice_get image ending ≡ Some 0 → ¬ HasZero image name ending → is_some before ≡ false → IsLeastPlace (IsNonZeroWithin image start name) before
    → IsLeastPlace (IsNonZeroWithin image (ending + 1) end) after → IsLeastPlace (IsNonZeroAround image command start end) after
least_around image command start end name ending before after is from named within ended first none earlier later =
    least_same (IsNonZeroWithin image (ending + 1) end) (IsNonZeroAround image command start end) outside further after later
  where
    has_end : (p : ℕ) → ending < p → HasZero image name p
    has_end p past = (ending, named, past, slice_get_within image ending 0 ended, get_or_from_slice_get image ending 0 0 ended)

    outside : (p : ℕ) → IsNonZeroWithin image (ending + 1) end p → IsNonZeroAround image command start end p
    outside p (low, high, here) = ((omega arith, high, here), λ named_too. named_too.1 (subst (λ n. HasZero image n p) is (has_end p (omega arith))))

    none_before : (found : Option ℕ) → is_some found ≡ false → IsLeastPlace (IsNonZeroWithin image start name) found → (p : ℕ) → ¬ IsNonZeroWithin image start name p
    none_before None same none = none
    none_before (Some q) same least = absurd (true≢false same)

    unnamed : (p : ℕ) → p < ending + 1 → ¬ HasZero image name p
    unnamed p less (z, low, high, inside, zeroed) = first (z, low, omega arith, inside, zeroed)

    further : (p : ℕ) → IsNonZeroAround image command start end p → IsNonZeroWithin image (ending + 1) end p
    further p ((low, high, here), out) = elim (cases_lt p name) [
      | inl early ↦ absurd (none_before before none earlier p (low, early, here))
      | inr late ↦
          elim (cases_lt p (ending + 1)) [
            | inl less ↦ absurd (out (omega arith, subst (λ n. ¬ HasZero image n p) is (unnamed p less)))
            | inr past ↦ (past, high, here)
          ]
    ]

-- A command with a structure

-- a structure with a name has no records
pub no_records : (image : List ℕ) (command : ℕ) (s : Structure) → has_name s ≡ true → least_size image command s ≡ structure_size s
no_records image command structure.DylibCommand named = refl
no_records image command structure.DylinkerCommand named = refl
no_records image command structure.RpathCommand named = refl
no_records image command other named = absurd (true≢false (sym named))

-- the number of the records lies in a command that the structure lies in
count_within : (size : ℕ) (s : Structure) → structure_size s ≤ size → IfSome (records_of s) (λ records. records.count + 4 ≤ size)
count_within size structure.SegmentCommand64 whole = omega arith
count_within size structure.BuildVersionCommand whole = omega arith
count_within size other whole = tt

module _ (image : List ℕ) (command : CommandView) (judged : IsCommandOf image command) (s : Structure) (known : structure_of command.cmd ≡ Some s) where
  is_size : command_size image command.place ≡ command.size
  is_size = sym (ap (λ (v : CommandView). v.size) judged.same)

  is_listed : structure_of (command_cmd image command.place) ≡ Some s
  is_listed = ap structure_of (sym (ap (λ (v : CommandView). v.cmd) judged.same)) ∙ known

  pub command_within : command.place + command.size ≤ length image
  command_within = let inside = command_inside image (commands_of image) (opened_keeps image judged.opened) (opened_commands image judged.opened) command.place judged.listed in omega (arith, is_size)

  pub least_within : least_size image command.place s ≤ command.size
  least_within =
      let inside = structure_inside image (commands_of image) (opened_keeps image judged.opened) (opened_commands image judged.opened) command.place s judged.listed is_listed in
      omega (arith, is_size)

  -- the number of the records can be read
  pub counted : IsCounted image command.place s
  counted = let whole = least_within in count_within (command_size image command.place) s (omega (arith, is_size))

  module _ (named : has_name s ≡ true) where
    -- the name ends in the command
    pub name_ends : HasZero image (name_start image command.place) (command.place + command.size)
    name_ends =
        subst (λ size. HasZero image (name_start image command.place) (command.place + size)) is_size
        (name_ended image (commands_of image) (opened_keeps image judged.opened) (opened_commands image judged.opened) command.place judged.listed
        (of_some (λ t. has_name t ≡ true) (structure_of (command_cmd image command.place)) s is_listed named))

    -- the lc_str lies in the structure
    pub offset_within : command.place + 12 ≤ command.place + least_size image command.place s
    offset_within = let inside = name_inside s named in omega (arith, no_records image command.place s named)

    -- the name follows the structure
    pub name_after : command.place + least_size image command.place s ≤ name_start image command.place
    name_after = elim (cases_lt (name_offset image command.place) (structure_size s)) [
      | inl early ↦ absurd (too_early early)
      | inr late ↦ omega (arith, no_records image command.place s named)
    ]
      where
        too_early : name_offset image command.place < structure_size s → ⊥
        too_early early =
            (opened_keeps image judged.opened).named (commands_of image) (opened_commands image judged.opened) command.place judged.listed
            (of_some (IsBadName image command.place) (structure_of (command_cmd image command.place)) s is_listed (named, inl early))

  -- what is slack
  abbrev Past : ℕ → Type 0
  Past p = (command.place + least_size image command.place s ≤ p) × ¬ IsInName image command.place s p

  slack_of : (p : ℕ) → IsNonZero image p → p < command.place + command.size → Past p → IsNonZeroSlack image command.place p
  slack_of p here high past =
      (here, ((omega (arith, past.0), omega (arith, is_size)), (has_structure image command.place (λ t. (command.place + least_size image command.place t ≤ p) × ¬ IsInName image command.place t p) s is_listed).1 past))

  of_slack : (p : ℕ) → IsNonZeroSlack image command.place p → IsNonZero image p × (p < command.place + command.size) × Past p
  of_slack p (here, (covers, past)) =
      (here, omega (arith, covers.1, is_size), (has_structure image command.place (λ t. (command.place + least_size image command.place t ≤ p) × ¬ IsInName image command.place t p) s is_listed).0 past)

  -- the first byte of slack of a command with a name
  pub least_named : (start end : ℕ) (found : Option ℕ) → has_name s ≡ true → start ≡ command.place + least_size image command.place s → end ≡ command.place + command.size
      → IsLeastPlace (IsNonZeroAround image command.place start end) found → IsLeastPlace (IsNonZeroSlack image command.place) found
  least_named start end found named starts ends least =
      least_same (IsNonZeroAround image command.place start end) (IsNonZeroSlack image command.place)
      (λ p ((low, high, here), out). slack_of p here (omega arith) (omega arith, λ within. out (within.1, within.2)))
      (λ p slack. let (here, high, (past, out)) = of_slack p slack in ((omega arith, omega arith, here), λ within. out (named, within.0, within.1))) found least

  -- and of one without a name
  pub least_unnamed : (start end : ℕ) (found : Option ℕ) → has_name s ≡ false → start ≡ command.place + least_size image command.place s → end ≡ command.place + command.size
      → IsLeastPlace (IsNonZeroWithin image start end) found → IsLeastPlace (IsNonZeroSlack image command.place) found
  least_unnamed start end found unnamed starts ends least =
      least_same (IsNonZeroWithin image start end) (IsNonZeroSlack image command.place)
      (λ p (low, high, here). slack_of p here (omega arith) (omega arith, λ within. true≢false (sym within.0 ∙ unnamed)))
      (λ p slack. let (here, high, (past, out)) = of_slack p slack in (omega arith, omega arith, here)) found least

-- Commands

-- of two commands the earlier ends before the later begins
spread : (image : List ℕ) (start : ℕ) (xs : List ℕ) (m a b : ℕ) → Follow image start xs m → Contains xs a → Contains xs b → a < b → a + command_size image a ≤ b
spread image start [] m a b chain has_a has_b less = absurd (none_in_nil a has_a)
spread image start (x ∷ xs) m a b chain has_a has_b less = elim (first_or_later x a xs has_a) [
  | inl first ↦
      elim (first_or_later x b xs has_b) [
        | inl same ↦ absurd (omega arith)
        | inr later ↦ subst (λ c. c + command_size image c ≤ b) first (All-contains (λ p. x + command_size image x ≤ p) xs b (places_above image (x + command_size image x) xs m chain.2) later)
      ]
  | inr after ↦
      elim (first_or_later x b xs has_b) [
        | inl same ↦ let above = All-contains (λ p. x + command_size image x ≤ p) xs a (places_above image (x + command_size image x) xs m chain.2) after in absurd (omega arith)
        | inr later ↦ spread image (x + command_size image x) xs m a b chain.2 after later less
      ]
]

-- the command has such a byte
abbrev pub HasSlack : List ℕ → CommandView → Type 0
HasSlack image v = (p : ℕ) × IsNonZeroSlack image v.place p

module _ (image : List ℕ) (opened : IsOpened image) (all : List CommandView) (are : all ≡ map (command_at image) (commands_of image)) where
  pub slack_search : (P : CommandView → Type 0) → Searching (λ v. v.place) P all all
  slack_search P =
      search_all (λ v. v.place) P all
      (subst (Rising (λ v. v.place)) (sym are) (ordered_map (λ (v w : CommandView). v.place ≤ w.place) (command_at image) (commands_of image) (commands_rise image opened)))

  among_all : (command : ℕ) → Contains (commands_of image) command → Contains all (command_at image command)
  among_all command has = subst (λ these. Contains these (command_at image command)) (sym are) (contains_mapped (command_at image) (commands_of image) command has)

  module _ (left rest : List CommandView) (v : CommandView) (is : left ≡ v ∷ rest) (search : Searching (λ w. w.place) (HasSlack image) all left) where
    -- a command that is left is one of the image
    pub is_judged : IsCommandOf image v
    is_judged =
        let (p, has, at) = mapped_has (command_at image) (commands_of image) v (subst (λ these. Contains these v) are (first_among (λ w. w.place) (HasSlack image) all left rest v is search)) in
        subst (IsCommandOf image) at (record { opened = opened; listed = has; same = refl })

    -- the first byte of slack of the first command that has one is the first of all
    pub slack_found : (place : ℕ) → IsLeastPlace (IsNonZeroSlack image v.place) (Some place)
        → BreaksStrictImage image rule.CommandSlack place × ((p : ℕ) → BreaksStrictImage image rule.CommandSlack p → place ≤ p)
    slack_found place (here, least) = (
      (here.0, any_of (IsSlack image place) (commands_of image) v.place is_judged.listed here.1),
      λ p (broken, any). let (command, has, slack) = one_of (IsSlack image p) (commands_of image) any in not_earlier p command has (broken, slack),
    )
      where
        not_earlier : (p command : ℕ) → Contains (commands_of image) command → IsNonZeroSlack image command p → place ≤ p
        not_earlier p command has slack = elim (cases_eq v.place command) [
          | inl same ↦ least p (subst (λ c. IsNonZeroSlack image c p) (sym same) slack)
          | inr other ↦
              let first : v.place ≤ command =
              not_before (λ w. w.place) (HasSlack image) all left rest v is search (command_at image command) (among_all command has) (p, slack) in
              let (count, next, chain) = opened_commands image opened in
              let apart = spread image 32 (commands_of image) next v.place command chain is_judged.listed has (omega arith) in
              omega (arith, apart, here.1.0.1, slack.1.0.0)
        ]

  -- where all were passed, no command has slack
  pub slack_ended : (left : List CommandView) → left ≡ [] → Searching (λ w. w.place) (HasSlack image) all left → (p : ℕ) → ¬ BreaksStrictImage image rule.CommandSlack p
  slack_ended left is search p (broken, any) =
      let (command, has, slack) = one_of (IsSlack image p) (commands_of image) any in
      none_left (λ w. w.place) (HasSlack image) all left is search (command_at image command) (among_all command has) (p, (broken, slack))
