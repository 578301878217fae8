-- What holds of the commands of an image that breaks neither rule.
use Rattle.std.proofs.Common.{◌≡◌, ◌∙◌, ℕ, suc, zero, ◌+◌, ◌-◌, ◌*◌, ◌≤◌, ◌<◌, ◌⊎◌, List, [], ◌∷◌, length, filter, Bool, true, false, Contains, Option, None, Some, IsSomeAnd, refl, sym, ap, ap₂, subst, arith, inl, inr}
use Rattle.std.specs.Prelude.{IfSome, bit_and, slice_index}
use Rattle.std.specs.Option.{option_map_or}
use Rattle.std.proofs.lemmas.Bool.{cases_Bool, cases_lt, cases_eq, false≢true}
use Rattle.macho_fields.specs.Image.{cpu_type, command_cmd, commands_of, long}
use Rattle.macho_fields.specs.Segment.{segments_of, vmaddr, vmsize, filesize, initprot, Supplies, RunsAt, IsExecutable}
use Rattle.macho_fields.specs.Symbol.{table_at, number_of}
use Rattle.macho_fields.proofs.Decided.{not_not, any_or_not, zero_or_none}
use Rattle.macho_fields.proofs.Lists.{any_of}
use Rattle.macho_commands.specs.Commands.{command_bytes, HasEarlier, is_thread, is_routine, is_routine_holding, IsSoundThread, BreaksThread, BreaksCommandContent, HasBadTarget, HasBadContent}
use Rattle.macho_commands.specs.Content.{content_of, is_foreign}
use Rattle.macho_commands.specs.Described.{name_offset, module_count, modules_offset, string_count, zero_count, IsBadName, IsBadPart}
use Rattle.macho_commands.specs.Registers.{registers_of}
use Rattle.macho_commands.specs.Sound.{IsWholeName, IsWholePart, HasTarget, IsSoundContent, HasAtMostOne, HasSoundCommands}
use Rattle.macho_commands.specs.States.{flavor, word_count, words_offset, state_end, header_at, HasStateHeader, HasEntry, IsEntryOf, FollowStates, AreStates, IsRegisterState, has_registers}
use Rattle.macho_commands.specs.declared.content.Content.{Content}
use Rattle.macho_commands.specs.declared.content.Holding.{Holding}
use Rattle.macho_commands.specs.declared.content.Holding.TheVariants as holding
use Rattle.macho_commands.specs.declared.registers.Registers.{Registers}
use Rattle.macho_commands.specs.declared.registers.StateHeader.{StateHeader}
use Rattle.macho_commands.proofs.ThreadStates.{first_state}

-- What can be decided

covers_or_not : (image : List ℕ) (address segment : ℕ) → Supplies image segment address ⊎ ¬ Supplies image segment address
covers_or_not image address segment = elim (cases_lt address (vmaddr image segment)) [
  | inl early ↦ inr (λ (low, high). omega (arith, early, low))
  | inr from ↦ elim (cases_lt address (vmaddr image segment + vmsize image segment)) [
    | inl below ↦ inl (from, below)
    | inr past ↦ inr (λ (low, high). omega (arith, past, high))
  ]
]

runs_or_not : (image : List ℕ) (address segment : ℕ) → RunsAt image address segment ⊎ ¬ RunsAt image address segment
runs_or_not image address segment = elim (covers_or_not image address segment) [
  | inr none ↦ inr (λ runs. none runs.0)
  | inl covers ↦ elim (cases_lt address (vmaddr image segment + filesize image segment)) [
    | inr past ↦ inr (λ runs. let below = runs.1 in omega (arith, past, below))
    | inl below ↦ elim (cases_eq (bit_and (initprot image segment) 4) 0) [
      | inl never ↦ inr (λ runs. runs.2 never)
      | inr may ↦ inl (covers, below, may)
    ]
  ]
]

pub executable_or_not : (image : List ℕ) (address : ℕ) → IsExecutable image (commands_of image) address ⊎ ¬ IsExecutable image (commands_of image) address
executable_or_not image address = any_or_not (RunsAt image address) (runs_or_not image address) (segments_of image (commands_of image))

module _ (bytes : List ℕ) where
  none_past : (start : ℕ) → length bytes ≤ start → ((states : List ℕ) × FollowStates bytes start states) ⊎ ¬ ((states : List ℕ) × FollowStates bytes start states)
  none_past start past = elim (cases_eq start (length bytes)) [
    | inl ended ↦ inl ([], ended)
    | inr other ↦ inr (λ (states, follow). none states follow other)
  ]
    where
      none : (states : List ℕ) → FollowStates bytes start states → ¬ (start ≡ length bytes) → ⊥
      none [] follow other = other follow
      none (s ∷ rest) (at, inside, follow) other = omega (arith, at, inside, past)

  -- the states that follow from the start on
  states_or_not : (cputype fuel start : ℕ) → length bytes ≤ start + fuel → ((states : List ℕ) × FollowStates bytes start states) ⊎ ¬ ((states : List ℕ) × FollowStates bytes start states)
  states_or_not cputype zero start enough = none_past start (omega arith)
  states_or_not cputype (suc fuel) start enough = elim (cases_lt start (length bytes)) [
    | inr past ↦ none_past start past
    | inl more ↦ elim (cases_lt (length bytes) (state_end bytes start)) [
      | inl outside ↦ inr (λ (states, follow). let (inside, rest, same, after) = first_state cputype bytes start states more follow in omega (arith, outside, inside))
      | inr inside ↦ elim (states_or_not cputype fuel (state_end bytes start) (omega arith)) [
        | inl (states, follow) ↦ inl (start ∷ states, (refl, inside, follow))
        | inr none ↦ inr (λ (states, follow). let (within, rest, same, after) = first_state cputype bytes start states more follow in none (rest, after))
      ]
    ]
  ]

  -- they are one list
  one_list : (start : ℕ) (xs ys : List ℕ) → FollowStates bytes start xs → FollowStates bytes start ys → xs ≡ ys
  one_list start [] [] f g = refl
  one_list start [] (y ∷ ys) f (at, inside, g) = absurd (omega (arith, f, at, inside))
  one_list start (x ∷ xs) [] (at, inside, f) g = absurd (omega (arith, g, at, inside))
  one_list start (x ∷ xs) (y ∷ ys) (at, inside, f) (there, within, g) =
      let same : y ≡ x = there ∙ sym at in
      ap₂ (λ z zs. z ∷ zs) (sym same) (one_list (state_end bytes x) xs ys f (subst (λ s. FollowStates bytes (state_end bytes s) ys) same g))

  module _ (cputype : ℕ) where
    one_of_list : (states : List ℕ) → AreStates bytes states → (found : List ℕ) → filter (has_registers cputype bytes) states ≡ found
        → ((state : ℕ) × IsRegisterState cputype bytes state) ⊎ ¬ ((state : ℕ) × IsRegisterState cputype bytes state)
    one_of_list states follow (s ∷ []) is = inl (s, (states, follow, is))
    one_of_list states follow [] is = inr (λ (s, (others, there, one)).
        let same = one_list 8 states others follow there in
        let wrong : 0 ≡ 1 = ap length (sym is ∙ (ap (filter (has_registers cputype bytes)) same ∙ one)) in omega (arith, wrong))
    one_of_list states follow (s ∷ t ∷ rest) is = inr (λ (u, (others, there, one)).
        let same = one_list 8 states others follow there in
        let wrong : length (s ∷ t ∷ rest) ≡ 1 = ap length (sym is ∙ (ap (filter (has_registers cputype bytes)) same ∙ one)) in omega (arith, wrong))

    register_or_not : ((state : ℕ) × IsRegisterState cputype bytes state) ⊎ ¬ ((state : ℕ) × IsRegisterState cputype bytes state)
    register_or_not = elim (states_or_not cputype (length bytes) 8 (omega arith)) [
      | inl (states, follow) ↦ one_of_list states follow (filter (has_registers cputype bytes) states) refl
      | inr none ↦ inr (λ (s, (states, follow, is)). none (states, follow))
    ]

    one_register : (s t : ℕ) → IsRegisterState cputype bytes s → IsRegisterState cputype bytes t → s ≡ t
    one_register s t (states, follow, is) (others, there, one) =
        let same = one_list 8 states others follow there in
        ap head (sym is ∙ (ap (filter (has_registers cputype bytes)) same ∙ one))
      where
        head : List ℕ → ℕ
        head [] = 0
        head (x ∷ xs) = x

  header_or_not : (words : ℕ) (header : Option StateHeader) → HasStateHeader bytes words header ⊎ ¬ HasStateHeader bytes words header
  header_or_not words None = inl tt
  header_or_not words (Some h) = elim (cases_eq (flavor bytes words) h.flavor) [
    | inr other ↦ inr (λ same. other (ap (λ (g : StateHeader). g.flavor) same))
    | inl one ↦ elim (cases_eq (word_count bytes words) h.count) [
      | inr other ↦ inr (λ same. other (ap (λ (g : StateHeader). g.count) same))
      | inl two ↦ inl (header_is one two)
    ]
  ]
    where
      header_is : flavor bytes words ≡ h.flavor → word_count bytes words ≡ h.count → header_at bytes words ≡ h
      header_is one two = ap₂ {A = ℕ} {B = ℕ} {C = StateHeader} (λ f n. record { flavor = f; count = n }) one two

  module _ (image : List ℕ) (state : ℕ) where
    abbrev Names : Option Registers → Type 0
    Names found = (entry : ℕ) × IsSomeAnd found (HasEntry bytes state entry) × IsExecutable image (commands_of image) entry

    entry_or_not : (found : Option Registers) → Names found ⊎ ¬ Names found
    entry_or_not None = inr (λ (entry, none, runs). none)
    entry_or_not (Some registers) = elim (cases_eq (word_count bytes state) registers.count) [
      | inr other ↦ inr (λ (entry, has, runs). other has.count)
      | inl count ↦ elim (header_or_not (words_offset state) registers.header) [
        | inr other ↦ inr (λ (entry, has, runs). other has.header)
        | inl header ↦ elim (executable_or_not image (long bytes (words_offset state + registers.entry))) [
          | inl runs ↦ inl (long bytes (words_offset state + registers.entry), record { count = count; header = header; entry = refl }, runs)
          | inr none ↦ inr (λ (entry, has, runs). none (subst (IsExecutable image (commands_of image)) (sym has.entry) runs))
        ]
      ]
    ]

sound_or_not : (image bytes : List ℕ) → IsSoundThread image bytes ⊎ ¬ IsSoundThread image bytes
sound_or_not image bytes = elim (register_or_not bytes (cpu_type image)) [
  | inr none ↦ inr (λ (entry, ((state, is, has), runs)). none (state, is))
  | inl (state, is) ↦ elim (entry_or_not bytes image state (registers_of (cpu_type image) (flavor bytes state))) [
    | inl (entry, has, runs) ↦ inl (entry, ((state, is, has), runs))
    | inr none ↦ inr (λ (entry, ((other, there, has), runs)).
        none (entry, subst (λ s. IsEntryOf (cpu_type image) bytes s entry) (one_register bytes (cpu_type image) other state there is) has, runs))
  ]
]

-- What an unbroken content has

module _ (image : List ℕ) (repeats : Type 0) (bytes : List ℕ) where
  has_target : (what : Holding) → ¬ HasBadTarget image repeats bytes what → HasTarget image bytes what
  has_target (holding.Range fields) none = λ some.
      let table = table_at bytes 0 fields in
      elim (cases_lt (length image) (table.0 + table.1 * table.2)) [ inl past ↦ absurd (none (some, past)) | inr inside ↦ inside ]
  has_target (holding.Routine width) none = not_not (executable_or_not image (number_of width bytes 8)) (λ out. none (inr out))
  has_target holding.Nothing none = tt
  has_target holding.Name none = tt
  has_target holding.NameAndModules none = tt
  has_target holding.Strings none = tt
  has_target holding.CountedStrings none = tt

  whole_name : (size : ℕ) → ¬ IsBadName size bytes → IsWholeName size bytes
  whole_name size none = (
    elim (cases_lt (name_offset bytes) size) [ inl early ↦ absurd (none (inl early)) | inr after ↦ after ],
    not_not (zero_or_none bytes (name_offset bytes) (length bytes)) (λ out. none (inr out)),
  )

  whole_part : (size : ℕ) (what : Holding) → ¬ IsBadPart size bytes what → IsWholePart size bytes what
  whole_part size holding.Name none = whole_name size none
  whole_part size holding.NameAndModules none = (
    whole_name size (λ bad. none (inl bad)),
    λ some. (
      elim (cases_lt (modules_offset bytes) size) [ inl early ↦ absurd (none (inr (some, inl early))) | inr after ↦ after ],
      elim (cases_lt (8 * length bytes) (8 * modules_offset bytes + module_count bytes)) [ inl past ↦ absurd (none (inr (some, inr past))) | inr inside ↦ inside ],
    ),
  )
  whole_part size holding.Strings none = λ more.
      elim (cases_eq (slice_index bytes (length bytes - 1)) 0) [ inl ended ↦ ended | inr other ↦ absurd (none (more, other)) ]
  whole_part size holding.CountedStrings none = elim (cases_lt (zero_count bytes size (length bytes)) (string_count bytes)) [ inl few ↦ absurd (none few) | inr enough ↦ enough ]
  whole_part size holding.Nothing none = tt
  whole_part size (holding.Range fields) none = tt
  whole_part size (holding.Routine width) none = tt

  sound_content : (found : Option Content) → ¬ IsSomeAnd found (HasBadContent image repeats bytes) → IfSome found (IsSoundContent image bytes)
  sound_content None none = tt
  sound_content (Some content) none = record {
    whole = elim (cases_lt (length bytes) content.size) [ inl short ↦ absurd (none (inl short)) | inr whole ↦ whole ];
    target = has_target content.holding (λ bad. none (inr (inl bad)));
    part = whole_part content.size content.holding (λ bad. none (inr (inr (inl bad))));
    no_other = λ stray. none (inr (inr (inr stray)));
  }

  -- a routine that comes after another is bad
  target_repeats : (what : Holding) → is_routine_holding what ≡ true → repeats → HasBadTarget image repeats bytes what
  target_repeats (holding.Routine width) is again = inl again
  target_repeats (holding.Range fields) is again = absurd (false≢true is)
  target_repeats holding.Nothing is again = absurd (false≢true is)
  target_repeats holding.Name is again = absurd (false≢true is)
  target_repeats holding.NameAndModules is again = absurd (false≢true is)
  target_repeats holding.Strings is again = absurd (false≢true is)
  target_repeats holding.CountedStrings is again = absurd (false≢true is)

  content_repeats : (found : Option Content) → option_map_or (λ (content : Content). is_routine_holding content.holding) found false ≡ true → repeats
      → IsSomeAnd found (HasBadContent image repeats bytes)
  content_repeats None is again = absurd (false≢true is)
  content_repeats (Some content) is again = inr (inl (target_repeats content.holding is again))

-- Of an image

at_most_one : (image : List ℕ) (is_kind : ℕ → Bool) → ((command : ℕ) → Contains (commands_of image) command → is_kind (command_cmd image command) ≡ true → ¬ HasEarlier image is_kind command)
    → HasAtMostOne image is_kind
at_most_one image is_kind none first second has_first has_second is_first is_second = elim (cases_eq first second) [
  | inl same ↦ same
  | inr other ↦ elim (cases_lt first second) [
    | inl less ↦ absurd (none second has_second is_second (earlier first second has_first is_first less))
    | inr most ↦ absurd (none first has_first is_first (earlier second first has_second is_second (omega (arith, other))))
  ]
]
  where
    earlier : (a b : ℕ) → Contains (commands_of image) a → is_kind (command_cmd image a) ≡ true → a < b → HasEarlier image is_kind b
    earlier a b has is less = any_of (λ e. (e < b) × (is_kind (command_cmd image e) ≡ true)) (commands_of image) a has (less, is)

pub sound_commands : (image : List ℕ) → ((place : ℕ) → ¬ BreaksThread image place) → ((place : ℕ) → ¬ BreaksCommandContent image place) → HasSoundCommands image
sound_commands image no_thread no_content = record {
  one_thread = at_most_one image is_thread (λ command has is again. no_thread command (has, is, inl again));
  one_routine = at_most_one image is_routine (λ command has is again.
      no_content command (has, inr (content_repeats image (HasEarlier image is_routine command) (command_bytes image command) (content_of (command_cmd image command)) is again)));
  thread = λ command has is. not_not (sound_or_not image (command_bytes image command)) (λ none. no_thread command (has, is, inr none));
  native = λ command has. elim (cases_Bool (is_foreign (command_cmd image command))) [
    | inl foreign ↦ absurd (no_content command (has, inl foreign))
    | inr native ↦ native
  ];
  content = λ command has. sound_content image (HasEarlier image is_routine command) (command_bytes image command) (content_of (command_cmd image command)) (λ bad. no_content command (has, inr bad));
}
