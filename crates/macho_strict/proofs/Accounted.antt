-- A file that breaks no rule and no strict rule is accounted for.
use Rattle.std.proofs.Common.{◌≡◌, ℕ, suc, zero, ◌≤◌, ◌<◌, ◌+◌, ◌⊎◌, List, [], ◌∷◌, length, get_or, slice_get, Some, None, All, Any, Contains, false, refl, sym, ap, ◌∙◌, subst, arith, inl, inr}
use Rattle.std.specs.Prelude.{AllPairs, bit_and}
use Rattle.std.proofs.lemmas.Bool.{true≢false, cases_lt, cases_eq, cases_order, cases_Bool}
use Rattle.std.proofs.lemmas.List.{get_or_default}
use Rattle.std.proofs.lemmas.List.Elements.{Contains-get_or}
use Rattle.std.proofs.lemmas.List.Kept.{AllPairs-filter, AllPairs-from_increasing}
use Rattle.std.proofs.lemmas.Option.{slice_get-get_or, slice_get_within, get_or_from_slice_get}
use Rattle.macho_fields.specs.First.{IsUnbroken}
use Rattle.macho_fields.specs.Command.{least_size, name_start}
use Rattle.macho_fields.specs.Image.{cpu_type, command_cmd, command_size, commands_of, commands_end, Follow, IsChain, AreCommands}
use Rattle.macho_fields.specs.LoadCommands.{structure_of, has_name}
use Rattle.macho_fields.specs.Loader.{IsSound}
use Rattle.macho_fields.specs.NonZero.{IsNonZero}
use Rattle.macho_fields.specs.Segment.{fileoff, filesize, initprot}
use Rattle.macho_fields.specs.declared.header.loader.TheConstants as loader
use Rattle.macho_fields.specs.declared.header.vm_prot.TheConstants as vm_prot
use Rattle.macho_fields.specs.declared.load_command.Structure.{Structure}
use Rattle.macho_spans.specs.Span.{Covers, Holds}
use Rattle.macho_fields.specs.Rules as layout
use Rattle.macho_fields.specs.Universal.{FileSlice, is_universal, IsUniversal, table_end, slices_of, slice_bytes, HasPlace, IsImage}
use Rattle.macho_fields.proofs.Chains.{places_above, command_places_rise}
use Rattle.macho_fields.proofs.Decided.{not_not, any_or_not, both_or_not, le_or_not, zero_or_none, good_or_not}
use Rattle.macho_fields.proofs.LoadCommands.{has_structure}
use Rattle.macho_fields.proofs.Lists.{any_of}
use Rattle.macho_fields.proofs.Parts.{commands_of_walk}
use Rattle.macho_fields.proofs.Plain.{plain_slices}
use Rattle.macho_fields.proofs.Scopes.{of_slice}
use Rattle.macho_fields.proofs.Sound.{begins, unbroken_is_sound}
use Rattle.macho_strict.specs.Accounted.{ExactlyOne, IsAccountedImage, IsAccounted}
use Rattle.macho_strict.specs.Elements.{elements_of}
use Rattle.macho_rules.proofs.Profiles.{image_keeps}
use Rattle.macho_strict.specs.Nops.{is_nop}
use Rattle.macho_strict.specs.First.{IsStrictlyUnbroken}
use Rattle.macho_fields.specs.Layers.{NothingBreaks}
use Rattle.macho_strict.specs.Rules.{IsByteOfSegment, all_segments, BreaksStrictFile, BreaksStrictImage, IsInName, IsSlack, IsNop}
use Rattle.macho_strict.specs.declared.elements.Element.{Element}
use Rattle.macho_strict.proofs.Passed.{covers_or_not}
use Rattle.macho_fields.specs.declared.rule.Rule.TheVariants as rule

module _ {X : Type 0} (P : X → Type 0) (xs : List X) where
  -- no two items of the list have P
  abbrev AreApart : Type 0
  AreApart = (i j : ℕ) (a b : X) → slice_get xs i ≡ Some a → slice_get xs j ≡ Some b → P a → P b → i ≡ j

  -- where no item with P comes after another one
  apart_from_order : ((i j : ℕ) (a b : X) → i < j → slice_get xs i ≡ Some a → slice_get xs j ≡ Some b → P a → ¬ P b) → AreApart
  apart_from_order alone i j a b at_i at_j here there = elim (cases_order i j) [
    | inl same ↦ same
    | inr (inl before) ↦ absurd (alone i j a b before at_i at_j here there)
    | inr (inr after) ↦ absurd (alone j i b a after at_j at_i there here)
  ]

  -- so exactly one has, where one has
  exactly_one : ((x : X) → P x ⊎ ¬ P x) → AreApart → ¬ All (λ x. ¬ P x) xs → ExactlyOne P xs
  exactly_one test apart some = elim (any_or_not P test xs) [
    | inl (k, x, less, at, here) ↦
        let at_k : slice_get xs k ≡ Some x = slice_get-get_or xs k x less ∙ ap Some at in
        (k, x, at_k, here, λ j y at_j there. apart j k y x at_j at_k there here)
    | inr none ↦ absurd (some (λ k d less here. none (k, get_or xs k d, less, get_or_default xs k (get_or xs k d) d less, here)))
  ]

contains_at : {X : Type 0} (xs : List X) (k : ℕ) (x : X) → slice_get xs k ≡ Some x → Contains xs x
contains_at xs k x at = (k, slice_get_within xs k x at, get_or_from_slice_get xs k x x at)

both_or_three : {P Q R : Type 0} → P ⊎ ¬ P → Q ⊎ ¬ Q → R ⊎ ¬ R → (P × Q × R) ⊎ ¬ (P × Q × R)
both_or_three (inl p) (inl q) (inl r) = inl (p, q, r)
both_or_three (inl p) (inl q) (inr r) = inr (λ h. r h.2)
both_or_three (inl p) (inr q) other = inr (λ h. q h.1)
both_or_three (inr p) one other = inr (λ h. p h.0)

-- A chain of commands

-- the commands follow one another up to a place, or do not
chain_or_not : (image : List ℕ) (start : ℕ) (commands : List ℕ) (next : ℕ) → Follow image start commands next ⊎ ¬ Follow image start commands next
chain_or_not image start [] next = elim (cases_eq start next) [ inl same ↦ inl same | inr other ↦ inr other ]
chain_or_not image start (c ∷ cs) next = both_or_three (elim (cases_eq c start) [ inl same ↦ inl same | inr other ↦ inr other ]) (good_or_not image c) (chain_or_not image (c + command_size image c) cs next)

-- each place from the start of a chain up to its end lies in a command
chain_covers : (image : List ℕ) (start : ℕ) (commands : List ℕ) (next place : ℕ) → Follow image start commands next → start ≤ place → place < next
    → Any (λ command. Covers command (command_size image command) place) commands
chain_covers image start [] next place same low high = absurd (omega (arith, same))
chain_covers image start (c ∷ cs) next place (at, good, chain) low high = elim (cases_lt place (c + command_size image c)) [
  | inl here ↦ (0, c, omega arith, refl, (omega (arith, at), here))
  | inr past ↦ let (k, d, less, is, held) = chain_covers image (c + command_size image c) cs next place chain past high in (suc k, d, omega arith, is, held)
]

-- an earlier command of a chain ends where a later one begins, or before that
chain_spreads : (image : List ℕ) (start : ℕ) (commands : List ℕ) (next : ℕ) → Follow image start commands next → (i j d : ℕ) → i < j → j < length commands
    → get_or commands i d + command_size image (get_or commands i d) ≤ get_or commands j d
chain_spreads image start [] next chain i j d less within = absurd (omega arith)
chain_spreads image start (c ∷ cs) next chain i zero d less within = absurd (omega arith)
chain_spreads image start (c ∷ cs) next (at, good, chain) zero (suc j) d less within = places_above image (c + command_size image c) cs next chain j d (omega arith)
chain_spreads image start (c ∷ cs) next (at, good, chain) (suc i) (suc j) d less within = chain_spreads image (c + command_size image c) cs next chain i j d (omega arith) (omega arith)

-- An image that breaks no strict rule
module _ (image : List ℕ) (are : AreCommands image (commands_of image)) (keeps : NothingBreaks (BreaksStrictImage image)) where
  abbrev segments : List ℕ
  segments = all_segments image

  segments_rise : (i j a b : ℕ) → i < j → slice_get segments i ≡ Some a → slice_get segments j ≡ Some b → a < b
  segments_rise i j a b less at_i at_j =
      let rise : AllPairs (λ x y. x < y) segments = AllPairs-filter (λ x y. x < y) _ (commands_of image) (AllPairs-from_increasing (commands_of image) (command_places_rise image (commands_of image) are)) in
      let below = rise i j 0 less (slice_get_within segments j b at_j) in
      omega (arith, below, get_or_from_slice_get segments i a 0 at_i, get_or_from_slice_get segments j b 0 at_j)

  bytes_accounted : (place : ℕ) → IsNonZero image place → ExactlyOne (λ segment. IsByteOfSegment image segment place) segments
  bytes_accounted place is =
      exactly_one (λ segment. IsByteOfSegment image segment place) segments (λ segment. covers_or_not (fileoff image segment) (filesize image segment) place)
      (apart_from_order (λ segment. IsByteOfSegment image segment place) segments alone) (λ none. keeps rule.StrayByte place (is, none))
    where
      alone : (i j a b : ℕ) → i < j → slice_get segments i ≡ Some a → slice_get segments j ≡ Some b → IsByteOfSegment image a place → ¬ IsByteOfSegment image b place
      alone i j a b less at_i at_j here there =
          keeps rule.SegmentFileOverlap b (contains_at segments j b at_j, any_of _ segments a (contains_at segments i a at_i) (segments_rise i j a b less at_i at_j, (place, here, there)))

  -- no byte belongs to two elements
  elements_apart : (place : ℕ) → AreApart (λ (element : Element). Holds element.span place) (elements_of image)
  elements_apart place =
      apart_from_order (λ (element : Element). Holds element.span place) (elements_of image)
      (λ i j a b less at_i at_j here there. keeps rule.ElementOverlap b.described (inl (j, b, (at_j, (i, a, less, at_i, (place, here, there))), refl)))

  -- a byte that is not zero lies in exactly one element, unless it is a NOP
  bytes_claimed : (place : ℕ) → IsNonZero image place
      → ExactlyOne (λ (element : Element). Holds element.span place) (elements_of image) ⊎ Any (λ segment. IsByteOfSegment image segment place × IsNop image place segment) segments
  bytes_claimed place is = elim (any_or_not (λ (element : Element). Holds element.span place) (λ element. covers_or_not element.span.start element.span.len place) (elements_of image)) [
    | inl some ↦ inl (exactly_one (λ (element : Element). Holds element.span place) (elements_of image) (λ element. covers_or_not element.span.start element.span.len place) (elements_apart place)
        (λ none. none_of_any some none))
    | inr none ↦ inr (elim (any_or_not (λ segment. IsByteOfSegment image segment place × IsNop image place segment) (λ segment. both_or_not (covers_or_not (fileoff image segment) (filesize image segment) place) (nop_or_not segment)) segments) [
      | inl nop ↦ nop
      | inr loose ↦
          let (k, s, at, held, only) = bytes_accounted place is in
          absurd (keeps rule.UnclaimedByte place (
            is,
            any_of (λ segment. IsByteOfSegment image segment place × ¬ IsNop image place segment) segments s (contains_at segments k s at) (held, λ nop. loose (any_of _ segments s (contains_at segments k s at) (held, nop))),
            λ k d less held_there. none (any_of _ (elements_of image) (get_or (elements_of image) k d) (Contains-get_or (elements_of image) k d less) held_there),
          ))
    ])
  ]
    where
      none_of_any : Any (λ (element : Element). Holds element.span place) (elements_of image) → ¬ All (λ (element : Element). ¬ Holds element.span place) (elements_of image)
      none_of_any (k, e, less, at, held) none = none k e less (subst (λ (x : Element). Holds x.span place) (sym at) held)

      nop_or_not : (segment : ℕ) → IsNop image place segment ⊎ ¬ IsNop image place segment
      nop_or_not segment = both_or_not (elim (cases_Bool (is_nop (cpu_type image) image place)) [ inl is ↦ inl is | inr other ↦ inr (λ nop. true≢false (sym nop ∙ other)) ])
          (elim (cases_eq (bit_and (initprot image segment) vm_prot.VM_PROT_EXECUTE) 0) [ inl none ↦ inr (λ some. some none) | inr some ↦ inl some ])

  -- one in the headers lies in the header, or in exactly one command
  headers_accounted : (place : ℕ) → IsNonZero image place → place < commands_end image
      → (place < loader.MACH_HEADER_64_SIZE) ⊎ ExactlyOne (λ command. Covers command (command_size image command) place) (commands_of image)
  headers_accounted place is before = elim (cases_lt place loader.MACH_HEADER_64_SIZE) [
    | inl early ↦ inl early
    | inr late ↦ inr (exactly_one (λ command. Covers command (command_size image command) place) (commands_of image) (λ command. covers_or_not command (command_size image command) place)
        (commands_apart place) (λ none. none_of_any (chain_covers image 32 (commands_of image) (commands_end image) place chain late before) none))
  ]
    where
      chain : IsChain image (commands_of image) (commands_end image)
      chain = not_not (chain_or_not image 32 (commands_of image) (commands_end image)) (λ wrong. keeps rule.CommandsEnd 20 (refl, wrong))

      none_of_any : Any (λ command. Covers command (command_size image command) place) (commands_of image) → ¬ All (λ command. ¬ Covers command (command_size image command) place) (commands_of image)
      none_of_any (k, c, less, at, held) none = none k c less (subst (λ x. Covers x (command_size image x) place) (sym at) held)

      commands_apart : (place : ℕ) → AreApart (λ command. Covers command (command_size image command) place) (commands_of image)
      commands_apart place =
          apart_from_order (λ command. Covers command (command_size image command) place) (commands_of image)
          (λ i j a b less at_i at_j here there.
          let spread = chain_spreads image 32 (commands_of image) (commands_end image) chain i j 0 less (slice_get_within (commands_of image) j b at_j) in
          absurd (omega (
            arith,
            spread,
            here.1,
            there.0,
            get_or_from_slice_get (commands_of image) i a 0 at_i,
            get_or_from_slice_get (commands_of image) j b 0 at_j,
            ap (command_size image) (get_or_from_slice_get (commands_of image) i a 0 at_i),
          )))

  -- and one in a listed command in its structure, its records or its name
  commands_described : (place command : ℕ) (structure : Structure) → IsNonZero image place → Contains (commands_of image) command → Covers command (command_size image command) place
      → structure_of (command_cmd image command) ≡ Some structure → (place < command + least_size image command structure) ⊎ IsInName image command structure place
  commands_described place command structure is has covers listed = elim (cases_lt place (command + least_size image command structure)) [
    | inl inside ↦ inl inside
    | inr past ↦ elim (named_or_not structure) [
      | inl named ↦ inr named
      | inr nowhere ↦ absurd (keeps rule.CommandSlack place (is, any_of (IsSlack image place) (commands_of image) command has (covers, (has_structure image command _ structure listed).1 (past, nowhere))))
    ]
  ]
    where
      named_or_not : (s : Structure) → IsInName image command s place ⊎ ¬ IsInName image command s place
      named_or_not s = both_or_three (elim (cases_Bool (has_name s)) [ inl t ↦ inl t | inr f ↦ inr (λ t. true≢false (sym t ∙ f)) ]) (le_or_not (name_start image command) place)
          (elim (zero_or_none image (name_start image command) place) [ inl ended ↦ inr (λ none. none ended) | inr none ↦ inl none ])

  pub image_accounted : IsAccountedImage image
  image_accounted = record {
    bytes = bytes_accounted;
    claimed = bytes_claimed;
    headers = headers_accounted;
    described = commands_described;
    elements = λ i j a b place at_i at_j here there. elements_apart place i j a b at_i at_j here there;
  }

-- A file that breaks no rule and no strict rule
module _ (file : List ℕ) (unbroken : IsUnbroken file) (strictly : IsStrictlyUnbroken file) where
  sound : IsSound file
  sound = unbroken_is_sound file unbroken

  long : 4 ≤ length file
  long = begins file (λ r place broken. unbroken (record { scope = 0; rule = r; place = place }) broken)

  file_bytes_accounted : (place : ℕ) → IsNonZero file place → (IsUniversal file × (place < table_end file)) ⊎ ExactlyOne (λ slice. HasPlace slice place) (slices_of file)
  file_bytes_accounted place is = elim (cases_Bool (is_universal file)) [
    | inl wide ↦ elim (cases_lt place (table_end file)) [
      | inl before ↦ inl ((long, wide), before)
      | inr past ↦ inr (one (λ none. strictly (record { scope = 0; rule = rule.FatStrayByte; place = place }) ((long, wide), is, past, none)))
    ]
    | inr plain ↦ inr (one (outside_none plain))
  ]
    where
      one : ¬ All (λ slice. ¬ HasPlace slice place) (slices_of file) → ExactlyOne (λ slice. HasPlace slice place) (slices_of file)
      one = exactly_one (λ (slice : FileSlice). HasPlace slice place) (slices_of file) (λ slice. covers_or_not slice.start slice.size place) (λ i j a b at_i at_j here there. sound.apart i j a b place at_i at_j here there)

      outside_none : is_universal file ≡ false → ¬ All (λ slice. ¬ HasPlace slice place) (slices_of file)
      outside_none plain none =
          subst (λ slices. ¬ All (λ (slice : FileSlice). ¬ HasPlace slice place) slices) (sym (plain_slices file plain))
          (λ outside. outside 0 (record { start = 0; size = 0; arch = None }) (omega arith) (omega arith, let inside = is.0 in omega arith)) none

  pub unbroken_is_accounted : IsAccounted file
  unbroken_is_accounted = record { bytes = file_bytes_accounted; images = λ k d less. accounted k (get_or (slices_of file) k d) (slice_get-get_or (slices_of file) k d less) }
    where
      accounted : (k : ℕ) (slice : FileSlice) → slice_get (slices_of file) k ≡ Some slice → IsImage (slice_bytes file slice) → IsAccountedImage (slice_bytes file slice)
      accounted k slice at image =
          image_accounted (slice_bytes file slice)
          (commands_of_walk (slice_bytes file slice) slice.arch (λ place broken. unbroken (record { scope = suc k; rule = rule.CommandWalk; place = place })
          (of_slice layout.BreaksFile layout.BreaksImage file k slice at image rule.CommandWalk place (inl broken))))
          (image_keeps file BreaksStrictFile BreaksStrictImage strictly k slice at image)
