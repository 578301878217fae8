-- The place of a break of a strict rule lies in the image, or just after its last byte.
use Rattle.std.proofs.Common.{ℕ, ◌≤◌, List, [], ◌∷◌, length, Contains, None, ap, arith, inl, inr}
use Rattle.std.specs.Prelude.{flat_map}
use Rattle.std.proofs.lemmas.List.Elements.{Contains-append_cases}
use Rattle.std.proofs.lemmas.Option.{slice_get_within, get_or_from_slice_get}
use Rattle.macho_fields.specs.Image.{commands_of, AreCommands}
use Rattle.macho_fields.specs.Layers.{NothingBreaks}
use Rattle.macho_fields.specs.Rules.{BreaksImage as Breaks}
use Rattle.macho_fields.specs.declared.header.loader.TheConstants as loader
use Rattle.macho_fields.proofs.Lists.{none_in_nil, contains_first, contains_later, first_or_later}
use Rattle.macho_fields.proofs.Opened.{OpenedFacts, command_inside}
use Rattle.macho_fields.proofs.Parts.{with_cmd_among}
use Rattle.macho_image.specs.Opened.{IsOpened}
use Rattle.macho_image.proofs.Opened.{opened_keeps}
use Rattle.macho_image.proofs.OpenedWalk.{opened_commands}
use Rattle.macho_rules.proofs.Verdicts.{unbroken_opened}
use Rattle.macho_strict.specs.Elements.{headers, command_elements, elements_of}
use Rattle.macho_strict.specs.Rules.{BreaksStrictImage}
use Rattle.macho_strict.specs.declared.elements.Element.{Element}
use Rattle.macho_fields.specs.declared.rule.Rule.{Rule}
use Rattle.macho_fields.specs.declared.rule.Rule.TheVariants as rule
use Rattle.macho_strict.proofs.ElementPlaces.{command_between}

module _ (image : List ℕ) (none : NothingBreaks (Breaks image None)) where
  opened : IsOpened image
  opened = unbroken_opened image none

  facts : OpenedFacts image
  facts = opened_keeps image opened

  are : AreCommands image (commands_of image)
  are = opened_commands image opened

  -- so does what describes an element
  described_inside : (commands : List ℕ) → ((command : ℕ) → Contains commands command → Contains (commands_of image) command) → (e : Element)
      → Contains (flat_map (command_elements image) commands) e → e.described ≤ length image
  described_inside [] among e has = absurd (none_in_nil e has)
  described_inside (c ∷ cs) among e has = elim (Contains-append_cases (command_elements image c) (flat_map (command_elements image) cs) e has) [
    | inl here ↦
        let listed = among c (contains_first c cs) in
        let within = (command_between image opened c listed e here).1 in
        let inside = command_inside image (commands_of image) facts are c listed in omega arith
    | inr later ↦ described_inside cs (λ command has. among command (contains_later c command cs has)) e later
  ]

  element_inside : (e : Element) → Contains (elements_of image) e → e.described ≤ length image
  element_inside e has = elim (first_or_later (headers image) e (flat_map (command_elements image) (commands_of image)) has) [
    | inl same ↦ let zeroth = ap (λ (x : Element). x.described) same in omega (arith, zeroth)
    | inr later ↦ described_inside (commands_of image) (λ command has. has) e later
  ]

  pub place_inside : (r : Rule) (place : ℕ) → BreaksStrictImage image r place → place ≤ length image
  place_inside rule.CommandsEnd place (at, wrong) = let header = facts.header in omega arith
  place_inside rule.HeaderSegment place (at, wrong) = let header = facts.header in omega arith
  place_inside rule.SegmentFileOverlap place (has, shares) =
      let inside = command_inside image (commands_of image) facts are place (with_cmd_among image (commands_of image) loader.LC_SEGMENT_64 place has) in omega arith
  place_inside rule.ElementOverlap place (inl (j, later, (at, shares), same)) =
      let inside = element_inside later (j, slice_get_within (elements_of image) j later at, get_or_from_slice_get (elements_of image) j later later at) in omega (arith, same)
  place_inside rule.ElementOverlap place (inr (j, element, less, at, (past, same))) = let inside = element_inside element (j, less, at) in omega (arith, same)
  place_inside rule.StrayByte place (nonzero, outside) = let within = nonzero.0 in omega arith
  place_inside rule.EncryptedRange place (has, misplaced) =
      let inside = command_inside image (commands_of image) facts are place (with_cmd_among image (commands_of image) loader.LC_ENCRYPTION_INFO_64 place has) in omega arith
  place_inside rule.CommandSlack place (nonzero, slack) = let within = nonzero.0 in omega arith
  place_inside rule.UnclaimedByte place (nonzero, some, none) = let within = nonzero.0 in omega arith
  place_inside other place broken = absurd broken
