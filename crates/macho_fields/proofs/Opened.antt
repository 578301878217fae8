-- What an image keeps once it is opened.
use Rattle.std.proofs.Common.{◌≡◌, ℕ, ◌+◌, ◌*◌, ◌≤◌, ◌<◌, List, length, true, All, Contains, Option, Some, refl, arith, lit<, inl, inr}
use Rattle.std.specs.Prelude.{IsSome}
use Rattle.std.proofs.lemmas.Bool.{cases_lt}
use Rattle.macho_fields.specs.Field.{HasZero}
use Rattle.macho_fields.specs.Image.{file_type, commands_end, command_cmd, command_size, AreCommands}
use Rattle.macho_fields.specs.LoadCommands.{structure_of, structure_size, has_name, width_size, table_fields}
use Rattle.macho_fields.specs.Segment.{nsects}
use Rattle.macho_fields.specs.FileTypes.{file_type_of}
use Rattle.macho_fields.specs.Command.{IsShort, IsBadName, HasBadName, IsNamed, HasStructure, record_count, records_size, least_size, name_start}
use Rattle.macho_fields.specs.declared.load_command.Structure.{Structure}
use Rattle.macho_fields.specs.declared.load_command.Structure.TheVariants.{SegmentCommand64}
use Rattle.macho_fields.specs.declared.header.loader.TheConstants as loader
use Rattle.macho_fields.specs.First.{rank}
use Rattle.macho_fields.specs.Layers.{KeptBelow}
use Rattle.macho_fields.specs.Rules.{BreaksImage}
use Rattle.macho_fields.specs.declared.rule.Rule.TheVariants as rule
use Rattle.macho_fields.proofs.Parts.{commands_exist, command_good}
use Rattle.macho_fields.proofs.LoadCommands.{fields_inside, records_counted, structure_by_cmd}
use Rattle.macho_fields.proofs.Options.{some_of, of_some, some_or_not_none}
use Rattle.macho_fields.proofs.Decided.{not_not, zero_or_none}

pub record OpenedFacts (image : List ℕ) : Type 0 where
  pub header : 32 ≤ length image
  pub kind : IsSome (file_type_of (file_type image))
  pub inside : commands_end image ≤ length image
  pub commands : (commands : List ℕ) × AreCommands image commands
  pub whole : (commands : List ℕ) → AreCommands image commands → (command : ℕ) → Contains commands command → ¬ IsShort image command
  pub named : (commands : List ℕ) → AreCommands image commands → (command : ℕ) → Contains commands command → ¬ HasBadName image command

at_least : (a b : ℕ) → ((b < a) → ⊥) → a ≤ b
at_least a b keeps = elim (cases_lt b a) [ inl less ↦ absurd (keeps less) | inr most ↦ most ]

pub keeps_rules : (image : List ℕ) (arch : Option (ℕ × ℕ)) → KeptBelow (BreaksImage image arch) (rank rule.SegmentAddress) → OpenedFacts image
keeps_rules image arch keeps = record {
  header = at_least 32 (length image) (λ short. keeps rule.HeaderTruncated 0 (lit< tt) (inl (refl, short)));
  kind = some_or_not_none (file_type_of (file_type image)) (λ none. keeps rule.FileType 12 (lit< tt) (inl (refl, none)));
  inside = at_least (commands_end image) (length image) (λ short. keeps rule.CommandsOutside 20 (lit< tt) (inl (refl, short)));
  commands = commands_exist image arch (λ place broken. keeps rule.CommandWalk place (lit< tt) (inl broken));
  whole = λ commands are command has short. keeps rule.CommandShort command (lit< tt) (inr (commands, are, (has, short)));
  named = λ commands are command has bad. keeps rule.Name command (lit< tt) (inr (commands, are, (has, bad)));
}

-- What lies inside an opened image
module _ (image commands : List ℕ) (opened : OpenedFacts image) (are : AreCommands image commands) where
  pub command_inside : (command : ℕ) → Contains commands command → command + command_size image command ≤ length image
  command_inside command has =
      let good = command_good image commands command are has in
      let inside : command + command_size image command ≤ commands_end image = good.inside in
      let most = opened.inside in omega arith

  -- the structure of a listed command, with its records, lies inside the command
  pub structure_inside : (command : ℕ) (structure : Structure) → Contains commands command → structure_of (command_cmd image command) ≡ Some structure
      → least_size image command structure ≤ command_size image command
  structure_inside command structure has listed =
      let short : Structure → Type 0 = λ s. command_size image command < least_size image command s in
      at_least (least_size image command structure) (command_size image command)
      (λ less. opened.whole commands are command has (of_some short (structure_of (command_cmd image command)) structure listed less))

  -- so do the fields that bound its tables lie inside the image
  pub table_fields_inside : (command : ℕ) (structure : Structure) → Contains commands command → structure_of (command_cmd image command) ≡ Some structure
      → All (λ fields. (command + fields.place + width_size fields.width ≤ length image) × (command + fields.count + width_size fields.width ≤ length image)) (table_fields structure)
  table_fields_inside command structure has listed k d less =
      let whole : structure_size structure + records_size image command structure ≤ command_size image command = structure_inside command structure has listed in
      let inside = command_inside command has in
      let (place, count) = fields_inside structure k d less in (omega arith, omega arith)

  -- the sections of a segment lie in its command
  pub sections_inside : (segment : ℕ) → Contains commands segment → command_cmd image segment ≡ loader.LC_SEGMENT_64
      → loader.SEGMENT_COMMAND_64_SIZE + loader.SECTION_64_SIZE * nsects image segment ≤ command_size image segment
  sections_inside segment has is =
      let listed = structure_by_cmd image segment loader.LC_SEGMENT_64 (Some SegmentCommand64) is refl in
      let whole : 72 + 80 * record_count image segment 64 ≤ command_size image segment = structure_inside segment SegmentCommand64 has listed in
      let count : record_count image segment 64 ≡ nsects image segment = records_counted image segment 64 (omega arith) in
      omega (arith, count)

  -- a command whose structure has P is as long as the structure and its records
  pub with_structure : (command : ℕ) (P : Structure → Type 0) → Contains commands command → HasStructure image command P
      → (structure : Structure) × (structure_of (command_cmd image command) ≡ Some structure) × P structure × (least_size image command structure ≤ command_size image command)
  with_structure command P has holds =
      let (structure, listed, p) = some_of P (structure_of (command_cmd image command)) holds in
      (structure, listed, p, structure_inside command structure has listed)

  -- the name of a command ends inside the command
  pub name_ended : (command : ℕ) → Contains commands command → IsNamed image command → HasZero image (name_start image command) (command + command_size image command)
  name_ended command has named =
      let (structure, listed, p) = some_of (λ s. has_name s ≡ true) (structure_of (command_cmd image command)) named in
      let bad = of_some (IsBadName image command) (structure_of (command_cmd image command)) structure listed in
      not_not (zero_or_none image (name_start image command) (command + command_size image command))
      (λ none. opened.named commands are command has (bad (p, inr none)))
