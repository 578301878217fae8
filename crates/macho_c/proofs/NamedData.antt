-- The data of a linkedit_data_command: all of it is there, in an image that breaks no rule.
use Rattle.std.proofs.Common.{◌≡◌, ◌∙◌, ℕ, ◌+◌, ◌≤◌, ◌⊎◌, List, [], length, drop, Some, None, inl, inr, refl, sym, ap, arith, lit<, length-take, length-drop}
use Rattle.std.specs.Prelude.{nat_le, slice_get, if◌then◌else◌}
use Rattle.std.specs.Option.{option_map_or}
use Rattle.std.proofs.lemmas.Bool.{cases_Bool, cases_lt, le-leb}
use Rattle.macho_fields.proofs.LoadCommands.{linkedit_data_listed}
use Rattle.macho_fields.specs.Field.{part}
use Rattle.macho_fields.specs.Layers.{NothingBreaks}
use Rattle.macho_fields.specs.LoadCommands.{structure_of, linkedit_data_table}
use Rattle.macho_fields.specs.Rules.{BreaksImage}
use Rattle.macho_fields.specs.Symbol.{IsOutside}
use Rattle.macho_fields.specs.declared.load_command.Structure.TheVariants.{LinkeditDataCommand}
use Rattle.macho_fields.specs.declared.rule.Rule.TheVariants as rule
use Rattle.macho_rules.proofs.OneCommand.{is_with_cmd}
use Rattle.macho_rules.proofs.TableItems.{table_inside}
use Rattle.macho_rows.specs.Image.{only}
use Rattle.macho_rows.specs.Linkedit.{dataoff, datasize, named_data}
use Rattle.macho_rows.specs.Spans.{part_or_none}
use Rattle.macho_rows.proofs.AllCommands.{has_opened, data_wanted}

-- no bytes at the start of an image
pub nothing : (image : List ℕ) → part_or_none 0 0 image ≡ []
nothing image = rw (le-leb (0 + 0) (length image) (omega arith)) refl

-- data that is not outside
module _ (image : List ℕ) (command : ℕ) (inside : ¬ IsOutside image (dataoff image command, datasize image command, 1)) where
  -- what is read of it: nothing where it ends past the image, which it does only if it is empty
  abbrev read : ℕ × ℕ
  read = if nat_le (dataoff image command + datasize image command) (length image) then (dataoff image command, datasize image command) else (0, 0)

  pub cases_fits : (dataoff image command + datasize image command ≤ length image) ⊎ (datasize image command ≡ 0)
  cases_fits = elim (cases_lt (length image) (dataoff image command + datasize image command)) [
    | inr most ↦ inl most
    | inl past ↦ elim (cases_lt 0 (datasize image command)) [
      | inl some ↦ absurd (inside (some, omega (arith, past)))
      | inr none ↦ inr (omega (arith, none))
    ]
  ]

  pub read_size : read.1 ≡ datasize image command
  read_size = elim (cases_Bool (nat_le (dataoff image command + datasize image command) (length image))) [
    | inl fits ↦ rw fits refl
    | inr past ↦ elim cases_fits [
      | inl fits ↦ absurd (let is = le-leb _ _ fits in cc)
      | inr none ↦ rw past (sym none)
    ]
  ]

  pub whole : length (part (dataoff image command) (datasize image command) image) ≡ datasize image command
  whole = elim cases_fits [
    | inl fits ↦ omega (arith, fits, length-take (datasize image command) (drop (dataoff image command) image), length-drop (dataoff image command) image)
    | inr none ↦ omega (arith, none, length-take (datasize image command) (drop (dataoff image command) image))
  ]

  pub read_part : part_or_none read.0 read.1 image ≡ part (dataoff image command) (datasize image command) image
  read_part = elim (cases_Bool (nat_le (dataoff image command + datasize image command) (length image))) [
    | inl fits ↦ rw (fits, fits) refl
    | inr past ↦ elim cases_fits [
      | inl fits ↦ absurd (let is = le-leb _ _ fits in cc)
      | inr none ↦ rw past (nothing image ∙ ap (λ n. part (dataoff image command) n image) (sym none))
    ]
  ]

-- An image that breaks no rule
module _ (image : List ℕ) (unbroken : NothingBreaks (BreaksImage image None)) (cmd : ℕ) (listed : structure_of cmd ≡ Some LinkeditDataCommand) where
  -- what is found is the first command with the cmd
  pub named : named_data cmd image ≡ option_map_or (λ c. if nat_le (dataoff image c + datasize image c) (length image) then (dataoff image c, datasize image c) else (0, 0)) (only image cmd) (0, 0)
  named = ap (λ commands. option_map_or (λ c. if nat_le (dataoff image c + datasize image c) (length image) then (dataoff image c, datasize image c) else (0, 0)) (slice_get commands 0) (0, 0))
      (data_wanted image (has_opened image (λ r place late broken. unbroken r place broken)) cmd listed)

  pub data_inside : (c : ℕ) → only image cmd ≡ Some c → ¬ IsOutside image (dataoff image c, datasize image c, 1)
  data_inside c is = table_inside image cmd LinkeditDataCommand c linkedit_data_table rule.IndirectIndex (lit< tt) (λ other place late. unbroken other place) listed (is_with_cmd image cmd c is) linkedit_data_listed
