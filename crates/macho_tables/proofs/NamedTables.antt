-- The tables of bytes that a command of an unbroken image names.
use Rattle.std.proofs.Common.{◌≡◌, ℕ, ◌+◌, ◌*◌, ◌≤◌, ◌<◌, List, length, Contains, None, Some, arith, inl, inr}
use Rattle.std.proofs.lemmas.Bool.{cases_lt}
use Rattle.std.proofs.lemmas.List.Elements.{All-contains}
use Rattle.macho_fields.specs.Image.{command_cmd, commands_of}
use Rattle.macho_fields.specs.Layers.{NothingBreaks}
use Rattle.macho_fields.specs.LoadCommands.{structure_of, table_fields, width_size}
use Rattle.macho_fields.specs.Rules.{BreaksImage}
use Rattle.macho_fields.specs.Symbol.{table_at, tables_of, IsOutside}
use Rattle.macho_fields.specs.declared.load_command.Structure.{Structure}
use Rattle.macho_fields.specs.declared.load_command.TableFields.{TableFields}
use Rattle.macho_fields.specs.declared.rule.Rule.TheVariants as rule
use Rattle.macho_fields.proofs.LoadCommands.{table_listed}
use Rattle.macho_fields.proofs.Opened.{table_fields_inside}
use Rattle.macho_image.specs.Opened.{IsOpened}
use Rattle.macho_rules.proofs.Judged.{opened_facts, opened_commands}
use Rattle.macho_rules.proofs.Searches.{any_of}
use Rattle.macho_rules.proofs.Verdicts.{unbroken_opened}

-- the two fields that bound a table lie in the image
abbrev pub LieInside : List ℕ → ℕ → TableFields → Type 0
LieInside image command f = (command + f.place + width_size f.width ≤ length image) × (command + f.count + width_size f.width ≤ length image)

-- the fields of a command of an opened image do
pub bounds_opened : (image : List ℕ) → IsOpened image → (command : ℕ) (structure : Structure)
    → Contains (commands_of image) command × (structure_of (command_cmd image command) ≡ Some structure)
    → (fields : TableFields) → Contains (table_fields structure) fields → LieInside image command fields
bounds_opened image opened command structure listed fields of =
    All-contains (LieInside image command) (table_fields structure) fields (table_fields_inside image (commands_of image) (opened_facts image opened) (opened_commands image opened) command structure listed.0 listed.1) of

module _ (image : List ℕ) (keeps : NothingBreaks (BreaksImage image None)) (command : ℕ) (structure : Structure)
    (listed : Contains (commands_of image) command × (structure_of (command_cmd image command) ≡ Some structure))
    (fields : TableFields) (of : Contains (table_fields structure) fields) where
  abbrev bounds : ℕ × ℕ × ℕ
  bounds = table_at image command fields

  pub table_named : Contains (tables_of image command) bounds
  table_named = table_listed image command structure fields listed.1 of

  -- one that has bytes lies in the image
  pub table_inside : fields.item_size ≡ 1 → 0 < bounds.1 → bounds.0 + bounds.1 ≤ length image
  table_inside bytes some =
      elim (cases_lt (length image) (bounds.0 + bounds.1 * bounds.2)) [
        | inl out ↦
            absurd (keeps rule.TableRange command (inr (commands_of image, opened_commands image (unbroken_opened image keeps), (listed.0, any_of (IsOutside image) (tables_of image command) bounds table_named (some, out)))))
        | inr inside ↦ let size : bounds.1 * bounds.2 ≡ bounds.1 = rw bytes (omega arith) in omega (arith, inside, size)
      ]

  -- and so do the fields that bound it
  pub bounds_inside : LieInside image command fields
  bounds_inside = bounds_opened image (unbroken_opened image keeps) command structure listed fields of
