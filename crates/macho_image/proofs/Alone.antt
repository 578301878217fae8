-- A command by its own bytes, and as the image has it.
use Rattle.std.proofs.Common.{◌≡◌, ℕ, ◌+◌, ◌-◌, ◌*◌, ◌≤◌, ◌<◌, ◌↔◌, List, length, cond, true, Option, Some, None, IsSomeAnd, slice_index, refl, sym, ap, ◌∙◌, subst, arith, inl, inr, ⊎_elim}
use Rattle.std.specs.Prelude.{nat_le}
use Rattle.std.specs.Option.{option_map_or}
use Rattle.std.proofs.lemmas.Bool.{cases_lt, lt-leb}
use Rattle.macho_fields.specs.Field.{part, HasZero}
use Rattle.macho_fields.specs.Image.{word, command_cmd, command_size, commands_end, IsGood}
use Rattle.macho_fields.specs.Command.{record_count, least_size, name_offset, name_start, IsShort, IsBadName, HasBadName}
use Rattle.macho_fields.specs.LoadCommands.{structure_of, structure_size, records_of, has_name}
use Rattle.macho_fields.specs.declared.load_command.Records.{Records}
use Rattle.macho_fields.specs.declared.load_command.Structure.{Structure}
use Rattle.macho_fields.proofs.LoadCommands.{name_inside}
use Rattle.macho_fields.proofs.Options.{some_of, of_some}
use Rattle.macho_image.specs.Command.{command_at}
use Rattle.macho_image.specs.Walk.{IsAlone}
use Rattle.macho_image.proofs.Names.{part_at}
use Rattle.macho_image.proofs.ReadParts.{word_in_part, length-part}

module _ (image : List ℕ) (p : ℕ) (good : IsGood image p) (inside : commands_end image ≤ length image) where
  abbrev size : ℕ
  size = command_size image p

  abbrev bytes : List ℕ
  bytes = part p size image

  within : p + size ≤ length image
  within = let end : p + command_size image p ≤ commands_end image = good.inside in omega arith

  long : 8 ≤ size
  long = good.least

  length_is : length bytes ≡ size
  length_is = length-part p size image within

  -- places in it are counted from its own start
  from_start : (n : ℕ) → 0 + n ≡ n
  from_start n = omega arith

  word_alone : (offset : ℕ) → offset + 4 ≤ size → word bytes (0 + offset) ≡ word image (p + offset)
  word_alone offset fits = ap (word bytes) (from_start offset) ∙ word_in_part p size offset image fits

  cmd_alone : command_cmd bytes 0 ≡ command_cmd image p
  cmd_alone = word_alone 0 (let h = long in omega arith) ∙ ap (word image) (let e : p + 0 ≡ p = omega arith in e)

  size_alone : command_size bytes 0 ≡ size
  size_alone = word_alone 4 (let h = long in omega arith)

  pub is_alone : IsAlone (command_at image p)
  is_alone = record { cmd = sym cmd_alone; size = sym size_alone; whole = sym length_is }

  count_alone : (offset : ℕ) → record_count bytes 0 offset ≡ record_count image p offset
  count_alone offset =
      ap (λ n. cond (nat_le (offset + 4) n) (word bytes (0 + offset)) 0) size_alone
      ∙ elim (cases_lt size (offset + 4)) [
        | inl short ↦ rw (lt-leb (offset + 4) size short) refl
        | inr fits ↦ ap (λ w. cond (nat_le (offset + 4) size) w 0) (word_alone offset fits)
      ]

  -- it is as short
  module _ (s : Structure) where
    records_alone : (o : Option Records) → option_map_or (λ records. records.size * record_count bytes 0 records.count) o 0
        ≡ option_map_or (λ records. records.size * record_count image p records.count) o 0
    records_alone None = refl
    records_alone (Some records) = ap (λ n. records.size * n) (count_alone records.count)

    least_alone : least_size bytes 0 s ≡ least_size image p s
    least_alone = ap (λ n. structure_size s + n) (records_alone (records_of s))

  of_structure : (P Q : Structure → Type 0) (o : Option Structure) → ((s : Structure) → P s → Q s) → IsSomeAnd o P → IsSomeAnd o Q
  of_structure P Q None each h = h
  of_structure P Q (Some s) each h = each s h

  abbrev ShortAs : List ℕ → ℕ → Structure → Type 0
  ShortAs xs place s = command_size xs place < least_size xs place s

  pub short_alone : IsShort bytes 0 ↔ IsShort image p
  short_alone = (
    λ h. of_structure (ShortAs bytes 0) (ShortAs image p) (structure_of (command_cmd image p)) (λ s short. let e = size_alone in let l = least_alone s in omega arith)
        (subst (λ cmd. IsSomeAnd (structure_of cmd) (ShortAs bytes 0)) cmd_alone h),
    λ h. subst (λ cmd. IsSomeAnd (structure_of cmd) (ShortAs bytes 0)) (sym cmd_alone) (of_structure (ShortAs image p) (ShortAs bytes 0) (structure_of (command_cmd image p))
        (λ s short. let e = size_alone in let l = least_alone s in omega arith) h),
  )

  -- its name, where it is long enough to have one, is as bad
  module _ (room : 12 ≤ size) where
    offset_alone : name_offset bytes 0 ≡ name_offset image p
    offset_alone = word_alone 8 (omega arith)

    zero_alone : HasZero bytes (name_start bytes 0) (0 + command_size bytes 0) ↔ HasZero image (name_start image p) (p + size)
    zero_alone = (
      λ h. let (z, low, high, in_bytes, is) = h in
          let n = length_is in
          (p + z, omega (arith, offset_alone, low), omega (arith, n, in_bytes), omega (arith, n, in_bytes, within), sym (part_at image p size z (omega (arith, n, in_bytes))) ∙ is),
      λ h. let (z, low, high, in_image, is) = h in
          let n = length_is in
          let here : p + (z - p) ≡ z = omega arith in
          (z - p, omega (arith, offset_alone), omega (arith, size_alone), omega (arith, n), part_at image p size (z - p) (omega arith) ∙ (ap (slice_index image) here ∙ is)),
    )

  -- a command that is not short has room for its name
  has_room : ¬ IsShort image p → (s : Structure) → structure_of (command_cmd image p) ≡ Some s → has_name s ≡ true → 12 ≤ size
  has_room whole s listed named = elim (cases_lt size (least_size image p s)) [
    | inl short ↦ absurd (whole (of_some (ShortAs image p) (structure_of (command_cmd image p)) s listed short))
    | inr most ↦ let h = name_inside s named in omega arith
  ]

  pub bad_alone : ¬ IsShort image p → HasBadName bytes 0 ↔ HasBadName image p
  bad_alone whole = (
    λ h. let (s, listed, (named, bad)) = some_of (IsBadName bytes 0) (structure_of (command_cmd image p)) (subst (λ cmd. IsSomeAnd (structure_of cmd) (IsBadName bytes 0)) cmd_alone h) in
        let room = has_room whole s listed named in
        of_some (IsBadName image p) (structure_of (command_cmd image p)) s listed
        (named, ⊎_elim (λ low. inl (let e = offset_alone room in omega (arith, low))) (λ none. inr (λ zero. none ((zero_alone room).1 zero))) bad),
    λ h. let (s, listed, (named, bad)) = some_of (IsBadName image p) (structure_of (command_cmd image p)) h in
        let room = has_room whole s listed named in
        subst (λ cmd. IsSomeAnd (structure_of cmd) (IsBadName bytes 0)) (sym cmd_alone) (of_some (IsBadName bytes 0) (structure_of (command_cmd image p)) s listed
        (named, ⊎_elim (λ low. inl (let e = offset_alone room in omega (arith, low))) (λ none. inr (λ zero. none ((zero_alone room).0 zero))) bad)),
  )
