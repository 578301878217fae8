-- An image that breaks no rule is sound.
use Rattle.std.proofs.Common.{◌≡◌, ◌≢◌, ℕ, ◌+◌, ◌-◌, ◌*◌, ◌≤◌, ◌<◌, ◌⊎◌, List, length, false, slice_index, bit_and, Any, Contains, Option, IsSomeAnd, refl, sym, ap, subst, arith, inl, inr}
use Rattle.std.proofs.lemmas.Bool.{cases_lt, cases_eq, cases_order, lt-ltb}
use Rattle.macho_fields.specs.Field.{HasZero}
use Rattle.macho_spans.specs.Span.{Covers}
use Rattle.macho_fields.specs.Image.{word, long, command_size, AreCommands, with_cmd}
use Rattle.macho_fields.specs.Command.{HasStructure, least_size, IsNamed, name_start}
use Rattle.macho_fields.specs.Segment.{segments_of, sections_in, vmaddr, vmsize, fileoff, filesize, initprot, base_of, Supplies, IsInFilePart, IsExecutable, section_address, section_size, section_offset, is_zero_fill, File, source}
use Rattle.macho_fields.specs.Symbol.{tables_of, IsOutside, HasEndlessName}
use Rattle.macho_fields.specs.Rules.{BreaksCommands, BreaksImage}
use Rattle.macho_fields.specs.Loader.{IsName, IsTable, Reads, IsSoundImage}
use Rattle.macho_fields.specs.Loader.Reads.{in_header, in_command, in_structure, in_segment, in_section, in_table, in_name}
use Rattle.macho_fields.specs.declared.rule.Rule.{Rule}
use Rattle.macho_fields.specs.declared.rule.Rule.TheVariants as rule
use Rattle.macho_fields.proofs.Decided.{not_not, both_or_not, le_or_not, any_or_not, some_or_not, zero_or_none}
use Rattle.macho_fields.proofs.Lists.{any_of}
use Rattle.macho_fields.proofs.Opened.{OpenedFacts, keeps_rules, command_inside, with_structure, name_ended}

-- an item that has P, as an element
with_item : {X : Type 0} (P : X → Type 0) (xs : List X) → Any P xs → (x : X) × (Contains xs x × P x)
with_item P xs (k, x, less, at, h) = (x, ((k, less, at), h))

module _ (image : List ℕ) (arch : Option (ℕ × ℕ)) (keeps : (r : Rule) (place : ℕ) → ¬ BreaksImage image arch r place) (commands : List ℕ) (are : AreCommands image commands) where
  keeps_commands : (r : Rule) (place : ℕ) → ¬ BreaksCommands image commands r place
  keeps_commands r place h = keeps r place (inr (commands, are, h))

  opened : OpenedFacts image
  opened = keeps_rules image arch (λ r place early h. keeps r place h)

  reads_header : (place : ℕ) → place < 32 → place < length image
  reads_header place h = let most = opened.header in omega arith

  reads_command : (place : ℕ) → Any (λ command. Covers command (command_size image command) place) commands → place < length image
  reads_command place any =
      let (command, (has, h)) = with_item (λ command. Covers command (command_size image command) place) commands any in
      let most = command_inside image commands opened are command has in omega arith

  abbrev StructureHolds : ℕ → ℕ → Type 0
  StructureHolds place command = HasStructure image command (λ structure. Covers command (least_size image command structure) place)

  reads_structure : (place : ℕ) → Any (StructureHolds place) commands → place < length image
  reads_structure place any =
      let (command, (has, holds)) = with_item (StructureHolds place) commands any in
      let (structure, listed, from, fits) = with_structure image commands opened are command (λ structure. Covers command (least_size image command structure) place) has holds in
      let most = command_inside image commands opened are command has in omega arith

  segment_inside : (segment : ℕ) → Contains (segments_of image commands) segment → 0 < filesize image segment → fileoff image segment + filesize image segment ≤ length image
  segment_inside segment has some = elim (cases_lt (length image) (fileoff image segment + filesize image segment)) [
    | inl h ↦ absurd (keeps_commands rule.SegmentFile segment (has, (some, h)))
    | inr h ↦ h
  ]

  reads_segment : (place : ℕ) → Any (λ segment. Covers (fileoff image segment) (filesize image segment) place) (segments_of image commands) → place < length image
  reads_segment place any =
      let (segment, (has, h)) = with_item (λ segment. Covers (fileoff image segment) (filesize image segment) place) (segments_of image commands) any in
      let most = segment_inside segment has (omega arith) in omega arith

  one_segment : (a b address : ℕ) → Contains (segments_of image commands) a → Contains (segments_of image commands) b → Supplies image a address → Supplies image b address → a ≡ b
  one_segment a b address has_a has_b in_a in_b =
      elim (cases_order a b) [
        | inl e ↦ e
        | inr (inl less) ↦ absurd (keeps_commands rule.SegmentOverlap b (
          has_b,
          any_of (λ earlier. (earlier < b) × ((at : ℕ) × Supplies image earlier at × Supplies image b at)) (segments_of image commands) a has_a
              (less, (address, in_a, in_b)),
        ))
        | inr (inr less) ↦ absurd (keeps_commands rule.SegmentOverlap a (
          has_a,
          any_of (λ earlier. (earlier < a) × ((at : ℕ) × Supplies image earlier at × Supplies image a at)) (segments_of image commands) b has_b
              (less, (address, in_b, in_a)),
        ))
      ]

  -- Sections

  in_part_or_not : (segment section : ℕ) → IsInFilePart image segment section ⊎ ¬ IsInFilePart image segment section
  in_part_or_not segment section =
      let past = section_address image section - vmaddr image segment in
      both_or_not (cases_eq (section_offset image section) (fileoff image segment + past)) (le_or_not (past + section_size image section) (filesize image segment))

  section_in_segment : (segment section : ℕ) → Contains (segments_of image commands) segment → Contains (sections_in image segment) section → 0 < vmsize image segment → 0 < section_size image section
      → (vmaddr image segment ≤ section_address image section) × (section_address image section + section_size image section ≤ vmaddr image segment + vmsize image segment)
  section_in_segment segment section has in' mapped some =
      not_not
      (both_or_not (le_or_not (vmaddr image segment) (section_address image section))
      (le_or_not (section_address image section + section_size image section) (vmaddr image segment + vmsize image segment)))
      (λ out. keeps_commands rule.SectionAddress section
      (any_of (λ s. Contains (sections_in image s) section × ((0 < vmsize image s) × (0 < section_size image section)
      × ¬ ((vmaddr image s ≤ section_address image section)
      × (section_address image section + section_size image section ≤ vmaddr image s + vmsize image s))))
      (segments_of image commands) segment has (in', (mapped, some, out))))

  abbrev BadFilePlace : ℕ → ℕ → Type 0
  BadFilePlace segment section = (0 < section_size image section) × (is_zero_fill image section ≡ false)
      × (((0 < vmsize image segment) × ¬ IsInFilePart image segment section)
      ⊎ ((vmsize image segment ≡ 0) × (length image < section_offset image section + section_size image section)))

  no_bad_file_place : (segment section : ℕ) → Contains (segments_of image commands) segment → Contains (sections_in image segment) section → ¬ BadFilePlace segment section
  no_bad_file_place segment section has in' bad =
      keeps_commands rule.SectionFile section
      (any_of (λ s. Contains (sections_in image s) section × BadFilePlace s section) (segments_of image commands) segment has (in', bad))

  section_in_part : (segment section : ℕ) → Contains (segments_of image commands) segment → Contains (sections_in image segment) section
      → 0 < vmsize image segment → 0 < section_size image section → is_zero_fill image section ≡ false → IsInFilePart image segment section
  section_in_part segment section has in' mapped some fill = not_not (in_part_or_not segment section) (λ out. no_bad_file_place segment section has in' (some, fill, inl (mapped, out)))

  section_inside : (segment section : ℕ) → Contains (segments_of image commands) segment → Contains (sections_in image segment) section
      → 0 < section_size image section → is_zero_fill image section ≡ false → section_offset image section + section_size image section ≤ length image
  section_inside segment section has in' some fill =
      elim (cases_eq (vmsize image segment) 0) [
        | inl none ↦
            elim (cases_lt (length image) (section_offset image section + section_size image section)) [
              | inl h ↦ absurd (no_bad_file_place segment section has in' (some, fill, inr (none, h)))
              | inr h ↦ h
            ]
        | inr mapped ↦ mapped_inside mapped
      ]
    where
      mapped_inside : vmsize image segment ≢ 0 → section_offset image section + section_size image section ≤ length image
      mapped_inside mapped =
          let part = section_in_part segment section has in' (omega arith) some fill in
          let most = segment_inside segment has (omega arith) in omega arith

  abbrev SectionHolds : ℕ → ℕ → Type 0
  SectionHolds place section = (is_zero_fill image section ≡ false) × Covers (section_offset image section) (section_size image section) place

  reads_section : (place : ℕ) → Any (λ segment. Any (SectionHolds place) (sections_in image segment)) (segments_of image commands) → place < length image
  reads_section place any =
      let (segment, (has, sections)) = with_item (λ segment. Any (SectionHolds place) (sections_in image segment)) (segments_of image commands) any in
      let (section, (in', h)) = with_item (SectionHolds place) (sections_in image segment) sections in
      let from : Covers (section_offset image section) (section_size image section) place = h.1 in
      let most = section_inside segment section has in' (omega arith) h.0 in omega arith

  section_source : (segment section k : ℕ) → Contains (segments_of image commands) segment → Contains (sections_in image segment) section → 0 < vmsize image segment → k < section_size image section
      → Supplies image segment (section_address image section + k)
      × (is_zero_fill image section ≡ false → source image segment (section_address image section + k) ≡ File (section_offset image section + k))
  section_source segment section k has in' mapped less = (here, from)
    where
      bounds : (vmaddr image segment ≤ section_address image section) × (section_address image section + section_size image section ≤ vmaddr image segment + vmsize image segment)
      bounds = section_in_segment segment section has in' mapped (omega arith)

      here : Supplies image segment (section_address image section + k)
      here = let b = bounds in (omega arith, omega arith)

      from : is_zero_fill image section ≡ false → source image segment (section_address image section + k) ≡ File (section_offset image section + k)
      from fill =
          let b = bounds in
          let part : IsInFilePart image segment section = section_in_part segment section has in' mapped (omega arith) fill in
          rw (lt-ltb ((section_address image section + k) - vmaddr image segment) (filesize image segment) (omega arith)) (ap File (omega arith))

  -- Tables

  abbrev TableIs : ℕ → ℕ → ℕ × ℕ × ℕ → Type 0
  TableIs start len table = (0 < table.1) × (start ≡ table.0) × (len ≡ table.1 * table.2)

  abbrev RelocsAre : ℕ → ℕ → ℕ → Type 0
  RelocsAre start len section = (0 < word image (section + 60)) × (start ≡ word image (section + 56)) × (len ≡ 8 * word image (section + 60))

  abbrev BadRelocs : ℕ → Type 0
  BadRelocs section = (0 < word image (section + 60)) × (length image < word image (section + 56) + 8 * word image (section + 60))

  command_table : (start len : ℕ) → Any (λ command. Any (TableIs start len) (tables_of image command)) commands → start + len ≤ length image
  command_table start len any =
      let (command, (has, tables)) = with_item (λ command. Any (TableIs start len) (tables_of image command)) commands any in
      let (table, (in', h)) = with_item (TableIs start len) (tables_of image command) tables in
      elim (cases_lt (length image) (table.0 + table.1 * table.2)) [
        | inl out ↦ absurd (keeps_commands rule.TableRange command (has, any_of (IsOutside image) (tables_of image command) table in' (h.0, out)))
        | inr most ↦ subst (λ n. start + n ≤ length image) (sym h.2) (subst (λ n. n + table.1 * table.2 ≤ length image) (sym h.1) most)
      ]

  section_relocs : (start len : ℕ) → Any (λ segment. Any (RelocsAre start len) (sections_in image segment)) (segments_of image commands) → start + len ≤ length image
  section_relocs start len any =
      let (segment, (has, sections)) = with_item (λ segment. Any (RelocsAre start len) (sections_in image segment)) (segments_of image commands) any in
      let (section, (in', h)) = with_item (RelocsAre start len) (sections_in image segment) sections in
      elim (cases_lt (length image) (word image (section + 56) + 8 * word image (section + 60))) [
        | inl out ↦ absurd (keeps_commands rule.SectionRelocs section
            (any_of (λ s. Contains (sections_in image s) section × BadRelocs section) (segments_of image commands) segment has (in', (h.0, out))))
        | inr most ↦ subst (λ n. start + n ≤ length image) (sym h.2) (subst (λ n. n + 8 * word image (section + 60) ≤ length image) (sym h.1) most)
      ]

  reads_table : (start len place : ℕ) → IsTable image commands start len → Covers start len place → place < length image
  reads_table start len place table from = elim table [ inl t ↦ let most = command_table start len t in omega arith | inr t ↦ let most = section_relocs start len t in omega arith ]

  -- Names

  abbrev CommandName : ℕ → ℕ → ℕ → Type 0
  CommandName start end command = IsNamed image command × (start ≡ name_start image command) × (end ≡ command + command_size image command)

  abbrev SymbolName : ℕ → ℕ → ℕ → Type 0
  SymbolName start end symtab = (k : ℕ) × (k < word image (symtab + 12))
      × let strx = word image (word image (symtab + 8) + 16 * k) in
      (strx ≢ 0) × (start ≡ word image (symtab + 16) + strx) × (end ≡ word image (symtab + 16) + word image (symtab + 20))

  command_name : (start end : ℕ) → Any (CommandName start end) commands → HasZero image start end
  command_name start end any =
      let (command, (has, name)) = with_item (CommandName start end) commands any in
      let ended = name_ended image commands opened are command has name.0 in
      subst (λ n. HasZero image n end) (sym name.1) (subst (λ n. HasZero image (name_start image command) n) (sym name.2) ended)

  symbol_name : (start end : ℕ) → Any (SymbolName start end) (with_cmd image 0x2 commands) → HasZero image start end
  symbol_name start end any =
      let (symtab, (has, name)) = with_item (SymbolName start end) (with_cmd image 0x2 commands) any in
      let symbol = word image (symtab + 8) + 16 * name.0 in
      let ended : HasZero image (word image (symtab + 16) + word image symbol) (word image (symtab + 16) + word image (symtab + 20)) =
      not_not (zero_or_none image (word image (symtab + 16) + word image symbol) (word image (symtab + 16) + word image (symtab + 20)))
      (λ none. keeps_commands rule.SymbolName symbol
      (any_of (λ s. (k : ℕ) × (k < word image (s + 12)) × (symbol ≡ word image (s + 8) + 16 * k) × HasEndlessName image s symbol)
      (with_cmd image 0x2 commands) symtab has
      (name.0, name.1, refl, (name.2.0, none)))) in
      subst (λ n. HasZero image n end) (sym name.2.1) (subst (λ n. HasZero image (word image (symtab + 16) + word image symbol) n) (sym name.2.2) ended)

  names_ended : (start end : ℕ) → IsName image commands start end → HasZero image start end
  names_ended start end name = elim name [ inl n ↦ command_name start end n | inr n ↦ symbol_name start end n ]

  reads_name : (start end place : ℕ) → IsName image commands start end → start ≤ place
      → ((before : ℕ) → start ≤ before → before < place → before < length image → slice_index image before ≢ 0) → place < length image
  reads_name start end place name low none =
      let (z, from, to, inside, is) = names_ended start end name in
      elim (cases_lt z place) [ inl less ↦ absurd (none z from less inside is) | inr most ↦ omega arith ]

  reads_inside : (place : ℕ) → Reads image commands place → place < length image
  reads_inside place (in_header h) = reads_header place h
  reads_inside place (in_command h) = reads_command place h
  reads_inside place (in_structure h) = reads_structure place h
  reads_inside place (in_segment h) = reads_segment place h
  reads_inside place (in_section h) = reads_section place h
  reads_inside place (in_table start len t h) = reads_table start len place t h
  reads_inside place (in_name start end n low none) = reads_name start end place n low none

  -- The entry

  executable_or_not : (address : ℕ) → IsExecutable image commands address ⊎ ¬ IsExecutable image commands address
  executable_or_not address =
      any_or_not
      (λ segment. Supplies image segment address × (address < vmaddr image segment + filesize image segment) × (bit_and (initprot image segment) 4 ≢ 0))
      each (segments_of image commands)
    where
      each : (segment : ℕ) → (Supplies image segment address × (address < vmaddr image segment + filesize image segment) × (bit_and (initprot image segment) 4 ≢ 0))
          ⊎ ¬ (Supplies image segment address × (address < vmaddr image segment + filesize image segment) × (bit_and (initprot image segment) 4 ≢ 0))
      each segment =
          elim (le_or_not (vmaddr image segment) address) [
            | inr n ↦ inr (λ h. n h.0.0)
            | inl a ↦
                elim (cases_lt address (vmaddr image segment + vmsize image segment)) [
                  | inr n ↦ inr (λ h. let p = h.0.1 in absurd (omega arith))
                  | inl b ↦
                      elim (cases_lt address (vmaddr image segment + filesize image segment)) [
                        | inr n ↦ inr (λ h. let p = h.1 in absurd (omega arith))
                        | inl c ↦
                            elim (cases_eq (bit_and (initprot image segment) 4) 0) [ inl n ↦ inr (λ h. h.2 n) | inr d ↦ inl ((a, b), c, d) ]
                      ]
                ]
          ]

  entry_runs : (main : ℕ) → Contains (with_cmd image 0x80000028 commands) main → IsSomeAnd (base_of image commands) (λ base. IsExecutable image commands (base + long image (main + 8)))
  entry_runs main has =
      not_not
      (some_or_not (λ base. IsExecutable image commands (base + long image (main + 8)))
      (λ base. executable_or_not (base + long image (main + 8))) (base_of image commands))
      (λ none. keeps_commands rule.Entry main (has, none))

  pub sound_image : IsSoundImage image commands
  sound_image = record { reads = reads_inside; one_segment = one_segment; sections = section_source; names = names_ended; entries = entry_runs }
