-- The place of the first break of an image lies in the image, or just after its last byte.
use Rattle.std.proofs.Common.{◌≡◌, ℕ, suc, zero, ◌+◌, ◌*◌, ◌≤◌, ◌<◌, ◌⊎◌, List, [], ◌∷◌, length, map, Contains, Option, refl, sym, ap, ◌∙◌, arith, lit≤, inl, inr, lit<}
use Rattle.std.proofs.lemmas.Bool.{cases_lt}
use Rattle.std.specs.List.{range_with_len}
use Rattle.macho_fields.specs.Image.{commands_end, command_cmd, command_size, Follow, AreCommands, with_cmd}
use Rattle.macho_fields.specs.LoadCommands.{structure_of, indirect_table}
use Rattle.macho_fields.specs.Segment.{segments_of, AtSection, nsects}
use Rattle.macho_fields.specs.Symbol.{symoff, nsyms, stroff, strsize, indirectsymoff, nindirectsyms, tables_of, AtSymbol}
use Rattle.macho_fields.specs.Rules.{BreaksHeader, BreaksCommands, BreaksImage}
use Rattle.macho_fields.specs.First.{rank}
use Rattle.macho_fields.specs.Layers.{KeptBelow, IsLeast}
use Rattle.macho_fields.specs.declared.load_command.Structure.TheVariants.{DysymtabCommand}
use Rattle.macho_fields.specs.declared.rule.Rule.{Rule}
use Rattle.macho_fields.specs.declared.rule.Rule.TheVariants as rule
use Rattle.macho_fields.specs.declared.rule.Break.{Break}
use Rattle.macho_fields.specs.declared.header.loader.TheConstants as loader
use Rattle.macho_fields.proofs.Parts.{command_good, with_cmd_is, with_cmd_among}
use Rattle.macho_fields.proofs.Lists.{contains_first}
use Rattle.macho_fields.proofs.LoadCommands.{table_listed, indirects_listed}
use Rattle.macho_fields.proofs.Opened.{OpenedFacts, keeps_rules, command_inside, sections_inside}

-- an item of a list that is made of a range
pub item_of_range : {X : Type 0} (f : ℕ → X) (start n : ℕ) (x : X) → Contains (map f (range_with_len start n)) x → (k : ℕ) × (k < n) × (x ≡ f (start + k))
item_of_range f start zero x (k, less, at) = absurd (omega arith)
item_of_range f start (suc n) x (zero, less, at) = (0, omega arith, sym at ∙ ap f (let p : start ≡ start + 0 = omega arith in p))
item_of_range f start (suc n) x (suc k, less, at) =
    let (j, lower, is) = item_of_range f (start + 1) n x (k, omega arith, at) in
    (suc j, omega arith, is ∙ ap f (let p : (start + 1) + j ≡ start + suc j = omega arith in p))

-- a segment of an opened image lies inside it with its sections
pub segment_holds : (image commands : List ℕ) → OpenedFacts image → AreCommands image commands → (segment : ℕ)
    → Contains (segments_of image commands) segment → segment + 72 + 80 * nsects image segment ≤ length image
segment_holds image commands opened are segment has =
    let among = with_cmd_among image commands loader.LC_SEGMENT_64 segment has in
    let whole = sections_inside image commands opened are segment among (with_cmd_is image commands loader.LC_SEGMENT_64 segment has) in
    let most = command_inside image commands opened are segment among in
    omega arith

chain_inside : (image : List ℕ) (start : ℕ) (xs : List ℕ) (next : ℕ) → Follow image start xs next → (next ≡ start) ⊎ (next ≤ commands_end image)
chain_inside image start [] next f = inl (sym f)
chain_inside image start (x ∷ xs) next f = elim (chain_inside image (x + command_size image x) xs next f.2) [
  | inl same ↦ let last : x + command_size image x ≤ commands_end image = f.1.inside in inr (omega (arith, same))
  | inr most ↦ inr most
]

-- Of an image that breaks no earlier rule
module _ (image : List ℕ) (arch : Option (ℕ × ℕ)) where
  abbrev Below : ℕ → Type 0
  Below n = KeptBelow (BreaksImage image arch) n

  header_inside : (n : ℕ) → rank rule.HeaderTruncated < n → Below n → 32 ≤ length image
  header_inside n late below = elim (cases_lt (length image) 32) [ inl short ↦ absurd (below rule.HeaderTruncated 0 (omega arith) (inl (refl, short))) | inr most ↦ most ]

  all_inside : (n : ℕ) → rank rule.CommandsOutside < n → Below n → commands_end image ≤ length image
  all_inside n late below = elim (cases_lt (length image) (commands_end image)) [ inl short ↦ absurd (below rule.CommandsOutside 20 (omega arith) (inl (refl, short))) | inr most ↦ most ]

  at_walk : (n : ℕ) → rank rule.CommandsOutside < n → Below n → (place : ℕ) → BreaksHeader image arch rule.CommandWalk place → place ≤ length image
  at_walk n late below place (xs, short, chain, bad) =
      let header = header_inside n (omega arith) below in
      let ends = all_inside n late below in
      at_end header ends (chain_inside image 32 xs place chain)
    where
      at_end : 32 ≤ length image → commands_end image ≤ length image → (place ≡ 32) ⊎ (place ≤ commands_end image) → place ≤ length image
      at_end header ends (inl first) = omega arith
      at_end header ends (inr most) = omega arith

  at_command : (n : ℕ) → rank rule.CommandsOutside < n → Below n → (commands : List ℕ) → AreCommands image commands → (place : ℕ) → Contains commands place → place ≤ length image
  at_command n late below commands are place has =
      let good : place + command_size image place ≤ commands_end image = (command_good image commands place are has).inside in
      let most = all_inside n late below in omega arith

  at_cmd : (n : ℕ) → rank rule.CommandsOutside < n → Below n → (commands : List ℕ) → AreCommands image commands → (cmd place : ℕ)
      → Contains (with_cmd image cmd commands) place → place ≤ length image
  at_cmd n late below commands are cmd place has = at_command n late below commands are place (with_cmd_among image commands cmd place has)

  opens : (n : ℕ) → rank rule.SegmentAddress ≤ n → Below n → OpenedFacts image
  opens n late below = keeps_rules image arch (λ r place less h. below r place (omega arith) h)

  at_section : (n : ℕ) → rank rule.SegmentAddress ≤ n → Below n → (commands : List ℕ) → AreCommands image commands → (P : ℕ → ℕ → Type 0) (place : ℕ)
      → AtSection image commands P place → place ≤ length image
  at_section n late below commands are P place (j, segment, less, at, (has, p)) =
      let most = segment_holds image commands (opens n late below) are segment (j, less, at) in
      let (k, lower, is) = item_of_range (λ i. segment + loader.SEGMENT_COMMAND_64_SIZE + loader.SECTION_64_SIZE * i) 0 (nsects image segment) place has in
      omega (arith, is)

  -- a table of a command whose rule is unbroken ends inside
  table_inside : (n : ℕ) → rank rule.TableRange < n → Below n → (commands : List ℕ) → AreCommands image commands → (command : ℕ) → Contains commands command
      → (table : ℕ × ℕ × ℕ) → Contains (tables_of image command) table → 0 < table.1 → table.0 + table.1 * table.2 ≤ length image
  table_inside n late below commands are command has table (k, less, at) some = elim (cases_lt (length image) (table.0 + table.1 * table.2)) [
    | inl out ↦ absurd (below rule.TableRange command (omega arith) (inr (commands, are, (has, (k, table, less, at, (some, out))))))
    | inr most ↦ most
  ]

  at_symbol : (n : ℕ) → rank rule.TableRange < n → Below n → (commands : List ℕ) → AreCommands image commands → (P : ℕ → ℕ → Type 0) (place : ℕ)
      → AtSymbol image commands P place → place ≤ length image
  at_symbol n late below commands are P place (j, symtab, less, at, (k, lower, is, p)) =
      let among = with_cmd_among image commands loader.LC_SYMTAB symtab (j, less, at) in
      let cmd : command_cmd image symtab ≡ loader.LC_SYMTAB = with_cmd_is image commands loader.LC_SYMTAB symtab (j, less, at) in
      let symbols : ℕ × ℕ × ℕ = (symoff image symtab, nsyms image symtab, 16) in
      let strings : ℕ × ℕ × ℕ = (stroff image symtab, strsize image symtab, 1) in
      let has : Contains (tables_of image symtab) symbols = rw cmd (contains_first symbols (strings ∷ [])) in
      let most : symoff image symtab + nsyms image symtab * 16 ≤ length image = table_inside n late below commands are symtab among (symoff image symtab, nsyms image symtab, 16) has (omega arith) in
      omega (arith, is)

  at_indirect : (n : ℕ) → rank rule.TableRange < n → Below n → (commands : List ℕ) → AreCommands image commands → (dysymtab k place : ℕ)
      → Contains (with_cmd image loader.LC_DYSYMTAB commands) dysymtab → k < nindirectsyms image dysymtab
      → place ≡ indirectsymoff image dysymtab + 4 * k → place ≤ length image
  at_indirect n late below commands are dysymtab k place found lower is =
      let among = with_cmd_among image commands loader.LC_DYSYMTAB dysymtab found in
      let cmd : command_cmd image dysymtab ≡ loader.LC_DYSYMTAB = with_cmd_is image commands loader.LC_DYSYMTAB dysymtab found in
      let has : Contains (tables_of image dysymtab) (indirectsymoff image dysymtab, nindirectsyms image dysymtab, 4) =
      table_listed image dysymtab DysymtabCommand indirect_table (ap structure_of cmd) indirects_listed in
      let most : indirectsymoff image dysymtab + nindirectsyms image dysymtab * 4 ≤ length image =
      table_inside n late below commands are dysymtab among (indirectsymoff image dysymtab, nindirectsyms image dysymtab, 4) has (omega arith) in
      omega (arith, is)

  -- the place at which a rule of the header or of the walk is broken
  at_header : (r : Rule) (place : ℕ) → Below (rank r) → BreaksHeader image arch r place → place ≤ length image
  at_header rule.HeaderTruncated place below h = let first = h.0 in omega arith
  at_header rule.ArchMismatch place below h = let at = h.0 in let most = header_inside (rank rule.ArchMismatch) (lit< tt) below in omega arith
  at_header rule.FileType place below h = let at = h.0 in let most = header_inside (rank rule.FileType) (lit< tt) below in omega arith
  at_header rule.CommandsOutside place below h = let at = h.0 in let most = header_inside (rank rule.CommandsOutside) (lit< tt) below in omega arith
  at_header rule.CommandWalk place below h = at_walk (rank rule.CommandWalk) (lit< tt) below place h
  at_header other place below h = absurd h

  -- and one of the commands
  by_commands : (commands : List ℕ) → AreCommands image commands → (r : Rule) (place : ℕ) → Below (rank r) → BreaksCommands image commands r place → place ≤ length image
  by_commands commands are rule.DylibId place below h = let at = h.0 in let most = header_inside (rank rule.DylibId) (lit< tt) below in omega arith
  by_commands commands are rule.IndirectIndex place below h =
      let (j, dysymtab, less, at, (i, lower, is, p)) = h in
      at_indirect (rank rule.IndirectIndex) (lit< tt) below commands are dysymtab i place (j, less, at) lower is
  by_commands commands are other place below h =
      search (lit<, lit≤, at_command (rank other), at_cmd (rank other), at_section (rank other), at_symbol (rank other))

  pub place_inside : (r : Rule) (place : ℕ) → Below (rank r) → BreaksImage image arch r place → place ≤ length image
  place_inside r place below (inl h) = at_header r place below h
  place_inside r place below (inr (commands, are, h)) = by_commands commands are r place below h

-- the first break of an image
pub first_inside : (image : List ℕ) (arch : Option (ℕ × ℕ)) (b : Break) → IsLeast (BreaksImage image arch) b → b.place ≤ length image
first_inside image arch b (here, least) = place_inside image arch b.rule b.place (λ r place less h. least r place h (inl less)) here
