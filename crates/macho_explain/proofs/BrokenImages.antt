-- What a rule of the commands of an image is about is there, where the rule is broken.
use Rattle.std.proofs.Common.{◌≡◌, ◌∙◌, ℕ, zero, suc, ◌+◌, ◌-◌, ◌*◌, ◌^◌, ◌≤◌, ◌<◌, List, length, get_or, get_or-drop, true, drop, Contains, Some, None, ap, arith, inl, inr, refl, subst, sym}
use Rattle.std.specs.Prelude.{nat_le, slice_get, slice_index, ◌&&◌}
use Rattle.std.proofs.lemmas.Bool.{cases_Bool}
use Rattle.std.proofs.lemmas.List.Sums.{count_by-le-length, length-filter, sum_by-le, sum_by-take-le}
use Rattle.std.proofs.lemmas.Option.{slice_get_read}
use Rattle.macho_fields.proofs.Chains.{counted_off}
use Rattle.macho_fields.proofs.Inside.{item_of_range}
use Rattle.macho_fields.proofs.Parts.{with_cmd_among}
use Rattle.macho_fields.specs.First.{rank}
use Rattle.macho_fields.specs.Image.{with_cmd, word, command_count, command_size, commands_of}
use Rattle.macho_fields.specs.Layers.{KeptBelow}
use Rattle.macho_fields.specs.Rules.{BreaksCommands, BreaksHeader, BreaksImage}
use Rattle.macho_fields.specs.Segment.{AtSection, all_segments, nsects}
use Rattle.macho_fields.specs.declared.header.loader.TheConstants as loader
use Rattle.macho_fields.specs.declared.rule.Rule.{Rule}
use Rattle.macho_fields.specs.declared.rule.Rule.TheVariants as rule
use Rattle.macho_image.specs.Opened.{IsOpened}
use Rattle.macho_rows.proofs.AllCommands.{all_wanted, has_opened, segments_wanted}
use Rattle.macho_rows.specs.Loads.{commands_from, is_command, is_segment}
use Rattle.macho_rows.specs.Sections.{nsects_at}
use Rattle.macho_spans.specs.Span.{Shares}
use Rattle.macho_explain.specs.Commanded.{HasEarlier, HasSection}
use Rattle.macho_explain.specs.Compared.{HasCommand, HasSegment}
use Rattle.macho_explain.specs.Explain.{all_loads, all_segment_loads, memory_of, IsUncounted}

-- No image has more commands, or sections, than are counted

walked_few : (image : List ℕ) (place left : ℕ) → length (commands_from image place left) ≤ left
walked_few image place zero = omega arith
walked_few image place (suc left) = let rest = walked_few image (place + command_size image place) left in elim (cases_Bool (is_command image place)) [
  | inl is ↦ rw is (omega (arith, rest))
  | inr none ↦ rw none (omega arith)
]

module _ (image : List ℕ) (bytes : (k : ℕ) → slice_index image k < 256) where
  word_small : (place : ℕ) → word image place ≤ 2 ^ 32 - 1
  word_small place =
      let each : (k : ℕ) → slice_index (drop place image) k < 256 = λ k. let there = bytes (place + k) in let same = get_or-drop place image k 0 in omega (arith, there, same) in
      omega (arith, each 0, each 1, each 2, each 3)

  loads_few : length (all_loads image) < 2 ^ 32
  loads_few =
      let all = commands_from image 32 (command_count image - 0) in
      let kept = length-filter (λ (c : ℕ). true) all in
      let few = count_by-le-length (λ (c : ℕ). true) all in
      let walked = walked_few image 32 (command_count image - 0) in omega (arith, kept, few, walked, word_small 16)

  sections_few : (command : ℕ) → nsects_at image command ≤ 2 ^ 32 - 1
  sections_few command = elim (cases_Bool (nat_le 32 command && is_command image command && is_segment image command)) [
    | inl is ↦ rw is (word_small (command + 64))
    | inr none ↦ rw none (omega arith)
  ]

  pub counted : ¬ IsUncounted image
  counted (inl many) = omega (arith, loads_few, many)
  counted (inr (k, many)) =
      let all = all_loads image in
      let most = sum_by-le (nsects_at image) (2 ^ 32 - 1) all (λ k d less. sections_few (get_or all k d)) in
      omega (arith, loads_few, many, most, sum_by-take-le (nsects_at image) all k)

-- What is listed

of_contains : (xs : List ℕ) (x : ℕ) → Contains xs x → (k : ℕ) × (slice_get xs k ≡ Some x)
of_contains xs x (k, less, is) = (k, slice_get_read xs (length xs) k x refl less (sym is))

module _ (image : List ℕ) (few : ¬ IsUncounted image) (n : ℕ) (late : rank rule.Name < n) (kept : KeptBelow (BreaksImage image None) n) where
  opened : IsOpened image
  opened = has_opened image (λ r place less broken. kept r place (omega (arith, less, late)) broken)

  pub segment_listed : (s : ℕ) → Contains (all_segments image) s → (k : ℕ) × (slice_get (all_segment_loads image) k ≡ Some s)
  segment_listed s has = let (k, at) = of_contains (all_segments image) s has in (k, ap (λ xs. slice_get xs k) (segments_wanted image opened) ∙ at)

  -- a command is there
  pub command : (place : ℕ) → Contains (commands_of image) place → HasCommand image place
  command place has = let (k, at) = of_contains (commands_of image) place has in (few, k, ap (λ xs. slice_get xs k) (all_wanted image opened) ∙ at)

  -- a segment is there
  pub segment : (place : ℕ) → Contains (all_segments image) place → HasSegment image place
  segment place has =
      let own = segment_listed place has in
      (command place (with_cmd_among image (commands_of image) loader.LC_SEGMENT_64 place has), own.0, own.1)

  -- so is a command with a cmd
  pub command_with : (cmd place : ℕ) → Contains (with_cmd image cmd (commands_of image)) place → HasCommand image place
  command_with cmd place has = command place (with_cmd_among image (commands_of image) cmd place has)

  -- the segment and an earlier one share addresses
  pub overlaps : (place : ℕ) → BreaksCommands image (commands_of image) rule.SegmentOverlap place
      → HasSegment image place × HasEarlier (all_segment_loads image) (λ earlier. Shares (memory_of image earlier) (memory_of image place)) place
  overlaps place (has, (j, earlier, less, is, (before, share))) =
      let (k, at) = segment_listed earlier (j, less, is) in
      (segment place has, (k, earlier, at, before, share))

  -- a section of a segment is there
  pub section : (P : ℕ → ℕ → Type 0) (place : ℕ) → AtSection image (commands_of image) P place → HasSection image place
  section P place (j, start, inside, is, (among, has)) =
      let (k, at) = segment_listed start (j, inside, is) in
      let (nth, less, there) = item_of_range (λ i. start + 72 + 80 * i) 0 (nsects image start) place among in
      let begins : place ≡ start + 72 + 80 * nth = omega (arith, there) in
      (few, (k, start, nth, at, less, begins))

-- the commands are those of the image
pub of_commands : (image : List ℕ) (r : Rule) (place : ℕ) → ¬ BreaksHeader image None r place → BreaksImage image None r place → BreaksCommands image (commands_of image) r place
of_commands image r place none (inl header) = absurd (none header)
of_commands image r place none (inr (commands, are, broken)) = subst (λ (cs : List ℕ). BreaksCommands image cs r place) (counted_off image commands are) broken
