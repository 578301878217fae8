-- Where the functions, the data in code and the initializers of an image that breaks no rule are.
use Rattle.std.proofs.Common.{◌≡◌, ℕ, zero, suc, ◌+◌, ◌*◌, ◌%◌, ◌^◌, ◌<◌, ◌⊎◌, List, [], ◌∷◌, ◌++◌, length, drop, Bool, true, false, All, Any, Option, Some, None, cond, refl, sym, ap, ◌∙◌, subst, arith, inl, inr}
use Rattle.std.specs.Prelude.{◌&&◌, nat_lt, sum}
use Rattle.std.specs.Option.{option_and_then, option_map_or}
use Rattle.std.proofs.lemmas.Bool.{and_parts, cases_Bool, cases_eq, cases_lt, ltb-true}
use Rattle.std.proofs.lemmas.List.{drop-drop}
use Rattle.std.proofs.lemmas.List.Elements.{All-cons}
use Rattle.std.proofs.lemmas.List.Sums.{sum_by_push}
use Rattle.macho_fields.specs.Field.{part}
use Rattle.macho_fields.specs.Image.{word, commands_of}
use Rattle.macho_fields.specs.Layers.{NothingBreaks}
use Rattle.macho_fields.specs.Rules.{BreaksImage as Breaks}
use Rattle.macho_fields.specs.Segment.{all_segments, base_of, fileoff, section_size, IsExecutable}
use Rattle.macho_fields.specs.declared.header.loader.TheConstants as loader
use Rattle.macho_fields.specs.declared.rule.Rule.TheVariants as rule
use Rattle.macho_fields.proofs.Decided.{not_not, any_or_not, both_or_not, some_or_not, le_or_not}
use Rattle.macho_commands.proofs.SoundCommands.{executable_or_not}
use Rattle.macho_image.specs.Segment.{sections_of}
use Rattle.macho_image.proofs.ReadParts.{length-part}
use Rattle.macho_rules.proofs.Searches.{any_of}
use Rattle.macho_spans.specs.Span.{end_of}
use Rattle.macho_spans.specs.declared.span.Span.{Span}
use Rattle.macho_strict.specs.Unclaimed.{is_code}
use Rattle.macho_tables.specs.DataInCode.{entry_at, entry_place, entry_count, is_known_kind, bytes_of_entry, IsCodeOf, IsBadEntry, BadEntry}
use Rattle.macho_tables.specs.FunctionStarts.{next_start, starts_up_to, function_starts}
use Rattle.macho_tables.specs.Homes.{bytes_of_segment}
use Rattle.macho_linked.specs.Located.{IsLocatedEntry, IsLocatedOffset, IsLocated}
use Rattle.macho_tables.specs.Numbers.{number_bytes, digits_value, unsigned_at}
use Rattle.macho_linked.specs.Rules.{BreaksImage}
use Rattle.macho_tables.specs.StartNumbers.{AreNumbers, IsFileAddress, StrayStart}
use Rattle.macho_tables.specs.declared.data_in_code.DataInCodeEntry.{DataInCodeEntry}
use Rattle.macho_tables.proofs.DataTables.{broken_in_image, data_table_inside}
use Rattle.macho_tables.specs.InitOffsets.{HasOffsets, IsCalled, IsBadOffset, BadOffset, offset_place}
use Rattle.macho_tables.proofs.FileBytes.{file_or_not}
use Rattle.macho_tables.proofs.StartNumbers.{numbers_more, stray_here}

-- The first number of what is left of the data
kept : {X : Type 0} (b : Bool) (given : X) (x : X) → cond b (Some given) None ≡ Some x → (b ≡ true) × (given ≡ x)
kept true given x is = (refl, cc)
kept false given x is = absurd (cc)

next_reads : (table : List ℕ) (address : ℕ) (s : ℕ × ℕ) → next_start table address ≡ Some s
    → (distance : ℕ) × (unsigned_at table 0 ≡ Some (distance, s.1)) × (0 < distance) × (s.0 ≡ address + distance)
unfolding next_start
next_reads table address s is = by (unsigned_at table 0) refl is
  where
    by : (read : Option (ℕ × ℕ)) → unsigned_at table 0 ≡ read
        → option_and_then {U = ℕ × ℕ} (λ n. cond (nat_lt 0 n.0 && nat_lt (address + n.0) (2 ^ 64)) (Some (address + n.0, n.1)) None) read ≡ Some s
        → (distance : ℕ) × (unsigned_at table 0 ≡ Some (distance, s.1)) × (0 < distance) × (s.0 ≡ address + distance)
    by None at found = absurd (cc)
    by (Some n) at found =
        let (passes, same) = kept _ (address + n.0, n.1) s found in
        let size : n.1 ≡ s.1 = ap (λ (r : ℕ × ℕ). r.1) same in
        (n.0, at ∙ ap (λ m. Some (n.0, m)) size, ltb-true 0 n.0 (and_parts (nat_lt 0 n.0) (nat_lt (address + n.0) (2 ^ 64)) passes).0, sym (ap (λ (r : ℕ × ℕ). r.0) same))

-- is one of the whole data
read_there : (table : List ℕ) (place distance size : ℕ) → unsigned_at (drop place table) 0 ≡ Some (distance, size) → unsigned_at table place ≡ Some (distance, place + size)
unfolding unsigned_at
read_there table place distance size is = by (number_bytes (drop place table)) is
  where
    by : (read : Option (List ℕ))
        → option_and_then {U = ℕ × ℕ} (λ bytes. cond (nat_lt (digits_value bytes) (2 ^ 64)) (Some (digits_value bytes, 0 + length bytes)) None) read ≡ Some (distance, size)
        → option_and_then {U = ℕ × ℕ} (λ bytes. cond (nat_lt (digits_value bytes) (2 ^ 64)) (Some (digits_value bytes, place + length bytes)) None) read ≡ Some (distance, place + size)
    by None found = absurd (cc)
    by (Some bytes) found =
        let (fits, same) = kept _ (digits_value bytes, 0 + length bytes) (distance, size) found in
        let value : digits_value bytes ≡ distance = ap (λ (r : ℕ × ℕ). r.0) same in
        let sums : 0 + length bytes ≡ size = ap (λ (r : ℕ × ℕ). r.1) same in
        let count : length bytes ≡ size = omega (arith, sums) in
        rw fits (ap (λ n. Some (n, place + length bytes)) value ∙ ap (λ n. Some (distance, place + n)) count)

-- no function is stray
module _ (image table : List ℕ) (base : ℕ) (is : base_of image (commands_of image) ≡ Some base) (none : (place : ℕ) → ¬ StrayStart image table place) where
  starts_located : (most place : ℕ) (numbers : List ℕ) → AreNumbers table numbers place → (address : ℕ) → address ≡ base + sum numbers → All (IsFileAddress image) (starts_up_to most (drop place table) address)
  starts_located zero place numbers are address at = λ k d less. absurd (omega (arith, less))
  starts_located (suc most) place numbers are address at = by (starts_located most) (next_start (drop place table) address) refl
    where
      by : ((next : ℕ) (more : List ℕ) → AreNumbers table more next → (later : ℕ) → later ≡ base + sum more → All (IsFileAddress image) (starts_up_to most (drop next table) later))
          → (next : Option (ℕ × ℕ)) → next_start (drop place table) address ≡ next
          → All (IsFileAddress image) (option_map_or (λ s. s.0 ∷ starts_up_to most (drop s.1 (drop place table)) s.0) next [])
      by rest None at_end = λ k d less. absurd (omega (arith, less))
      by rest (Some s) found =
          let (distance, read, some, sums) = next_reads (drop place table) address s found in
          let here = read_there table place distance s.1 read in
          let more = numbers_more table numbers 0 place distance (place + s.1) are here some in
          let total = sum_by_push (λ n. n) numbers distance in
          let later = rest (place + s.1) (numbers ++ distance ∷ []) more s.0 (omega (arith, sums, at, total)) in
          let left : drop s.1 (drop place table) ≡ drop (place + s.1) table = drop-drop s.1 place table in
          let first : s.0 ≡ base + sum numbers + distance = omega (arith, sums, at) in
          let has : IsFileAddress image s.0 = subst (IsFileAddress image) (sym first)
          (not_not (file_or_not image (base + sum numbers + distance)) (λ gone. none place (stray_here image table place numbers are distance (place + s.1) here some base is gone))) in
          All-cons (IsFileAddress image) s.0 _ has (subst (λ (bytes : List ℕ). All (IsFileAddress image) (starts_up_to most bytes s.0)) (sym left) later)

  functions_located : All (IsFileAddress image) (function_starts table base)
  unfolding function_starts
  functions_located = starts_located (length table) 0 [] refl base (omega arith)

-- no entry is bad
code_or_not : (image : List ℕ) (bytes : Span) → Any (IsCodeOf image bytes) (all_segments image) ⊎ ¬ Any (IsCodeOf image bytes) (all_segments image)
code_or_not image bytes =
    any_or_not (IsCodeOf image bytes) (λ segment. both_or_not (true_or_not (is_code image segment)) (both_or_not (le_or_not (fileoff image segment) bytes.start) (le_or_not (end_of bytes) (end_of (bytes_of_segment image segment)))))
    (all_segments image)
  where
    true_or_not : (b : Bool) → (b ≡ true) ⊎ ¬ (b ≡ true)
    true_or_not true = inl refl
    true_or_not false = inr (λ wrong. absurd (cc))

entry_located : (image : List ℕ) (entry : DataInCodeEntry) → ¬ IsBadEntry image entry → IsLocatedEntry image entry
entry_located image entry good = record {
  kind = elim (cases_Bool (is_known_kind entry.kind)) [ inl known ↦ known | inr unknown ↦ absurd (good (inl unknown)) ];
  bytes = λ some. not_not (code_or_not image (bytes_of_entry entry)) (λ none. good (inr (some, none)));
}

-- no offset is bad
called_or_not : (image : List ℕ) (place : ℕ) → IsCalled image place ⊎ ¬ IsCalled image place
called_or_not image place =
    some_or_not (λ base. IsExecutable image (commands_of image) (base + word image place)) (λ base. executable_or_not image (base + word image place)) (base_of image (commands_of image))

offset_located : (image : List ℕ) (section k : ℕ) → ¬ IsBadOffset image section k → IsLocatedOffset image section k
offset_located image section k good = record {
  whole = not_not (le_or_not (k * 4 + 4) (section_size image section)) (λ cut. good (inl (elim (cases_lt (section_size image section) (k * 4 + 4)) [ inl less ↦ less | inr fits ↦ absurd (cut fits) ])));
  called = not_not (called_or_not image (offset_place image section k)) (λ none. good (inr none));
}

module _ (image : List ℕ) (kept : NothingBreaks (BreaksImage image)) (unbroken : NothingBreaks (Breaks image None)) where
  pub located_image : IsLocated image
  located_image = record {
    functions = λ table base is at.
        functions_located image (part table.start table.len image) base at
        (λ place stray. kept rule.FunctionStart (table.start + place) (broken_in_image image loader.LC_FUNCTION_STARTS table is StrayStart place stray));
    entries = λ table is.
        let bytes = part table.start table.len image in
        let size : length bytes ≡ table.len = length-part table.start table.len image (data_table_inside image loader.LC_DATA_IN_CODE refl unbroken table is) in
        let good : (place : ℕ) → ¬ BadEntry image bytes place = (λ place bad. kept rule.DataInCode (table.start + place) (broken_in_image image loader.LC_DATA_IN_CODE table is BadEntry place bad)) in
        let whole : length bytes % 8 ≡ 0 = elim (cases_eq (length bytes % 8) 0) [ inl none ↦ none | inr rest ↦ absurd (good 0 (inl (refl, rest))) ] in
        (entry_count bytes, omega (arith, size, whole), λ k less. entry_located image (entry_at bytes (entry_place k)) (λ bad. good (entry_place k) (inr (k, less, refl, bad))));
    initializers = λ section among has k less. offset_located image section.1 k
        (λ bad. kept rule.InitOffset (offset_place image section.1 k)
        (any_of (λ s. HasOffsets image s.0 s.1 × BadOffset image s.1 (offset_place image section.1 k)) (sections_of image (commands_of image)) section among (has, (k, less, refl, bad))));
  }
