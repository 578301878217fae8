-- The plain dyld follows the opcodes of the file, and writes nothing that it reads.
use Rattle.std.proofs.Common.{◌≡◌, ℕ, suc, zero, ◌+◌, ◌≤◌, ◌<◌, List, [], ◌∷◌, ◌++◌, length, take, drop, get_or, slice_get, Contains, Option, Some, None, true, refl, sym, ap, ◌∙◌, subst, arith, inl, inr, length-append}
use Rattle.std.proofs.lemmas.Bool.{cases_lt}
use Rattle.std.proofs.lemmas.List.{ext_get_or, get_or-take, length-take-le, take-append-drop}
use Rattle.std.proofs.lemmas.List.FromFn.{get_or-map-range_with_len, length-map-range_with_len}
use Rattle.std.proofs.lemmas.List.Sums.{fold_push}
use Rattle.macho_fields.specs.Field.{part}
use Rattle.macho_fields.specs.Image.{command_cmd, commands_of}
use Rattle.macho_fields.specs.Layers.{NothingBreaks}
use Rattle.macho_fields.specs.Rules as layout
use Rattle.macho_fields.specs.Segment.{all_segments, vmaddr, vmsize, filesize}
use Rattle.macho_fields.specs.declared.rule.Rule.TheVariants as rule
use Rattle.macho_fields.specs.Symbol.{table_at, tables_of}
use Rattle.macho_fields.proofs.Options.{some_of, of_some}
use Rattle.macho_tables.specs.Kinds.{names_linked_data}
use Rattle.macho_image.proofs.ReadParts.{length-part}
use Rattle.macho_rules.proofs.Searches.{mapped_has}
use Rattle.macho_spans.specs.Span.{Covers}
use Rattle.macho_opcodes.specs.Cursor.{start, moved, cursor_after, writes}
use Rattle.macho_linked.specs.Dyld.{State, Takes, slot, Moves, Reaches, BeginsInMemory, IsSafe, IsFollowedSafely}
use Rattle.macho_tables.specs.Memory.{bytes_from, IsKept}
use Rattle.macho_linked.specs.Harmless.{all_streams, streams_of, IsStream, WritesAt, IsHarmless}
use Rattle.macho_opcodes.specs.Images.{opcodes_of, fields_of}
use Rattle.macho_tables.specs.Places.{dyld_info}
use Rattle.macho_linked.specs.Rules.{BreaksImage}
use Rattle.macho_tables.specs.Segments.{is_writable, is_constant}
use Rattle.macho_opcodes.specs.Steps.{step_at, IsLastOpcode, AreStepsFrom, AreSteps}
use Rattle.macho_opcodes.specs.declared.cursor.Cursor.{Cursor}
use Rattle.macho_opcodes.specs.declared.step.Opcodes.{Opcodes}
use Rattle.macho_opcodes.specs.declared.step.Step.{Step}
use Rattle.macho_opcodes.specs.declared.step.Step.TheVariants as step
use Rattle.macho_opcodes.specs.declared.streams.Stream.{Stream}
use Rattle.macho_linked.proofs.Harmless.{harmless_image}
use Rattle.macho_tables.proofs.Memory.{segment_among, never_constant, same_in_memory}
use Rattle.macho_opcodes.proofs.Prefixes.{step_same}
use Rattle.macho_opcodes.proofs.StepChains.{steps_more, steps_on}
use Rattle.macho_opcodes.proofs.TableSurveys.{stream_named, stream_inside}
use Rattle.macho_tables.proofs.Places.{info_has}
use Rattle.macho_opcodes.proofs.Within.{step_within}

-- Two lists that agree as far as both go: an opcode that one has is the other's, except the last
module _ (of : Opcodes) (xs ys : List ℕ) (agree : (k : ℕ) → k < length xs → k < length ys → get_or xs k 0 ≡ get_or ys k 0) where
  -- the shorter one is the front of the longer
  front : length xs ≤ length ys → take (length xs) ys ≡ xs
  front less =
      let size : length (take (length xs) ys) ≡ length xs = length-take-le (length xs) ys less in
      ext_get_or 0 (take (length xs) ys) xs size
      (λ i below. get_or-take (length xs) ys i 0 (omega (arith, size, below)) ∙ sym (agree i (omega (arith, size, below)) (omega (arith, size, below, less))))

  longer : (place : ℕ) (r : Step × ℕ) → length xs ≤ length ys → step_at of xs place ≡ Some r → ¬ IsLastOpcode of (get_or xs place 0) → step_at of ys place ≡ Some r
  longer place r less is not_last =
      let whole : xs ++ drop (length xs) ys ≡ ys = ap (λ (zs : List ℕ). zs ++ drop (length xs) ys) (sym (front less)) ∙ take-append-drop (length xs) ys in
      elim (step_same xs (drop (length xs) ys) of place r is) [
        | inl last ↦ absurd (not_last last)
        | inr same ↦ subst (λ (zs : List ℕ). step_at of zs place ≡ Some r) whole same
      ]

one_read : (read : Option (Step × ℕ)) (r s : Step × ℕ) → read ≡ Some r → read ≡ Some s → r ≡ s
one_read read r s is also = cc

step_agrees : (of : Opcodes) (xs ys : List ℕ) → ((k : ℕ) → k < length xs → k < length ys → get_or xs k 0 ≡ get_or ys k 0) → (place : ℕ) (r s : Step × ℕ)
    → step_at of xs place ≡ Some r → step_at of ys place ≡ Some s → ¬ IsLastOpcode of (get_or xs place 0) → r ≡ s
step_agrees of xs ys agree place r s is also not_last =
    let in_x = step_within of xs place r.0 r.1 is in
    let in_y = step_within of ys place s.0 s.1 also in
    let here : get_or xs place 0 ≡ get_or ys place 0 = agree place (omega arith) (omega arith) in
    elim (cases_lt (length ys) (length xs)) [
      | inl less ↦
          one_read (step_at of xs place) r s is
          (longer of ys xs (λ k below above. sym (agree k above below)) place s (omega arith) also (λ last. not_last (subst (IsLastOpcode of) (sym here) last)))
      | inr more ↦ one_read (step_at of ys place) r s (longer of xs ys agree place r more is not_last) also
    ]

-- The image
module _ (image : List ℕ) (kept : NothingBreaks (BreaksImage image)) (unbroken : NothingBreaks (layout.BreaksImage image None)) where
  harmless : IsHarmless image
  harmless = harmless_image image kept unbroken

  -- the command that names the streams names linked data
  info_names : (command : ℕ) → dyld_info image ≡ Some command → Contains (commands_of image) command × (names_linked_data (command_cmd image command) ≡ true)
  info_names = info_has image (λ cmd. names_linked_data cmd ≡ true) refl refl

  -- a table of the command, and where it lies
  abbrev IsTableOf : ℕ → ℕ × ℕ × ℕ → Type 0
  IsTableOf command table = Contains (tables_of image command) table × (0 < table.1 → table.0 + table.1 ≤ length image)

  stream_is : (of : Opcodes) (table : ℕ × ℕ × ℕ) (command : ℕ) → dyld_info image ≡ Some command → Contains (streams_of image command) (of, table) → IsTableOf command table
  stream_is of table command info has =
      let (one, among, same) = mapped_has (λ (s : Stream). (opcodes_of s, table_at image command (fields_of s))) all_streams (of, table) has in
      subst (λ (s : Opcodes × (ℕ × ℕ × ℕ)). IsTableOf command s.1) same (stream_named image unbroken command info one, stream_inside image unbroken command info one)

  -- One stream
  module _ (of : Opcodes) (table : ℕ × ℕ × ℕ) (home : ℕ) (is_at : BeginsInMemory image of table home) where
    abbrev stream : List ℕ
    stream = part table.0 table.1 image

    abbrev At : ℕ → Type 0
    At command = Contains (streams_of image command) (of, table)

    are : IsStream image of stream
    are =
        let (command, info, has) = some_of At (dyld_info image) is_at.named in
        record { bounded = of_some (λ c. (t : ℕ × ℕ × ℕ) × Contains (streams_of image c) (of, t) × (stream ≡ part t.0 t.1 image)) (dyld_info image) command info (table, has, refl) }

    -- its command
    found : (command : ℕ) × (dyld_info image ≡ Some command) × IsTableOf command table
    found = let (command, info, has) = some_of At (dyld_info image) is_at.named in (command, info, stream_is of table command info has)

    sized : 0 < table.1 → length stream ≡ table.1
    sized some = let (command, info, (has, inside)) = found in length-part table.0 table.1 image (inside some)

    -- what is in memory where the loader reads the stream
    module _ (memory : ℕ → ℕ) (still : IsKept image memory) where
      stream_same : (k : ℕ) → k < length stream → memory (home + k) ≡ get_or stream k 0
      stream_same k less =
          let (command, info, (has, inside)) = found in
          let (listed, names) = info_names command info in
          same_in_memory image (λ place broken. kept rule.TableHome place broken) command listed names table has home is_at.found memory still k less

      -- the opcode that the loader takes is the file's
      opcode_there : (place : ℕ) (before : List Step) → AreSteps of stream before place → place < length stream → (r : Step × ℕ) × (step_at of stream place ≡ Some r)
      opcode_there place before chain less =
          let (steps, all) = harmless.decoded of stream are in
          let (rest, on, is) = steps_on of stream before steps 0 place (length stream) chain all (omega arith) in
          next rest on
        where
          next : (rest : List Step) → AreStepsFrom of stream place rest (length stream) → (r : Step × ℕ) × (step_at of stream place ≡ Some r)
          next [] same = absurd (omega (arith, same, less))
          next (first ∷ rest) (after, at, on) = ((first, after), at)

      takes_same : (place : ℕ) (before : List Step) → AreSteps of stream before place → place < length stream → (said : Step) (after : ℕ) → Takes of memory home place said after
          → ¬ IsLastOpcode of (memory (home + place)) → step_at of stream place ≡ Some (said, after)
      takes_same place before chain less said after (n, takes) not_last =
          let (r, at) = opcode_there place before chain less in
          let agree = λ (k : ℕ) (in_x : k < length stream) (in_y : k < length (bytes_from memory home n)).
          sym (stream_same k in_x) ∙ sym (get_or-map-range_with_len memory home n k (home + k) 0 (subst (λ (size : ℕ). k < size) (length-map-range_with_len memory home n) in_y) refl) in
          let same = step_agrees of stream (bytes_from memory home n) agree place r (said, after) at takes (λ last. not_last (subst (IsLastOpcode of) (sym (stream_same place less)) last)) in
          at ∙ ap Some same

    -- a pointer that a step writes
    abbrev Points : Cursor → Step → ℕ → Type 0
    Points cursor said k =
        (segment : ℕ) × (s : ℕ) × (cursor.segment ≡ Some segment) × (slice_get (all_segments image) segment ≡ Some s) × (is_writable image s ≡ true) × (slot cursor said k + 8 ≤ filesize image s)

    pointer_there : (place : ℕ) (before : List Step) → AreSteps of stream before place → (said : Step) (after k : ℕ) → step_at of stream place ≡ Some (said, after) → k < writes said → Points (cursor_after before) said k
    pointer_there place before chain (step.Write count skip) after k at less =
        let says : WritesAt of stream before count skip = (place, after, chain, at) in
        let (segment, set) = harmless.set of stream before count skip are says (omega arith) in
        let (s, there, can, inside) = harmless.slots of stream segment (slot (cursor_after before) (step.Write count skip) k) are (before, count, skip, k, says, less, set, refl) in
        (segment, s, set, there, can, inside)
    pointer_there place before chain other after k at less = absurd (omega arith)

    -- What holds of the loader after n opcodes
    record Follows (n : ℕ) (a : State) : Type 0 where
      ends : n ≤ a.place
      inside : a.place ≤ length stream
      before : (steps : List Step) × (length steps ≡ n) × AreSteps of stream steps a.place × (a.cursor ≡ cursor_after steps)
      still : IsKept image a.memory

    moves_on : (n : ℕ) (a b : State) → Follows n a → Moves image of home table.1 a b → Follows (suc n) b
    moves_on n a b good (said, less, takes, not_last, cursor, writes_to) =
        let (steps, count, chain, is) = good.before in
        let size = sized (omega (arith, less)) in
        let within_stream : a.place < length stream = omega (arith, less, size) in
        let at = takes_same a.memory good.still a.place steps chain within_stream said b.place takes not_last in
        let within = step_within of stream a.place said b.place at in
        let longer_by = length-append steps (said ∷ []) in
        let past = good.ends in record {
          ends = omega (arith, past, within.0);
          inside = within.1;
          before = (
            steps ++ said ∷ [],
            omega (arith, longer_by, count),
            steps_more of stream steps 0 a.place said b.place chain at,
            cursor ∙ (ap (λ (c : Cursor). moved c said) is ∙ sym (fold_push moved start steps said)),
          );
          still = λ s k has mapped constant plain below not_encrypted.
              elim (writes_to (vmaddr image s + k)) [
                | inl same ↦ same ∙ good.still s k has mapped constant plain below not_encrypted
                | inr (j, few, written) ↦ absurd (never_written steps chain is at s k has mapped constant below j few written)
              ];
        }
      where
        never_written : (steps : List Step) → AreSteps of stream steps a.place → a.cursor ≡ cursor_after steps → step_at of stream a.place ≡ Some (said, b.place)
            → (s k : ℕ) → Contains (all_segments image) s → 0 < vmsize image s → is_constant image s ≡ true → k < filesize image s → (j : ℕ) → j < writes said
            → ((segment w : ℕ) → a.cursor.segment ≡ Some segment → slice_get (all_segments image) segment ≡ Some w → Covers (vmaddr image w + slot a.cursor said j) 8 (vmaddr image s + k)) → ⊥
        never_written steps chain is at s k has mapped constant below j few written =
            let points = subst (λ (c : Cursor). Points c said j) (sym is) (pointer_there a.place steps chain said b.place j at few) in
            let (segment, w, set, there, can, inside) = points in
            never_constant image unbroken w (slot a.cursor said j) (segment_among image segment w there) can inside s k has mapped constant below (written segment w set there)

    reaches : (n m : ℕ) (a b : State) → Follows m a → Reaches image of home table.1 a n b → Follows (m + n) b
    reaches zero m a b good is = subst (λ (i : ℕ). Follows i b) (let same : m ≡ m + zero = omega arith in same) (subst (Follows m) is good)
    reaches (suc n) m a b good (next, move, on) = subst (λ (i : ℕ). Follows i b) (let same : suc m + n ≡ m + suc n = omega arith in same) (reaches n (suc m) next b (moves_on m a next good move) on)

    safe : (n : ℕ) (a : State) → Follows n a → IsSafe image of stream home n a
    safe n a good =
        let past = good.ends in
        let within = good.inside in record {
          ends = omega (arith, past, within);
          follows = good.before;
          same = stream_same a.memory good.still;
          kept = good.still;
          inside = λ said after less takes not_last.
              let (steps, count, chain, is) = good.before in
              (step_within of stream a.place said after (takes_same a.memory good.still a.place steps chain less said after takes not_last)).1;
          writes = λ said after k less takes not_last few.
              let (steps, count, chain, is) = good.before in
              let at = takes_same a.memory good.still a.place steps chain less said after takes not_last in
              subst (λ (c : Cursor). Points c said k) (sym is) (pointer_there a.place steps chain said after k at few);
        }

  pub followed_safely : IsFollowedSafely image
  followed_safely of table home n first last is_at still begins fresh reached =
      safe of table home is_at n last (subst (λ (i : ℕ). Follows of table home is_at i last) (let same : 0 + n ≡ n = omega arith in same) (reaches of table home is_at n 0 first last (record {
        ends = omega arith;
        inside = omega (arith, begins);
        before = ([], refl, sym begins, fresh);
        still = still;
      }) reached))
