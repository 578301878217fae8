-- Which segments opcodes and chains name.
use Rattle.std.proofs.Common.{◌≡◌, ◌↔◌, ℕ, ◌≤◌, ◌<◌, List, [], ◌∷◌, ◌++◌, length, Bool, false, Option, Some, None, IsTrue, refl, sym, subst, arith, inl, inr}
use Rattle.std.specs.Prelude.{IsSomeAnd}
use Rattle.std.proofs.lemmas.Bool.{cases_lt, cases_eq, false≢true}
use Rattle.macho_fields.specs.Field.{part}
use Rattle.macho_fields.specs.LoadCommands.{linkedit_data_table}
use Rattle.macho_fields.specs.Symbol.{table_at}
use Rattle.macho_fields.specs.Bytes.{bytes_of}
use Rattle.macho_spans.specs.declared.span.Span.{Span}
use Rattle.macho_tables.specs.Homes.{bytes_of_table}
use Rattle.macho_opcodes.specs.Cursor.{cursor_after}
use Rattle.macho_opcodes.specs.Images.{opcodes_of, fields_of}
use Rattle.macho_opcodes.specs.declared.streams.Stream.{Stream}
use Rattle.macho_opcodes.specs.Steps.{step_at, AreSteps}
use Rattle.macho_opcodes.specs.Streams.{At, pointers}
use Rattle.macho_opcodes.specs.declared.cursor.Cursor.{Cursor}
use Rattle.macho_opcodes.specs.declared.step.Opcodes.{Opcodes}
use Rattle.macho_opcodes.specs.declared.step.Step.{Step}
use Rattle.macho_opcodes.proofs.StepChains.{steps_more}
use Rattle.macho_opcodes.proofs.StreamWalks.{none_past, none_outside, at_here, none_between}
use Rattle.macho_chains.specs.Chains.{chained_fixups, IsChainTable, IsTableOf}
use Rattle.macho_chains.specs.ChainHeader.{chain_header}
use Rattle.macho_chains.specs.declared.chain_header.ChainHeader.{ChainHeader}
use Rattle.macho_chains.specs.declared.chains.ChainTable.{ChainTable}
use Rattle.macho_chains.proofs.ChainTables.{chain_table_of}
use Rattle.macho_fields.proofs.Options.{some_of}
use Rattle.macho_readers.specs.Fixups.{SetsSegment, StreamNames, NamesInStream, HasStarts, ChainsName}

-- A walk over a stream: the steps come up to the place, and none of them sets the segment

pub record IsPassed (number : ℕ) (of : Opcodes) (stream : List ℕ) (place : ℕ) : Type 0 where
  pub before : List Step
  pub are : AreSteps of stream before place
  pub none : (early : ℕ) → early < place → ¬ At pointers (SetsSegment number) of stream early

pub passed_none : (number : ℕ) (of : Opcodes) (stream : List ℕ) → IsPassed number of stream 0
passed_none number of stream = record { before = []; are = refl; none = λ early less. absurd (omega arith) }

module _ (number : ℕ) (of : Opcodes) (stream : List ℕ) (place : ℕ) (passed : IsPassed number of stream place) where
  abbrev Sets : ℕ → Type 0
  Sets = At pointers (SetsSegment number) of stream

  module _ (here : Step) (after : ℕ) (at : step_at of stream place ≡ Some (here, after)) where
    pub passed_more : ((cursor : Cursor) (written : ℕ) → ¬ SetsSegment number cursor written here) → IsPassed number of stream after
    passed_more kept = record {
      before = passed.before ++ here ∷ [];
      are = steps_more of stream passed.before 0 place here after passed.are at;
      none = none;
    }
      where
        none : (early : ℕ) → early < after → ¬ Sets early
        none early less sets = elim (cases_lt early place) [
          | inl before ↦ passed.none early before sets
          | inr past ↦ elim (cases_eq early place) [
            | inl same ↦ kept (cursor_after passed.before) (pointers passed.before) (at_here pointers (SetsSegment number) of stream place passed.before passed.are here after at (subst Sets same sets))
            | inr apart ↦ none_between pointers (SetsSegment number) of stream place passed.before passed.are here after at early (omega (arith, past, apart)) less sets
          ]
        ]

    pub sets_here : ((cursor : Cursor) (written : ℕ) → SetsSegment number cursor written here) → StreamNames number of stream
    sets_here sets = (place, (passed.before, here, after, passed.are, at, sets (cursor_after passed.before) (pointers passed.before)))

  over : ((late : ℕ) → place ≤ late → ¬ Sets late) → ¬ StreamNames number of stream
  over past (offset, sets) = elim (cases_lt offset place) [ inl early ↦ passed.none offset early sets | inr late ↦ past offset late sets ]

  pub passed_stuck : step_at of stream place ≡ None → ¬ StreamNames number of stream
  passed_stuck none = over (none_past pointers (SetsSegment number) of stream place passed.before passed.are none)

  pub passed_all : length stream ≤ place → ¬ StreamNames number of stream
  passed_all end = over (none_outside pointers (SetsSegment number) of stream place passed.before passed.are end)

-- a stream without bytes names none
pub names_nothing : (number : ℕ) (of : Opcodes) (stream : List ℕ) → length stream ≡ 0 → ¬ StreamNames number of stream
names_nothing number of stream none = passed_all number of stream 0 (passed_none number of stream) (omega (arith, none))

-- One of the streams of a command, by its bytes

pub stream_read : (one : Stream) (image : List ℕ) (command number : ℕ) (of : Opcodes) (bytes : List ℕ) (is : Bool) → of ≡ opcodes_of one
    → bytes ≡ part (table_at image command (fields_of one)).0 (table_at image command (fields_of one)).1 image
    → IsTrue is ↔ StreamNames number of bytes → IsTrue is ↔ NamesInStream one image command number
unfolding NamesInStream
stream_read one image command number of bytes is same read says =
    subst (λ (these : List ℕ). IsTrue is ↔ StreamNames number (opcodes_of one) these) read (subst (λ (those : Opcodes). IsTrue is ↔ StreamNames number those bytes) same says)

pub stream_empty : (one : Stream) (image : List ℕ) (command number : ℕ) → (table_at image command (fields_of one)).1 ≡ 0 → IsTrue false ↔ NamesInStream one image command number
unfolding NamesInStream
stream_empty one image command number none = (
  λ wrong. absurd (false≢true wrong),
  λ named. absurd (names_nothing number (opcodes_of one) (part (table_at image command (fields_of one)).0 (table_at image command (fields_of one)).1 image) (rw none refl) named),
)

-- The table of the chains

abbrev HasItsStarts : List ℕ → ℕ → Span → Type 0
HasItsStarts image number table =
    (0 < table.len) × IsSomeAnd (chain_header (part table.start table.len image)) (HasStarts number (part table.start table.len image))

pub no_table : (image : List ℕ) (number : ℕ) → ((table : Span) → ¬ IsChainTable image table) → ¬ ChainsName image number
unfolding ChainsName
no_table image number none named =
    let (command, is, (some, here)) = some_of (λ c. HasItsStarts image number (bytes_of_table (table_at image c linkedit_data_table))) (chained_fixups image) named in
    none (bytes_of_table (table_at image command linkedit_data_table)) (chain_table_of image command is some)

pub of_table : (image : List ℕ) (number : ℕ) (table : ChainTable) → IsTableOf image table → (is : Bool) → IsTrue is ↔ IsSomeAnd table.header (HasStarts number (bytes_of table.bytes)) → IsTrue is ↔ ChainsName image number
unfolding ChainsName
of_table image number table are is says =
    let span : Span = record { start = table.start; len = length (bytes_of table.bytes) } in
    let (command, at, (same, some)) = some_of (λ c. (span ≡ bytes_of_table (table_at image c linkedit_data_table)) × (0 < span.len)) (chained_fixups image) are.named in
    let headed = subst (λ (header : Option ChainHeader). IsTrue is ↔ IsSomeAnd header (HasStarts number (bytes_of table.bytes))) are.header says in
    let read = subst (λ (bytes : List ℕ). IsTrue is ↔ IsSomeAnd (chain_header bytes) (HasStarts number bytes)) are.bytes headed in
    let listed : IsTrue is ↔ HasItsStarts image number span = (λ true_is. (some, read.0 true_is), λ has. read.1 has.1) in
    subst (λ (c : Option ℕ). IsTrue is ↔ IsSomeAnd c (λ command. HasItsStarts image number (bytes_of_table (table_at image command linkedit_data_table)))) (sym at)
    (subst (λ (t : Span). IsTrue is ↔ HasItsStarts image number t) same listed)
