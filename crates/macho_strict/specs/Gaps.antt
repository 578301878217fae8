-- What a walk over spans that come by their starts finds between them.
use Rattle.std.specs.Prelude.{◌≡◌, ◌↔◌, ℕ, ◌≤◌, ◌<◌, ◌⊎◌, List, length, true, false, Option, Some, MatchOption, IsTrue}
use Rattle.macho_fields.specs.Bytes.{bytes_of}
use Rattle.macho_fields.specs.FirstPlace.{IsLeastPlace}
use Rattle.macho_fields.specs.NonZero.{IsNonZero}
use Rattle.macho_spans.specs.Overlap.{span_at, IsAscending}
use Rattle.macho_spans.specs.Span.{end_of, Holds}
use Rattle.macho_spans.specs.declared.span.Span.{Span}
use Rattle.macho_strict.specs.Nops.{is_nop}
use Rattle.macho_strict.specs.declared.gaps.Gaps.{Gaps}
use Rattle.macho_strict.specs.declared.gaps.Wanted.{Wanted}
use Rattle.macho_strict.specs.declared.gaps.Wanted.TheVariants as wanted

-- the place lies in none of the spans
abbrev pub IsFree : List Span → ℕ → Type 0
IsFree spans place = (i : ℕ) → ¬ Holds (span_at spans i) place

-- the place has a byte that is neither zero nor a NOP of the code, by the processor of that
abbrev pub IsUnpadded : ℕ → List Span → List ℕ → ℕ → Type 0
IsUnpadded cpu code bytes place =
    IsNonZero bytes place × ((is_nop cpu bytes place ≡ false) ⊎ IsFree code place)

-- the place has a byte of the kind that is looked for
abbrev pub IsWanted : Wanted → List ℕ → ℕ → Type 0
IsWanted wanted.NonZero bytes place = IsNonZero bytes place
IsWanted (wanted.Unpadded cpu code) bytes place = IsUnpadded cpu code.now bytes place

-- the place has such a byte, and lies in none of the spans
abbrev pub IsStray : Wanted → List ℕ → List Span → ℕ → Type 0
IsStray wanted bytes spans place = IsWanted wanted bytes place × IsFree spans place

-- of the spans that are not empty, none begins before an earlier one
abbrev pub ComeByStart : List Span → Type 0
ComeByStart spans =
    (i j : ℕ) → i < j → 0 < (span_at spans i).len → 0 < (span_at spans j).len
    → (span_at spans i).start ≤ (span_at spans j).start

-- each of the spans that are not empty ends inside the bytes
abbrev pub AreInside : List ℕ → List Span → Type 0
AreInside bytes spans =
    (i : ℕ) → 0 < (span_at spans i).len → end_of (span_at spans i) ≤ length bytes

-- What is kept while spans are passed

-- the last span that is not empty begins at `start`, and the furthest that is not empty ends
-- at `end`, with no gap between the two
pub record Walked (wanted : Wanted) (bytes : List ℕ) (spans : List Span) (start end : ℕ) (stray : Option ℕ) : Type 0 where
  pub last : (start ≡ 0) ⊎ ((j : ℕ) × (0 < (span_at spans j).len) × ((span_at spans j).start ≡ start))
  pub starts : (i : ℕ) → 0 < (span_at spans i).len → (span_at spans i).start ≤ start
  pub ends : (i : ℕ) → 0 < (span_at spans i).len → end_of (span_at spans i) ≤ end
  pub reached : (end ≡ 0) ⊎ ((j : ℕ) × (0 < (span_at spans j).len) × (end_of (span_at spans j) ≡ end))
  pub covered : (place : ℕ) → start ≤ place → place < end → (i : ℕ) × Holds (span_at spans i) place
  pub least : IsLeastPlace (λ place. (place < start) × IsStray wanted bytes spans place) stray

-- these spans were passed, and such bytes were looked for
pub record ArePassed (wanted : Wanted) (bytes : List ℕ) (spans : List Span) (gaps : Gaps) : Type 0 where
  pub of : bytes_of gaps.bytes ≡ bytes
  pub wants : gaps.wanted ≡ wanted
  pub unsorted : gaps.by_start ≡ false → ¬ ComeByStart spans
  pub ascending : IsTrue gaps.ascend ↔ IsAscending spans
  pub walked : gaps.by_start ≡ true → Walked wanted bytes spans gaps.start gaps.end gaps.stray

-- the least place from `start` on and before `end` that has such a byte
abbrev pub IsLeastWithin : Wanted → List ℕ → ℕ → ℕ → Option ℕ → Type 0
IsLeastWithin wanted bytes start end found =
    IsLeastPlace (λ place. (start ≤ place) × (place < end) × IsWanted wanted bytes place) found

-- the same, where none was found before
abbrev pub IsLeastNext : Wanted → List ℕ → ℕ → ℕ → Option ℕ → Option ℕ → Type 0
IsLeastNext wanted bytes start end old new =
    MatchOption old (IsLeastWithin wanted bytes start end new) (λ place. new ≡ Some place)
