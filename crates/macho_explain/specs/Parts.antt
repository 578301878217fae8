-- The parts of a file, and what conflicts. (kesvuot.h: struct kesvuot_part)
use Rattle.std.specs.Prelude.{◌≡◌, ℕ, ◌+◌, ◌-◌, ◌^◌, ◌≤◌, ◌<◌, min, Option, None, IsSomeAnd}
use Rattle.macho_spans.specs.declared.span.Span.{Span}
use Rattle.macho_explain.specs.declared.conflict.Conflict.{Conflict}
use Rattle.macho_explain.specs.declared.part.Part.{Part}
use Rattle.macho_explain.specs.declared.part.PartKind.{PartKind}
use Rattle.macho_explain.specs.declared.spot.Spot.{Spot}

abbrev pub part_of : PartKind → Option ℕ → ℕ → ℕ → ℕ → Part
part_of kind index start size described = record {
  start = start;
  size = size;
  described = described;
  kind = kind;
  index = index;
}

-- where a place of an image is in the file, in which the image begins at the first number: at most
-- 2^64 - 1
abbrev pub place_in_file : ℕ → ℕ → ℕ
place_in_file begin place = min (begin + place) (2 ^ 64 - 1)

-- the part is a span of an image that begins there in the file
abbrev pub IsPartOf : ℕ → Span → Part → Type 0
IsPartOf begin span part = (part.start ≡ place_in_file begin span.start) × (part.size ≡ span.len)

abbrev pub conflict_of : Option Part → Option Part → ℕ → ℕ → Conflict
conflict_of first second value limit =
    record { first = first; second = second; value = value; limit = limit }

-- a part outside all commands
abbrev pub spot_of : Option ℕ → Part → Spot
spot_of slice part =
    record { part = part; slice = slice; command = None; section = None; symbol = None }

-- what a number conflicts with is of a smaller index
abbrev pub IsBefore : Conflict → Type 0
IsBefore c = IsSomeAnd c.first (λ one. IsSomeAnd c.second (λ other.
    IsSomeAnd one.index (λ k. IsSomeAnd other.index (λ j. j < k))))

-- both parts have the bytes, or addresses, from the value up to the limit
pub record SharesAll (one other : Part) (value limit : ℕ) : Type 0 where
  pub some : value ≤ limit
  pub first_from : one.start ≤ value
  pub first_to : limit < one.start + one.size
  pub second_from : other.start ≤ value
  pub second_to : limit < other.start + other.size

abbrev pub Share : Conflict → Type 0
Share c = IsSomeAnd c.first (λ one. IsSomeAnd c.second (λ other. SharesAll one other c.value c.limit))
