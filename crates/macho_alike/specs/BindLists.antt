-- Lists of binds, as they are read, sorted and compared.
use Rattle.std.specs.Prelude.{◌≡◌, ◌↔◌, ℕ, ◌+◌, ◌*◌, ◌%◌, ◌^◌, ◌≤◌, ◌<◌, ◌⊎◌, List, Contains}
use Rattle.macho_spans.specs.Span.{end_of}
use Rattle.macho_spans.specs.declared.span.Span.{Span}
use Rattle.macho_tables.specs.declared.limits.TheConstants as size
use Rattle.macho_alike.specs.Binds.{looked_in, IsOneSlot, IsCompared, IsSame, Clash}
use Rattle.macho_alike.specs.declared.binds.Aim.{Aim}
use Rattle.macho_alike.specs.declared.binds.Bind.{Bind}
use Rattle.macho_alike.specs.declared.binds.Compared.{Compared}
use Rattle.macho_alike.specs.declared.binds.Source.{Source}

-- binds with P were added to a list
abbrev pub WereAdded : (Bind → Type 0) → List Bind → List Bind → Type 0
WereAdded P old new = (bind : Bind) → Contains new bind ↔ (Contains old bind ⊎ P bind)

-- the bind of the first pointer of an opcode
abbrev pub first_of : Source → ℕ → ℕ → Span → Aim → Bind
first_of source segment offset name aim = record {
  place = source.start + source.place;
  segment = segment;
  offset = offset;
  name = record { start = source.start + name.start; len = name.len };
  addend = aim.addend;
  library = looked_in source.stream aim;
}

-- the bind of the pointer k, where the first has an offset, and others are skip bytes past the one before
abbrev pub spread : Bind → ℕ → ℕ → Bind
spread first skip k = record first { offset = (first.offset + k * (size.POINTER_SIZE + skip)) % 2 ^ 64 }

-- it is one of the binds of so many pointers
abbrev pub AreSpread : Bind → ℕ → ℕ → Bind → Type 0
AreSpread first count skip bind = (k : ℕ) × (k < count) × (bind ≡ spread first skip k)

-- the opcode and the name lie in so many bytes, and the offset fits 64 bits
pub record IsInside (len : ℕ) (bind : Bind) : Type 0 where
  pub place : bind.place ≤ len
  pub name : end_of bind.name ≤ len
  pub offset : bind.offset < 2 ^ 64

abbrev pub AreInside : ℕ → List Bind → Type 0
AreInside len binds = (bind : Bind) → Contains binds bind → IsInside len bind

-- the number by which binds are sorted: by segment, then by offset
abbrev pub slot_number : Bind → ℕ
slot_number bind = bind.segment * 2 ^ 64 + bind.offset

-- some two of a list clash, and neither is at a greater place than the limit
abbrev pub ClashBy : Compared → List ℕ → List Bind → ℕ → Type 0
ClashBy what image binds limit =
    (one : Bind) × (other : Bind) × Contains binds one × Contains binds other × Clash what image one other
    × (one.place ≤ limit) × (other.place ≤ limit)

abbrev pub AnyClashBy : List ℕ → List Bind → ℕ → Type 0
AnyClashBy image binds limit = (what : Compared) × ClashBy what image binds limit

-- two clash, one of them is at the place, and the other is not past it
abbrev pub ClashAt : List ℕ → List Bind → ℕ → Type 0
ClashAt image binds place =
    (what : Compared) × (one : Bind) × (other : Bind) × Contains binds one × Contains binds other
    × Clash what image one other × (one.place ≤ place) × (other.place ≡ place)

-- the second slot begins where the first ends, or after that
abbrev pub IsBelow : Bind → Bind → Type 0
IsBelow one other =
    (one.segment < other.segment)
    ⊎ ((one.segment ≡ other.segment) × (one.offset + size.POINTER_SIZE ≤ other.offset))

-- they are of one slot and do not differ, or the second slot begins where the first ends, or after that
abbrev pub IsApart : Compared → List ℕ → Bind → Bind → Type 0
IsApart what image one other = (IsOneSlot one other × IsSame what image one other) ⊎ IsBelow one other

-- it is compared, and not at a greater place than the limit
abbrev pub IsTaken : Compared → ℕ → Bind → Type 0
IsTaken what limit bind = IsCompared what bind × (bind.place ≤ limit)
