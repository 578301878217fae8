-- Lists of the pointers that fixups bind, and of what is said of indirect entries.
use Rattle.std.specs.Prelude.{◌≡◌, ℕ, ℤ, pos, ◌+◌, ◌*◌, ◌^◌, ◌<◌, ◌≤◌, ◌↔◌, ◌⊎◌, nat_lt, List, length, map, slice_get, slice_index, Contains, Option, Some, None, IsSomeAnd, if◌then◌else◌}
use Rattle.macho_fields.specs.Field.{part, string_from}
use Rattle.macho_fields.specs.Segment.{all_segments}
use Rattle.macho_fields.specs.Symbol.{IsSymbolIndex}
use Rattle.macho_image.specs.declared.indirect.Indirect.{Indirect}
use Rattle.macho_spans.specs.declared.span.Span.{Span}
use Rattle.macho_tables.specs.declared.limits.TheConstants.{POINTER_SIZE}
use Rattle.macho_chains.specs.ChainPointers.{pointer_at, Fits, Lead, OfSomePage}
use Rattle.macho_chains.specs.ChainStarts.{starts_of}
use Rattle.macho_chains.specs.declared.chain_header.ChainHeader.{ChainHeader}
use Rattle.macho_chains.specs.declared.chain_pointers.ChainPointer.{ChainPointer}
use Rattle.macho_chains.specs.declared.chain_starts.SegmentStarts.{SegmentStarts}
use Rattle.macho_alike.specs.BindLists.{ClashAt}
use Rattle.macho_alike.specs.Indirects.{IsImportName, IsPageBound, IsPointerOf, entry_with, IsNameStart}
use Rattle.macho_alike.specs.declared.binds.Bind.{Bind}
use Rattle.macho_alike.specs.declared.bounds.Bound.{Bound}
use Rattle.macho_alike.specs.declared.indirects.Said.{Said}

-- those with P were added to a list
abbrev pub WereGathered : {X : Type 0} → (X → Type 0) → List X → List X → Type 0
WereGathered {X = X} P old new = (x : X) → Contains new x ↔ (Contains old x ⊎ P x)

-- an opcode binds it, where the segments are at these places
abbrev pub IsBoundBy : List ℕ → Bind → Bound → Type 0
IsBoundBy segments bind bound =
    (slice_get segments bind.segment ≡ Some bound.segment) × (bound.offset ≡ bind.offset)
    × (bound.name ≡ bind.name.start)

-- Chains

-- the pointer of a segment, at an offset, binds an import
abbrev pub IsPointerBound : ℕ → List ℕ → ChainHeader → ChainPointer → ℕ → ℕ → Bound → Type 0
IsPointerBound table chains header pointer segment offset bound =
    (bound.segment ≡ segment) × (bound.offset ≡ offset) × IsImportName table chains header pointer bound.name

-- the pointers of a page lead to it from an offset on
abbrev pub IsRestBound : List ℕ → ℕ → List ℕ → ChainHeader → ℕ → SegmentStarts → ℕ → ℕ → Bound → Type 0
IsRestBound image table chains header segment starts page from bound =
    (bound.segment ≡ segment) × ((before : List ℕ) × Lead image segment starts page from before bound.offset)
    × Fits image segment starts page bound.offset
    × IsImportName table chains header (pointer_at image segment starts.format bound.offset) bound.name

-- a chain of the segment k comes to it
abbrev pub IsSegmentBound : List ℕ → ℕ → List ℕ → ChainHeader → ℕ → Bound → Type 0
IsSegmentBound image table chains header k bound =
    IsSomeAnd (starts_of chains header k) (λ starts.
    (page : ℕ) × (page < starts.page_count)
    × IsPageBound image table chains header bound (slice_index (all_segments image) k) starts page)

-- a chain of a table does
abbrev pub IsTableBound : List ℕ → ℕ → List ℕ → ChainHeader → Bound → Type 0
IsTableBound image table chains header bound =
    OfSomePage image chains header (IsPageBound image table chains header bound)

-- Indirect entries

-- the number by which bound pointers are sorted: by segment, then by offset
abbrev pub location : Bound → ℕ
location bound = bound.segment * 2 ^ 64 + bound.offset

-- the numbers from one on, below another
abbrev pub IsBetween : ℕ → ℕ → Bound → Type 0
IsBetween low high bound = (low ≤ location bound) × (location bound < high)

-- where the name of the symbol of an entry begins, if it has its own
abbrev pub IsSymbolName : List ℕ → ℕ → Option ℕ → Type 0
IsSymbolName image value name = (start : ℕ) → IsNameStart image value start ↔ (name ≡ Some start)

-- it is said by a bind to the name that begins at a place, or by the symbol of the entry
abbrev pub IsSaidOf : List ℕ → Indirect → ℕ → ℕ → Said → Type 0
IsSaidOf image entry index name said =
    (said.place ≡ entry.place) × (said.index ≡ index)
    × ((said.name ≡ Some name) ⊎ IsSymbolName image entry.value said.name)

-- the entry with an index is the index of a symbol
abbrev pub IsSaidAt : List ℕ → ℕ → ℕ → Said → Type 0
IsSaidAt image index name said =
    IsSomeAnd (entry_with image index) (λ entry. IsSymbolIndex entry.value × IsSaidOf image entry index name said)

-- of a bound pointer of a section, and of some in a list
abbrev pub IsSaidFor : List ℕ → ℕ × ℕ → Bound → Said → Type 0
IsSaidFor image section bound said =
    (index : ℕ) × IsPointerOf image section bound index × IsSaidAt image index bound.name said

abbrev pub IsSaidBy : List ℕ → List Bound → ℕ × ℕ → Said → Type 0
IsSaidBy image bounds section said =
    (bound : Bound) × Contains bounds bound × IsSaidFor image section bound said

-- the bytes of the string that begins at a place, if it does
abbrev pub span_of : List ℕ → Option ℕ → Span
span_of image None = record { start = 0; len = 0 }
span_of image (Some start) =
    if nat_lt start (length image) then record { start = start; len = length (string_from start image) }
    else record { start = 0; len = 0 }

-- no bind says the name
abbrev pub mark_of : Option ℕ → ℤ
mark_of None = pos 1
mark_of (Some start) = pos 0

-- what is said of an entry, as a bind of the slot with its index
abbrev pub bind_of : List ℕ → Said → Bind
bind_of image said = record {
  place = said.place;
  segment = 0;
  offset = said.index * POINTER_SIZE;
  name = span_of image said.name;
  addend = mark_of said.name;
  library = None;
}

-- two binds of them clash, and the later one is at the place
abbrev pub SaysOtherwise : List ℕ → List Said → ℕ → Type 0
SaysOtherwise image said place = ClashAt image (map (bind_of image) said) place

-- both names have the same bytes, or there is neither
abbrev pub IsOneName : List ℕ → Option ℕ → Option ℕ → Type 0
IsOneName image one other =
    (part (span_of image one).start (span_of image one).len image
    ≡ part (span_of image other).start (span_of image other).len image)
    × (mark_of one ≡ mark_of other)

-- they are said of two entries, or say one name
abbrev pub AgreesWith : List ℕ → Said → Said → Type 0
AgreesWith image one other = one.index ≡ other.index → IsOneName image one.name other.name
