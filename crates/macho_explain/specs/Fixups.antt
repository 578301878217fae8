-- What the rules of chained fixups are about. A place is one in the image, and an offset one in the table.
-- (mach-o/fixup-chains.h)
use Rattle.std.specs.Prelude.{◌≡◌, ◌≢◌, ℕ, suc, ◌+◌, ◌-◌, ◌/◌, ◌≤◌, ◌<◌, ◌⊎◌, List, length, slice_index, IsSomeAnd, MatchOption, Some}
use Rattle.macho_chains.specs.ChainHeader.{chain_header}
use Rattle.macho_chains.specs.ChainImports.{AtImport, ImportsEndPast, names_size}
use Rattle.macho_chains.specs.ChainPointers.{page_start_offset, pointer_of}
use Rattle.macho_chains.specs.ChainStarts.{entry_offset, seg_count, seg_info_offset, starts_of}
use Rattle.macho_chains.specs.declared.chain_header.ChainHeader.{ChainHeader}
use Rattle.macho_chains.specs.declared.chain_starts.SegmentStarts.{SegmentStarts}
use Rattle.macho_fields.specs.Field.{field}
use Rattle.macho_fields.specs.declared.bytes.Order.TheVariants.{Little}
use Rattle.macho_fields.specs.declared.header.fixup_chains.TheConstants as chained
use Rattle.macho_fields.specs.declared.header.loader.TheConstants as loader
use Rattle.macho_fields.specs.Segment.{all_segments}
use Rattle.macho_spans.specs.Span.{Holds}
use Rattle.macho_spans.specs.declared.span.Span.{Span}
use Rattle.macho_tables.specs.Homes.{bytes_of_segment}
use Rattle.macho_tables.specs.Items.{AtItem}
use Rattle.macho_explain.specs.Explain.{long_at}
use Rattle.macho_explain.specs.Wholes.{named_table, IsWhole, Opens}

-- they are the table, and its header is known
abbrev pub AreChains : List ℕ → Span → List ℕ → ChainHeader → Type 0
AreChains image table bytes header =
    IsWhole image (named_table image loader.LC_DYLD_CHAINED_FIXUPS) table bytes × (chain_header bytes ≡ Some header)

-- P holds of the table, its bytes and its header
abbrev pub OfChains : List ℕ → (Span → List ℕ → ChainHeader → Type 0) → Type 0
OfChains image P =
    (table : Span) × (chains : List ℕ) × (header : ChainHeader) × AreChains image table chains header × P table chains header

-- the place is at an offset of the table, with P
abbrev pub InFixups : (List ℕ → ChainHeader → ℕ → Type 0) → List ℕ → ℕ → Type 0
InFixups P image place =
    Opens image × OfChains image (λ table chains header.
    (offset : ℕ) × (place ≡ table.start + offset) × P chains header offset)

-- an import begins at an offset
abbrev pub IsImportAt : List ℕ → ChainHeader → ℕ → Type 0
IsImportAt chains header offset = AtImport chains header (λ k. Unit {0}) offset

-- the entry k lies in the table, and its segment has starts
abbrev pub HasStartsAt : List ℕ → ChainHeader → ℕ → Type 0
HasStartsAt chains header k =
    (entry_offset header (suc k) ≤ length chains) × (seg_info_offset chains header k ≢ 0)

-- an entry of a segment that has starts begins at an offset
abbrev pub IsEntryAt : List ℕ → ChainHeader → ℕ → Type 0
IsEntryAt chains header offset =
    MatchOption (seg_count chains header) ⊥ (λ count. AtItem (entry_offset header) count (HasStartsAt chains header) offset)

-- the segment k has starts and the byte at the place, and the pointer there binds an import that is not in the table
abbrev pub BindsMissing : List ℕ → List ℕ → ChainHeader → ℕ → ℕ → Type 0
BindsMissing image chains header place k =
    HasStartsAt chains header k × (k < length (all_segments image))
    × Holds (bytes_of_segment image (slice_index (all_segments image) k)) place
    × IsSomeAnd (starts_of chains header k) (λ starts.
    IsSomeAnd (pointer_of starts.format (long_at image place)).import (λ import. header.imports_count ≤ import))

-- one of the segments does
abbrev pub HasMissingIn : List ℕ → List ℕ → ChainHeader → ℕ → Type 0
HasMissingIn image chains header place =
    MatchOption (seg_count chains header) ⊥ (λ count. (k : ℕ) × (k < count) × BindsMissing image chains header place k)

-- where the chain of a page begins is said at the place, and the page has a chain
abbrev pub IsPageStart : ℕ → List ℕ → SegmentStarts → ℕ → Type 0
IsPageStart table chains starts place =
    (page : ℕ) × (page < starts.page_count) × (place ≡ table + page_start_offset starts page)
    × IsSomeAnd (field Little 2 chains (page_start_offset starts page)) (λ start. start ≢ chained.DYLD_CHAINED_PTR_START_NONE)

-- the pointer at the place, among the bytes of a segment and in a page that has a start, says that there is a next one
abbrev pub IsLinked : List ℕ → Span → SegmentStarts → ℕ → Type 0
IsLinked image segment starts place =
    Holds segment place × (0 < starts.page_size)
    × ((place - segment.start) / starts.page_size < starts.page_count)
    × (0 < (pointer_of starts.format (long_at image place)).distance)

-- either of the two, in a segment with these bytes and starts
abbrev pub LeadsOn : List ℕ → ℕ → List ℕ → Span → SegmentStarts → ℕ → Type 0
LeadsOn image table chains segment starts place =
    IsPageStart table chains starts place ⊎ IsLinked image segment starts place

-- in the segment k
abbrev pub LeadsOnIn : List ℕ → ℕ → List ℕ → ChainHeader → ℕ → ℕ → Type 0
LeadsOnIn image table chains header place k =
    HasStartsAt chains header k × (k < length (all_segments image))
    × IsSomeAnd (starts_of chains header k) (λ starts.
    LeadsOn image table chains (bytes_of_segment image (slice_index (all_segments image) k)) starts place)

-- in one of the segments
abbrev pub HasLeadIn : List ℕ → ℕ → List ℕ → ChainHeader → ℕ → Type 0
HasLeadIn image table chains header place =
    MatchOption (seg_count chains header) ⊥ (λ count. (k : ℕ) × (k < count) × LeadsOnIn image table chains header place k)

-- What the rules are about

-- the start of a page that has a chain, or a pointer that says that there is a next one
abbrev pub HasLead : List ℕ → ℕ → Type 0
HasLead image place =
    Opens image × OfChains image (λ table chains header. HasLeadIn image table.start chains header place)

-- a pointer in a segment that has starts, which binds an import that is not there
abbrev pub HasMissing : List ℕ → ℕ → Type 0
HasMissing image place =
    Opens image × OfChains image (λ table chains header. HasMissingIn image chains header place)

-- the start of a table that ends before seg_count does; or seg_count, or the entry of a segment that has starts
abbrev pub IsStartsAt : List ℕ → ChainHeader → ℕ → Type 0
IsStartsAt chains header offset =
    MatchOption (seg_count chains header) (offset ≡ 0)
    (λ count. (offset ≡ header.starts_offset) ⊎ AtItem (entry_offset header) count (HasStartsAt chains header) offset)

-- the start of a table whose imports end past it; or an import
abbrev pub IsImportsAt : List ℕ → ChainHeader → ℕ → Type 0
IsImportsAt chains header offset = ((offset ≡ 0) × ImportsEndPast chains header) ⊎ IsImportAt chains header offset

-- an import, where the names before its own have no more bytes than the table
abbrev pub IsShortAt : List ℕ → ChainHeader → ℕ → Type 0
IsShortAt chains header offset = AtImport chains header (λ k. names_size chains header k ≤ length chains) offset
