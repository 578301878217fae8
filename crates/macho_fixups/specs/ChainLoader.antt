-- What the loader model writes of chains: that its writes are the rows, in its order, each once.
-- (Rattle.macho_chains.specs.ChainDyld)
use Rattle.std.specs.Prelude.{◌≡◌, ℕ, zero, suc, ◌≤◌, ◌⊎◌, List, [], ◌∷◌, ◌++◌, map, Some, None}
use Rattle.macho_fields.specs.Field.{part}
use Rattle.macho_fields.specs.Image.{commands_of}
use Rattle.macho_fields.specs.Layers.{NothingBreaks}
use Rattle.macho_fields.specs.Rules.{BreaksImage}
use Rattle.macho_fields.specs.Segment.{base_of}
use Rattle.macho_chains.specs.ChainDyld.{ChainState, TurnsSegment, TurnsPage, Follows, IsInMemory, IsChainTableAt, count_in}
use Rattle.macho_chains.specs.ChainHeader.{chain_header}
use Rattle.macho_chains.specs.ChainPointers.{BreaksChainSlot, BreaksChainBind}
use Rattle.macho_chains.specs.Chains.{BreaksChainHeader, InChains, InPointers, BadStarts, BadImports, LongNames, UnknownLibrary}
use Rattle.macho_chains.specs.declared.chain_header.ChainHeader.{ChainHeader}
use Rattle.macho_tables.specs.Homes.{BreaksTableHome}
use Rattle.macho_fixups.specs.ChainedFixups.{all_fixups}
use Rattle.macho_fixups.specs.declared.row.KesvuotFixup.{KesvuotFixup}

-- The loader makes n moves, and those that write a pointer write it at these addresses, in this order.
abbrev pub ChainWrites : List ℕ → ℕ → ChainState → ℕ → List ℕ → ChainState → Type 0
ChainWrites image home first zero written last = (first ≡ last) × (written ≡ [])
ChainWrites image home first (suc n) written last =
    (next : ChainState)
    × (((TurnsSegment home first next ⊎ TurnsPage image home first next) × ChainWrites image home next n written last)
    ⊎ ((move : Follows home first next) × (rest : List ℕ) × (written ≡ move.address ∷ rest)
    × ChainWrites image home next n rest last))

abbrev pub addresses : List KesvuotFixup → List ℕ
addresses rows = map (λ row. row.address) rows

-- The loader has written the first of the rows, and it is done only once it has written all.
pub record AreWritten (rows : List KesvuotFixup) (home : ℕ) (written : List ℕ) (last : ChainState) : Type 0 where
  pub rest : List KesvuotFixup
  pub so_far : addresses rows ≡ written ++ addresses rest
  pub all : last.next ≡ None → count_in last.memory home ≤ last.segment → rest ≡ []

-- no rule of the layout and of chained fixups is broken, and the table is where loaders find it in memory
pub record KeepsChains (image : List ℕ) : Type 0 where
  pub layout : NothingBreaks (BreaksImage image None)
  pub homes : (place : ℕ) → ¬ BreaksTableHome image place
  pub header : (place : ℕ) → ¬ BreaksChainHeader image place
  pub starts : (place : ℕ) → ¬ InChains image BadStarts place
  pub imports : (place : ℕ) → ¬ InChains image BadImports place
  pub names : (place : ℕ) → ¬ InChains image LongNames place
  pub libraries : (place : ℕ) → ¬ InChains image UnknownLibrary place
  pub slots : (place : ℕ) → ¬ InPointers image BreaksChainSlot place
  pub binds : (place : ℕ) → ¬ InPointers image BreaksChainBind place

-- The rows of the chains of an image are the writes of a loader that begins with memory as it was mapped.
abbrev pub AreLoaderWrites : List ℕ → Type 0
AreLoaderWrites image =
    (table : ℕ × ℕ × ℕ) (home base : ℕ) (header : ChainHeader) (n : ℕ) (first last : ChainState) (written : List ℕ)
    → IsChainTableAt image table home → base_of image (commands_of image) ≡ Some base
    → chain_header (part table.0 table.1 image) ≡ Some header
    → IsInMemory image first.memory → first.segment ≡ 0 → first.page ≡ 0 → first.next ≡ None
    → ChainWrites image home first n written last
    → AreWritten (all_fixups image base (part table.0 table.1 image) header) home written last
