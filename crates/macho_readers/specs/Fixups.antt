-- Which segments the fixups of an image name, by their numbers. (mach-o/loader.h: REBASE_OPCODE_.., BIND_OPCODE_..;
-- mach-o/fixup-chains.h: dyld_chained_starts_in_image)
use Rattle.std.specs.Prelude.{◌≡◌, ◌≢◌, ℕ, ◌<◌, ◌⊎◌, List, IsSomeAnd}
use Rattle.macho_fields.specs.Field.{part, field}
use Rattle.macho_fields.specs.Symbol.{table_at}
use Rattle.macho_fields.specs.declared.bytes.Order.TheVariants.{Little}
use Rattle.macho_tables.specs.Places.{dyld_info}
use Rattle.macho_tables.specs.declared.limits.TheConstants as limit
use Rattle.macho_opcodes.specs.Images.{opcodes_of, fields_of}
use Rattle.macho_opcodes.specs.Streams.{At, pointers}
use Rattle.macho_opcodes.specs.declared.cursor.Cursor.{Cursor}
use Rattle.macho_opcodes.specs.declared.step.Opcodes.{Opcodes}
use Rattle.macho_opcodes.specs.declared.step.Step.{Step}
use Rattle.macho_opcodes.specs.declared.step.Step.TheVariants as step
use Rattle.macho_opcodes.specs.declared.streams.Stream.{Stream}
use Rattle.macho_opcodes.specs.declared.streams.Stream.TheVariants as streams
use Rattle.macho_chains.specs.ChainStarts.{seg_count, entry_offset}
use Rattle.macho_chains.specs.Chains.{InPointers, AreChainedFixups}
use Rattle.macho_chains.specs.declared.chain_header.ChainHeader.{ChainHeader}
use Rattle.macho_readers.specs.declared.fixups.Fixups.{Fixups}

-- where an image has them: the command of the streams of opcodes, and the chained fixups
pub record AreFixups (image : List ℕ) (fixups : Fixups) : Type 0 where
  pub opcodes : fixups.opcodes ≡ dyld_info image
  pub chains : AreChainedFixups image fixups.chains

-- Opcodes

-- the step sets the segment
abbrev pub SetsSegment : ℕ → Cursor → ℕ → Step → Type 0
SetsSegment number cursor written (step.SetSegment segment offset) = segment ≡ number
SetsSegment number cursor written other = ⊥

-- some opcode of a stream does
abbrev pub StreamNames : ℕ → Opcodes → List ℕ → Type 0
StreamNames number of stream = (offset : ℕ) × At pointers (SetsSegment number) of stream offset

-- of a stream of a command
unfoldable pub NamesInStream : Stream → List ℕ → ℕ → ℕ → Type 0
NamesInStream one image command number =
    let table = table_at image command (fields_of one) in
    StreamNames number (opcodes_of one) (part table.0 table.1 image)

-- of some of its streams
abbrev pub NamesInCommand : List ℕ → ℕ → ℕ → Type 0
NamesInCommand image command number =
    NamesInStream streams.Rebase image command number
    ⊎ (NamesInStream streams.Bind image command number
    ⊎ (NamesInStream streams.WeakBind image command number
    ⊎ NamesInStream streams.LazyBind image command number))

-- an opcode of the image names the segment with the number, which is below 16 then
unfoldable pub OpcodesName : List ℕ → ℕ → Type 0
OpcodesName image number =
    (number < limit.SEGMENTS)
    × IsSomeAnd (dyld_info image) (λ command. NamesInCommand image command number)

-- Chains

-- the segment has an entry in the table of the chains, which says where its starts are
abbrev pub HasStarts : ℕ → List ℕ → ChainHeader → Type 0
HasStarts number chains header =
    IsSomeAnd (seg_count chains header) (λ count. number < count)
    × IsSomeAnd (field Little 4 chains (entry_offset header number)) (λ starts. starts ≢ 0)

unfoldable pub ChainsName : List ℕ → ℕ → Type 0
ChainsName image number =
    InPointers image (λ image start chains header segment. HasStarts segment chains header) number

-- the fixups of the image name its segment with the number
abbrev pub FixupsName : List ℕ → ℕ → Type 0
FixupsName image number = OpcodesName image number ⊎ ChainsName image number
