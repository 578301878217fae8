-- What the code signature of an image that breaks no rule seals: each byte before it, and each blob with a hash. Each
-- other byte of the image is zero, or in a part of the signature, which may not be executed. (cs_blobs.h: CS_SuperBlob, CS_CodeDirectory; FIPS 180-4)
use Rattle.std.specs.Prelude.{◌≡◌, ℕ, ◌+◌, ◌-◌, ◌≤◌, ◌<◌, ◌⊎◌, List, Contains, IsSomeAnd}
use Rattle.macho_fields.specs.Field.{part}
use Rattle.macho_fields.specs.NonZero.{IsNonZero}
use Rattle.macho_fields.specs.Segment.{all_segments, vmaddr, fileoff, RunsAt}
use Rattle.macho_fields.specs.Universal.{OfEachImage}
use Rattle.macho_fields.specs.declared.header.loader.TheConstants as loader
use Rattle.macho_seals.specs.Digests.{HasHash}
use Rattle.macho_seals.specs.Pages.{bytes_in, page_at, code_slot}
use Rattle.macho_sealed.specs.Rules.{IsSealedUnbroken}
use Rattle.macho_seals.specs.Signature.{AreApart}
use Rattle.macho_seals.specs.Specials.{IsSpecialAt, HasSpecialHash}
use Rattle.macho_signature.specs.CodeDirectories.{code_directory}
use Rattle.macho_signature.specs.Signature.{IsDirectoryAt, bytes_at}
use Rattle.macho_signature.specs.Signed.{IsSignature, page_of}
use Rattle.macho_signature.specs.Superblobs.{blob_at, blob_count, blob_span, entry_offset}
use Rattle.macho_signature.specs.declared.code_directory.CodeDirectory.{CodeDirectory}
use Rattle.macho_spans.specs.Span.{Holds, end_of}
use Rattle.macho_spans.specs.declared.span.Span.{Span}
use Rattle.macho_tables.specs.DataTables.{IsDataTable}
use Rattle.macho_unambiguous.specs.Unambiguous.{KeepsUnambiguous}

-- A place of the image is in exactly one page of a directory, the page k, and the directory, which has this blob, has
-- the hash of that page.
pub record IsSealedPlace (image : List ℕ) (blob : List ℕ) (directory : CodeDirectory) (place : ℕ) (k : ℕ) : Type 0 where
  pub slot : k < directory.code_slots
  pub held : Holds (page_at directory k) place
  pub only : (other : ℕ) → other < directory.code_slots → Holds (page_at directory other) place → other ≡ k
  pub hash : HasHash directory.hash_type (bytes_in image (page_at directory k)) (bytes_in blob (code_slot directory k))

-- The code directory with this blob seals the image, whose signature begins at a place of it.
pub record Seals (image : List ℕ) (start : ℕ) (signature : List ℕ) (blob : List ℕ) (directory : CodeDirectory) : Type 0 where
  -- each byte before the signature is in one page
  pub places : (place : ℕ) → place < start
      → IsSealedPlace image blob directory place (page_of directory.page_size place)
  -- and no page has others
  pub pages : (k : ℕ) → k < directory.code_slots → end_of (page_at directory k) ≤ start
  -- each blob in a special slot has its hash in it
  pub specials : (k : ℕ) → k < blob_count signature → IsSpecialAt signature k
      → HasSpecialHash blob directory (blob_at signature k).slot (bytes_at signature k)

-- a signature that begins at a place of the image
pub record IsSeal (image : List ℕ) (start : ℕ) (signature : List ℕ) : Type 0 where
  -- it is one, in which each blob has its place
  pub placed : IsSignature start signature
  -- each code directory seals the image, and no two are in one slot
  pub directories : (k : ℕ) → k < blob_count signature → IsDirectoryAt signature k
      → IsSomeAnd (code_directory (bytes_at signature k)) (Seals image start signature (bytes_at signature k))
  pub apart : AreApart signature
  -- a byte of the file at an address that may be executed is zero, or it lies before the signature: so it is in a page
  -- of each code directory, which has its hash
  pub executed : (segment address : ℕ) → Contains (all_segments image) segment → RunsAt image address segment
      → IsNonZero image (fileoff image segment + (address - vmaddr image segment))
      → fileoff image segment + (address - vmaddr image segment) < start
  -- a byte of the image, from the start of the signature on, that is not zero is in the superblob with its index, or
  -- in a blob
  pub rest : (offset : ℕ) → IsNonZero image (start + offset)
      → (offset < entry_offset (blob_count signature))
      ⊎ ((k : ℕ) × (k < blob_count signature) × Holds (blob_span (blob_at signature k)) offset)

-- an image has a code signature, and that is such a one
abbrev pub IsSealed : List ℕ → Type 0
IsSealed image =
    (table : Span) × IsDataTable image loader.LC_CODE_SIGNATURE table
    × IsSeal image table.start (part table.start table.len image)

-- of a file: each 64-bit slice has
abbrev pub AreSealed : List ℕ → Type 0
AreSealed = OfEachImage IsSealed

-- What holds of a file that the sealed verdict accepts
pub record KeepsSealed (file : List ℕ) : Type 0 where
  -- the unambiguous verdict accepts it
  pub readers : KeepsUnambiguous file
  -- it breaks no sealed rule
  pub unbroken : IsSealedUnbroken file
  -- the code signature of each image has the hashes of all bytes before it and of the blobs in it, and each other byte
  -- is zero, or in a part of the signature, which may not be executed
  pub sealed : AreSealed file
