-- The code signature of an image, with its blobs in place.
use Rattle.std.proofs.Common.{ℕ, ◌+◌, ◌≤◌, List, length, refl, arith}
use Rattle.macho_fields.specs.Field.{part}
use Rattle.macho_fields.specs.declared.header.loader.TheConstants as loader
use Rattle.macho_signature.specs.Signature.{BreaksSignatureBlob}
use Rattle.macho_signature.specs.Superblobs.{blob_count, entry_offset, AreGoodBlobs}
use Rattle.macho_signature.proofs.Images.{index_inside}
use Rattle.macho_signature.proofs.Signed.{good_blobs}
use Rattle.macho_spans.specs.declared.span.Span.{Span}
use Rattle.macho_tables.specs.DataTables.{IsDataTable}
use Rattle.macho_tables.specs.Items.{AtItem}

pub blobs_in_image : (image : List ℕ) → ((place : ℕ) → ¬ BreaksSignatureBlob image place) → (table : Span) → IsDataTable image loader.LC_CODE_SIGNATURE table
    → AreGoodBlobs (part table.start table.len image)
blobs_in_image image unbroken table is = good_blobs (part table.start table.len image) (λ offset broken. unbroken (table.start + offset) (table, is, (offset, refl, broken)))

-- an entry lies in it
pub entry_near : (signature : List ℕ) → AreGoodBlobs signature → (P : ℕ → Type 0) (offset : ℕ) → AtItem entry_offset (blob_count signature) P offset → offset ≤ length signature
entry_near signature good P offset (k, less, at, has) = let inside = index_inside signature good.superblob in omega (arith, less, at, inside)
