-- The cdhash of a code directory, which is the digest of its blob by its own type. `codesign` prints its first 20
-- bytes. (cs_blobs.h: CS_CDHASH_LEN)
use Rattle.std.specs.Prelude.{ℕ, zero, suc, ◌+◌, ◌&&◌, List, [], ◌∷◌, Option, None, if◌then◌else◌}
use Rattle.std.specs.Option.{option_and_then, option_map_or}
use Rattle.macho_fields.specs.Field.{part}
use Rattle.macho_fields.specs.Image.{commands_of}
use Rattle.macho_fields.specs.LoadCommands.{linkedit_data_table}
use Rattle.macho_fields.specs.Symbol.{table_at}
use Rattle.macho_fields.specs.declared.header.loader.TheConstants as loader
use Rattle.macho_image.specs.Command.{first_with_cmd}
use Rattle.macho_seals.specs.Digests.{digest}
use Rattle.macho_seals.specs.declared.digest.Digest.{Digest}
use Rattle.macho_signature.specs.CodeDirectories.{code_directory}
use Rattle.macho_signature.specs.Signature.{bytes_at}
use Rattle.macho_signature.specs.Superblobs.{superblob_at, blob_at, blob_count, entry_offset, is_directory_slot, has_superblob, is_placed}

-- the cdhash of a blob, which has one if it is a code directory with a known type of hashes
abbrev pub cdhash : List ℕ → Option Digest
cdhash blob = option_and_then (λ directory. digest directory.hash_type blob) (code_directory blob)

-- the cdhash of the entry k of a signature, if its blob is past the index and in the superblob, and in a slot
-- of code directories
abbrev pub cdhash_at : List ℕ → ℕ → Option Digest
cdhash_at signature k =
    if is_directory_slot (blob_at signature k).slot
    && is_placed (superblob_at signature) (entry_offset (blob_count signature)) (blob_at signature k)
    then cdhash (bytes_at signature k) else None

-- the cdhashes of so many entries, from the entry k on
unfoldable pub cdhashes_from : List ℕ → ℕ → ℕ → List Digest
cdhashes_from signature k zero = []
cdhashes_from signature k (suc left) =
    option_map_or (λ found. found ∷ cdhashes_from signature (k + 1) left) (cdhash_at signature k)
    (cdhashes_from signature (k + 1) left)

-- how many entries its index has, and none without a superblob
abbrev pub entry_count : List ℕ → ℕ
entry_count signature = if has_superblob signature then blob_count signature else 0

-- the cdhashes of a signature, in the order of its index
abbrev pub signature_cdhashes : List ℕ → List Digest
signature_cdhashes signature = cdhashes_from signature 0 (entry_count signature)

-- the cdhashes of the signature of an image (mach-o/loader.h: LC_CODE_SIGNATURE)
abbrev pub image_cdhashes : List ℕ → List Digest
image_cdhashes image =
    option_map_or
    (λ command. let table = table_at image command linkedit_data_table in signature_cdhashes (part table.0 table.1 image))
    (first_with_cmd image loader.LC_CODE_SIGNATURE (commands_of image)) []
