-- What the report of `macho-verify sealed` says of the code directories of an image. (cs_blobs.h)
use Rattle.std.specs.Prelude.{ℕ, List, map, take, codes}
use Rattle.macho_text.specs.Stream.{joined}
use Rattle.macho_lines.specs.Line.{cdhash_line}
use Rattle.macho_seals.specs.Cdhashes.{image_cdhashes}
use Rattle.macho_seals.specs.Digests.{bytes_of_digest}
use Rattle.macho_seals.specs.declared.digest.Digest.{Digest}
use Rattle.macho_seals.specs.declared.digest.Digest.TheVariants as digests
use Rattle.macho_fields.specs.declared.header.cs_blobs.TheConstants as cdhash

-- the word of a type of hashes
abbrev pub type_word : Digest → List ℕ
type_word (digests.Sha1 bytes) = codes "sha1"
type_word (digests.Sha256 bytes) = codes "sha256"
type_word (digests.Sha256Truncated bytes) = codes "sha256-truncated"
type_word (digests.Sha384 bytes) = codes "sha384"

-- the line of a code directory, whose digest by its own type this is: its cdhash is the first 20 bytes of that
abbrev pub digest_line : Digest → List ℕ
digest_line digest =
    cdhash_line (type_word digest) (take cdhash.CS_CDHASH_LEN (bytes_of_digest digest))

-- the lines of an image, in the order of the index of its signature
abbrev pub cdhashes_text : List ℕ → List ℕ
cdhashes_text image = joined (map digest_line (image_cdhashes image))
