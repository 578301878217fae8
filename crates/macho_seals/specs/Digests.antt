-- The digests of a message, by the types of hashes that code directories have. (cs_blobs.h: CS_HASHTYPE_SHA1 and the
-- types beside it; FIPS 180-4)
use Rattle.std.specs.Prelude.{◌≡◌, ℕ, ◌==◌, List, take, Option, Some, None, IsSomeAnd, if◌then◌else◌}
use Rattle.sha1.specs.Sha1.{sha1}
use Rattle.sha2.specs.Sha256.{sha256}
use Rattle.sha2.specs.Sha512.{sha384}
use Rattle.macho_fields.specs.declared.header.cs_blobs.TheConstants as cs
use Rattle.macho_seals.specs.declared.digest.Digest.{Digest}
use Rattle.macho_seals.specs.declared.digest.Digest.TheVariants as digests

-- the digest of a message by a type, and none by a type that is not known
abbrev pub digest : ℕ → List ℕ → Option Digest
digest hash_type message =
    if hash_type == cs.CS_HASHTYPE_SHA1 then Some (digests.Sha1 (sha1 message))
    else (if hash_type == cs.CS_HASHTYPE_SHA256 then Some (digests.Sha256 (sha256 message))
    else (if hash_type == cs.CS_HASHTYPE_SHA256_TRUNCATED
    then Some (digests.Sha256Truncated (take cs.CS_SHA256_TRUNCATED_LEN (sha256 message)))
    else (if hash_type == cs.CS_HASHTYPE_SHA384 then Some (digests.Sha384 (sha384 message)) else None)))

-- the bytes of a digest, and its type
abbrev pub bytes_of_digest : Digest → List ℕ
bytes_of_digest (digests.Sha1 bytes) = bytes
bytes_of_digest (digests.Sha256 bytes) = bytes
bytes_of_digest (digests.Sha256Truncated bytes) = bytes
bytes_of_digest (digests.Sha384 bytes) = bytes

abbrev pub type_of_digest : Digest → ℕ
type_of_digest (digests.Sha1 bytes) = cs.CS_HASHTYPE_SHA1
type_of_digest (digests.Sha256 bytes) = cs.CS_HASHTYPE_SHA256
type_of_digest (digests.Sha256Truncated bytes) = cs.CS_HASHTYPE_SHA256_TRUNCATED
type_of_digest (digests.Sha384 bytes) = cs.CS_HASHTYPE_SHA384

-- a message has this hash, by a type
abbrev pub HasHash : ℕ → List ℕ → List ℕ → Type 0
HasHash hash_type message hash = IsSomeAnd (digest hash_type message) (λ found. bytes_of_digest found ≡ hash)
