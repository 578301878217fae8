-- The digests by SHA-256 of the pages of a code directory that are hashed side by side. No rule speaks of them so.
use Rattle.std.specs.Prelude.{◌≡◌, ℕ, ◌+◌, ◌<◌, ◌⊎◌, List, [], get_or, Option, IfSome}
use Rattle.macho_fields.specs.declared.header.cs_blobs.TheConstants as cs
use Rattle.macho_lanes.specs.declared.pages.TheConstants as lanes
use Rattle.macho_seals.specs.Directories.{HasPageSize}
use Rattle.macho_seals.specs.Pages.{bytes_in, page_at}
use Rattle.macho_seals.specs.declared.directories.Directory.{Directory}
use Rattle.macho_signature.specs.declared.code_directory.CodeDirectory.{CodeDirectory}
use Rattle.sha2.specs.Sha256.{sha256}

-- a digest is the digest of the message, or is not known
abbrev pub IsDigestOf : List ℕ → Option (List ℕ) → Type 0
IsDigestOf message digest = IfSome digest (λ this. this ≡ sha256 message)

-- digests are of the pages of a group, from an index on, or are not known
abbrev pub AreDigestsFrom : List ℕ → CodeDirectory → ℕ → Option (List (List ℕ)) → Type 0
AreDigestsFrom image directory first digests = IfSome digests (λ these. (k : ℕ) → k < lanes.LANES
    → get_or these k [] ≡ sha256 (bytes_in image (page_at directory (first + k))))

-- a type is of digests by SHA-256, whole or cut
abbrev pub IsSha256 : ℕ → Type 0
IsSha256 hash_type = (hash_type ≡ cs.CS_HASHTYPE_SHA256) ⊎ (hash_type ≡ cs.CS_HASHTYPE_SHA256_TRUNCATED)

-- a directory has hashes of such a type, of pages of this size; it has none
abbrev pub UsesSha256 : ℕ → Directory → Type 0
UsesSha256 page_size directory = HasPageSize page_size directory × IsSha256 directory.fields.hash_type

abbrev pub UsesNoSha256 : ℕ → Directory → Type 0
UsesNoSha256 page_size directory = ¬ UsesSha256 page_size directory
