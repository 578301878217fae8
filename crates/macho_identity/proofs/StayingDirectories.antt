-- The parts of a sound code directory lie in its blob, so they are found with a bound and with none.
use Rattle.std.proofs.Common.{◌≡◌, ℕ, ◌+◌, ◌-◌, ◌*◌, ◌≤◌, ◌<◌, List, length, drop, take, Option, None, Some, ap, ◌∙◌, arith, inl, inr}
use Rattle.std.specs.Prelude.{IsSomeAnd}
use Rattle.std.proofs.lemmas.List.{drop-take, drop-drop, take-take}
use Rattle.macho_fields.specs.Field.{part}
use Rattle.macho_identity.specs.Models.{Agree, IsPartOfBlob, StaysInBlob, StayInBlobs}
use Rattle.macho_identity.proofs.ClearDirectories.{two_are}
use Rattle.macho_image.proofs.ReadParts.{length-part}
use Rattle.macho_signature.specs.CodeDirectories.{code_directory}
use Rattle.macho_signature.specs.Signature.{IsDirectoryAt, bytes_at, BreaksSignatureBlob, BreaksSignatureDirectory, BreaksSignatureWhole}
use Rattle.macho_signature.specs.Signed.{CoversPages, IsSignature}
use Rattle.macho_signature.specs.Superblobs.{blob_at, blob_count}
use Rattle.macho_signature.specs.declared.code_directory.CodeDirectory.{CodeDirectory}
use Rattle.macho_signature.proofs.Signed.{signed_image}

-- a part of a part
inner : (bytes : List ℕ) (offset size start len : ℕ) → start + len ≤ size → part start len (part offset size bytes) ≡ part (offset + start) len bytes
inner bytes offset size start len fits =
    let split : size ≡ start + (size - start) = omega (arith, fits) in
    let rest : drop start (part offset size bytes) ≡ take (size - start) (drop (offset + start) bytes) =
    ap (λ n. drop start (take n (drop offset bytes))) split ∙ (drop-take start (size - start) (drop offset bytes) ∙ ap (take (size - start)) (drop-drop start offset bytes)) in
    ap (take len) rest ∙ take-take len (size - start) (drop (offset + start) bytes) (omega (arith, fits))

module _ (start : ℕ) (signature : List ℕ) (is : IsSignature start signature) (k : ℕ) (less : k < blob_count signature) where
  size : length (bytes_at signature k) ≡ (blob_at signature k).length
  size = length-part (blob_at signature k).offset (blob_at signature k).length signature (is.placed k less).end

  one_part : (from len : ℕ) → from + len ≤ length (bytes_at signature k) → Agree (IsPartOfBlob signature k from len)
  one_part from len fits = two_are (part ((blob_at signature k).offset + from) len signature) (IsPartOfBlob signature k from len) (λ a either. elim either [
    | inl at ↦ at ∙ inner signature (blob_at signature k).offset (blob_at signature k).length from len (omega (arith, fits, size))
    | inr at ↦ at
  ])

  stays : (read : Option CodeDirectory) → IsSomeAnd read (CoversPages start (bytes_at signature k)) → IsSomeAnd read (StaysInBlob signature k)
  stays None wrong = absurd wrong
  stays (Some directory) covers = record {
    linkage = one_part directory.linkage_offset directory.linkage_size covers.linkage;
    earlier = λ i below some. one_part (directory.pre_encrypt_offset + i * directory.hash_size) directory.hash_size (covers.earlier i below some);
  }

  pub directory_stays : IsDirectoryAt signature k → IsSomeAnd (code_directory (bytes_at signature k)) (StaysInBlob signature k)
  directory_stays slot = stays (code_directory (bytes_at signature k)) (is.directories k less slot)

-- of an image
pub image_stays : (image : List ℕ) → ((place : ℕ) → ¬ BreaksSignatureBlob image place) → ((place : ℕ) → ¬ BreaksSignatureDirectory image place)
    → ((place : ℕ) → ¬ BreaksSignatureWhole image place) → StayInBlobs image
image_stays image blobs directories wholes table is k less slot =
    directory_stays table.start (part table.start table.len image) (signed_image image blobs directories wholes table is) k less slot
