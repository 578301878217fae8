-- The blobs in special slots with another hash in a code directory.
use Rattle.std.proofs.Common.{◌↔◌, ℕ, ◌<◌, List, get_or, Option, None, Some}
use Rattle.macho_fields.specs.FirstPlace.{IsLeastPlace}
use Rattle.macho_fields.proofs.Options.{some_of, of_some}
use Rattle.macho_seals.specs.Directories.{EachDirectory, AnyDirectory, HasSpecial, LacksSpecial, HasOtherSpecial, HaveOtherSpecial}
use Rattle.macho_seals.specs.Specials.{IsSpecialAt}
use Rattle.macho_seals.specs.declared.directories.Directory.{Directory}
use Rattle.macho_seals.proofs.Blobs.{blobs_rise}
use Rattle.macho_seals.proofs.PlacedDirectories.{any_gives}
use Rattle.macho_seals.proofs.Firsts.{first_at}
use Rattle.macho_signature.specs.Signature.{bytes_at}
use Rattle.macho_signature.specs.Superblobs.{blob_at, blob_count, AreGoodBlobs}
use Rattle.macho_tables.specs.Items.{AtItem}
use Rattle.macho_tables.proofs.Places.{least_same}

module _ (signature : List ℕ) (directories : List (Option Directory)) where
  -- the blob k is in a special slot, and one of them lacks its hash
  abbrev pub LackSpecial : ℕ → Type 0
  LackSpecial k = IsSpecialAt signature k × AnyDirectory directories (LacksSpecial (blob_at signature k).slot (bytes_at signature k))

  pub none_lacks_special : (k : ℕ) → EachDirectory directories (HasSpecial (blob_at signature k).slot (bytes_at signature k)) → ¬ LackSpecial k
  none_lacks_special k each (is, lack) =
      any_gives directories (HasSpecial (blob_at signature k).slot (bytes_at signature k)) each (LacksSpecial (blob_at signature k).slot (bytes_at signature k)) ⊥
      (λ one has none. none has) lack

  same_offset : (offset : ℕ) → AtItem (λ k. (blob_at signature k).offset) (blob_count signature) LackSpecial offset ↔ HaveOtherSpecial signature directories offset
  same_offset offset = (to, from)
    where
      to : AtItem (λ k. (blob_at signature k).offset) (blob_count signature) LackSpecial offset → HaveOtherSpecial signature directories offset
      to (k, less, at, (is, (n, lack))) =
          let (one, found, none) = some_of (LacksSpecial (blob_at signature k).slot (bytes_at signature k)) (get_or directories n None) lack in
          (n, of_some (HasOtherSpecial signature offset) (get_or directories n None) one found (k, less, at, (is, none)))

      from : HaveOtherSpecial signature directories offset → AtItem (λ k. (blob_at signature k).offset) (blob_count signature) LackSpecial offset
      from (n, other) =
          let (one, found, (k, less, at, (is, none))) = some_of (HasOtherSpecial signature offset) (get_or directories n None) other in
          (k, less, at, (is, (n, of_some (LacksSpecial (blob_at signature k).slot (bytes_at signature k)) (get_or directories n None) one found none)))

  -- the first of them is at the least offset
  pub first_lack_special : AreGoodBlobs signature → (k : ℕ) → k < blob_count signature → LackSpecial k → ((j : ℕ) → j < k → ¬ LackSpecial j)
      → IsLeastPlace (HaveOtherSpecial signature directories) (Some (blob_at signature k).offset)
  first_lack_special good k less lack none =
      least_same (AtItem (λ k. (blob_at signature k).offset) (blob_count signature) LackSpecial) (HaveOtherSpecial signature directories) (Some (blob_at signature k).offset) same_offset
      (first_at (λ n. (blob_at signature n).offset) (blob_count signature) LackSpecial k less (blobs_rise signature good k) lack none)
