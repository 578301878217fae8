-- From the pages and the blobs with another hash in a code directory to the least place of all.
use Rattle.std.proofs.Common.{◌≡◌, ◌↔◌, ℕ, ◌+◌, ◌≤◌, ◌⊎◌, List, get_or, true, false, Option, Some, None, arith, inl, inr}
use Rattle.std.specs.Option.{is_some, option_map}
use Rattle.std.proofs.lemmas.Bool.{true≢false, false≢true}
use Rattle.macho_fields.specs.Bytes.{bytes_of}
use Rattle.macho_fields.specs.FirstPlace.{IsLeastPlace}
use Rattle.macho_fields.proofs.Options.{some_of, of_some}
use Rattle.macho_seals.specs.Directories.{EachDirectory, AreDirectories, IsWholeBefore, HasOtherPage, HasOtherSpecial, HaveOtherPage, HaveOtherSpecial}
use Rattle.macho_seals.specs.Signature.{HasOtherHash, BadHash}
use Rattle.macho_seals.specs.declared.directories.Directory.{Directory}
use Rattle.macho_signature.specs.Superblobs.{blob_count}
use Rattle.macho_tables.proofs.Items.{least_other}
use Rattle.macho_tables.proofs.Places.{least_same, least_moved}
use Rattle.macho_seals.proofs.PlacedDirectories.{any_mapped, to_entry, from_entry}
use Rattle.macho_seals.proofs.SharedPages.{page_before}

module _ (image : List ℕ) (start : ℕ) (signature : List ℕ) (directories : List (Option Directory))
    (are : AreDirectories signature (blob_count signature) directories) (whole : EachDirectory directories (IsWholeBefore start)) where
  -- a blob, by its place in the image
  abbrev OtherSpecial : ℕ → Type 0
  OtherSpecial place = (offset : ℕ) × (place ≡ start + offset) × HaveOtherSpecial signature directories offset

  abbrev OtherHash : ℕ → Directory → Type 0
  OtherHash place one = HasOtherHash image start signature (bytes_of one.blob) one.fields place

  -- a bad hash is a page's or a blob's
  split : (place : ℕ) → (HaveOtherPage image directories place ⊎ OtherSpecial place) ↔ BadHash image start signature place
  split place = (to, from)
    where
      to : HaveOtherPage image directories place ⊎ OtherSpecial place → BadHash image start signature place
      to (inl page) =
          to_entry signature directories are (λ blob fields. HasOtherHash image start signature blob fields place)
          (any_mapped directories (HasOtherPage image place) (OtherHash place) (λ one bad. inl bad) page)
      to (inr (offset, at, special)) =
          to_entry signature directories are (λ blob fields. HasOtherHash image start signature blob fields place)
          (any_mapped directories (HasOtherSpecial signature offset) (OtherHash place) (λ one bad. inr (offset, at, bad)) special)

      from : BadHash image start signature place → HaveOtherPage image directories place ⊎ OtherSpecial place
      from broken =
          let (n, other) = from_entry signature directories are (λ blob fields. HasOtherHash image start signature blob fields place) broken in
          let (one, found, bad) = some_of (OtherHash place) (get_or directories n None) other in
          elim bad [
            | inl page ↦ inl (n, of_some (HasOtherPage image place) (get_or directories n None) one found page)
            | inr (offset, at, special) ↦ inr (offset, at, (n, of_some (HasOtherSpecial signature offset) (get_or directories n None) one found special))
          ]

  -- a page is before each blob
  pub page_first : (found : Option ℕ) → is_some found ≡ true → IsLeastPlace (HaveOtherPage image directories) found → IsLeastPlace (BadHash image start signature) found
  page_first None wrong least = absurd (false≢true wrong)
  page_first (Some first) is (page, low) = ((split first).0 (inl page), λ place broken. earlier place ((split place).1 broken))
    where
      earlier : (place : ℕ) → HaveOtherPage image directories place ⊎ OtherSpecial place → first ≤ place
      earlier place (inl other) = low place other
      earlier place (inr (offset, at, special)) = let before = page_before image directories start whole first page in omega (arith, before, at)

  no_page : (found : Option ℕ) → is_some found ≡ false → IsLeastPlace (HaveOtherPage image directories) found → (place : ℕ) → ¬ HaveOtherPage image directories place
  no_page None is none = none
  no_page (Some first) wrong least = absurd (true≢false wrong)

  -- where no page is bad, a blob may be
  pub special_first : (page : Option ℕ) → is_some page ≡ false → IsLeastPlace (HaveOtherPage image directories) page → (found : Option ℕ) → IsLeastPlace (HaveOtherSpecial signature directories) found
      → IsLeastPlace (BadHash image start signature) (option_map (λ offset. start + offset) found)
  special_first page is pages found least =
      least_same (λ place. HaveOtherPage image directories place ⊎ OtherSpecial place) (BadHash image start signature) (option_map (λ offset. start + offset) found) split
      (least_other (HaveOtherPage image directories) OtherSpecial (option_map (λ offset. start + offset) found)
      (no_page page is pages) (least_moved (HaveOtherSpecial signature directories) start found least))
