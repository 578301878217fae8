-- From where a signature breaks its rules to the places in the image.
use Rattle.std.proofs.Common.{◌≡◌, ℕ, ◌+◌, ◌^◌, ◌≤◌, ◌<◌, List, length, Option, Some, None, refl, sym, ap, ◌∙◌, subst, arith, inl, inr}
use Rattle.std.specs.Prelude.{IfSome}
use Rattle.std.specs.Option.{option_map}
use Rattle.std.proofs.lemmas.Bool.{cases_lt}
use Rattle.std.proofs.lemmas.Option.{same_Some}
use Rattle.macho_fields.specs.Field.{part}
use Rattle.macho_fields.specs.FirstPlace.{IsLeastPlace}
use Rattle.macho_fields.specs.Image.{commands_of}
use Rattle.macho_fields.specs.LoadCommands.{linkedit_data_table}
use Rattle.macho_fields.specs.Symbol.{table_at}
use Rattle.macho_fields.specs.declared.header.loader.TheConstants as loader
use Rattle.macho_fields.proofs.Options.{some_of}
use Rattle.macho_image.specs.Command.{first_with_cmd}
use Rattle.macho_image.proofs.ReadParts.{length-part}
use Rattle.macho_spans.specs.declared.span.Span.{Span}
use Rattle.macho_tables.specs.DataTables.{IsDataTable}
use Rattle.macho_tables.specs.Homes.{bytes_of_table}
use Rattle.macho_tables.specs.Items.{AtItem}
use Rattle.macho_signature.specs.Signature.{BadDirectory, PartialDirectory, InSignature}
use Rattle.macho_signature.specs.Superblobs.{blob_count, entry_offset, superblob_at, HasNoSuperblob, BadBlob}

-- The rules are broken at offsets in the signature

-- the index lies in it
pub index_inside : (signature : List ℕ) → ¬ HasNoSuperblob signature → entry_offset (blob_count signature) ≤ length signature
index_inside signature whole =
    let superblob = superblob_at signature in
    elim (cases_lt (length signature) superblob.length) [
      | inl past ↦ absurd (whole (inr (inr (inl past))))
      | inr inside ↦ elim (cases_lt superblob.length (entry_offset superblob.count)) [
        | inl past ↦ absurd (whole (inr (inr (inr past))))
        | inr fits ↦ omega (arith, inside, fits)
      ]
    ]

-- so each entry does
entry_near : (signature : List ℕ) → ¬ HasNoSuperblob signature → (P : ℕ → Type 0) (offset : ℕ) → AtItem entry_offset (blob_count signature) P offset → offset ≤ length signature
entry_near signature whole P offset (k, less, at, has) = let inside = index_inside signature whole in omega (arith, less, at, inside)

pub blob_near : (signature : List ℕ) (offset : ℕ) → BadBlob signature offset → offset ≤ length signature
blob_near signature offset (inl (at, none)) = omega (arith, at)
blob_near signature offset (inr (whole, broken)) = entry_near signature whole _ offset broken

pub directory_near : (start : ℕ) (signature : List ℕ) (offset : ℕ) → BadDirectory start signature offset → offset ≤ length signature
directory_near start signature offset (good, inl (at, lacks)) = omega (arith, at)
directory_near start signature offset (good, inr broken) = entry_near signature good.superblob _ offset broken

pub whole_near : (start : ℕ) (signature : List ℕ) (offset : ℕ) → PartialDirectory start signature offset → offset ≤ length signature
whole_near start signature offset (all, broken) = entry_near signature all.blobs.superblob _ offset broken

-- The signature of an image

-- it has no more than one
one_table : (image : List ℕ) (cmd : ℕ) (one other : Span) → IsDataTable image cmd one → IsDataTable image cmd other → one ≡ other
one_table image cmd one other first second =
    let (command, is, (same, some)) = some_of (λ c. (one ≡ bytes_of_table (table_at image c linkedit_data_table)) × (0 < one.len)) (first_with_cmd image cmd (commands_of image)) first in
    let (again, at, (alike, has)) = some_of (λ c. (other ≡ bytes_of_table (table_at image c linkedit_data_table)) × (0 < other.len)) (first_with_cmd image cmd (commands_of image)) second in
    let here : command ≡ again = same_Some command again (sym is ∙ at) in
    same ∙ ap (λ c. bytes_of_table (table_at image c linkedit_data_table)) here ∙ sym alike

module _ (image : List ℕ) (Rule : ℕ → List ℕ → ℕ → Type 0) where
  -- it has none
  pub none_in_signature : ((table : Span) → ¬ IsDataTable image loader.LC_CODE_SIGNATURE table) → IsLeastPlace (InSignature image Rule) None
  none_in_signature none place (table, is, broken) = none table is

  module _ (table : Span) (is : IsDataTable image loader.LC_CODE_SIGNATURE table) (found : Option ℕ) (least : IsLeastPlace (Rule table.start (part table.start table.len image)) found) where
    -- what is found in it is found in the image
    pub least_in_signature : IsLeastPlace (InSignature image Rule) (option_map (λ offset. table.start + offset) found)
    least_in_signature = by found least
      where
        here : (place : ℕ) → InSignature image Rule place → (offset : ℕ) × (place ≡ table.start + offset) × Rule table.start (part table.start table.len image) offset
        here place (other, at, broken) =
            subst (λ (t : Span). (offset : ℕ) × (place ≡ t.start + offset) × Rule t.start (part t.start t.len image) offset) (one_table image loader.LC_CODE_SIGNATURE other table at is) broken

        by : (found : Option ℕ) → IsLeastPlace (Rule table.start (part table.start table.len image)) found → IsLeastPlace (InSignature image Rule) (option_map (λ offset. table.start + offset) found)
        by None none = λ place broken. let (offset, at, there) = here place broken in none offset there
        by (Some first) (there, low) = (
          (table, is, (first, refl, there)),
          λ place broken. let (offset, at, other) = here place broken in let up = low offset other in omega (arith, at, up),
        )

    -- and its place fits
    pub fits_in_signature : ((offset : ℕ) → Rule table.start (part table.start table.len image) offset → offset ≤ length (part table.start table.len image))
        → table.start + table.len ≤ length image → length image < 2 ^ 64 → IfSome found (λ offset. table.start + offset < 2 ^ 64)
    fits_in_signature near inside fits = by found least
      where
        size : length (part table.start table.len image) ≡ table.len
        size = length-part table.start table.len image inside

        by : (found : Option ℕ) → IsLeastPlace (Rule table.start (part table.start table.len image)) found → IfSome found (λ offset. table.start + offset < 2 ^ 64)
        by None none = tt
        by (Some first) (there, low) = let within = near first there in omega (arith, within, size, inside, fits)
