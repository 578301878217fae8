-- From where a signature breaks its rules to the places in the image.
use Rattle.std.proofs.Common.{◌≡◌, ℕ, ◌+◌, ◌≤◌, ◌<◌, ◌⊎◌, List, length, Option, Some, None, refl, sym, ap, ◌∙◌, subst, arith, inl, inr}
use Rattle.std.specs.Prelude.{IsSomeAnd}
use Rattle.macho_fields.specs.Field.{part}
use Rattle.macho_fields.specs.FirstPlace.{IsLeastPlace}
use Rattle.macho_fields.specs.Image.{commands_of}
use Rattle.macho_fields.specs.Layers.{NothingBreaks, IsLeast}
use Rattle.macho_fields.specs.LoadCommands.{linkedit_data_table}
use Rattle.macho_fields.specs.RuleList.{rank}
use Rattle.macho_fields.specs.Rules.{BreaksImage as Breaks}
use Rattle.macho_fields.specs.Symbol.{table_at}
use Rattle.macho_fields.specs.declared.header.loader.TheConstants as loader
use Rattle.macho_fields.specs.declared.rule.Break.{Break}
use Rattle.macho_fields.specs.declared.rule.Rule.{Rule}
use Rattle.macho_fields.specs.declared.rule.Rule.TheVariants as rule
use Rattle.macho_image.specs.Command.{first_with_cmd}
use Rattle.macho_image.proofs.ReadParts.{length-part}
use Rattle.macho_rules.proofs.Verdicts.{unbroken_opened}
use Rattle.macho_seals.specs.Good.{IsWholeSignature}
use Rattle.macho_linked.specs.Rules.{BreaksImage as BreaksLinked}
use Rattle.macho_sealed.specs.Rules.{BreaksImage}
use Rattle.macho_seals.specs.Signature.{RepeatedDirectory, HasOtherHash, BadHash}
use Rattle.macho_seals.specs.Specials.{BadSpecial}
use Rattle.macho_signature.specs.CodeDirectories.{code_directory, IsSound}
use Rattle.macho_signature.specs.Signature.{bytes_at, InSignature}
use Rattle.macho_signature.specs.Superblobs.{AreGoodBlobs}
use Rattle.macho_signature.specs.declared.code_directory.CodeDirectory.{CodeDirectory}
use Rattle.macho_signature.proofs.Images.{index_inside}
use Rattle.macho_spans.specs.declared.span.Span.{Span}
use Rattle.macho_tables.specs.DataTables.{IsDataTable}
use Rattle.macho_tables.specs.Homes.{bytes_of_table}
use Rattle.macho_tables.proofs.DataTables.{data_table_inside}
use Rattle.macho_tables.proofs.HeldSegments.{segment_inside}
use Rattle.macho_seals.proofs.Blobs.{blob_inside, blob_filled}
use Rattle.macho_sealed.proofs.Good.{whole_signature}
use Rattle.macho_seals.proofs.PageSpans.{page_inside}
use Rattle.macho_sealed.proofs.Ranks.{none_before}

-- an image has one signature
one_table : (command : Option ℕ) (table_of : ℕ → Span) (one other : Span) → IsSomeAnd command (λ c. (one ≡ table_of c) × (0 < one.len)) → IsSomeAnd command (λ c. (other ≡ table_of c) × (0 < other.len)) → one ≡ other
one_table None table_of one other first second = absurd first
one_table (Some c) table_of one other (is, some) (at, has) = is ∙ sym at

pub one_signature : (image : List ℕ) (one other : Span) → IsDataTable image loader.LC_CODE_SIGNATURE one → IsDataTable image loader.LC_CODE_SIGNATURE other → one ≡ other
one_signature image one other first second =
    one_table (first_with_cmd image loader.LC_CODE_SIGNATURE (commands_of image)) (λ c. bytes_of_table (table_at image c linkedit_data_table)) one other first second

-- what is found by it is found in the image
module _ (image : List ℕ) (table : Span) (is : IsDataTable image loader.LC_CODE_SIGNATURE table) (Rule : ℕ → List ℕ → ℕ → Type 0) where
  abbrev pub OfSignature : ℕ → Type 0
  OfSignature place = (its : Span) × IsDataTable image loader.LC_CODE_SIGNATURE its × Rule its.start (part its.start its.len image) place

  here : (place : ℕ) → OfSignature place → Rule table.start (part table.start table.len image) place
  here place (other, has, broken) = subst (λ (t : Span). Rule t.start (part t.start t.len image) place) (one_signature image other table has is) broken

  pub found_in_image : (found : Option ℕ) → IsLeastPlace (Rule table.start (part table.start table.len image)) found → IsLeastPlace OfSignature found
  found_in_image None none = λ place broken. none place (here place broken)
  found_in_image (Some first) (there, low) = ((table, is, there), λ place broken. low place (here place broken))

-- The places lie in the signature

pub repeated_near : (signature : List ℕ) → AreGoodBlobs signature → (offset : ℕ) → RepeatedDirectory signature offset → offset ≤ length signature
repeated_near signature good offset (k, less, at, repeats) = let inside = index_inside signature good.superblob in omega (arith, less, at, inside)

pub special_near : (signature : List ℕ) → AreGoodBlobs signature → (blob : List ℕ) (directory : CodeDirectory) (offset : ℕ) → BadSpecial signature blob directory offset → offset < length signature
special_near signature good blob directory offset (k, less, at, other) =
    let inside = blob_inside signature good k less in
    let filled = blob_filled signature good k less in
    omega (arith, at, inside, filled)

-- or before it
pub hash_near : (image : List ℕ) (start : ℕ) (signature : List ℕ) → IsWholeSignature start signature → (place : ℕ) → BadHash image start signature place → place ≤ start + length signature
hash_near image start signature whole place (k, less, (is_directory, other)) = by (code_directory (bytes_at signature k)) (whole.directories k less is_directory) other
  where
    by : (read : Option CodeDirectory) → IsSomeAnd read (λ directory. IsSound start (bytes_at signature k) directory × (directory.limit ≡ start))
        → IsSomeAnd read (λ directory. HasOtherHash image start signature (bytes_at signature k) directory place) → place ≤ start + length signature
    by None sound broken = absurd broken
    by (Some directory) (sound, limit) (inl (page, few, at, bad)) =
        let inside = page_inside directory.page_size directory.limit page (subst (λ n. page < n) sound.slots.slots few) in
        omega (arith, inside, at, limit)
    by (Some directory) (sound, limit) (inr (offset, at, bad)) =
        let near = special_near signature whole.blobs (bytes_at signature k) directory offset bad in
        omega (arith, at, near)

-- so they lie in the image
module _ (image : List ℕ) (none : NothingBreaks (Breaks image None)) (linked : NothingBreaks (BreaksLinked image)) where
  near_in_image : (table : Span) → IsDataTable image loader.LC_CODE_SIGNATURE table → (place : ℕ) → place ≤ table.start + length (part table.start table.len image) → place ≤ length image
  near_in_image table is place near =
      let inside = data_table_inside image loader.LC_CODE_SIGNATURE refl none table is in
      let size = length-part table.start table.len image inside in
      omega (arith, near, size, inside)

  signature_inside : (Rule : ℕ → List ℕ → ℕ → Type 0) → ((start : ℕ) (bytes : List ℕ) → IsWholeSignature start bytes → (offset : ℕ) → Rule start bytes offset → offset ≤ length bytes)
      → (place : ℕ) → InSignature image Rule place → place ≤ length image
  signature_inside Rule near place (table, is, (offset, at, broken)) =
      let within = near table.start (part table.start table.len image) (whole_signature image linked table is) offset broken in
      near_in_image table is place (omega (arith, at, within))

  pub place_inside : (r : Rule) (place : ℕ) → BreaksImage image r place → place ≤ length image
  place_inside rule.SignatureMissing place (at, missing) = omega (arith, at)
  place_inside rule.SignatureExecutable place (table, is, (has, runs)) = let inside = segment_inside image (unbroken_opened image none) place has in omega (arith, inside)
  place_inside rule.DirectoryRepeated place broken = signature_inside (λ start. RepeatedDirectory) (λ start bytes whole. repeated_near bytes whole.blobs) place broken
  place_inside rule.SignatureSlack place (table, is, (offset, at, slack)) = let inside = slack.0.0 in omega (arith, at, inside)
  place_inside rule.SignatureHash place (table, is, broken) =
      near_in_image table is place (hash_near image table.start (part table.start table.len image) (whole_signature image linked table is) place broken)
  place_inside other place broken = absurd broken

-- The rules in their order

-- an image without a signature breaks the first
pub missing_first : (image : List ℕ) → ((table : Span) → ¬ IsDataTable image loader.LC_CODE_SIGNATURE table) → (b : Break) → b.rule ≡ rule.SignatureMissing → b.place ≡ 0 → IsLeast (BreaksImage image) b
missing_first image none b named at = (
  subst (λ r. BreaksImage image r b.place) (sym named) (at, λ (table, is, has). none table is),
  λ r place broken earlier. first r place broken (subst (λ n. (rank r < n) ⊎ ((rank r ≡ n) × (place < b.place))) (ap rank named) earlier),
)
  where
    first : (r : Rule) (place : ℕ) → BreaksImage image r place → ¬ ((rank r < rank rule.SignatureMissing) ⊎ ((rank r ≡ rank rule.SignatureMissing) × (place < b.place)))
    first r place broken (inl early) = none_before image r place early broken
    first r place broken (inr (same, low)) = omega (arith, low, at)
