-- What the code signature of an image that breaks no rule seals.
use Rattle.std.proofs.Common.{◌≡◌, ℕ, zero, suc, ◌+◌, ◌-◌, ◌<◌, ◌⊎◌, List, Contains, length, Option, None, Some, refl, sym, subst, arith, inl, inr}
use Rattle.std.specs.Prelude.{IsSomeAnd}
use Rattle.std.proofs.lemmas.Bool.{cases_lt, lt-ltb}
use Rattle.macho_fields.specs.Field.{part}
use Rattle.macho_fields.specs.First.{IsUnbroken}
use Rattle.macho_fields.specs.Image.{commands_of}
use Rattle.macho_fields.specs.Layers.{NothingBreaks}
use Rattle.macho_fields.specs.LoadCommands.{linkedit_data_table}
use Rattle.macho_fields.specs.NonZero.{IsNonZero}
use Rattle.macho_fields.specs.Rules.{BreaksImage as Breaks}
use Rattle.macho_fields.specs.Segment.{all_segments, vmaddr, fileoff, RunsAt}
use Rattle.macho_fields.specs.Symbol.{table_at}
use Rattle.macho_fields.specs.declared.header.loader.TheConstants as loader
use Rattle.macho_fields.specs.declared.rule.Rule.TheVariants as rule
use Rattle.macho_fields.proofs.Decided.{not_not, both_or_not, le_or_not}
use Rattle.macho_image.specs.Command.{first_with_cmd}
use Rattle.macho_linked.specs.Rules.{BreaksImage as BreaksLinked, IsLinkedUnbroken}
use Rattle.macho_seals.specs.Executable.{IsExecutableIn}
use Rattle.macho_seals.specs.Good.{IsWholeSignature}
use Rattle.macho_seals.specs.Pages.{bytes_in, page_at, code_slot}
use Rattle.macho_sealed.specs.Rules.{BreaksImage, IsSealedUnbroken}
use Rattle.macho_sealed.specs.Sealed.{Seals, IsSeal, IsSealed, AreSealed}
use Rattle.macho_seals.specs.Signature.{RepeatedDirectory, NonZeroSlack, HasOtherHash, BadHash}
use Rattle.macho_signature.specs.CodeDirectories.{code_directory, slots_of, IsSound}
use Rattle.macho_signature.specs.Signature.{IsDirectoryAt, bytes_at}
use Rattle.macho_signature.specs.Signed.{IsSignature, page_of}
use Rattle.macho_signature.specs.Superblobs.{blob_at, blob_count, blob_span, entry_offset}
use Rattle.macho_signature.specs.declared.code_directory.CodeDirectory.{CodeDirectory}
use Rattle.macho_image.proofs.ReadParts.{length-part}
use Rattle.macho_signature.proofs.Images.{index_inside}
use Rattle.macho_signature.proofs.Pages.{page_in_slots}
use Rattle.macho_signature.proofs.Signed.{signed_image}
use Rattle.macho_spans.specs.Span.{Holds}
use Rattle.macho_spans.specs.declared.span.Span.{Span}
use Rattle.macho_tables.specs.DataTables.{IsDataTable}
use Rattle.macho_tables.specs.Homes.{bytes_of_table}
use Rattle.macho_tables.proofs.DataTables.{data_table_inside}
use Rattle.macho_sealed.proofs.Good.{whole_signature}
use Rattle.macho_seals.proofs.HashTests.{has_hash_or_not, special_or_not}
use Rattle.macho_seals.proofs.PageSpans.{page_inside, page_holds, page_only}
use Rattle.macho_seals.proofs.TakenSlots.{none_repeated}
use Rattle.macho_sealed.proofs.Verdicts.{of_images}

-- whether one of the first blobs, so many, has an offset
held_or_not : (signature : List ℕ) (offset count : ℕ) → ((k : ℕ) × (k < count) × Holds (blob_span (blob_at signature k)) offset) ⊎ ((k : ℕ) → k < count → ¬ Holds (blob_span (blob_at signature k)) offset)
held_or_not signature offset zero = inr (λ k less. absurd (omega (arith, less)))
held_or_not signature offset (suc count) = elim (held_or_not signature offset count) [
  | inl (k, less, held) ↦ inl (k, omega (arith, less), held)
  | inr none ↦ elim (both_or_not (le_or_not (blob_at signature count).offset offset) (le_or_not (suc offset) ((blob_at signature count).offset + (blob_at signature count).length))) [
    | inl (low, high) ↦ inl (count, omega arith, (low, omega (arith, high)))
    | inr other ↦ inr (λ k less held. elim (cases_lt k count) [
      | inl before ↦ none k before held
      | inr late ↦ let same : k ≡ count = omega (arith, less, late) in
          let here = subst (λ i. Holds (blob_span (blob_at signature i)) offset) same held in
          let low = here.0 in
          let high = here.1 in
          other (low, omega (arith, high))
    ])
  ]
]

-- A code directory none of whose hashes is another

module _ (image : List ℕ) (start : ℕ) (signature blob : List ℕ) (directory : CodeDirectory) (sound : IsSound start blob directory) (whole : directory.limit ≡ start) (none : (place : ℕ) → ¬ HasOtherHash image start signature blob directory place) where
  in_slots : (k : ℕ) → k < directory.code_slots → k < slots_of directory.page_size directory.limit
  in_slots k less = subst (λ n. k < n) sound.slots.slots less

  seals : Seals image start signature blob directory
  seals = record {
    places = λ place less.
        let before : place < directory.limit = omega (arith, less, whole) in
        let slot = subst (λ n. page_of directory.page_size place < n) (sym sound.slots.slots) (page_in_slots directory.page_size directory.limit place before) in
        record {
          slot = slot;
          held = page_holds directory.page_size directory.limit place before;
          only = λ other few held. page_only directory.page_size directory.limit other place before (in_slots other few) held;
          hash = not_not
              (has_hash_or_not directory.hash_type (bytes_in image (page_at directory (page_of directory.page_size place))) (bytes_in blob (code_slot directory (page_of directory.page_size place))))
              (λ other. none (page_at directory (page_of directory.page_size place)).start (inl (page_of directory.page_size place, slot, refl, other)));
        };
    pages = λ k less. let inside = page_inside directory.page_size directory.limit k (in_slots k less) in omega (arith, inside, whole);
    specials = λ k less special.
        not_not (special_or_not blob directory (blob_at signature k).slot (bytes_at signature k))
        (λ other. none (start + (blob_at signature k).offset) (inr ((blob_at signature k).offset, refl, (k, less, refl, (special, other)))));
  }

-- A signature

module _ (image : List ℕ) (start : ℕ) (signature : List ℕ) (signed : IsSignature start signature) (whole : IsWholeSignature start signature)
    (runs : (place : ℕ) → ¬ IsExecutableIn (record { start = start; len = length signature }) image place) (repeated : (offset : ℕ) → ¬ RepeatedDirectory signature offset) (slack : (offset : ℕ) → ¬ NonZeroSlack image start signature offset) (hashes : (place : ℕ) → ¬ BadHash image start signature place) where
  directory_seals : (k : ℕ) → k < blob_count signature → IsDirectoryAt signature k → IsSomeAnd (code_directory (bytes_at signature k)) (Seals image start signature (bytes_at signature k))
  directory_seals k less is = by (code_directory (bytes_at signature k)) (whole.directories k less is) (λ place other. hashes place (k, less, (is, other)))
    where
      by : (read : Option CodeDirectory) → IsSomeAnd read (λ directory. IsSound start (bytes_at signature k) directory × (directory.limit ≡ start))
          → ((place : ℕ) → ¬ IsSomeAnd read (λ directory. HasOtherHash image start signature (bytes_at signature k) directory place))
          → IsSomeAnd read (Seals image start signature (bytes_at signature k))
      by None sound none = absurd sound
      by (Some directory) (sound, limit) none = seals image start signature (bytes_at signature k) directory sound limit none

  is_seal : IsSeal image start signature
  is_seal = record {
    placed = signed;
    directories = directory_seals;
    apart = none_repeated signature repeated;
    executed = executed;
    rest = rest;
  }
    where
      rest : (offset : ℕ) → IsNonZero image (start + offset)
          → (offset < entry_offset (blob_count signature)) ⊎ ((k : ℕ) × (k < blob_count signature) × Holds (blob_span (blob_at signature k)) offset)
      rest offset here = elim (cases_lt offset (entry_offset (blob_count signature))) [
        | inl index ↦ inl index
        | inr past ↦ elim (held_or_not signature offset (blob_count signature)) [ inl held ↦ inr held | inr outside ↦ absurd (slack offset (here, (past, outside))) ]
      ]

      in_signature : (offset : ℕ) → (offset < entry_offset (blob_count signature)) ⊎ ((k : ℕ) × (k < blob_count signature) × Holds (blob_span (blob_at signature k)) offset) → offset < length signature
      in_signature offset (inl index) = let fits = index_inside signature whole.blobs.superblob in omega (arith, index, fits)
      in_signature offset (inr (k, less, held)) = let fits = (signed.placed k less).end in let high = held.1 in omega (arith, high, fits)

      executed : (segment address : ℕ) → Contains (all_segments image) segment → RunsAt image address segment
          → IsNonZero image (fileoff image segment + (address - vmaddr image segment)) → fileoff image segment + (address - vmaddr image segment) < start
      executed segment address has (supplied, filled, code) nonzero = elim (cases_lt (fileoff image segment + (address - vmaddr image segment)) start) [
        | inl before ↦ before
        | inr past ↦
            let place = fileoff image segment + (address - vmaddr image segment) in
            let low = supplied.0 in
            let high = supplied.1 in
            let here : start + (place - start) ≡ place = omega (arith, past) in
            let within = in_signature (place - start) (rest (place - start) (subst (IsNonZero image) (sym here) nonzero)) in
            absurd (runs segment (
              has,
              (omega (arith, low, high), lt-ltb 0 _ (omega (arith, code)), (place, (omega arith, omega (arith, low, filled)), (omega (arith, past), omega (arith, past, within)))),
            ))
      ]

-- An image

signature_or_none : (command : Option ℕ) (table_of : ℕ → Span)
    → ((table : Span) × IsSomeAnd command (λ c. (table ≡ table_of c) × (0 < table.len))) ⊎ ((table : Span) → ¬ IsSomeAnd command (λ c. (table ≡ table_of c) × (0 < table.len)))
signature_or_none None table_of = inr (λ table is. is)
signature_or_none (Some c) table_of = elim (cases_lt 0 (table_of c).len) [
  | inl some ↦ inl (table_of c, (refl, some))
  | inr none ↦ inr (λ table (is, some). let empty : 0 < (table_of c).len = subst (λ (t : Span). 0 < t.len) is some in absurd (omega (arith, none, empty)))
]

sealed_image : (image : List ℕ) → NothingBreaks (Breaks image None) → NothingBreaks (BreaksLinked image) → NothingBreaks (BreaksImage image) → IsSealed image
sealed_image image layout linked kept =
    elim (signature_or_none (first_with_cmd image loader.LC_CODE_SIGNATURE (commands_of image)) (λ c. bytes_of_table (table_at image c linkedit_data_table))) [
      | inl (table, is) ↦ (table, is, sealed table is)
      | inr none ↦ absurd (kept rule.SignatureMissing 0 (refl, λ (table, is, has). none table is))
    ]
  where
    sealed : (table : Span) → IsDataTable image loader.LC_CODE_SIGNATURE table → IsSeal image table.start (part table.start table.len image)
    sealed table is =
        is_seal image table.start (part table.start table.len image)
        (signed_image image (linked rule.SignatureBlob) (linked rule.SignatureDirectory) (linked rule.SignatureWhole) table is)
        (whole_signature image linked table is)
        (λ place broken. kept rule.SignatureExecutable place (
          table,
          is,
          subst (λ (len : ℕ). IsExecutableIn (record { start = table.start; len = len }) image place)
              (length-part table.start table.len image (data_table_inside image loader.LC_CODE_SIGNATURE refl layout table is)) broken,
        ))
        (λ offset broken. kept rule.DirectoryRepeated (table.start + offset) (table, is, (offset, refl, broken)))
        (λ offset broken. kept rule.SignatureSlack (table.start + offset) (table, is, (offset, refl, broken)))
        (λ place broken. kept rule.SignatureHash place (table, is, broken))

-- A file

pub file_sealed : (file : List ℕ) → IsUnbroken file → IsLinkedUnbroken file → IsSealedUnbroken file → AreSealed file
file_sealed = of_images IsSealed sealed_image
