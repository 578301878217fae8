-- The code directories of a signature, each at the number of its slot.
use Rattle.std.proofs.Common.{◌≡◌, ℕ, ◌+◌, ◌<◌, List, get_or, Option, None, Some, true, false, refl, sym, ◌∙◌, subst, arith, inl, inr}
use Rattle.std.specs.Prelude.{IfSome, IsSomeAnd}
use Rattle.std.proofs.lemmas.Bool.{cases_lt, cases_eq, false≢true}
use Rattle.std.proofs.lemmas.Grind.{get_or-set_at}
use Rattle.std.proofs.lemmas.List.{length-set, get_or-set_other}
use Rattle.std.proofs.Math.ListN.{set}
use Rattle.macho_fields.specs.Bytes.{bytes_of}
use Rattle.macho_fields.proofs.Options.{some_of, of_some, some_has, of_none}
use Rattle.macho_seals.specs.Signature.{AreApart}
use Rattle.macho_seals.specs.Directories.{EachDirectory, AnyDirectory, IsDirectoryOf, IsDirectoryAmong, AreDirectories, IsWholeBefore, HasHashesInside}
use Rattle.macho_seals.specs.Good.{IsWholeSignature}
use Rattle.macho_seals.specs.Slots.{slot_number}
use Rattle.macho_seals.specs.declared.directories.Directory.{Directory}
use Rattle.macho_seals.proofs.TakenSlots.{number_fits, same_number}
use Rattle.macho_signature.specs.CodeDirectories.{code_directory, IsSound}
use Rattle.macho_signature.specs.Signature.{IsDirectoryAt, bytes_at}
use Rattle.macho_signature.specs.Superblobs.{blob_at, blob_count, is_directory_slot}
use Rattle.macho_signature.specs.declared.code_directory.CodeDirectory.{CodeDirectory}

-- Of each, and of one

module _ (directories : List (Option Directory)) (E : Directory → Type 0) (each : EachDirectory directories E) where
  -- what holds of each holds of one that is there
  pub at_number : (n : ℕ) (one : Directory) → get_or directories n None ≡ Some one → E one
  at_number n one is = subst (λ (o : Option Directory). IfSome o E) is (each n)

  pub any_gives : (P : Directory → Type 0) (C : Type 0) → ((one : Directory) → E one → P one → C) → AnyDirectory directories P → C
  any_gives P C give (n, has) = let (one, is, here) = some_of P (get_or directories n None) has in give one (at_number n one is) here

  pub any_turned : (P Q : Directory → Type 0) → ((one : Directory) → E one → P one → Q one) → AnyDirectory directories P → AnyDirectory directories Q
  any_turned P Q turn (n, has) =
      let (one, is, here) = some_of P (get_or directories n None) has in
      (n, of_some Q (get_or directories n None) one is (turn one (at_number n one is) here))

-- a fact of one gives another
pub any_mapped : (directories : List (Option Directory)) (P Q : Directory → Type 0) → ((one : Directory) → P one → Q one) → AnyDirectory directories P → AnyDirectory directories Q
any_mapped directories P Q turn (n, has) = let (one, is, here) = some_of P (get_or directories n None) has in (n, of_some Q (get_or directories n None) one is (turn one here))

-- and so does a fact of each
pub each_turned : (directories : List (Option Directory)) (P Q : Directory → Type 0) → ((one : Directory) → P one → Q one) → EachDirectory directories P → EachDirectory directories Q
each_turned directories P Q turn each n = by (get_or directories n None) (each n)
  where
    by : (found : Option Directory) → IfSome found P → IfSome found Q
    by None none = tt
    by (Some one) has = turn one has

-- the hashes of whole ones lie in their blobs
pub each_inside : (directories : List (Option Directory)) (limit : ℕ) → EachDirectory directories (IsWholeBefore limit) → EachDirectory directories HasHashesInside
each_inside directories limit = each_turned directories (IsWholeBefore limit) HasHashesInside (λ one is. is.0.hashes)

-- Those of the first entries

module _ (signature : List ℕ) (k : ℕ) (directories : List (Option Directory)) (are : AreDirectories signature k directories) where
  further : (found : Option Directory) → IfSome found (λ one. IsDirectoryAmong signature k (Some one)) → IfSome found (λ one. IsDirectoryAmong signature (k + 1) (Some one))
  further None none = tt
  further (Some one) (j, less, is, that) = (j, omega (arith, less), is, that)

  -- the entry k is in no slot of code directories
  pub none_more_placed : is_directory_slot (blob_at signature k).slot ≡ false → AreDirectories signature (k + 1) directories
  none_more_placed other = record {
    size = are.size;
    placed = λ j less is. elim (cases_lt j k) [
      | inl before ↦ are.placed j before is
      | inr late ↦
          let same : j ≡ k = omega (arith, less, late) in
          absurd (false≢true (sym other ∙ subst (λ i. is_directory_slot (blob_at signature i).slot ≡ true) same is))
    ];
    only = λ n. further (get_or directories n None) (are.only n);
  }

  -- it is in one, and no other entry is in that
  pub one_more_placed : AreApart signature → k < blob_count signature → is_directory_slot (blob_at signature k).slot ≡ true
      → (found : Option Directory) → IsDirectoryOf (bytes_at signature k) found → AreDirectories signature (k + 1) (set directories (slot_number (blob_at signature k).slot) found)
  one_more_placed apart below is_directory found is = record { size = length-set directories number found ∙ are.size; placed = placed; only = only }
    where
      number : ℕ
      number = slot_number (blob_at signature k).slot

      at : (n : ℕ) → n ≡ number → get_or (set directories number found) n None ≡ found
      at n same = let fits = number_fits (blob_at signature k).slot is_directory in get_or-set_at directories number n found None same (omega (arith, fits, are.size))

      placed : (j : ℕ) → j < k + 1 → IsDirectoryAt signature j
          → IsDirectoryOf (bytes_at signature j) (get_or (set directories number found) (slot_number (blob_at signature j).slot) None)
      placed j less there = elim (cases_lt j k) [
        | inl before ↦
            subst (IsDirectoryOf (bytes_at signature j))
            (sym (get_or-set_other directories number (slot_number (blob_at signature j).slot) found None
            (λ same. apart j k before below is_directory (same_number (blob_at signature j).slot (blob_at signature k).slot there is_directory same))))
            (are.placed j before there)
        | inr late ↦
            let same : j ≡ k = omega (arith, less, late) in
            subst (λ i. IsDirectoryOf (bytes_at signature i) (get_or (set directories number found) (slot_number (blob_at signature i).slot) None)) (sym same)
            (subst (IsDirectoryOf (bytes_at signature k)) (sym (at number refl)) is)
      ]

      here : (read : Option Directory) → IsDirectoryOf (bytes_at signature k) read → IfSome read (λ one. IsDirectoryAmong signature (k + 1) (Some one))
      here None none = tt
      here (Some one) that = (k, omega arith, is_directory, that)

      only : EachDirectory (set directories number found) (λ one. IsDirectoryAmong signature (k + 1) (Some one))
      only n = elim (cases_eq n number) [
        | inl same ↦ subst (λ (o : Option Directory). IfSome o (λ one. IsDirectoryAmong signature (k + 1) (Some one))) (sym (at n same)) (here found is)
        | inr other ↦
            subst (λ (o : Option Directory). IfSome o (λ one. IsDirectoryAmong signature (k + 1) (Some one)))
            (sym (get_or-set_other directories number n found None other)) (further (get_or directories n None) (are.only n))
      ]

-- Those of all entries

module _ (signature : List ℕ) (directories : List (Option Directory)) (are : AreDirectories signature (blob_count signature) directories) where
  -- each is whole
  pub each_whole : (start : ℕ) → IsWholeSignature start signature → EachDirectory directories (IsWholeBefore start)
  each_whole start whole n = by (get_or directories n None) (are.only n)
    where
      by : (found : Option Directory) → IfSome found (λ one. IsDirectoryAmong signature (blob_count signature) (Some one)) → IfSome found (IsWholeBefore start)
      by None none = tt
      by (Some one) (k, less, is, (bytes, read)) =
          subst (λ (blob : List ℕ). IsSound start blob one.fields × (one.fields.limit ≡ start)) (sym bytes)
          (some_has (λ fields. IsSound start (bytes_at signature k) fields × (fields.limit ≡ start)) (code_directory (bytes_at signature k)) one.fields read (whole.directories k less is))

  -- a rule of one of them is an entry's
  module _ (Rule : List ℕ → CodeDirectory → Type 0) where
    abbrev OfEntry : Type 0
    OfEntry = (k : ℕ) × (k < blob_count signature) × (IsDirectoryAt signature k × IsSomeAnd (code_directory (bytes_at signature k)) (Rule (bytes_at signature k)))

    pub to_entry : AnyDirectory directories (λ one. Rule (bytes_of one.blob) one.fields) → OfEntry
    to_entry (n, has) = by (get_or directories n None) (are.only n) has
      where
        by : (found : Option Directory) → IfSome found (λ one. IsDirectoryAmong signature (blob_count signature) (Some one)) → IsSomeAnd found (λ one. Rule (bytes_of one.blob) one.fields) → OfEntry
        by None none broken = absurd broken
        by (Some one) (k, less, is, (bytes, read)) broken =
            (k, less, (is, of_some (Rule (bytes_at signature k)) (code_directory (bytes_at signature k)) one.fields read (subst (λ (blob : List ℕ). Rule blob one.fields) bytes broken)))

    pub from_entry : OfEntry → AnyDirectory directories (λ one. Rule (bytes_of one.blob) one.fields)
    from_entry (k, less, (is, broken)) = (slot_number (blob_at signature k).slot, by (get_or directories (slot_number (blob_at signature k).slot) None) (are.placed k less is))
      where
        by : (found : Option Directory) → IsDirectoryOf (bytes_at signature k) found → IsSomeAnd found (λ one. Rule (bytes_of one.blob) one.fields)
        by None none = absurd (of_none (Rule (bytes_at signature k)) (code_directory (bytes_at signature k)) none broken)
        by (Some one) (bytes, read) =
            subst (λ (blob : List ℕ). Rule blob one.fields) (sym bytes) (some_has (Rule (bytes_at signature k)) (code_directory (bytes_at signature k)) one.fields read broken)
