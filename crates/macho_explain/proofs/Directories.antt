-- The code directories of a signature, as they are read.
use Rattle.std.proofs.Common.{◌≡◌, ◌∙◌, ◌<◌, List, ℕ, Option, None, Some, true, ap, sym, subst}
use Rattle.std.specs.Prelude.{IfNone, IfSome, is_some}
use Rattle.std.proofs.lemmas.Bool.{false≢true}
use Rattle.macho_identity.specs.DirectoryAgree.{HasDirectory, IsFirstDirectory}
use Rattle.macho_signature.specs.CodeDirectories.{code_directory}
use Rattle.macho_signature.specs.Signature.{bytes_at}
use Rattle.macho_signature.specs.Superblobs.{blob_at, is_directory_slot}
use Rattle.macho_signature.specs.declared.code_directory.CodeDirectory.{CodeDirectory}
use Rattle.macho_signature.specs.declared.superblob.Blob.{Blob}
use Rattle.macho_explain.specs.Identities.{HasHashType, ReadsDirectory}
use Rattle.macho_explain.specs.declared.identity.Placed.{Placed}

-- what is read of a blob in a slot of code directories, whose bytes these are
module _ (signature : List ℕ) (blob : Blob) (read : List ℕ) (found : Option CodeDirectory) (bytes : (k : ℕ) → blob ≡ blob_at signature k → read ≡ bytes_at signature k) (is : found ≡ code_directory read) where
  pub reads_some : is_directory_slot blob.slot ≡ true → IfSome found (λ fields. (k : ℕ) → blob ≡ blob_at signature k → ReadsDirectory signature k fields)
  reads_some slot = by_found found is
    where
      by_found : (o : Option CodeDirectory) → o ≡ code_directory read → IfSome o (λ fields. (k : ℕ) → blob ≡ blob_at signature k → ReadsDirectory signature k fields)
      by_found None none = tt
      by_found (Some d) some = λ k at. (ap (λ (b : Blob). is_directory_slot b.slot) (sym at) ∙ slot, ap code_directory (sym (bytes k at)) ∙ sym some)

  pub reads_none : IfNone found ((k : ℕ) → blob ≡ blob_at signature k → ¬ HasDirectory signature k)
  reads_none = by_found found is
    where
      by_found : (o : Option CodeDirectory) → o ≡ code_directory read → IfNone o ((k : ℕ) → blob ≡ blob_at signature k → ¬ HasDirectory signature k)
      by_found None none = λ k at has.
          let absent : code_directory (bytes_at signature k) ≡ None = ap code_directory (sym (bytes k at)) ∙ sym none in
          false≢true (sym (ap is_some absent) ∙ has.1)
      by_found (Some d) some = tt

-- it is one
pub read_there : (signature : List ℕ) (k : ℕ) (fields : CodeDirectory) → ReadsDirectory signature k fields → HasDirectory signature k
read_there signature k fields (slot, is) = (slot, ap is_some is)

pub hash_shown : (signature : List ℕ) (k : ℕ) (fields : CodeDirectory) (type : ℕ) → ReadsDirectory signature k fields → type ≡ fields.hash_type → HasHashType signature k type
hash_shown signature k fields type (slot, is) same = rw is same

-- the one of an entry is the first, where no earlier entry has one
pub first_found : (signature : List ℕ) (index : ℕ) (found : Option Placed) → IfSome found (λ placed. (placed.index ≡ index) × ReadsDirectory signature index placed.fields)
    → ((j : ℕ) → j < index → ¬ HasDirectory signature j)
    → IfSome found (λ placed. IsFirstDirectory signature placed.index × ReadsDirectory signature placed.index placed.fields)
first_found signature index None is none = tt
first_found signature index (Some placed) (same, reads) none =
    subst (λ (k : ℕ). IsFirstDirectory signature k × ReadsDirectory signature k placed.fields) (sym same)
    ((read_there signature index placed.fields reads, none), reads)
