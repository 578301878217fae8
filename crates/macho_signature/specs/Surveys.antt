-- What the entries of a signature say of its code directories, and where they first break their rules.
use Rattle.std.specs.Prelude.{◌≡◌, ◌↔◌, ℕ, ◌==◌, ◌||◌, List, false, Option, Some, None, IsTrue, if◌then◌else◌}
use Rattle.std.specs.Option.{option_map_or}
use Rattle.macho_fields.specs.FirstPlace.{IsNoted, IsLeastPlace}
use Rattle.macho_tables.specs.Items.{AtItem}
use Rattle.macho_signature.specs.Signature.{HasMain, IsUnsound, IsPartial, BadDirectory, PartialDirectory, BreaksSignatureBlob, BreaksSignatureDirectory, BreaksSignatureWhole}
use Rattle.macho_signature.specs.Superblobs.{entry_offset, blob_at, BadBlob}
use Rattle.macho_fields.specs.declared.header.cs_blobs.TheConstants as cs
use Rattle.macho_signature.specs.declared.survey.Directories.{Directories}
use Rattle.macho_signature.specs.declared.survey.SignatureSurvey.{SignatureSurvey}

-- of the first entries, so many
pub record AreDirectories (start : ℕ) (signature : List ℕ) (count : ℕ) (directories : Directories) : Type 0 where
  pub main : IsTrue directories.has_main ↔ HasMain signature count
  pub unsound : IsLeastPlace (AtItem entry_offset count (IsUnsound start signature)) directories.unsound
  pub partial : IsLeastPlace (AtItem entry_offset count (IsPartial start signature)) directories.partial

-- with the entry k
pub record AreNextDirectories (start : ℕ) (signature : List ℕ) (k : ℕ) (old : Directories) (new : Directories) : Type 0 where
  pub main : new.has_main ≡ (old.has_main || (blob_at signature k).slot == cs.CSSLOT_CODEDIRECTORY)
  pub unsound : IsNoted (IsUnsound start signature k) (entry_offset k) old.unsound new.unsound
  pub partial : IsNoted (IsPartial start signature k) (entry_offset k) old.partial new.partial

-- the least offsets in a signature at which the rules are broken
pub record AreLeastInSignature (start : ℕ) (signature : List ℕ) (survey : SignatureSurvey) : Type 0 where
  pub blob : IsLeastPlace (BadBlob signature) survey.blob
  pub directory : IsLeastPlace (BadDirectory start signature) survey.directory
  pub whole : IsLeastPlace (PartialDirectory start signature) survey.whole

-- before the first entry
abbrev pub directories_before : Directories
directories_before = record { has_main = false; unsound = None; partial = None }

-- Of all entries, of a signature that does not break signature-blob. Where no directory is in the slot that each
-- signature has, or one is not sound, signature-whole is not judged.
abbrev pub first_unsound : Directories → Option ℕ
first_unsound directories = if directories.has_main then directories.unsound else Some 0

abbrev pub survey_of : Directories → SignatureSurvey
survey_of directories = record {
  blob = None;
  directory = first_unsound directories;
  whole = option_map_or (λ offset. None) (first_unsound directories) directories.partial;
}

-- the least places in an image
pub record AreLeastInImage (image : List ℕ) (survey : SignatureSurvey) : Type 0 where
  pub blob : IsLeastPlace (BreaksSignatureBlob image) survey.blob
  pub directory : IsLeastPlace (BreaksSignatureDirectory image) survey.directory
  pub whole : IsLeastPlace (BreaksSignatureWhole image) survey.whole
