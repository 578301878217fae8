-- The filetypes that are judged. (mach-o/loader.h: mach_header_64.filetype)
use Rattle.std.specs.Prelude.{ℕ, ◌==◌, List, [], ◌∷◌, find, codes, Option, Bool, true, false}
use Rattle.macho_fields.specs.declared.file_type.FileType.{FileType}
use Rattle.macho_fields.specs.declared.file_type.Kind.{Kind}
use Rattle.macho_fields.specs.declared.file_type.Kind.TheVariants as kind
use Rattle.macho_fields.specs.declared.header.loader.TheConstants as loader

-- a filetype: its number, what the image is, the word for it in the report, and whether the image
-- names itself by an LC_ID_DYLIB
pub record FileTypeView : Type 0 where
  pub number : ℕ
  pub kind : Kind
  pub word : List ℕ
  pub names_itself : Bool

abbrev pub file_type_view : FileType → FileTypeView
file_type_view listed = record {
  number = listed.number;
  kind = listed.kind;
  word = listed.word.now;
  names_itself = listed.names_itself;
}

abbrev pub line : ℕ → Kind → List ℕ → Bool → FileTypeView
line number kind word names_itself = record {
  number = number;
  kind = kind;
  word = word;
  names_itself = names_itself;
}

abbrev pub file_types : List FileTypeView
file_types =
    line loader.MH_EXECUTE kind.Execute (codes "execute") false
    ∷ line loader.MH_DYLIB kind.Dylib (codes "dylib") true
    ∷ line loader.MH_BUNDLE kind.Bundle (codes "bundle") false
    ∷ []

-- the filetype with a number
abbrev pub file_type_of : ℕ → Option FileTypeView
file_type_of number = find (λ listed. listed.number == number) file_types
