-- The header of an opened image. (mach-o/loader.h: mach_header_64)
use Rattle.std.specs.Prelude.{◌≡◌, ℕ, List, IsSomeAnd}
use Rattle.macho_fields.specs.FileTypes.{file_type_of}
use Rattle.macho_fields.specs.Image.{file_type}
use Rattle.macho_fields.specs.declared.file_type.Kind.{Kind}

-- the filetype of the image is the kind's
abbrev pub IsKind : List ℕ → Kind → Type 0
IsKind image kind = IsSomeAnd (file_type_of (file_type image)) (λ listed. listed.kind ≡ kind)
