-- Parts of lines that the writers put at once, and the line of a library that the image does not name itself.
use Rattle.std.specs.Prelude.{ℕ, ◌==◌, List, [], ◌∷◌, ◌++◌, codes, if◌then◌else◌}
use Rattle.macho_fields.specs.declared.header.loader.TheConstants as loader
use Rattle.macho_image.specs.Library.{DylibView}
use Rattle.macho_text.specs.Number.{hex}
use Rattle.macho_text.specs.Stream.{joined}
use Rattle.macho_lines.specs.Line.{library_word, library_line}

-- the line of a library as an image gives it, and nothing for the image itself
abbrev pub linked_text : DylibView → List ℕ
linked_text library =
    if library.cmd == loader.LC_ID_DYLIB then []
    else library_line library.cmd library.name library.current library.compatible

-- a part of memory or of a file: a word that ends in `0x`, its first place, and its size
abbrev pub extent_text : List ℕ → ℕ → ℕ → List ℕ
extent_text word start size =
    joined (word ∷ hex start ∷ codes " size 0x" ∷ hex size ∷ [])

-- how the line of a library begins, which is one part of it
abbrev pub library_start : ℕ → List ℕ
library_start cmd = codes "  " ++ library_word cmd ++ codes " "
