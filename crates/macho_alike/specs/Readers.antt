-- The facts with which the symbols of an image are compared.
use Rattle.std.specs.Prelude.{◌≡◌, ◌↔◌, ℕ, List, IsTrue}
use Rattle.std.specs.Option.{option_map}
use Rattle.macho_fields.specs.Image.{commands_of}
use Rattle.macho_fields.specs.Symbol.{symoff, stroff}
use Rattle.macho_fields.specs.declared.header.loader.TheConstants.{LC_DYSYMTAB}
use Rattle.macho_image.specs.Command.{first_with_cmd}
use Rattle.macho_image.specs.Symbol.{dysymtab_at}
use Rattle.macho_alike.specs.Symbols.{ShowsString}
use Rattle.macho_alike.specs.declared.symbols.Readers.{Readers}

-- they hold of the image and its symbol table
pub record AreReaders (image : List ℕ) (symtab : ℕ) (readers : Readers) : Type 0 where
  pub symbols : readers.symoff ≡ symoff image symtab
  pub groups : readers.groups ≡ option_map (dysymtab_at image) (first_with_cmd image LC_DYSYMTAB (commands_of image))
  pub string : IsTrue readers.shows_string ↔ ShowsString image (stroff image symtab)
