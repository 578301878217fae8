use Rattle.std.proofs.Common.{refl}
use Rattle.macho_fields.specs.Bytes.{bytes_of}
use Rattle.std.proofs.lemmas.Bool.{false≢true}
use Rattle.macho_alike.specs.Definitions.{name_of}
use Rattle.macho_alike.specs.Imports.{IsLookUp, library_of}
use Rattle.macho_alike.specs.NotedLibraries.{by_name}
use Rattle.macho_alike.proofs.NotedLibraries.{has_other}
use Rattle.macho_alike.proofs.imports.is_from_other.Goals as goal

pub returns-in-Some : goal.returns-in-Some
returns-in-Some c symtab begins noted =
    let image = bytes_of c.args.image in
    let symbol = c.args.symbol in
    let name = c.in-Some.ensures.name symtab begins in
    let known = has_other (IsLookUp image) (by_name c.args.known.now) noted (name_of image symtab symbol) (library_of symbol) in
    let says = rw (name, c.library_of.ensures) at c.has_other.ensures in
    let imports = c.in-Some.ensures.named.0 refl in (
      λ t. let (from, looks, apart) = known.0 (says.0 t) in (imports, (from, looks, apart)),
      λ (imported, (from, looks, apart)). says.1 (known.1 (from, looks, apart)),
    )

pub returns-in-None : goal.returns-in-None
returns-in-None c symtab begins noted = (λ wrong. absurd (cc), λ (imported, other). absurd (false≢true (c.in-None.ensures.named.1 imported)))
