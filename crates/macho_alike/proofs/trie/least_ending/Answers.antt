use Rattle.std.proofs.Common.{◌∙◌, Option, sym, subst}
use Rattle.std.specs.Prelude.{IsSomeAnd}
use Rattle.macho_fields.specs.Bytes.{bytes_of}
use Rattle.macho_fields.specs.FirstPlace.{IsLeastPlace}
use Rattle.macho_alike.specs.TrieWalks.{EndsUnlike}
use Rattle.macho_alike.specs.declared.trie.ImageExport.{ImageExport}
use Rattle.macho_alike.proofs.trie.least_ending.Goals as goal

pub returns : goal.returns
returns c =
    subst
    (λ (found : Option ImageExport). IsLeastPlace (λ place. IsSomeAnd found (λ export. EndsUnlike (bytes_of c.args.image) c.args.names.now c.args.branch c.args.base export place)) c.least_unlike_export.result)
    (sym (sym c.image_export.ensures ∙ c.in_ok-export.was)) c.least_unlike_export.ensures
