use Rattle.std.proofs.Common.{ℕ, sym, ◌∙◌, subst}
use Rattle.macho_fields.specs.Bytes.{bytes_of}
use Rattle.macho_fields.specs.FirstPlace.{IsLeastPlace}
use Rattle.macho_chains.specs.ChainImports.{BreaksChainLibrary}
use Rattle.macho_chains.proofs.ChainTables.{survey_headed}
use Rattle.macho_chains.proofs.chains.survey.Goals as goal

pub returns : goal.returns
returns c =
    let chains = bytes_of c.args.table.bytes in
    let found = c.of-imports.ensures in
    let library = subst (λ (n : ℕ). IsLeastPlace (BreaksChainLibrary n chains c.in-Some.header) c.of-imports.result.library) c.library_count.ensures found.library in
    survey_headed c.args.image.now chains c.in-Some.header (sym c.requires ∙ c.in-Some.is) _ _ _ _ c.chain_starts.ensures found.imports found.total library
