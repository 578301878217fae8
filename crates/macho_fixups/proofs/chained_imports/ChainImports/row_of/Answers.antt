use Rattle.std.proofs.Common.{subst, sym}
use Rattle.macho_fields.specs.Bytes.{bytes_of}
use Rattle.macho_chains.specs.ChainImports.{import_offset}
use Rattle.macho_chains.specs.declared.chain_imports.Import.{Import}
use Rattle.macho_fixups.specs.ChainedImports.{IsNear}
use Rattle.macho_fixups.proofs.ChainImportRows.{import_near}
use Rattle.macho_fixups.proofs.chained_imports.ChainImports.row_of.Goals as goal

pub library_of-requires : goal.library_of-requires
library_of-requires c =
    let header = c.args.self.now.header in
    subst (λ (it : Import). IsNear it.ordinal) (sym c.import.ensures)
    (import_near (bytes_of c.args.self.now.table.bytes) header.imports_format (import_offset header c.args.index))
