use Rattle.std.proofs.Common.{◌∙◌, ap, slice_get}
use Rattle.macho_fields.specs.Bytes.{bytes_of}
use Rattle.macho_fields.specs.Universal.{slices_of}
use Rattle.macho_explain.proofs.ListedEntries.{listed_at}
use Rattle.macho_explain.proofs.entries.slice_with_index.Goals as goal

pub returns-in-Ok-clause-listed : goal.returns-in-Ok-clause-listed
returns-in-Ok-clause-listed c = listed_at (bytes_of c.args.file) c.args.index c.in-Ok.slice (c.in-Ok.ensures.slice ∙ ap (slice_get (slices_of (bytes_of c.args.file))) c.from.ensures)
