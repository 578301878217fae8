use Rattle.std.proofs.Common.{◌≡◌, ℕ, List, subst}
use Rattle.macho_fixups.specs.Batch.{IsBatch}
use Rattle.macho_fixups.specs.Fixups.{start, fixups_left, all_fixups}
use Rattle.macho_c.proofs.fixups.kesvuot_read_fixups.Goals as goal

pub returns-clause-rows : goal.returns-clause-rows
returns-clause-rows c =
    let call = c.read_fixups in
    subst (λ (image : List ℕ). IsBatch (fixups_left c.args.image.now.base image) c.args.cursor.now call.new.cursor call.result c.args.rows.now call.new.rows) c.held.ensures.bytes call.ensures.rows

pub returns-clause-all : goal.returns-clause-all
returns-clause-all c =
    let base = c.args.image.now.base in
    subst (λ (image : List ℕ). fixups_left base image start ≡ all_fixups base image) c.held.ensures.bytes c.read_fixups.ensures.all
