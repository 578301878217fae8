use Rattle.std.proofs.Common.{◌≡◌, ℕ, List, subst}
use Rattle.macho_rows.specs.Image.{image_in}
use Rattle.macho_fixups.specs.Batch.{IsBatch}
use Rattle.macho_fixups.specs.Fixups.{start, imports_left, all_imports}
use Rattle.macho_c.proofs.fixups.kesvuot_read_imports.Goals as goal

pub returns-clause-rows : goal.returns-clause-rows
returns-clause-rows c =
    let held = c.held.result in
    let image = image_in c.args.file.now c.args.image.now in
    let call = c.read_imports in
    subst (λ (place : ℕ). IsBatch (imports_left place image) c.args.cursor.now call.new.cursor call.result c.args.rows.now call.new.rows) c.held.ensures.place
    (subst (λ (bytes : List ℕ). IsBatch (imports_left held.place bytes) c.args.cursor.now call.new.cursor call.result c.args.rows.now call.new.rows) c.held.ensures.bytes call.ensures.rows)

pub returns-clause-all : goal.returns-clause-all
returns-clause-all c =
    let held = c.held.result in
    let image = image_in c.args.file.now c.args.image.now in
    subst (λ (place : ℕ). imports_left place image start ≡ all_imports place image) c.held.ensures.place
    (subst (λ (bytes : List ℕ). imports_left held.place bytes start ≡ all_imports held.place bytes) c.held.ensures.bytes c.read_imports.ensures.all)
