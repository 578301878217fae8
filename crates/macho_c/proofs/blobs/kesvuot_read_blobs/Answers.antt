use Rattle.std.proofs.Common.{ℕ, List, subst}
use Rattle.macho_c.specs.Blobs.{blobs_left}
use Rattle.macho_rows.specs.Cursor.{IsBatch}
use Rattle.macho_rows.specs.Image.{image_in}
use Rattle.macho_c.proofs.PlacedBlobs.{has_blobs}
use Rattle.macho_c.proofs.blobs.kesvuot_read_blobs.Goals as goal

pub returns-clause-rows : goal.returns-clause-rows
returns-clause-rows c =
    let held = c.held.result in
    subst (λ place. IsBatch (blobs_left place (image_in c.args.file.now c.args.image.now)) c.args.cursor.now c.fill.new.cursor c.fill.result c.args.rows.now c.fill.new.rows) c.held.ensures.place
    (subst (λ (image : List ℕ). IsBatch (blobs_left held.place image) c.args.cursor.now c.fill.new.cursor c.fill.result c.args.rows.now c.fill.new.rows) c.held.ensures.bytes c.fill.ensures)

pub returns-clause-all : goal.returns-clause-all
returns-clause-all c = λ shows. has_blobs c.args.file.now c.args.image.now shows
