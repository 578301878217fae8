use Rattle.std.proofs.Common.{◌≡◌, ◌+◌, List, ℕ, sym, ap, ◌∙◌, subst}
use Rattle.std.proofs.Math.ListN.{set}
use Rattle.macho_fields.specs.Bytes.{bytes_of}
use Rattle.macho_seals.specs.Directories.{IsDirectoryOf, AreDirectories}
use Rattle.macho_seals.specs.Slots.{slot_number}
use Rattle.macho_seals.proofs.Blobs.{counted}
use Rattle.macho_seals.proofs.PlacedDirectories.{none_more_placed, one_more_placed}
use Rattle.macho_signature.specs.Signature.{bytes_at}
use Rattle.macho_signature.specs.Superblobs.{blob_at, blob_bytes, is_directory_slot}
use Rattle.macho_signature.specs.declared.superblob.Blob.{Blob}
use Rattle.macho_seals.proofs.directories.directories_of.Goals as goal
use Rattle.macho_seals.proofs.directories.directories_of.Goals.{then-is_directory, else-is_directory}

pub loop-index-preserved : goal.loop-index-preserved
loop-index-preserved c =
    let signature = bytes_of c.args.signature in
    let k = c.loop-index.index in
    let directories = c.loop-index.directories in
    let are = c.loop-index.invariant in
    let is = c.blob_at-blob.ensures.blob in
    let answer = ap (λ (b : Blob). is_directory_slot b.slot) (sym is) ∙ sym c.is_directory.ensures in
    elim c.if-is_directory.branch [
      | then-is_directory w ↦
          let below = counted signature _ c.superblob_of-superblob.ensures k c.loop-index-test.true in
          let number : w.slot_number.result ≡ slot_number (blob_at signature k).slot = w.slot_number.ensures.number ∙ ap (λ (b : Blob). slot_number b.slot) is in
          let bytes : w.blob_bytes.result.now ≡ bytes_at signature k = w.blob_bytes.ensures ∙ ap (blob_bytes signature) is in
          let found = subst (λ (blob : List ℕ). IsDirectoryOf blob w.directory_of.result) bytes w.directory_of.ensures in
          subst (AreDirectories signature (k + 1)) (sym (w.directories-is ∙ ap (λ n. set directories n w.directory_of.result) number))
          (one_more_placed signature k directories are c.requires.apart below (answer ∙ w.if-is_directory.true) w.directory_of.result found)
      | else-is_directory w ↦
          subst (AreDirectories signature (k + 1)) (sym w.directories-is) (none_more_placed signature k directories are (answer ∙ w.if-is_directory.false))
    ]
