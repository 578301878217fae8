use Rattle.std.proofs.Common.{◌≡◌, List, ℕ, sym, ap, ◌∙◌, subst}
use Rattle.macho_fields.specs.Bytes.{bytes_of}
use Rattle.macho_fields.specs.Field.{part}
use Rattle.macho_fields.specs.FirstPlace.{IsLeastPlace}
use Rattle.macho_identity.specs.DirectoryAgree.{IsDisagreeing, DisagreeingDirectory, BreaksDirectoryAgree}
use Rattle.macho_identity.proofs.Images.{blobs_in_image, entry_near}
use Rattle.macho_signature.specs.Superblobs.{AreGoodBlobs}
use Rattle.macho_signature.proofs.Images.{none_in_signature, least_in_signature, fits_in_signature}
use Rattle.macho_identity.proofs.directory_agree.directory_agree.Goals as goal

pub returns-in_default : goal.returns-in_default
returns-in_default c = none_in_signature c.args.image.now (λ start. DisagreeingDirectory) c.in_default.ensures.table

pub first_disagreeing-requires : goal.first_disagreeing-requires
first_disagreeing-requires c =
    let image = c.args.image.now in
    let table = c.in-Some.table in
    let bytes : bytes_of c.slice.result ≡ part table.start table.len image = c.slice.ensures ∙ ap (part table.start table.len) c.bytes.ensures.bytes in
    subst AreGoodBlobs (sym bytes) (blobs_in_image image c.requires.blob table c.in-Some.ensures.table)

pub place_from-requires : goal.place_from-requires
place_from-requires c =
    let image = c.args.image.now in
    let table = c.in-Some.table in
    let signature = part table.start table.len image in
    let bytes : bytes_of c.slice.result ≡ signature = c.slice.ensures ∙ ap (part table.start table.len) c.bytes.ensures.bytes in
    let found = subst (λ (these : List ℕ). IsLeastPlace (DisagreeingDirectory these) c.first_disagreeing.result) bytes c.first_disagreeing.ensures in
    let near = entry_near signature (blobs_in_image image c.requires.blob table c.in-Some.ensures.table) (IsDisagreeing signature) in
    fits_in_signature image (λ start. DisagreeingDirectory) table c.in-Some.ensures.table c.first_disagreeing.result found near c.in-Some.ensures.inside c.bytes.ensures.fits

pub returns : goal.returns
returns c =
    let image = c.args.image.now in
    let table = c.in-Some.table in
    let bytes : bytes_of c.slice.result ≡ part table.start table.len image = c.slice.ensures ∙ ap (part table.start table.len) c.bytes.ensures.bytes in
    let found = subst (λ (these : List ℕ). IsLeastPlace (DisagreeingDirectory these) c.first_disagreeing.result) bytes c.first_disagreeing.ensures in
    subst (IsLeastPlace (BreaksDirectoryAgree image)) (sym c.place_from.ensures)
    (least_in_signature image (λ start. DisagreeingDirectory) table c.in-Some.ensures.table c.first_disagreeing.result found)
