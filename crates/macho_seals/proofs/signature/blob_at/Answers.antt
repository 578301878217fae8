use Rattle.macho_fields.specs.Bytes.{bytes_of}
use Rattle.macho_seals.proofs.Blobs.{blob_there}
use Rattle.macho_seals.proofs.signature.blob_at.Goals as goal

pub unwrap-requires : goal.unwrap-requires
unwrap-requires c =
    blob_there (bytes_of c.args.signature) c.requires.blobs c.args.index c.requires.index c.args.superblob c.requires.superblob c.index_end.result c.index_end.ensures c.blob.result c.blob.ensures
