use Rattle.std.proofs.Common.{◌∙◌, ap}
use Rattle.macho_fields.specs.Bytes.{bytes_of}
use Rattle.macho_signature.specs.Superblobs.{entry_offset}
use Rattle.macho_signature.specs.declared.superblob.Superblob.{Superblob}
use Rattle.macho_explain.proofs.Blobs.{good_found}
use Rattle.macho_explain.proofs.signature.Signature.placed_blob.Goals as goal

pub returns-clause-none : goal.returns-clause-none
returns-clause-none c =
    let same = c.in_ok-superblob.ensures.1 in
    good_found (bytes_of c.args.self.now.bytes) c.in_ok-superblob.superblob c.args.index c.index_end.result _ c.blob.result same
    (c.index_end.ensures ∙ ap (λ (s : Superblob). entry_offset s.count) same) c.blob.ensures
