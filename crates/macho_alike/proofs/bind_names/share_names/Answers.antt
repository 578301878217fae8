use Rattle.macho_alike.proofs.bind_names.share_names.Goals as goal

pub rename-requires : goal.rename-requires
rename-requires c = rw c.bytes-bytes.ensures.bytes c.requires
