use Rattle.macho_tables.proofs.file_bytes.has_byte_at.Goals as goal

pub returns : goal.returns
returns c =
    let same = c.file_memory.ensures.bytes c.args.address in
    (λ is. same.0 (c.holds.ensures.0 is), λ has. c.holds.ensures.1 (same.1 has))
