use Rattle.std.proofs.Common.{inl, sym, subst}
use Rattle.macho_fields.specs.Bytes.{bytes_of}
use Rattle.macho_image.specs.Opened.{IsOpened}
use Rattle.macho_rows.specs.Linkedit.{HasData}
use Rattle.macho_rows.proofs.AllCommands.{has_opened}
use Rattle.macho_rows.proofs.linkedit.data_of.Goals as goal

pub data_in-requires : goal.data_in-requires
data_in-requires c = record {
  image = sym c.in-Some.ensures.1;
  opened = subst IsOpened (sym c.in-Some.ensures.1) (has_opened (bytes_of c.args.held.now.bytes) c.in-Some.ensures.0);
}

pub returns-in-Some : goal.returns-in-Some
returns-in-Some c =
    inl (c.in-Some.ensures.0, subst (λ image. HasData image c.args.held.now.place c.args.cmd c.data_in.result) c.in-Some.ensures.1 c.data_in.ensures)
