use Rattle.std.proofs.Common.{subst, sym}
use Rattle.macho_fields.specs.Bytes.{bytes_of}
use Rattle.macho_explain.specs.Signatures.{IsNameShown}
use Rattle.macho_explain.proofs.directory.name_numbers.Goals as goal

pub returns : goal.returns
returns c = (
  subst (IsNameShown (bytes_of c.args.blob) c.args.directory) (sym c.from-value.ensures) c.in_ok-name.ensures,
  c.len-limit.ensures.count,
)
