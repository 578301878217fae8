use Rattle.macho_signature.proofs.Signed.{signed_image}
use Rattle.macho_signature.proofs.law.unbroken_is_signed.Goals as goal

pub returns : goal.returns
returns c = signed_image c.args.image.now c.requires.blob c.requires.directory c.requires.whole
