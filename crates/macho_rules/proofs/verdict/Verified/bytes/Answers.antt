use Rattle.std.proofs.Common.{subst}
use Rattle.macho_fields.specs.Bytes.{bytes_of}
use Rattle.macho_fields.specs.First.{IsUnbroken}
use Rattle.macho_fields.proofs.Sound.{unbroken_is_sound}
use Rattle.macho_fat.specs.Slices.{slices_in}
use Rattle.macho_rules.proofs.Verdicts.{verified_unbroken}
use Rattle.macho_rules.proofs.verdict.Verified.bytes.Goals as goal

pub returns-clause-unbroken : goal.returns-clause-unbroken
returns-clause-unbroken c = subst IsUnbroken c.self.view_is (verified_unbroken (bytes_of c.self.inside.file) (slices_in c.self.inside.slices) c.self.inside.found c.self.invariant)

pub returns-clause-sound : goal.returns-clause-sound
returns-clause-sound c =
    unbroken_is_sound c.args.self.now (subst IsUnbroken c.self.view_is (verified_unbroken (bytes_of c.self.inside.file) (slices_in c.self.inside.slices) c.self.inside.found c.self.invariant))
