use Rattle.std.proofs.Common.{◌≤◌, ◌∙◌, ap, length, arith}
use Rattle.macho_fields.specs.Bytes.{bytes_of}
use Rattle.macho_fields.specs.Image.{cpu_type, cpu_subtype}
use Rattle.macho_fields.specs.Universal.{masked}
use Rattle.macho_image.proofs.Opened.{opened_keeps}
use Rattle.macho_image.proofs.image.Image.arch.Goals as goal

pub arch_of-requires : goal.arch_of-requires
arch_of-requires c =
    let header : 32 ≤ length (bytes_of c.self.inside.bytes) = (opened_keeps _ c.self.invariant.opened).header in omega arith

pub returns-clause-cpu_type : goal.returns-clause-cpu_type
returns-clause-cpu_type c = c.arch_of.ensures.cpu_type ∙ ap cpu_type c.self.view_is

pub returns-clause-cpu_subtype : goal.returns-clause-cpu_subtype
returns-clause-cpu_subtype c = c.arch_of.ensures.cpu_subtype ∙ ap (λ image. masked (cpu_subtype image)) c.self.view_is
