use Rattle.std.proofs.Common.{inl, inr}
use Rattle.macho_fields.specs.Bytes.{bytes_of}
use Rattle.macho_commands.specs.Described.{IsInName, IsInModules}
use Rattle.macho_commands.specs.declared.content.Holding.TheVariants as holding
use Rattle.macho_commands.proofs.Parts.{is_part, are_parts}
use Rattle.macho_commands.proofs.described.parts_of.Goals as goal

pub returns-in_ok-name_of-in-Name-clause-parts : goal.returns-in_ok-name_of-in-Name-clause-parts
returns-in_ok-name_of-in-Name-clause-parts c =
    let bytes = bytes_of c.args.command in
    is_part bytes c.args.content holding.Name c.in-Name.is (IsInName bytes) c.in_ok-name_of-in-Name.field-0 c.requires.whole c.in_ok-name_of-in-Name.ensures.part c.in_ok-name_of-in-Name.ensures.good
    (λ offset. (λ p. p, λ p. p))

pub returns-in_ok-modules_of-in-NameAndModules-clause-parts : goal.returns-in_ok-modules_of-in-NameAndModules-clause-parts
returns-in_ok-modules_of-in-NameAndModules-clause-parts c =
    let bytes = bytes_of c.args.command in
    are_parts bytes c.args.content holding.NameAndModules c.in-NameAndModules.is (IsInName bytes) (IsInModules bytes) c.in_ok-name_of-in-NameAndModules.field-0
    c.in_ok-modules_of-in-NameAndModules.field-0 c.in_ok-name_of-in-NameAndModules.ensures.part c.in_ok-modules_of-in-NameAndModules.ensures.part
    (λ bad. elim bad [ inl name ↦ c.in_ok-name_of-in-NameAndModules.ensures.good name | inr modules ↦ c.in_ok-modules_of-in-NameAndModules.ensures.good modules ])
    (λ offset. (λ p. p, λ p. p))
