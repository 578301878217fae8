use Rattle.macho_strict.proofs.ElementWalks.{commands_of_image, elements_begun}
use Rattle.macho_strict.proofs.elements.Elements.of.Goals as goal

pub invariant_of-result-2 : goal.invariant_of-result-2
invariant_of-result-2 c =
    rw c.bytes-bytes.ensures.bytes (commands_of_image c.args.image.now c.commands.result c.commands.ensures.opened c.commands.ensures.commands)

pub returns-clause-elements : goal.returns-clause-elements
returns-clause-elements c = rw (c.bytes-bytes.ensures.bytes, c.headers.ensures) (elements_begun c.args.image.now c.commands.result c.commands.ensures.commands)
