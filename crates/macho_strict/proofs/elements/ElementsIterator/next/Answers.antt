use Rattle.std.proofs.Common.{◌≡◌, ◌++◌, ◌∷◌, [], ◌∙◌, List, sym, ap}
use Rattle.macho_fields.specs.Bytes.{bytes_of}
use Rattle.macho_image.specs.Command.{command_of}
use Rattle.macho_image.specs.Opened.{IsCommandOf}
use Rattle.macho_image.proofs.WithOneCmd.{first_has, rest_has}
use Rattle.macho_strict.specs.ElementWalk.{elements_left}
use Rattle.macho_strict.specs.declared.elements.Element.{Element}
use Rattle.macho_strict.proofs.elements.ElementsIterator.next.Goals as goal

pub describe-self-inside-requires-clause-listed : goal.describe-self-inside-requires-clause-listed
describe-self-inside-requires-clause-listed c =
    first_has (IsCommandOf (bytes_of c.loop-element.self-inside.image)) c.loop-element.self-inside.commands c.next-in-loop-element.new.self (command_of c.in_ok-command.command) c.in_ok-command.ensures.steps
    c.loop-element.invariant.listed

pub loop-element-preserved : goal.loop-element-preserved
loop-element-preserved c =
    let image = bytes_of c.loop-element.self-inside.image in
    let commands = c.loop-element.self-inside.commands in
    let rest = c.next-in-loop-element.new.self in
    let x = command_of c.in_ok-command.command in
    let steps : commands ≡ x ∷ rest = c.in_ok-command.ensures.steps in
    let none : c.loop-element.self-inside.described ≡ [] = c.in_default.ensures.steps.0 in
    record {
      listed = rest_has (IsCommandOf image) commands rest x steps c.loop-element.invariant.listed;
      left = ap (λ (es : List Element). es ++ elements_left image rest) c.describe-self-inside.ensures
          ∙ (sym (ap (elements_left image) steps) ∙ (ap (λ (es : List Element). es ++ elements_left image commands) (sym none) ∙ c.loop-element.invariant.left));
    }
