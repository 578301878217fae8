use Rattle.std.proofs.Common.{◌++◌, ◌∙◌, List, ap, subst, sym}
use Rattle.macho_fields.specs.Bytes.{bytes_of}
use Rattle.macho_image.specs.Command.{command_of}
use Rattle.macho_strict.specs.Claims.{AreNoted}
use Rattle.macho_strict.specs.ElementWalk.{section_elements_left}
use Rattle.macho_strict.specs.declared.elements.Element.{Element}
use Rattle.macho_strict.proofs.ElementWalks.{segment_described, other_described}
use Rattle.macho_strict.proofs.claims.Noted.note_command.Goals as goal

pub returns-in-Some : goal.returns-in-Some
returns-in-Some c = λ elements are.
    let image = bytes_of c.args.bytes in
    let v = command_of c.args.command.now in
    let described = ap section_elements_left c.sections.ensures ∙ segment_described image v c.requires.listed c.in-Some.segment (sym (c.segment.ensures.listed c.requires.listed) ∙ c.in-Some.is) in
    subst (λ (es : List Element). AreNoted image (elements ++ es) c.note_sections.new.self) described (c.note_sections.ensures image elements are)

pub returns-in-None : goal.returns-in-None
returns-in-None c = λ elements are.
    let image = bytes_of c.args.bytes in
    let v = command_of c.args.command.now in
    let described = c.tables_of.ensures ∙ other_described image v c.requires.listed (sym (c.segment.ensures.listed c.requires.listed) ∙ c.in-None.is) in
    subst (λ (es : List Element). AreNoted image (elements ++ es) c.note_tables.new.self) described (c.note_tables.ensures image elements are)
