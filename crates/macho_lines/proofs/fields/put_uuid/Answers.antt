use Rattle.std.specs.Prelude.{codes}
use Rattle.macho_text.proofs.Puts.{put_next, put_two, put_last}
use Rattle.macho_lines.specs.Line.{group}
use Rattle.macho_lines.proofs.fields.put_uuid.Goals as goal

pub returns-clause-text : goal.returns-clause-text
returns-clause-text c =
    put_next _ _ _ (group c.args.uuid.now 0 4) _ c.hex_bytes.ensures.text
    (put_two _ _ _ (codes "-") (group c.args.uuid.now 4 2) _ c.put_group.ensures.text
    (put_two _ _ _ (codes "-") (group c.args.uuid.now 6 2) _ c.put_group-2.ensures.text
    (put_two _ _ _ (codes "-") (group c.args.uuid.now 8 2) _ c.put_group-3.ensures.text
    (put_two _ _ _ (codes "-") (group c.args.uuid.now 10 6) _ c.put_group-4.ensures.text (put_last _)))))
