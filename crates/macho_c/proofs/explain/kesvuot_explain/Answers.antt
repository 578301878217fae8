use Rattle.macho_c.proofs.explain.kesvuot_explain.Goals as goal

pub returns : goal.returns
returns c = (c.explained.result, c.explained.ensures, c.answer.ensures)
