use Rattle.std.proofs.Common.{Bool, true, false, ℕ, List, Option, Result, Ok, Err, length}
use Rattle.std.proofs.Math.Seq.{take-length}
use Rattle.macho_text.specs.Stream.{Wrote, WritesUnlessFailed}
use Rattle.macho_text.specs.Writer.{PutsText}
use Rattle.macho_text.specs.declared.stream.Output as output
use Rattle.macho_program.proofs.program.write_line.Goals as goal

-- what was written whole is also a prefix
in_full : (failed : Bool) (old new : Option (List ℕ)) (text : List ℕ) → Wrote old new text → WritesUnlessFailed failed old new text
in_full true old new text wrote = record { count = length text; appended = rw (take-length text) wrote.appended }
in_full false old new text wrote = wrote

unless_failed : {W T E : Type 0} (o : output.Ghosts W) (old new : W) (r : Result T E) (text : List ℕ) → PutsText o old new r text
    → WritesUnlessFailed (o.has_failed new) (o.contents old) (o.contents new) text
unless_failed o old new (Ok x) text put = in_full (o.has_failed new) (o.contents old) (o.contents new) text put.bytes
unless_failed o old new (Err e) text put = rw put.failed put.bytes

pub returns : goal.returns
returns g c = unless_failed g.E.Output _ _ _ _ c.write_words.ensures
