use Rattle.std.proofs.Common.{[], ◌∷◌, lit≤}
use Rattle.std.specs.Prelude.{codes}
use Rattle.macho_text.proofs.Puts.{from_start, put_next, put_last, ended}
use Rattle.macho_text.proofs.Holding.{line_fails, line_written}
use Rattle.macho_text.proofs.Room.{end_fits, fits, room_after, room_after_text}
use Rattle.macho_lines.proofs.lines.write_break.Goals as goal

pub returns-in_err-word-clause-text : goal.returns-in_err-word-clause-text
returns-in_err-word-clause-text g c =
    line_fails (codes "refused: " ∷ []) _ _ c.from_residual.ensures.0 (from_start _ _ _ c.new-line.ensures (put_next _ _ _ _ _ c.text.ensures (put_last _)))
    (rw (c.as_bytes.ensures.value, c.name.ensures) at c.in_err-word.ensures.text)

pub returns-clause-text : goal.returns-clause-text
returns-clause-text g c =
    line_written (codes "refused: " ∷ []) _ _ (from_start _ _ _ c.new-line.ensures (put_next _ _ _ _ _ c.text.ensures (put_last _)))
    (rw (c.as_bytes.ensures.value, c.name.ensures) at c.in_ok-word.ensures.text)
    (put_next _ _ _ _ _ c.text-2.ensures (put_next _ _ _ _ _ c.hex.ensures.text (ended _))) c.write.ensures.text

-- There is room for each part. By hand, since a search reads all that is known at each goal.
pub text-requires-2 : goal.text-requires-2
text-requires-2 g c = (lit≤ tt, fits _ _ 160 c.in_ok-word.ensures.room (lit≤ tt))

pub hex-requires : goal.hex-requires
hex-requires g c = record { room = fits _ 22 156 (room_after_text _ _ _ 160 156 c.in_ok-word.ensures.room c.text-2.ensures (lit≤ tt)) (lit≤ tt) }

pub write-requires : goal.write-requires
write-requires g c = record { room = end_fits _ 134 (room_after _ 22 _ 156 134 (room_after_text _ _ _ 160 156 c.in_ok-word.ensures.room c.text-2.ensures (lit≤ tt)) c.hex.ensures.end (lit≤ tt)) (lit≤ tt) }
