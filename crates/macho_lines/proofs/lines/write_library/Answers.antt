use Rattle.std.proofs.Common.{[], ◌∷◌, lit≤}
use Rattle.macho_text.proofs.Puts.{put_next, put_last}
use Rattle.macho_text.proofs.Holding.{line_kept, line_lost, holds_more_fails, holds_same}
use Rattle.macho_text.proofs.Room.{fits, room_after, room_after_text}
use Rattle.macho_lines.specs.LineParts.{library_start}
use Rattle.macho_lines.proofs.LineTexts.{library_begins}
use Rattle.macho_lines.proofs.lines.write_library.Goals as goal

pub returns-in_err-begin : goal.returns-in_err-begin
returns-in_err-begin g c = holds_more_fails _ c.from_residual.ensures.0 c.in_err-begin.ensures.text

pub returns-in_err-name : goal.returns-in_err-name
returns-in_err-name g c =
    holds_same _ (library_begins c.args.library.now.cmd _) (line_lost (library_start c.args.library.now.cmd ∷ []) _ _ c.from_residual-in_err-name.ensures.0 c.in_ok-begin.ensures.text (put_next _ _ _ _ _ (rw (c.as_bytes.ensures.value, c.library_start.ensures) at c.bytes.ensures) (put_last _)) c.in_err-name.ensures.text)

pub returns : goal.returns
returns g c =
    holds_same _ (library_begins c.args.library.now.cmd _) (line_kept (library_start c.args.library.now.cmd ∷ []) _ _ c.in_ok-begin.ensures.text (put_next _ _ _ _ _ (rw (c.as_bytes.ensures.value, c.library_start.ensures) at c.bytes.ensures) (put_last _)) c.in_ok-name.ensures.text
    (put_next _ _ _ _ _ c.text.ensures (put_next _ _ _ _ _ c.version.ensures.text
    (put_next _ _ _ _ _ c.text-2.ensures (put_next _ _ _ _ _ c.version-2.ensures.text (put_next _ _ _ _ _ c.text-3.ensures (put_last _)))))))

-- There is room for each part. By hand, since a search reads all that is known at each goal.
pub text-requires : goal.text-requires
text-requires g c = (lit≤ tt, fits _ _ 160 c.in_ok-name.ensures.room (lit≤ tt))

pub version-requires : goal.version-requires
version-requires g c = record { room = fits _ 62 151 (room_after_text _ _ _ 160 151 c.in_ok-name.ensures.room c.text.ensures (lit≤ tt)) (lit≤ tt) }

pub text-requires-2 : goal.text-requires-2
text-requires-2 g c = (lit≤ tt, fits _ _ 89 (room_after _ 62 _ 151 89 (room_after_text _ _ _ 160 151 c.in_ok-name.ensures.room c.text.ensures (lit≤ tt)) c.version.ensures.end (lit≤ tt)) (lit≤ tt))

pub version-requires-2 : goal.version-requires-2
version-requires-2 g c = record { room = fits _ 62 77 (room_after_text _ _ _ 89 77 (room_after _ 62 _ 151 89 (room_after_text _ _ _ 160 151 c.in_ok-name.ensures.room c.text.ensures (lit≤ tt)) c.version.ensures.end (lit≤ tt)) c.text-2.ensures (lit≤ tt)) (lit≤ tt) }

pub text-requires-3 : goal.text-requires-3
text-requires-3 g c = (lit≤ tt, fits _ _ 15 (room_after _ 62 _ 77 15 (room_after_text _ _ _ 89 77 (room_after _ 62 _ 151 89 (room_after_text _ _ _ 160 151 c.in_ok-name.ensures.room c.text.ensures (lit≤ tt)) c.version.ensures.end (lit≤ tt)) c.text-2.ensures (lit≤ tt)) c.version-2.ensures.end (lit≤ tt)) (lit≤ tt))
