use Rattle.std.proofs.Common.{[], ◌∷◌, lit≤}
use Rattle.std.specs.Prelude.{codes}
use Rattle.macho_text.proofs.Puts.{put_next, put_many, put_last}
use Rattle.macho_text.proofs.Holding.{line_kept, line_lost, holds_more_fails}
use Rattle.macho_text.proofs.Room.{extent_fits, fits, room_after, room_after_extent, room_after_text}
use Rattle.macho_lines.proofs.LineTexts.{extent_put}
use Rattle.macho_lines.proofs.lines.write_section.Goals as goal

pub returns-in_err-begin : goal.returns-in_err-begin
returns-in_err-begin g c = holds_more_fails _ c.from_residual.ensures.0 c.in_err-begin.ensures.text

pub returns-in_err-name : goal.returns-in_err-name
returns-in_err-name g c =
    line_lost (codes "    section " ∷ []) _ _ c.from_residual-in_err-name.ensures.0 c.in_ok-begin.ensures.text (put_next _ _ _ _ _ c.text.ensures (put_last _)) (rw c.name.ensures at c.in_err-name.ensures.text)

pub returns : goal.returns
returns g c =
    line_kept (codes "    section " ∷ []) _ _ c.in_ok-begin.ensures.text (put_next _ _ _ _ _ c.text.ensures (put_last _)) (rw c.name.ensures at c.in_ok-name.ensures.text)
    (put_many _ _ _ _ _ (extent_put (codes " addr ") _ _ _ (rw (c.addr.ensures, c.size.ensures) at c.put_extent.ensures.text))
    (put_next _ _ _ _ _ c.text-2.ensures (put_next _ _ _ _ _ (rw c.contents_of.ensures at c.put_contents.ensures.text) (put_next _ _ _ _ _ c.text-3.ensures (put_last _)))))

-- There is room for each part. By hand, since a search reads all that is known at each goal.
pub put_extent-requires : goal.put_extent-requires
put_extent-requires g c = (lit≤ tt, extent_fits _ _ 160 c.in_ok-name.ensures.room (lit≤ tt))

pub text-requires-2 : goal.text-requires-2
text-requires-2 g c = (lit≤ tt, fits _ _ 104 (room_after_extent _ _ _ 160 104 c.in_ok-name.ensures.room c.put_extent.ensures.end (lit≤ tt)) (lit≤ tt))

pub put_contents-requires : goal.put_contents-requires
put_contents-requires g c = record { room = fits _ 27 103 (room_after_text _ _ _ 104 103 (room_after_extent _ _ _ 160 104 c.in_ok-name.ensures.room c.put_extent.ensures.end (lit≤ tt)) c.text-2.ensures (lit≤ tt)) (lit≤ tt) }

pub text-requires-3 : goal.text-requires-3
text-requires-3 g c = (lit≤ tt, fits _ _ 76 (room_after _ 27 _ 103 76 (room_after_text _ _ _ 104 103 (room_after_extent _ _ _ 160 104 c.in_ok-name.ensures.room c.put_extent.ensures.end (lit≤ tt)) c.text-2.ensures (lit≤ tt)) c.put_contents.ensures.end (lit≤ tt)) (lit≤ tt))
