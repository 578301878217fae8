use Rattle.std.proofs.Common.{[], ◌∷◌, lit≤}
use Rattle.std.specs.Prelude.{codes}
use Rattle.macho_text.proofs.Puts.{put_next, put_many, put_last}
use Rattle.macho_text.proofs.Holding.{line_kept, line_lost, holds_more_fails}
use Rattle.macho_text.proofs.Room.{extent_fits, fits, room_after_equal, room_after_extent, room_after_text}
use Rattle.macho_lines.proofs.LineTexts.{extent_put}
use Rattle.macho_lines.proofs.lines.write_segment.Goals as goal

pub returns-in_err-begin : goal.returns-in_err-begin
returns-in_err-begin g c = holds_more_fails _ c.from_residual.ensures.0 c.in_err-begin.ensures.text

pub returns-in_err-name : goal.returns-in_err-name
returns-in_err-name g c =
    line_lost (codes "  segment " ∷ []) _ _ c.from_residual-in_err-name.ensures.0 c.in_ok-begin.ensures.text (put_next _ _ _ _ _ c.text.ensures (put_last _)) (rw c.name.ensures at c.in_err-name.ensures.text)

pub returns : goal.returns
returns g c =
    line_kept (codes "  segment " ∷ []) _ _ c.in_ok-begin.ensures.text (put_next _ _ _ _ _ c.text.ensures (put_last _)) (rw c.name.ensures at c.in_ok-name.ensures.text)
    (put_many _ _ _ _ _ (extent_put (codes " addr ") _ _ _ (rw (c.vmaddr.ensures, c.vmsize.ensures) at c.put_extent.ensures.text))
    (put_many _ _ _ _ _ (extent_put (codes " file ") _ _ _ (rw (c.fileoff.ensures, c.filesize.ensures) at c.put_extent-2.ensures.text))
    (put_next _ _ _ _ _ c.text-2.ensures (put_next _ _ _ _ _ (rw c.initprot.ensures.number at c.put_protection.ensures.text) (put_next _ _ _ _ _ c.text-3.ensures (put_last _))))))

-- There is room for each part. By hand, since a search reads all that is known at each goal.
pub put_extent-requires : goal.put_extent-requires
put_extent-requires g c = (lit≤ tt, extent_fits _ _ 160 c.in_ok-name.ensures.room (lit≤ tt))

pub put_extent-requires-2 : goal.put_extent-requires-2
put_extent-requires-2 g c = (lit≤ tt, extent_fits _ _ 104 (room_after_extent _ _ _ 160 104 c.in_ok-name.ensures.room c.put_extent.ensures.end (lit≤ tt)) (lit≤ tt))

pub text-requires-2 : goal.text-requires-2
text-requires-2 g c =
    (lit≤ tt, fits _ _ 48 (room_after_extent _ _ _ 104 48 (room_after_extent _ _ _ 160 104 c.in_ok-name.ensures.room c.put_extent.ensures.end (lit≤ tt)) c.put_extent-2.ensures.end (lit≤ tt)) (lit≤ tt))

pub put_protection-requires : goal.put_protection-requires
put_protection-requires g c =
    let parts = room_after_extent _ _ _ 104 48 (room_after_extent _ _ _ 160 104 c.in_ok-name.ensures.room c.put_extent.ensures.end (lit≤ tt)) c.put_extent-2.ensures.end (lit≤ tt) in
    record { room = fits _ 3 47 (room_after_text _ _ _ 48 47 parts c.text-2.ensures (lit≤ tt)) (lit≤ tt) }

pub text-requires-3 : goal.text-requires-3
text-requires-3 g c =
    let parts = room_after_extent _ _ _ 104 48 (room_after_extent _ _ _ 160 104 c.in_ok-name.ensures.room c.put_extent.ensures.end (lit≤ tt)) c.put_extent-2.ensures.end (lit≤ tt) in
    (lit≤ tt, fits _ _ 44 (room_after_equal _ 3 _ 47 44 (room_after_text _ _ _ 48 47 parts c.text-2.ensures (lit≤ tt)) c.put_protection.ensures.end (lit≤ tt)) (lit≤ tt))
