use Rattle.std.proofs.Common.{lit≤}
use Rattle.macho_text.proofs.Holding.{holds_more, holds_more_fails, holds_texts}
use Rattle.macho_text.proofs.Puts.{put_next, put_last}
use Rattle.macho_text.proofs.Room.{fits, room_after, room_after_text}
use Rattle.macho_lines.proofs.lines.write_build.Goals as goal

pub returns-in_err-begin : goal.returns-in_err-begin
returns-in_err-begin g c = holds_more_fails _ c.from_residual.ensures.0 c.in_err-begin.ensures.text

pub returns : goal.returns
returns g c =
    holds_texts ((put_next _ _ _ _ _ c.text.ensures (put_next _ _ _ _ _ (rw c.from.ensures at c.decimal.ensures.text)
    (put_next _ _ _ _ _ c.text-2.ensures (put_next _ _ _ _ _ c.version.ensures.text (put_next _ _ _ _ _ c.text-3.ensures (put_next _ _ _ _ _ c.version-2.ensures.text (put_next _ _ _ _ _ c.text-4.ensures (put_last _))))))))) (holds_more c.in_ok-begin.ensures.text)

-- There is room for each part. By hand, since a search reads all that is known at each goal.
pub text-requires-2 : goal.text-requires-2
text-requires-2 g c = (lit≤ tt, fits _ _ 283 (room_after _ 20 _ 303 283 (room_after_text _ _ _ 320 303 c.in_ok-begin.ensures.room c.text.ensures (lit≤ tt)) c.decimal.ensures.end (lit≤ tt)) (lit≤ tt))

pub version-requires : goal.version-requires
version-requires g c = record { room = fits _ 62 278 (room_after_text _ _ _ 283 278 (room_after _ 20 _ 303 283 (room_after_text _ _ _ 320 303 c.in_ok-begin.ensures.room c.text.ensures (lit≤ tt)) c.decimal.ensures.end (lit≤ tt)) c.text-2.ensures (lit≤ tt)) (lit≤ tt) }

pub text-requires-3 : goal.text-requires-3
text-requires-3 g c = (lit≤ tt, fits _ _ 216 (room_after _ 62 _ 278 216 (room_after_text _ _ _ 283 278 (room_after _ 20 _ 303 283 (room_after_text _ _ _ 320 303 c.in_ok-begin.ensures.room c.text.ensures (lit≤ tt)) c.decimal.ensures.end (lit≤ tt)) c.text-2.ensures (lit≤ tt)) c.version.ensures.end (lit≤ tt)) (lit≤ tt))

pub version-requires-2 : goal.version-requires-2
version-requires-2 g c = record { room = fits _ 62 211 (room_after_text _ _ _ 216 211 (room_after _ 62 _ 278 216 (room_after_text _ _ _ 283 278 (room_after _ 20 _ 303 283 (room_after_text _ _ _ 320 303 c.in_ok-begin.ensures.room c.text.ensures (lit≤ tt)) c.decimal.ensures.end (lit≤ tt)) c.text-2.ensures (lit≤ tt)) c.version.ensures.end (lit≤ tt)) c.text-3.ensures (lit≤ tt)) (lit≤ tt) }

pub text-requires-4 : goal.text-requires-4
text-requires-4 g c = (lit≤ tt, fits _ _ 149 (room_after _ 62 _ 211 149 (room_after_text _ _ _ 216 211 (room_after _ 62 _ 278 216 (room_after_text _ _ _ 283 278 (room_after _ 20 _ 303 283 (room_after_text _ _ _ 320 303 c.in_ok-begin.ensures.room c.text.ensures (lit≤ tt)) c.decimal.ensures.end (lit≤ tt)) c.text-2.ensures (lit≤ tt)) c.version.ensures.end (lit≤ tt)) c.text-3.ensures (lit≤ tt)) c.version-2.ensures.end (lit≤ tt)) (lit≤ tt))
