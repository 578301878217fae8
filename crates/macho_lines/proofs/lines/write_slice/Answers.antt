use Rattle.std.proofs.Common.{[], ◌∷◌, lit≤}
use Rattle.std.specs.Prelude.{codes}
use Rattle.std.specs.Fmt.{decimal}
use Rattle.std.specs.Option.{option_map_or}
use Rattle.macho_text.specs.Number.{prefixed_hex}
use Rattle.macho_text.proofs.Puts.{put_next, put_many, put_last}
use Rattle.macho_text.proofs.Holding.{line_kept, line_lost, holds_more_fails}
use Rattle.macho_text.proofs.Room.{extent_fits, fits, room_after, room_after_extent, room_after_text}
use Rattle.macho_lines.specs.Arch.{arch_text}
use Rattle.macho_lines.proofs.LineTexts.{extent_put}
use Rattle.macho_lines.proofs.lines.write_slice.Goals as goal

pub returns-in_err-begin : goal.returns-in_err-begin
returns-in_err-begin g c = holds_more_fails _ c.from_residual.ensures.0 c.in_err-begin.ensures.text

pub returns-in_err-word : goal.returns-in_err-word
returns-in_err-word g c =
    line_lost (codes "slice " ∷ decimal c.args.index ∷ codes " " ∷ option_map_or arch_text c.args.arch [] ∷ codes " at " ∷ prefixed_hex c.args.span.start
    ∷ codes " size " ∷ prefixed_hex c.args.span.len ∷ codes " " ∷ []) _ _ c.from_residual-in_err-word.ensures.0 c.in_ok-begin.ensures.text (put_next _ _ _ _ _ c.text.ensures (put_next _ _ _ _ _ c.decimal.ensures.text (put_next _ _ _ _ _ c.text-2.ensures
    (put_next _ _ _ _ _ c.put_arch.ensures.text (put_many _ _ _ _ _ (extent_put (codes " at ") _ _ _ c.put_extent.ensures.text) (put_next _ _ _ _ _ c.text-3.ensures (put_last _))))))) (rw c.as_bytes.ensures.value at c.in_err-word.ensures.text)

pub returns : goal.returns
returns g c =
    line_kept (codes "slice " ∷ decimal c.args.index ∷ codes " " ∷ option_map_or arch_text c.args.arch [] ∷ codes " at " ∷ prefixed_hex c.args.span.start
    ∷ codes " size " ∷ prefixed_hex c.args.span.len ∷ codes " " ∷ []) _ _ c.in_ok-begin.ensures.text (put_next _ _ _ _ _ c.text.ensures (put_next _ _ _ _ _ c.decimal.ensures.text (put_next _ _ _ _ _ c.text-2.ensures
    (put_next _ _ _ _ _ c.put_arch.ensures.text (put_many _ _ _ _ _ (extent_put (codes " at ") _ _ _ c.put_extent.ensures.text) (put_next _ _ _ _ _ c.text-3.ensures (put_last _))))))) (rw c.as_bytes.ensures.value at c.in_ok-word.ensures.text)
    (put_next _ _ _ _ _ c.text-4.ensures (put_last _))

-- There is room for each part. By hand, since a search reads all that is known at each goal.
pub text-requires-2 : goal.text-requires-2
text-requires-2 g c = (lit≤ tt, fits _ _ 294 (room_after _ 20 _ 314 294 (room_after_text _ _ _ 320 314 c.in_ok-begin.ensures.room c.text.ensures (lit≤ tt)) c.decimal.ensures.end (lit≤ tt)) (lit≤ tt))

pub put_arch-requires : goal.put_arch-requires
put_arch-requires g c = record { room = fits _ 45 293 (room_after_text _ _ _ 294 293 (room_after _ 20 _ 314 294 (room_after_text _ _ _ 320 314 c.in_ok-begin.ensures.room c.text.ensures (lit≤ tt)) c.decimal.ensures.end (lit≤ tt)) c.text-2.ensures (lit≤ tt)) (lit≤ tt) }

pub put_extent-requires : goal.put_extent-requires
put_extent-requires g c = (lit≤ tt, extent_fits _ _ 248 (room_after _ 45 _ 293 248 (room_after_text _ _ _ 294 293 (room_after _ 20 _ 314 294 (room_after_text _ _ _ 320 314 c.in_ok-begin.ensures.room c.text.ensures (lit≤ tt)) c.decimal.ensures.end (lit≤ tt)) c.text-2.ensures (lit≤ tt)) c.put_arch.ensures.end (lit≤ tt)) (lit≤ tt))

pub text-requires-3 : goal.text-requires-3
text-requires-3 g c = (lit≤ tt, fits _ _ 194 (room_after_extent _ _ _ 248 194 (room_after _ 45 _ 293 248 (room_after_text _ _ _ 294 293 (room_after _ 20 _ 314 294 (room_after_text _ _ _ 320 314 c.in_ok-begin.ensures.room c.text.ensures (lit≤ tt)) c.decimal.ensures.end (lit≤ tt)) c.text-2.ensures (lit≤ tt)) c.put_arch.ensures.end (lit≤ tt)) c.put_extent.ensures.end (lit≤ tt)) (lit≤ tt))

pub text-requires-4 : goal.text-requires-4
text-requires-4 g c = (lit≤ tt, fits _ _ 160 c.in_ok-word.ensures.room (lit≤ tt))
