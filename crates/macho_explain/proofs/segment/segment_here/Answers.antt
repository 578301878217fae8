use Rattle.std.proofs.Common.{refl}
use Rattle.macho_explain.proofs.segment.segment_here.Goals as goal

pub returns-in_err-find_segment : goal.returns-in_err-find_segment
returns-in_err-find_segment c =
    rw c.from_residual-in_err-find_segment.ensures (λ has. c.in_err-find_segment.ensures has.1 c.args.sliced.now.place has.2 refl)
