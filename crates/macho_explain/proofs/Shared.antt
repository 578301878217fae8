-- Spans that share a place.
use Rattle.std.proofs.Common.{◌≡◌, arith}
use Rattle.macho_spans.specs.Span.{Shares}
use Rattle.macho_spans.specs.declared.span.Span.{Span}

-- it is by where they begin, and how long they are
pub same_shares : (a b one other : Span) → a.start ≡ one.start → a.len ≡ one.len → b.start ≡ other.start → b.len ≡ other.len → Shares a b → Shares one other
same_shares a b one other start len begins size (place, here, there) =
    (place, (omega (arith, here.0, start), omega (arith, here.1, start, len)), (omega (arith, there.0, begins), omega (arith, there.1, begins, size)))

pub shares_back : (a b : Span) → Shares a b → Shares b a
shares_back a b (place, here, there) = (place, there, here)
