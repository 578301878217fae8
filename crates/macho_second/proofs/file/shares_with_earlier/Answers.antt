use Rattle.std.proofs.Common.{refl, arith}
use Rattle.std.proofs.lemmas.Bool.{false≢true, both_ways}
use Rattle.macho_fields.specs.Bytes.{bytes_of}
use Rattle.macho_fields.specs.Universal.{SharePlace, entry_slice}
use Rattle.macho_fields.proofs.Entries.{none_more, sharing_entries}
use Rattle.macho_second.proofs.file.shares_with_earlier.Goals as goal

pub returns-then-shares : goal.returns-then-shares
returns-then-shares c =
    let (place, (first, within), (second, inside)) = c.shares.ensures.0 c.if-shares.true in (
      λ h. (
        c.loop-k.k,
        omega arith,
        (
          place,
          (omega (arith, first, c.span.ensures.start), omega (arith, within, c.span.ensures.start, c.span.ensures.len)),
          (omega (arith, second, c.span-span.ensures.start), omega (arith, inside, c.span-span.ensures.start, c.span-span.ensures.len)),
        ),
      ),
      λ h. refl,
    )

pub loop-k-preserved : goal.loop-k-preserved
loop-k-preserved c =
    let file = bytes_of c.args.entries.file in
    none_more (λ i. SharePlace (entry_slice file i) (entry_slice file c.args.later)) c.loop-k.k c.loop-k.invariant
    (λ h. both_ways c.shares.result c.if-shares.false (c.shares.ensures.1
    (sharing_entries file c.loop-k.k c.args.later c.span.result c.span-span.result c.span.ensures.start c.span.ensures.len
    c.span-span.ensures.start c.span-span.ensures.len h)))

pub returns : goal.returns
returns c = (λ h. absurd (false≢true h), λ (i, less, h). absurd (c.loop-k.invariant i (omega arith) h))
