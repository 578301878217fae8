use Rattle.std.proofs.Common.{◌≡◌, ◌∙◌, ap, arith, refl, sym}
use Rattle.macho_fields.specs.Bytes.{bytes_of}
use Rattle.macho_fields.specs.Segment.{vmsize}
use Rattle.macho_explain.proofs.order.later_writable.Goals as goal

pub returns-in_err-writable : goal.returns-in_err-writable
returns-in_err-writable c =
    rw c.from_residual.ensures (λ has. let (k, later, at, past, can) = has.1 in c.in_err-writable.ensures k later at (past, can))

pub returns : goal.returns
returns c =
    let image = bytes_of c.args.sliced.now.held.bytes in
    let place = c.args.sliced.now.place in
    let size : vmsize image place ≡ 0 = ap (vmsize image) (sym c.requires.meets) ∙ (sym c.requires.row.size ∙ omega arith) in
    let writable = c.in_ok-writable.ensures in
    rw c.of.ensures (size, refl, (c.in_ok-writable.writable.place, writable.first, writable.row.size))
