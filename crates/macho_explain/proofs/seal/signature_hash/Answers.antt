use Rattle.std.proofs.Common.{ℕ, refl, subst}
use Rattle.macho_fields.specs.Bytes.{bytes_of}
use Rattle.macho_explain.specs.Seals.{IsHashShown}
use Rattle.macho_explain.proofs.ShownSeals.{of_signature}
use Rattle.macho_explain.proofs.seal.signature_hash.Goals as goal

pub returns-in_err-signature : goal.returns-in_err-signature
returns-in_err-signature c =
    rw c.from_residual.ensures (λ (opens, (table, signature, is, has)). c.in_err-signature.ensures opens table signature is)

pub returns-in_err-hashed : goal.returns-in_err-hashed
returns-in_err-hashed c =
    let image = bytes_of c.args.sliced.now.held.bytes in
    let found = c.in_ok-signature.signature in
    rw c.from_residual-in_err-hashed.ensures (λ s.
    c.in_err-hashed.ensures.other (of_signature image found.table.span (bytes_of found.bytes) c.args.sliced.now.place c.in_ok-signature.ensures s))

pub returns-in_err-conflict : goal.returns-in_err-conflict
returns-in_err-conflict c =
    let image = bytes_of c.args.sliced.now.held.bytes in
    let found = c.in_ok-signature.signature in
    rw c.from_residual-in_err-conflict.ensures (λ s.
    c.in_err-conflict.ensures.none (c.in_ok-hashed.ensures.other (of_signature image found.table.span (bytes_of found.bytes) c.args.sliced.now.place c.in_ok-signature.ensures s)))

pub returns : goal.returns
returns c =
    let image = bytes_of c.args.sliced.now.held.bytes in
    let found = c.in_ok-signature.signature in
    let span = found.table.span in
    let signature = bytes_of found.bytes in
    let conflict = c.in_ok-conflict.conflict in
    let shown = subst (λ (p : ℕ). IsHashShown image span.start signature p conflict.value conflict.limit) c.in_ok-hashed.ensures.place c.in_ok-conflict.ensures.shown in
    rw c.shows.ensures (rw c.at.ensures (record { slice = refl; command = tt; section = tt; symbol = tt }), (span, signature, c.in_ok-signature.ensures, shown))
