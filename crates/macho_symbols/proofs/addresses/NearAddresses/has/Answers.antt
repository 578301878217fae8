use Rattle.std.proofs.Common.{◌↔◌, List, Any, IsTrue, subst}
use Rattle.macho_spans.specs.declared.span.Span.{Span}
use Rattle.macho_symbols.specs.Addresses.{IsNear, AreNearAddresses}
use Rattle.macho_symbols.specs.declared.addresses.NearAddresses.{NearAddresses}
use Rattle.macho_symbols.proofs.NearAddresses.{near_spans, near_mapped}
use Rattle.macho_symbols.proofs.addresses.NearAddresses.has.Goals as goal

pub returns-in-Few-clause-near : goal.returns-in-Few-clause-near
returns-in-Few-clause-near c image are =
    let same = subst (λ (addresses : NearAddresses). AreNearAddresses image addresses) c.in-Few.is are in
    let by_spans = near_spans image c.args.address in
    let found = subst (λ (spans : List Span). IsTrue c.have_near.result ↔ Any (IsNear c.args.address) spans) same c.have_near.ensures in
    (λ is. by_spans.0 (found.0 is), λ near. found.1 (by_spans.1 near))

pub returns-in-Many-clause-near : goal.returns-in-Many-clause-near
returns-in-Many-clause-near c image are =
    let same = subst (λ (addresses : NearAddresses). AreNearAddresses image addresses) c.in-Many.is are in
    let mapped = near_mapped image c.args.address in
    let found = c.is_near_mapped.ensures.near image same in
    (λ is. mapped.0 (found.0 is), λ near. found.1 (mapped.1 near))

pub returns-in-Many-clause-same : goal.returns-in-Many-clause-same
returns-in-Many-clause-same c image are =
    c.is_near_mapped.ensures.same image (subst (λ (addresses : NearAddresses). AreNearAddresses image addresses) c.in-Many.is are)
