use Rattle.std.proofs.Common.{◌≡◌, ℕ, refl, subst}
use Rattle.std.proofs.lemmas.Option.{none-some, same_Some}
use Rattle.macho_fields.specs.Bytes.{bytes_of}
use Rattle.macho_alike.specs.Bounds.{IsPointerBound}
use Rattle.macho_alike.specs.declared.bounds.Bound.{Bound}
use Rattle.macho_alike.proofs.Gathered.{gathered_none, gathered_one}
use Rattle.macho_alike.proofs.bounds.add_pointer.Goals as goal

bound_as : (segment offset name : ℕ) (bound : Bound) → bound.segment ≡ segment → bound.offset ≡ offset → name ≡ bound.name → ◌≡◌ {A = Bound} record { segment = segment; offset = offset; name = name } bound
bound_as segment offset name bound in_segment at named = rw (← in_segment, ← at, named) refl

pub returns-in_ok-push : goal.returns-in_ok-push
returns-in_ok-push c =
    let name = c.in-Some.name in
    let IsIts = IsPointerBound c.args.chains.start (bytes_of c.args.chains.bytes) c.args.chains.header c.args.pointer c.args.segment c.args.offset in
    let one : Bound = record { segment = c.args.segment; offset = c.args.offset; name = name } in
    gathered_one IsIts c.args.bounds.now.items c.push.new.self.items one c.in_ok-push.ensures.items (λ bound. (
      λ (in_segment, at, is). bound_as c.args.segment c.args.offset name bound in_segment at (same_Some name bound.name ((c.in-Some.ensures bound.name).0 is)),
      λ same. subst IsIts same (refl, refl, (c.in-Some.ensures name).1 refl),
    ))

pub returns-in_default : goal.returns-in_default
returns-in_default c =
    let IsIts = IsPointerBound c.args.chains.start (bytes_of c.args.chains.bytes) c.args.chains.header c.args.pointer c.args.segment c.args.offset in
    gathered_none IsIts c.args.bounds.now.items (λ bound (in_segment, at, is). none-some bound.name ((c.in_default.ensures bound.name).0 is))
