use Rattle.std.proofs.Common.{◌≡◌, ◌+◌, ◌≤◌, ◌<◌, ◌^◌, ℕ, length, Option, Some, None, IfSome, refl, sym, arith}
use Rattle.macho_fields.specs.Bytes.{bytes_of}
use Rattle.macho_spans.specs.Span.{end_of}
use Rattle.macho_spans.specs.declared.span.Span.{Span}
use Rattle.macho_opcodes.proofs.Within.{step_within}
use Rattle.macho_alike.proofs.BindLists.{on_any_err}
use Rattle.macho_alike.proofs.BindWalks.{read_start, read_stuck, read_all, read_named, read_more, binds_step}
use Rattle.macho_alike.proofs.binds.read_stream.Goals as goal

pub loop-place-init : goal.loop-place-init
loop-place-init c = rw (c.new-cursor.ensures, c.new-aim.ensures) (read_start c.args.one c.args.start (bytes_of c.args.stream) c.args.binds.now.items)

pub returns-in_default-clause-added : goal.returns-in_default-clause-added
returns-in_default-clause-added c =
    read_stuck c.args.one c.args.start (bytes_of c.args.stream) c.args.binds.now.items c.loop-place.place c.loop-place.cursor c.loop-place.aim c.loop-place.binds.items c.loop-place.invariant
    (rw (← c.opcodes.ensures) (sym c.in_default.ensures))

known : (start len : ℕ) → start + len < 2 ^ 64 → (name : Option Span) → ((n : Span) → name ≡ Some n → end_of n ≤ len) → IfSome name (λ name. start + end_of name < 2 ^ 64)
known start len near None named = tt
known start len near (Some n) named = let whole = named n refl in omega (arith, near, whole)

pub add_step-requires-clause-name : goal.add_step-requires-clause-name
add_step-requires-clause-name c =
    known c.args.start (length (bytes_of c.args.stream)) c.requires.near c.loop-place.cursor.name
    (read_named c.args.one c.args.start (bytes_of c.args.stream) c.args.binds.now.items c.loop-place.place c.loop-place.cursor c.loop-place.aim c.loop-place.binds.items c.loop-place.invariant)

pub returns-in_err-add_step-clause-memory : goal.returns-in_err-add_step-clause-memory
returns-in_err-add_step-clause-memory c =
    let (bind, binds) = c.in_err-add_step.ensures.memory in
    on_any_err _ c.from_residual.result (
      bind,
      (
        c.loop-place.place,
        binds_step c.args.one c.args.start (bytes_of c.args.stream) c.args.binds.now.items c.loop-place.place c.loop-place.cursor c.loop-place.aim c.loop-place.binds.items c.loop-place.invariant
            c.in-Some.step c.in-Some.next (rw (← c.opcodes.ensures) (sym c.in-Some.ensures)) bind binds,
      ),
    )

pub loop-place-smaller : goal.loop-place-smaller
loop-place-smaller c =
    let within = step_within c.opcodes.result (bytes_of c.args.stream) c.loop-place.place c.in-Some.step c.in-Some.next (sym c.in-Some.ensures) in
    omega (arith, c.len.ensures.count, c.loop-place-test.true)

pub loop-place-preserved : goal.loop-place-preserved
loop-place-preserved c =
    read_more c.args.one c.args.start (bytes_of c.args.stream) c.args.binds.now.items c.loop-place.place c.loop-place.cursor c.loop-place.aim c.loop-place.binds.items c.loop-place.invariant
    c.in-Some.step c.in-Some.next (rw (← c.opcodes.ensures) (sym c.in-Some.ensures)) c.add_step.new.binds.items c.follow.new.self c.follow-in-loop-place.new.self
    c.in_ok-add_step.ensures.added c.follow.ensures c.follow-in-loop-place.ensures

pub returns-clause-added : goal.returns-clause-added
returns-clause-added c =
    read_all c.args.one c.args.start (bytes_of c.args.stream) c.args.binds.now.items c.loop-place.place c.loop-place.cursor c.loop-place.aim c.loop-place.binds.items c.loop-place.invariant
    (omega (arith, c.len.ensures.count, c.loop-place-test.false))
