use Rattle.std.proofs.Common.{◌≡◌, ◌+◌, ◌≤◌, ◌<◌, ◌^◌, ℕ, length, Option, Some, None, IfSome, refl, sym, arith}
use Rattle.macho_fields.specs.Bytes.{bytes_of}
use Rattle.macho_fields.proofs.Options.{some_of}
use Rattle.macho_spans.specs.Span.{end_of}
use Rattle.macho_spans.specs.declared.span.Span.{Span}
use Rattle.macho_opcodes.proofs.Within.{step_within}
use Rattle.macho_alike.specs.Imports.{IsFrom}
use Rattle.macho_alike.specs.declared.binds.Library.{Library}
use Rattle.macho_alike.specs.declared.imports.LookUp.{LookUp}
use Rattle.macho_alike.proofs.BindLists.{on_any_err}
use Rattle.macho_alike.proofs.LookUps.{walk_start, walk_stuck, walk_all, walk_named, walk_more, walk_has, look_up_inside}
use Rattle.macho_alike.proofs.imports.note_steps.Goals as goal

pub loop-place-init : goal.loop-place-init
loop-place-init g c = rw (c.new-cursor.ensures, c.new-aim.ensures) (walk_start (bytes_of c.args.image) g.N.Notes.are_of c.args.one c.args.start (bytes_of c.args.stream) c.args.notes.now)

pub returns-in_default-clause-noted : goal.returns-in_default-clause-noted
returns-in_default-clause-noted g c =
    walk_stuck (bytes_of c.args.image) g.N.Notes.are_of c.args.one c.args.start (bytes_of c.args.stream) c.args.notes.now c.loop-place.place c.loop-place.cursor c.loop-place.aim c.loop-place.notes
    c.loop-place.last c.loop-place.invariant (rw (← c.opcodes.ensures) (sym c.in_default.ensures))

known : (start len : ℕ) → start + len < 2 ^ 64 → (name : Option Span) → ((n : Span) → name ≡ Some n → end_of n ≤ len) → IfSome name (λ name. start + end_of name < 2 ^ 64)
known start len near None named = tt
known start len near (Some n) named = let whole = named n refl in omega (arith, near, whole)

pub look_up_of-look_up-requires : goal.look_up_of-look_up-requires
look_up_of-look_up-requires g c =
    known c.args.start (length (bytes_of c.args.stream)) c.requires.near c.loop-place.cursor.name
    (walk_named (bytes_of c.args.image) g.N.Notes.are_of c.args.one c.args.start (bytes_of c.args.stream) c.args.notes.now c.loop-place.place c.loop-place.cursor c.loop-place.aim c.loop-place.notes
    c.loop-place.last c.loop-place.invariant)

pub note_next-requires : goal.note_next-requires
note_next-requires g c = λ k. (
  (refl, tt),
  look_up_inside (bytes_of c.args.image) c.args.one c.args.start c.loop-place.place c.loop-place.cursor c.loop-place.aim c.in-Some.step (bytes_of c.args.stream)
      (walk_named (bytes_of c.args.image) g.N.Notes.are_of c.args.one c.args.start (bytes_of c.args.stream) c.args.notes.now c.loop-place.place c.loop-place.cursor c.loop-place.aim c.loop-place.notes
      c.loop-place.last c.loop-place.invariant) c.requires.inside c.look_up_of-look_up.result c.look_up_of-look_up.ensures,
)

pub returns-in_err-last-clause-memory : goal.returns-in_err-last-clause-memory
returns-in_err-last-clause-memory g c =
    let (look_up, is, (from, is_from)) = some_of (λ (l : LookUp). (from : Library) × IsFrom l.library from) c.look_up_of-look_up.result c.in_err-last.ensures.memory in
    on_any_err _ c.from_residual.result (walk_has (bytes_of c.args.image) g.N.Notes.are_of c.args.one c.args.start (bytes_of c.args.stream) c.args.notes.now c.loop-place.place c.loop-place.cursor
    c.loop-place.aim c.loop-place.notes c.loop-place.last c.loop-place.invariant c.in-Some.step c.in-Some.next (rw (← c.opcodes.ensures) (sym c.in-Some.ensures))
    c.look_up_of-look_up.result c.look_up_of-look_up.ensures look_up is from is_from)

pub loop-place-smaller : goal.loop-place-smaller
loop-place-smaller g c =
    let within = step_within c.opcodes.result (bytes_of c.args.stream) c.loop-place.place c.in-Some.step c.in-Some.next (sym c.in-Some.ensures) in
    omega (arith, c.len.ensures.count, c.loop-place-test.true)

pub loop-place-preserved : goal.loop-place-preserved
loop-place-preserved g c =
    walk_more (bytes_of c.args.image) g.N.Notes.are_of c.args.one c.args.start (bytes_of c.args.stream) c.args.notes.now c.loop-place.place c.loop-place.cursor c.loop-place.aim c.loop-place.notes
    c.loop-place.last c.loop-place.invariant c.in-Some.step c.in-Some.next (rw (← c.opcodes.ensures) (sym c.in-Some.ensures)) c.in_ok-last.last c.note_next.new.notes
    c.look_up_of-look_up.result c.follow.new.self c.follow-in-loop-place.new.self c.look_up_of-look_up.ensures c.in_ok-last.ensures.noted c.follow.ensures c.follow-in-loop-place.ensures

pub returns-clause-noted : goal.returns-clause-noted
returns-clause-noted g c =
    walk_all (bytes_of c.args.image) g.N.Notes.are_of c.args.one c.args.start (bytes_of c.args.stream) c.args.notes.now c.loop-place.place c.loop-place.cursor c.loop-place.aim c.loop-place.notes
    c.loop-place.last c.loop-place.invariant (omega (arith, c.len.ensures.count, c.loop-place-test.false))
