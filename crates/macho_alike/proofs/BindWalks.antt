-- A walk over a stream finds the pointers that its opcodes bind.
use Rattle.std.proofs.Common.{◌≡◌, ◌⊎◌, ℕ, ◌+◌, ◌^◌, ◌≤◌, ◌<◌, List, [], ◌∷◌, ◌++◌, length, Some, None, Contains, refl, sym, ap, ◌∙◌, subst, arith, inl, inr}
use Rattle.std.proofs.lemmas.Bool.{cases_lt, cases_eq}
use Rattle.std.proofs.lemmas.List.{append-nil}
use Rattle.std.proofs.lemmas.List.Sums.{fold_push}
use Rattle.macho_spans.specs.Span.{end_of}
use Rattle.macho_opcodes.specs.Cursor.{start, moved, cursor_after, writes}
use Rattle.macho_opcodes.specs.Images.{opcodes_of}
use Rattle.macho_opcodes.specs.Steps.{step_at, AreSteps, AreStepsFrom}
use Rattle.macho_opcodes.specs.Streams.{At, pointers}
use Rattle.macho_opcodes.specs.declared.cursor.Cursor.{Cursor}
use Rattle.macho_opcodes.specs.declared.step.Step.{Step}
use Rattle.macho_opcodes.specs.declared.step.Step.TheVariants as step
use Rattle.macho_opcodes.specs.declared.streams.Stream.{Stream}
use Rattle.macho_opcodes.proofs.StepChains.{same_step, steps_rise, steps_more, steps_on}
use Rattle.macho_opcodes.proofs.StreamWalks.{none_past, none_outside, none_between}
use Rattle.macho_opcodes.proofs.Within.{step_within}
use Rattle.macho_alike.specs.Binds.{no_aim, aimed, aim_after, slot_offset, StepBinds, OpcodeBinds, StreamBinds}
use Rattle.macho_alike.specs.BindLists.{WereAdded, IsInside}
use Rattle.macho_alike.specs.declared.binds.Aim.{Aim}
use Rattle.macho_alike.specs.declared.binds.Bind.{Bind}
use Rattle.macho_alike.proofs.BindNames.{IsNamed, cursor_named}

-- anything holds of the step
abbrev Some_step : Cursor → ℕ → Step → Type 0
Some_step cursor written next = Unit {0}

module _ (one : Stream) (from : ℕ) (stream : List ℕ) where
  -- an opcode below the place binds it
  abbrev pub BindsBelow : ℕ → Bind → Type 0
  BindsBelow place bind = (offset : ℕ) × (offset < place) × OpcodeBinds one from stream offset bind

  -- where a walk has come: the binds of the opcodes before the place were added to a list
  pub record IsRead (old : List Bind) (place : ℕ) (cursor : Cursor) (aim : Aim) (items : List Bind) : Type 0 where
    pub before : List Step
    pub are : AreSteps (opcodes_of one) stream before place
    pub reached : cursor ≡ cursor_after before
    pub set : aim ≡ aim_after before
    pub added : WereAdded (BindsBelow place) old items

  pub read_start : (old : List Bind) → IsRead old 0 start no_aim old
  read_start old = record {
    before = [];
    are = refl;
    reached = refl;
    set = refl;
    added = λ bind. (λ has. inl has, λ either. elim either [ inl has ↦ has | inr (offset, less, binds) ↦ absurd (omega arith) ]);
  }

  step_of : (offset : ℕ) (bind : Bind) → OpcodeBinds one from stream offset bind → At pointers Some_step (opcodes_of one) stream offset
  step_of offset bind (before, next, after, are, at, binds) = (before, next, after, are, at, tt)

  module _ (old : List Bind) (place : ℕ) (cursor : Cursor) (aim : Aim) (items : List Bind) (read : IsRead old place cursor aim items) where
    abbrev before : List Step
    before = read.before

    -- the walk ends where no opcode is at the place or after it
    over : ((late : ℕ) → place ≤ late → ¬ At pointers Some_step (opcodes_of one) stream late) → WereAdded (StreamBinds one from stream) old items
    over past bind = (to, back)
      where
        to : Contains items bind → Contains old bind ⊎ StreamBinds one from stream bind
        to has = elim ((read.added bind).0 has) [ inl was ↦ inl was | inr (offset, less, binds) ↦ inr (offset, binds) ]

        back : Contains old bind ⊎ StreamBinds one from stream bind → Contains items bind
        back (inl was) = (read.added bind).1 (inl was)
        back (inr (offset, binds)) = elim (cases_lt offset place) [
          | inl early ↦ (read.added bind).1 (inr (offset, early, binds))
          | inr late ↦ absurd (past offset late (step_of offset bind binds))
        ]

    pub read_stuck : step_at (opcodes_of one) stream place ≡ None → WereAdded (StreamBinds one from stream) old items
    read_stuck none = over (none_past pointers Some_step (opcodes_of one) stream place before read.are none)

    pub read_all : length stream ≤ place → WereAdded (StreamBinds one from stream) old items
    read_all end = over (none_outside pointers Some_step (opcodes_of one) stream place before read.are end)

    -- the name that is set lies in the stream
    pub read_named : IsNamed stream cursor.name
    read_named = subst (λ (c : Cursor). IsNamed stream c.name) (sym read.reached) (cursor_named stream (opcodes_of one) before place read.are)

    module _ (here : Step) (after : ℕ) (at : step_at (opcodes_of one) stream place ≡ Some (here, after)) where
      -- what the step binds
      pub binds_step : (bind : Bind) → StepBinds one from place cursor aim here bind → OpcodeBinds one from stream place bind
      binds_step bind binds =
          let of_cursor = subst (λ (c : Cursor). StepBinds one from place c aim here bind) read.reached binds in
          let of_aim = subst (λ (a : Aim). StepBinds one from place (cursor_after before) a here bind) read.set of_cursor in
          (before, here, after, read.are, at, of_aim)

      step_binds : (bind : Bind) → OpcodeBinds one from stream place bind → StepBinds one from place cursor aim here bind
      step_binds bind (others, next, end, chain, there, has) =
          let same = (same_step _ here next after end at there).0 in
          let (rest, on, is) = steps_on (opcodes_of one) stream before others 0 place place read.are chain (omega arith) in
          all_same rest on is same
        where
          all_same : (rest : List Step) → AreStepsFrom (opcodes_of one) stream place rest place → others ≡ before ++ rest → here ≡ next → StepBinds one from place cursor aim here bind
          all_same [] on is same =
              let steps : others ≡ before = is ∙ append-nil before in
              let at_cursor : cursor_after others ≡ cursor = ap cursor_after steps ∙ sym read.reached in
              let at_aim : aim_after others ≡ aim = ap aim_after steps ∙ sym read.set in
              let of_step = subst (λ (s : Step). StepBinds one from place (cursor_after others) (aim_after others) s bind) (sym same) has in
              let of_cursor = subst (λ (c : Cursor). StepBinds one from place c (aim_after others) here bind) at_cursor of_step in
              subst (λ (a : Aim). StepBinds one from place cursor a here bind) at_aim of_cursor
          all_same (first ∷ rest) (end_of, begins, on) is same =
              let within = step_within (opcodes_of one) stream place first end_of begins in
              let more = steps_rise (opcodes_of one) stream rest end_of place on in absurd (omega arith)

      pub read_more : (new : List Bind) (next_cursor : Cursor) (next_aim : Aim) → WereAdded (StepBinds one from place cursor aim here) items new
          → next_cursor ≡ moved cursor here → next_aim ≡ aimed aim here → IsRead old after next_cursor next_aim new
      read_more new next_cursor next_aim added goes turns = record {
        before = before ++ here ∷ [];
        are = steps_more (opcodes_of one) stream before 0 place here after read.are at;
        reached = goes ∙ (ap (λ (c : Cursor). moved c here) read.reached ∙ sym (fold_push moved start before here));
        set = turns ∙ (ap (λ (a : Aim). aimed a here) read.set ∙ sym (fold_push aimed no_aim before here));
        added = λ bind. (to bind, back bind);
      }
        where
          further : (place < after) × (after ≤ length stream)
          further = step_within (opcodes_of one) stream place here after at

          to : (bind : Bind) → Contains new bind → Contains old bind ⊎ BindsBelow after bind
          to bind has = elim ((added bind).0 has) [
            | inl was ↦ elim ((read.added bind).0 was) [ inl first ↦ inl first | inr (offset, less, binds) ↦ inr (offset, omega (arith, less, further.0), binds) ]
            | inr binds ↦ inr (place, further.0, binds_step bind binds)
          ]

          back : (bind : Bind) → Contains old bind ⊎ BindsBelow after bind → Contains new bind
          back bind (inl was) = (added bind).1 (inl ((read.added bind).1 (inl was)))
          back bind (inr (offset, less, binds)) = elim (cases_lt offset place) [
            | inl early ↦ (added bind).1 (inl ((read.added bind).1 (inr (offset, early, binds))))
            | inr late ↦ elim (cases_eq offset place) [
              | inl same ↦ (added bind).1 (inr (step_binds bind (subst (λ (n : ℕ). OpcodeBinds one from stream n bind) same binds)))
              | inr apart ↦ absurd (none_between pointers Some_step (opcodes_of one) stream place before read.are here after at offset (omega (arith, late, apart)) less (step_of offset bind binds))
            ]
          ]

-- The binds of an image lie in it

module _ (one : Stream) (from : ℕ) (stream : List ℕ) (len : ℕ) (fits : from + length stream ≤ len) where
  slot_near : (cursor : Cursor) (next : Step) (k : ℕ) → k < writes next → slot_offset cursor next k < 2 ^ 64
  slot_near cursor (step.Write count skip) k less = omega arith
  slot_near cursor step.Done k less = absurd (omega (arith, less))
  slot_near cursor step.SetPointer k less = absurd (omega (arith, less))
  slot_near cursor (step.SetLibrary ordinal) k less = absurd (omega (arith, less))
  slot_near cursor (step.SetSpecial below) k less = absurd (omega (arith, less))
  slot_near cursor (step.SetSymbol name flags) k less = absurd (omega (arith, less))
  slot_near cursor (step.SetAddend addend) k less = absurd (omega (arith, less))
  slot_near cursor (step.SetSegment segment offset) k less = absurd (omega (arith, less))
  slot_near cursor (step.AddOffset distance) k less = absurd (omega (arith, less))

  pub stream_binds_inside : (bind : Bind) → StreamBinds one from stream bind → IsInside len bind
  stream_binds_inside bind (offset, (before, next, after, are, at, (segment, name, k, set, named, less, is))) =
      let within = step_within (opcodes_of one) stream offset next after at in
      let whole : end_of name ≤ length stream = cursor_named stream (opcodes_of one) before offset are name named in
      subst (IsInside len) (sym is) (record {
        place = omega (arith, within, fits);
        name = omega (arith, whole, fits);
        offset = slot_near (cursor_after before) next k less;
      })
