-- What a cursor of the caller says that was made at an opcode.
use Rattle.std.proofs.Common.{◌≡◌, ℕ, zero, suc, ◌+◌, ◌-◌, ◌*◌, ◌%◌, ◌^◌, ◌≤◌, ◌<◌, ◌==◌, List, [], ◌∷◌, ◌++◌, slice_get, Option, Some, None, Bool, true, false, refl, sym, ap, ◌∙◌, subst, arith, inl, inr}
use Rattle.std.specs.Prelude.{cond, ℤ, not, if◌then◌else◌}
use Rattle.std.specs.Option.{option_map_or, option_and_then, unwrap_or}
use Rattle.std.proofs.lemmas.Bool.{ne_eqb}
use Rattle.macho_opcodes.specs.Cursor.{moved}
use Rattle.macho_opcodes.specs.declared.cursor.Cursor.{Cursor}
use Rattle.macho_opcodes.specs.declared.step.Step.TheVariants as step
use Rattle.macho_opcodes.specs.declared.streams.Stream.{Stream}
use Rattle.macho_opcodes.specs.declared.streams.Stream.TheVariants as streams
use Rattle.macho_spans.specs.declared.span.Span.{Span}
use Rattle.macho_fixups.specs.Opcodes.{pointers, pointer_at, number_after, fixups_of, fixups_left, walk_of, passed, position_of, row_at, pointers_left, next_number, number_past, past, cursor_of}
use Rattle.macho_fixups.specs.Streams.{all_streams, writes_left}
use Rattle.macho_fixups.specs.Walks.{followed, step_of, begun, offset_past}
use Rattle.macho_fixups.specs.declared.cursor.KesvuotFixupCursor.{KesvuotFixupCursor}
use Rattle.macho_fixups.specs.declared.location.Room.{Room}
use Rattle.macho_fixups.specs.declared.row.KesvuotFixup.{KesvuotFixup}
use Rattle.macho_fixups.specs.declared.streams.Position.{Position}
use Rattle.macho_fixups.specs.declared.walk.Walk.{Walk}
use Rattle.macho_fixups.specs.declared.walk.Write.{Write}

-- An opcode that was reached

-- the segment that is set has an index of 8 bits
abbrev pub IsByte : Option ℕ → Type 0
IsByte None = Unit {0}
IsByte (Some segment) = segment < 2 ^ 8

pub is_byte : (segment : Option ℕ) → unwrap_or segment 0 < 2 ^ 8 → IsByte segment
is_byte None less = tt
is_byte (Some segment) less = less

-- what a cursor says is what it was made of
module _ (at : Position) (walk : Walk) (left skip import : ℕ) where
  segment_kept : (segment : Option ℕ) → IsByte segment
      → (if option_map_or (λ s. 1) segment 0 == 0 then None else Some (unwrap_or segment 0 % 2 ^ 8)) ≡ segment
  segment_kept None near = refl
  segment_kept (Some segment) near = ap Some (omega (arith, near))

  abbrev no_name : Span
  no_name = record { start = 0; len = 0 }

  name_kept : (name : Option Span)
      → (if option_map_or (λ n. 1) name 0 == 0 then None
      else Some (record { start = (unwrap_or name no_name).start; len = (unwrap_or name no_name).len })) ≡ name
  name_kept None = refl
  name_kept (Some name) = refl

  flag_kept : (b : Bool) → not ((if b then 1 else 0) == 0) ≡ b
  flag_kept true = refl
  flag_kept false = refl

  pub walk_kept : IsByte walk.cursor.segment → walk_of (cursor_of at walk left skip import) ≡ walk
  walk_kept near =
      ap (λ (segment : Option ℕ). let cursor : Cursor = record (walk_of (cursor_of at walk left skip import)).cursor { segment = segment } in
      let all : Walk = record (walk_of (cursor_of at walk left skip import)) { cursor = cursor } in all) (segment_kept walk.cursor.segment near)
      ∙ (ap (λ (name : Option Span). let cursor : Cursor = record { segment = walk.cursor.segment; offset = walk.cursor.offset; name = name; is_new = not ((if walk.cursor.is_new then 1 else 0) == 0) } in
      let all : Walk = record walk { cursor = cursor } in all) (name_kept walk.cursor.name)
      ∙ ap (λ (new : Bool). let cursor : Cursor = record walk.cursor { is_new = new } in let all : Walk = record walk { cursor = cursor } in all) (flag_kept walk.cursor.is_new))

-- the position where nothing is left of an opcode
pub position_kept : (at : Position) (import : ℕ) → IsByte at.walk.cursor.segment → at.walk.cursor.offset < 2 ^ 64
    → position_of (cursor_of at at.walk 0 0 import) ≡ at
position_kept at import near fits =
    ap (λ (walk : Walk). let all : Position = record at { walk = passed walk 0 0 } in all) (walk_kept at at.walk 0 0 import near)
    ∙ ap (λ (offset : ℕ). let cursor : Cursor = record at.walk.cursor { offset = offset } in let walk : Walk = record at.walk { cursor = cursor } in
    let all : Position = record at { walk = walk } in all) (omega (arith, fits))

module _ (at : Position) (write : Write) (import : ℕ) (near : IsByte write.walk.cursor.segment) (some : 0 < write.count) where
  abbrev reached : KesvuotFixupCursor
  reached = cursor_of at (begun write) write.count write.skip import

  kept : walk_of reached ≡ begun write
  kept = walk_kept at (begun write) write.count write.skip import near

  -- past its pointers is what the opcode sets
  pub position_reached : at.walk ≡ followed write.walk (step_of write) → position_of reached ≡ at
  position_reached is =
      ap (λ (walk : Walk). let all : Position = record at { walk = passed walk write.count write.skip } in all) kept
      ∙ ap (λ (walk : Walk). let all : Position = record at { walk = walk } in all) (sets ∙ sym is)
    where
      more : (write.count == 0) ≡ false
      more = ne_eqb write.count 0 (λ none. omega (arith, none, some))

      sets : passed (begun write) write.count write.skip ≡ followed write.walk (step_of write)
      sets = rw more refl

  -- the number of the next import
  pub numbered : (one : Stream) → slice_get all_streams at.stream ≡ Some one → number_past reached ≡ number_after one import
  numbered one is =
      rw (ne_eqb write.count 0 (λ none. omega (arith, none, some)))
      (ap (λ found. option_map_or (λ one. number_after one import) found import) is)

  -- all its pointers are left
  pub pointers_reached : (image : List ℕ) (rooms : ℕ → Room) (one : Stream) → slice_get all_streams at.stream ≡ Some one
      → pointers_left image rooms reached ≡ pointers (pointer_at image rooms one write.walk import) write.count write.walk.cursor.offset write.skip
  pointers_reached image rooms one is =
      ap (λ found. pointers (λ offset. option_and_then (λ one. pointer_at image rooms one (walk_of reached) import offset) found) write.count write.walk.cursor.offset write.skip) is
      ∙ ap (λ walk. pointers (pointer_at image rooms one walk import) write.count write.walk.cursor.offset write.skip) kept
