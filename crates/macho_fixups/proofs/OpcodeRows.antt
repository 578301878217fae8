-- The rows that remain, past an opcode that writes.
use Rattle.std.proofs.Common.{◌≡◌, ℕ, ◌≤◌, ◌<◌, ◌^◌, ◌==◌, List, [], ◌∷◌, ◌++◌, slice_get, Option, Some, None, refl, sym, ap, ◌∙◌, subst, arith, inl, inr}
use Rattle.std.specs.Prelude.{if◌then◌else◌}
use Rattle.std.proofs.lemmas.Bool.{cases_eq, eq-eqb, ne_eqb}
use Rattle.macho_opcodes.specs.declared.streams.Stream.{Stream}
use Rattle.macho_fixups.specs.Opcodes.{pointers, pointer_at, number_after, fixups_of, fixups_left, imports_of, imports_left, import_row, importing, position_of, pointers_left, number_past, cursor_of}
use Rattle.macho_fixups.specs.Streams.{all_streams, writes_left}
use Rattle.macho_fixups.specs.Walks.{no_walk, followed, step_of, begun}
use Rattle.macho_fixups.specs.declared.cursor.KesvuotFixupCursor.{KesvuotFixupCursor}
use Rattle.macho_fixups.specs.declared.location.Room.{Room}
use Rattle.macho_fixups.specs.declared.row.KesvuotFixup.{KesvuotFixup}
use Rattle.macho_fixups.specs.declared.row.KesvuotImport.{KesvuotImport}
use Rattle.macho_fixups.specs.declared.streams.Position.{Position}
use Rattle.macho_fixups.specs.declared.walk.Write.{Write}
use Rattle.macho_fixups.proofs.Cursors.{IsByte, position_kept, position_reached, numbered, pointers_reached}

module _ (image : List ℕ) (rooms : ℕ → Room) (bytes : Stream → List ℕ) where
  -- where no pointers are left of an opcode, the next one has those that are left
  pub next_opcode : (cursor : KesvuotFixupCursor) (at : Position) (one : Stream) (write : Write) (number : ℕ) → pointers_left image rooms cursor ≡ []
      → writes_left bytes (position_of cursor) ≡ (one, write) ∷ writes_left bytes at → slice_get all_streams at.stream ≡ Some one → 0 < write.count
      → at.walk ≡ followed write.walk (step_of write) → IsByte write.walk.cursor.segment → number ≡ number_past cursor
      → fixups_left image rooms bytes cursor ≡ fixups_left image rooms bytes (cursor_of at (begun write) write.count write.skip number)
  next_opcode cursor at one write number none first is some sets near same =
      ap (λ list. list ++ fixups_of image rooms (number_past cursor) (writes_left bytes (position_of cursor))) none
      ∙ (ap (fixups_of image rooms (number_past cursor)) first
      ∙ (ap (λ (n : ℕ). own n ++ fixups_of image rooms (number_after one n) (writes_left bytes at)) (sym same)
      ∙ (ap (λ list. list ++ fixups_of image rooms (number_after one number) (writes_left bytes at)) (sym (pointers_reached at write number near some image rooms one is))
      ∙ (ap (λ (n : ℕ). pointers_left image rooms reached ++ fixups_of image rooms n (writes_left bytes at)) (sym (numbered at write number near some one is))
      ∙ ap (λ (p : Position). pointers_left image rooms reached ++ fixups_of image rooms (number_past reached) (writes_left bytes p)) (sym (position_reached at write number near some sets))))))
    where
      own : ℕ → List KesvuotFixup
      own n = pointers (pointer_at image rooms one write.walk n) write.count write.walk.cursor.offset write.skip

      reached : KesvuotFixupCursor
      reached = cursor_of at (begun write) write.count write.skip number

  -- none are left where none of an opcode are, and no opcode writes
  pub none_over : (cursor : KesvuotFixupCursor) → pointers_left image rooms cursor ≡ [] → writes_left bytes (position_of cursor) ≡ [] → fixups_left image rooms bytes cursor ≡ []
  none_over cursor none last =
      ap (λ list. list ++ fixups_of image rooms (number_past cursor) (writes_left bytes (position_of cursor))) none
      ∙ ap (fixups_of image rooms (number_past cursor)) last

  -- and none at the cursor of a position past the last
  pub none_there : (at : Position) (number : ℕ) → IsByte at.walk.cursor.segment → at.walk.cursor.offset < 2 ^ 64 → writes_left bytes at ≡ []
      → fixups_left image rooms bytes (cursor_of at at.walk 0 0 number) ≡ []
  none_there at number near fits last =
      none_over (cursor_of at at.walk 0 0 number) refl (ap (writes_left bytes) (position_kept at number near fits) ∙ last)

module _ (places : Stream → ℕ) (bytes : Stream → List ℕ) where
  -- past the rebases
  pub importing_past : (at : Position) → 0 < at.stream → importing at ≡ at
  importing_past at some = rw (ne_eqb at.stream 0 (λ none. omega (arith, none, some))) refl

  pub importing_starts : (at : Position) → 0 < (importing at).stream
  importing_starts at = elim (cases_eq at.stream 0) [
    | inl none ↦ rw (eq-eqb at.stream 0 none) (omega arith)
    | inr some ↦ rw (ne_eqb at.stream 0 some) (omega (arith, some))
  ]

  module _ (at : Position) (near : IsByte at.walk.cursor.segment) (fits : at.walk.cursor.offset < 2 ^ 64) (some : 0 < at.stream) where
    -- what is left at the cursor of a position
    pub left_there : imports_left places bytes (cursor_of at at.walk 0 0 0) ≡ imports_of places bytes (writes_left bytes at)
    left_there = ap (λ (p : Position). imports_of places bytes (writes_left bytes (importing p))) (position_kept at 0 near fits) ∙ ap (λ (p : Position). imports_of places bytes (writes_left bytes p)) (importing_past at some)

    -- the first import, and those past it
    pub first_import : (cursor : KesvuotFixupCursor) (one : Stream) (write : Write) (row : KesvuotImport) → writes_left bytes (importing (position_of cursor)) ≡ (one, write) ∷ writes_left bytes at
        → row ≡ import_row (places one) (bytes one) one write.walk
        → imports_left places bytes cursor ≡ row ∷ imports_left places bytes (cursor_of at at.walk 0 0 0)
    first_import cursor one write row first is =
        ap (imports_of places bytes) first
        ∙ (ap (λ (r : KesvuotImport). r ∷ imports_of places bytes (writes_left bytes at)) (sym is)
        ∙ ap (λ rest. row ∷ rest) (sym left_there))

    pub no_import : (cursor : KesvuotFixupCursor) → writes_left bytes (importing (position_of cursor)) ≡ [] → writes_left bytes at ≡ []
        → (imports_left places bytes cursor ≡ []) × (imports_left places bytes (cursor_of at at.walk 0 0 0) ≡ [])
    no_import cursor none last = (ap (imports_of places bytes) none, left_there ∙ ap (imports_of places bytes) last)
