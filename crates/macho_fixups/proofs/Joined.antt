-- The rows of an image are those that were read from it.
use Rattle.std.proofs.Common.{◌≡◌, ℕ, List, [], refl, ap, ◌∙◌, inr, arith}
use mathlib.Core.Path.{fun_ext}
use Rattle.macho_opcodes.specs.declared.streams.Stream.{Stream}
use Rattle.macho_fixups.specs.Batch.{IsBatch}
use Rattle.macho_fixups.specs.Opcodes.{fixups_left, imports_left}
use Rattle.macho_fixups.specs.declared.cursor.KesvuotFixupCursor.{KesvuotFixupCursor}
use Rattle.macho_fixups.specs.declared.location.Room.{Room}

pub same_fixups : (held image : List ℕ) (rooms others : ℕ → Room) (bytes more : Stream → List ℕ) → held ≡ image → ((k : ℕ) → rooms k ≡ others k)
    → ((one : Stream) → bytes one ≡ more one) → fixups_left held rooms bytes ≡ fixups_left image others more
same_fixups held image rooms others bytes more same near read =
    ap (λ (i : List ℕ). fixups_left i rooms bytes) same
    ∙ (ap (λ (r : ℕ → Room). fixups_left image r bytes) (fun_ext near) ∙ ap (λ (b : Stream → List ℕ). fixups_left image others b) (fun_ext read))

pub same_imports : (places others : Stream → ℕ) (bytes more : Stream → List ℕ) → ((one : Stream) → places one ≡ others one)
    → ((one : Stream) → bytes one ≡ more one) → imports_left places bytes ≡ imports_left others more
same_imports places others bytes more begin read =
    ap (λ (p : Stream → ℕ). imports_left p bytes) (fun_ext begin) ∙ ap (λ (b : Stream → List ℕ). imports_left others b) (fun_ext read)

-- nothing is written where nothing is left
pub no_batch : {R : Type 0} (left : KesvuotFixupCursor → List R) (cursor : KesvuotFixupCursor) (rows : List R) → left cursor ≡ [] → IsBatch left cursor cursor 0 rows rows
no_batch left cursor rows none = record { room = omega arith; rows = refl; full = inr none; rest = refl }
