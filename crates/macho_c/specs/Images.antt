-- What kesvuot_read_image answers.
use Rattle.std.specs.Prelude.{◌≡◌, ℕ, ◌⊎◌, List, None, Some, slice_get}
use Rattle.macho_fields.specs.Universal.{FileSlice, slices_of}
use Rattle.macho_rows.specs.Image.{HasTable, IsRead, IsUnread, IsRefusedAt, ShowsNothing}
use Rattle.macho_rows.specs.declared.image.KesvuotImage.{KesvuotImage}
use Rattle.macho_c.specs.Status.{KESVUOT_OK, KESVUOT_REFUSED, KESVUOT_NONE, KESVUOT_UNREAD}

-- the answer on the slice with this index
abbrev pub IsAnswer : List ℕ → ℕ → ℕ → KesvuotImage → Type 0
IsAnswer file index status row =
    ((status ≡ KESVUOT_OK) × HasTable file
    × (slice : FileSlice) × (slice_get (slices_of file) index ≡ Some slice) × IsRead file slice row)
    ⊎ ((status ≡ KESVUOT_UNREAD) × HasTable file
    × (slice : FileSlice) × (slice_get (slices_of file) index ≡ Some slice)
    × IsUnread file slice row)
    ⊎ ((status ≡ KESVUOT_NONE) × HasTable file
    × (slice_get (slices_of file) index ≡ None) × ShowsNothing row)
    ⊎ ((status ≡ KESVUOT_REFUSED) × IsRefusedAt file index × ShowsNothing row)
