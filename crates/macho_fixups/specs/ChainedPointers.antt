-- What the pointers of chains say. (mach-o/fixup-chains.h: dyld_chained_ptr_64_rebase, dyld_chained_ptr_64_bind,
-- dyld_chained_ptr_arm64e_rebase, dyld_chained_ptr_arm64e_bind, dyld_chained_ptr_arm64e_bind24,
-- dyld_chained_ptr_arm64e_auth_rebase, dyld_chained_ptr_arm64e_auth_bind, dyld_chained_ptr_arm64e_auth_bind24)
use Rattle.std.specs.Prelude.{ℕ, ◌+◌, ◌*◌, ◌/◌, ◌%◌, ◌^◌, ◌==◌, ◌||◌, Bool, false, ℤ, pos, if◌then◌else◌}
use Rattle.macho_chains.specs.declared.chain_starts.PointerFormat.{PointerFormat}
use Rattle.macho_chains.specs.declared.chain_starts.PointerFormat.TheVariants as format
use Rattle.macho_fields.specs.declared.header.fixup_chains.TheConstants as chained
use Rattle.macho_tables.specs.Numbers.{twos_complement}
use Rattle.macho_fixups.specs.Rows.{row_of_kind}
use Rattle.macho_fixups.specs.declared.row.KesvuotFixup.{KesvuotFixup}
use Rattle.macho_fixups.specs.declared.row.TheConstants as kind

-- By the pointer_format, the target of a rebase that is not authenticated counts from the base of the image. Otherwise
-- it is an address.
abbrev pub counts_from_base : ℕ → Bool
counts_from_base number =
    number == chained.DYLD_CHAINED_PTR_64_OFFSET || number == chained.DYLD_CHAINED_PTR_ARM64E_USERLAND
    || number == chained.DYLD_CHAINED_PTR_ARM64E_USERLAND24

-- auth: bit 63 of a pointer of arm64e
abbrev pub is_authenticated : PointerFormat → ℕ → Bool
is_authenticated format.Pointer64 raw = false
is_authenticated format.Arm64e raw = raw / 2 ^ 63 % 2 == 1
is_authenticated format.Arm64e24 raw = raw / 2 ^ 63 % 2 == 1

-- how many of the lowest bits are the target of a rebase that is not authenticated: high8, past them, is its highest
-- byte
abbrev pub target_width : PointerFormat → ℕ
target_width format.Pointer64 = 36
target_width format.Arm64e = 43
target_width format.Arm64e24 = 43

abbrev pub plain_target : PointerFormat → ℕ → ℕ
plain_target format raw =
    raw % 2 ^ target_width format + 2 ^ 56 * (raw / 2 ^ target_width format % 2 ^ 8)

-- The address to which a rebase points, before any slide, modulo 2^64. An authenticated one has a target of 32 bits,
-- which counts from the base in every format.
unfoldable pub target_of : ℕ → ℕ → PointerFormat → ℕ → ℕ
target_of base number format raw =
    if is_authenticated format raw then (base + raw % 2 ^ 32) % 2 ^ 64
    else (if counts_from_base number then (base + plain_target format raw) % 2 ^ 64
    else plain_target format raw)

-- the addend of a bind: 8 bits from 24 on, which are not signed, or of arm64e 19 bits from 32 on, which are signed. An
-- authenticated one has none.
unfoldable pub own_addend : PointerFormat → ℕ → ℤ
own_addend format.Pointer64 raw = pos (raw / 2 ^ 24 % 2 ^ 8)
own_addend format.Arm64e raw =
    if raw / 2 ^ 63 % 2 == 1 then pos 0 else twos_complement (raw / 2 ^ 32 % 2 ^ 19) (2 ^ 19)
own_addend format.Arm64e24 raw =
    if raw / 2 ^ 63 % 2 == 1 then pos 0 else twos_complement (raw / 2 ^ 32 % 2 ^ 19) (2 ^ 19)

-- a row with how the pointer with these bits is signed: diversity of 16 bits from 32 on, addrDiv, and key of 2 bits
abbrev pub signed_row : PointerFormat → ℕ → KesvuotFixup → KesvuotFixup
signed_row format raw row =
    if is_authenticated format raw then record row {
      diversity = raw / 2 ^ 32 % 2 ^ 16;
      address_diversity = raw / 2 ^ 48 % 2;
      key = raw / 2 ^ 49 % 2 ^ 2;
      authenticated = 1;
    } else row

-- what a rebase says, in a row without its location
unfoldable pub rebase_of : ℕ → ℕ → PointerFormat → ℕ → KesvuotFixup
rebase_of base number format raw =
    signed_row format raw (record (row_of_kind kind.REBASE) { target = target_of base number format raw })

-- what a bind of an import says, with so much added in all
unfoldable pub bind_of : PointerFormat → ℕ → ℕ → ℤ → KesvuotFixup
bind_of format raw import addend =
    signed_row format raw (record (row_of_kind kind.BIND) { import = import; addend = addend })
