-- What the name, the protection and the flags of a segment say of the linked data in it.
-- (mach-o/loader.h: segment_command_64; mach/vm_prot.h)
use Rattle.std.specs.Prelude.{◌≡◌, ℕ, ◌+◌, ◌&&◌, not, nat_lt, List, Bool, bit_and, codes}
use Rattle.macho_fields.specs.Image.{word}
use Rattle.macho_fields.specs.Segment.{vmsize, initprot}
use Rattle.macho_fields.specs.declared.header.loader.TheConstants as loader
use Rattle.macho_fields.specs.declared.header.vm_prot.TheConstants as vm_prot
use Rattle.macho_image.specs.Segment.{segment_name}

-- it is mapped, and initprot allows writing
abbrev pub is_writable : List ℕ → ℕ → Bool
is_writable image segment =
    nat_lt 0 (vmsize image segment)
    && nat_lt 0 (bit_and (initprot image segment) vm_prot.VM_PROT_WRITE)

-- initprot allows reading, and a loader cannot write it
abbrev pub is_constant : List ℕ → ℕ → Bool
is_constant image segment =
    nat_lt 0 (bit_and (initprot image segment) vm_prot.VM_PROT_READ) && not (is_writable image segment)

-- flags, at 68: a kernel decrypts its pages
abbrev pub is_protected : List ℕ → ℕ → Bool
is_protected image segment =
    nat_lt 0 (bit_and (word image (segment + 68)) loader.SG_PROTECTED_VERSION_1)

-- loaders take it for the one with the linked data, by its name
abbrev pub IsLinkedit : List ℕ → ℕ → Type 0
IsLinkedit image segment = segment_name image segment ≡ codes "__LINKEDIT"

-- and for the one with the base, by its name
abbrev pub IsText : List ℕ → ℕ → Type 0
IsText image segment = segment_name image segment ≡ codes "__TEXT"
