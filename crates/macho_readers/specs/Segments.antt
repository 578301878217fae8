-- Where a segment breaks a rule, so that two readers see other bytes, another protection or another segment.
-- (mach-o/loader.h: segment_command_64; mach/vm_prot.h)
use Rattle.std.specs.Prelude.{◌≡◌, ◌≢◌, ℕ, ◌+◌, ◌%◌, ◌<◌, ◌⊎◌, List, [], length, find, Any, Contains, Option, Some, bit_and}
use Rattle.macho_fields.specs.Image.{cpu_type}
use Rattle.macho_fields.specs.NonZero.{HasNonZero}
use Rattle.macho_fields.specs.Segment.{all_segments, vmaddr, vmsize, fileoff, filesize, initprot, shows_start}
use Rattle.macho_fields.specs.declared.header.loader.TheConstants as loader
use Rattle.macho_fields.specs.declared.header.vm_prot.TheConstants as vm_prot
use Rattle.macho_image.specs.Segment.{maxprot, short_name, segment_name}
use Rattle.macho_tables.specs.Segments.{IsText}
use Rattle.macho_readers.specs.Pages.{page_size}

-- Pages

-- the segment is mapped, and no page begins at its vmaddr
abbrev pub HasUnevenMemory : ℕ → List ℕ → ℕ → Type 0
HasUnevenMemory page image segment =
    (0 < vmsize image segment) × (vmaddr image segment % page ≢ 0)

-- it has bytes in the file, and no page begins at its fileoff
abbrev pub HasUnevenBytes : ℕ → List ℕ → ℕ → Type 0
HasUnevenBytes page image segment =
    (0 < filesize image segment) × (fileoff image segment % page ≢ 0)

abbrev pub IsOffPage : ℕ → List ℕ → ℕ → Type 0
IsOffPage page image segment = HasUnevenMemory page image segment ⊎ HasUnevenBytes page image segment

-- the rule segment-page, at the place of a segment
abbrev pub BreaksSegmentPage : List ℕ → ℕ → Type 0
BreaksSegmentPage image place =
    Contains (all_segments image) place × IsOffPage (page_size (cpu_type image)) image place

-- Protection

-- initprot has a bit that maxprot lacks
abbrev pub ExceedsMaximum : List ℕ → ℕ → Type 0
ExceedsMaximum image segment =
    bit_and (initprot image segment) (maxprot image segment) ≢ initprot image segment

-- initprot has a bit besides read, write and execute
abbrev pub HasOtherBits : List ℕ → ℕ → Type 0
HasOtherBits image segment =
    vm_prot.VM_PROT_READ + vm_prot.VM_PROT_WRITE + vm_prot.VM_PROT_EXECUTE < initprot image segment

-- the segment is mapped, and its memory allows less than its initprot says
abbrev pub IsLessAllowed : List ℕ → ℕ → Type 0
IsLessAllowed image segment =
    (0 < vmsize image segment) × (ExceedsMaximum image segment ⊎ HasOtherBits image segment)

-- the rule segment-protection, at the place of a segment
abbrev pub BreaksSegmentProtection : List ℕ → ℕ → Type 0
BreaksSegmentProtection image place = Contains (all_segments image) place × IsLessAllowed image place

-- Names: segname, of 16 bytes at 8

-- a byte of the 16 from the place on is not zero, and comes after one that is
abbrev pub HasTail : List ℕ → ℕ → Type 0
HasTail image place =
    HasNonZero image (place + length (short_name image place)) (place + loader.SHORT_NAME_SIZE)

-- an earlier segment has the name of this one
abbrev pub HasEarlierName : List ℕ → ℕ → Type 0
HasEarlierName image segment =
    Any (λ earlier. (earlier < segment)
    × (segment_name image earlier ≡ segment_name image segment)) (all_segments image)

-- the segment is named __TEXT and is not this one, which has the base, or the reverse
abbrev pub IsTextBut : Option ℕ → List ℕ → ℕ → Type 0
IsTextBut base image segment =
    (IsText image segment × ¬ (base ≡ Some segment)) ⊎ ((base ≡ Some segment) × ¬ IsText image segment)

-- the segment is named __TEXT and does not have the base, or the reverse
abbrev pub IsOtherText : List ℕ → ℕ → Type 0
IsOtherText image segment = IsTextBut (find (shows_start image) (all_segments image)) image segment

-- its name has no letters
abbrev pub IsNameless : List ℕ → ℕ → Type 0
IsNameless image segment = segment_name image segment ≡ []

-- what two readers see of the name of the segment by itself
abbrev pub IsMisnamedBut : Option ℕ → List ℕ → ℕ → Type 0
IsMisnamedBut base image segment =
    HasTail image (segment + 8) ⊎ (IsTextBut base image segment ⊎ IsNameless image segment)

abbrev pub IsMisnamed : List ℕ → ℕ → Type 0
IsMisnamed image segment =
    HasTail image (segment + 8)
    ⊎ (HasEarlierName image segment ⊎ (IsOtherText image segment ⊎ IsNameless image segment))

-- the rule segment-name, at the place of a segment
abbrev pub BreaksSegmentName : List ℕ → ℕ → Type 0
BreaksSegmentName image place = Contains (all_segments image) place × IsMisnamed image place
