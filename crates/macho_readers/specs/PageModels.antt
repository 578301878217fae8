-- Which byte and which protection does each address of each page have? The answers of the verifier and of a kernel.
-- (mach-o/loader.h: segment_command_64, encryption_info_command, encryption_info_command_64; mach/vm_prot.h)
use Rattle.std.specs.Prelude.{◌≡◌, ◌≢◌, ℕ, ◌+◌, ◌-◌, ◌*◌, ◌/◌, ◌≤◌, ◌<◌, ◌&&◌, ◌⊎◌, nat_lt, List, length, slice_index, Any, All, bit_and, true, if◌then◌else◌}
use Rattle.macho_fields.specs.Image.{command_cmd, commands_of, cpu_type}
use Rattle.macho_fields.specs.Segment.{all_segments, vmaddr, vmsize, fileoff, filesize, initprot, Supplies, Source, File, Zero, source}
use Rattle.macho_fields.specs.Universal.{FileSlice, IsImage, slice_bytes, slices_of}
use Rattle.macho_fields.specs.declared.header.loader.TheConstants as loader
use Rattle.macho_image.specs.Segment.{maxprot}
use Rattle.macho_tables.specs.Segments.{is_protected}
use Rattle.macho_readers.specs.Commands.{cryptid}
use Rattle.macho_readers.specs.Models.{Agree}
use Rattle.macho_readers.specs.Pages.{page_size}

-- What a reader shows at an address: the byte there, and the protection of its page.
pub record Shown : Type 0 where
  pub byte : ℕ
  pub protection : ℕ

-- The verifier shows what a segment that supplies the address has there, and its initprot.

abbrev pub byte_of : List ℕ → Source → ℕ
byte_of image (File place) = slice_index image place
byte_of image Zero = 0

abbrev pub ShowsSource : List ℕ → ℕ → Shown → ℕ → Type 0
ShowsSource image address answer segment =
    Supplies image segment address × (answer.byte ≡ byte_of image (source image segment address))
    × (answer.protection ≡ initprot image segment)

abbrev pub IsInSegments : List ℕ → ℕ → Shown → Type 0
IsInSegments image address answer = Any (ShowsSource image address answer) (all_segments image)

-- A kernel maps whole pages of the file.

-- a place, rounded down to the start of a page, and rounded up to one
abbrev pub page_floor : ℕ → ℕ → ℕ
page_floor page place = place / page * page

abbrev pub page_ceiling : ℕ → ℕ → ℕ
page_ceiling page place = (place + (page - 1)) / page * page

-- the segment is mapped, and the address is in one of its pages
abbrev pub HasPageOf : ℕ → List ℕ → ℕ → ℕ → Type 0
HasPageOf page image address segment =
    (0 < vmsize image segment) × (page_floor page (vmaddr image segment) ≤ address)
    × (address < page_ceiling page (vmaddr image segment + vmsize image segment))

-- Its first pages have the pages of the file from the one with its fileoff on, as many as filesize bytes need. The other
-- pages are zero, and so is a page of the file past the end of the file.
abbrev pub page_byte : ℕ → List ℕ → FileSlice → ℕ → ℕ → ℕ
page_byte page file slice address segment =
    let image = slice_bytes file slice in
    let past = address - page_floor page (vmaddr image segment) in
    let place = page_floor page (slice.start + fileoff image segment) + past in
    if nat_lt past (page_ceiling page (filesize image segment)) && nat_lt place (length file)
    then slice_index file place else 0

-- a command says that bytes of the image are encrypted
abbrev pub SaysEncrypted : List ℕ → ℕ → Type 0
SaysEncrypted image command =
    ((command_cmd image command ≡ loader.LC_ENCRYPTION_INFO)
    ⊎ (command_cmd image command ≡ loader.LC_ENCRYPTION_INFO_64))
    × (cryptid image command ≢ 0)

-- A kernel may decrypt pages of the segment, and then show any byte in them.
abbrev pub IsDecrypted : List ℕ → ℕ → Type 0
IsDecrypted image segment =
    (is_protected image segment ≡ true) ⊎ Any (SaysEncrypted image) (commands_of image)

-- It allows what initprot and maxprot both allow, of the three bits of vm_prot.h.
abbrev pub ShowsPage : List ℕ → FileSlice → ℕ → Shown → ℕ → Type 0
ShowsPage file slice address answer segment =
    let image = slice_bytes file slice in
    let page = page_size (cpu_type image) in
    HasPageOf page image address segment
    × ((answer.byte ≡ page_byte page file slice address segment) ⊎ IsDecrypted image segment)
    × (answer.protection ≡ bit_and (bit_and (initprot image segment) (maxprot image segment)) 7)

-- where pages of several segments have the address, it shows any of them
abbrev pub IsInPagesOf : List ℕ → FileSlice → ℕ → Shown → Type 0
IsInPagesOf file slice address answer =
    Any (ShowsPage file slice address answer) (all_segments (slice_bytes file slice))

-- what readers show of the image in a slice
pub record HasOneMap (file : List ℕ) (slice : FileSlice) : Type 0 where
  -- at each address there is one answer
  pub one : (address : ℕ)
      → Agree (λ answer. IsInSegments (slice_bytes file slice) address answer ⊎ IsInPagesOf file slice address answer)
  -- what the verifier shows, the kernel shows too
  pub mapped : (address : ℕ) (answer : Shown)
      → IsInSegments (slice_bytes file slice) address answer → IsInPagesOf file slice address answer
  -- and where no segment supplies an address of a page, the kernel shows zero
  pub rest : (address : ℕ) (answer : Shown)
      → All (λ segment. ¬ Supplies (slice_bytes file slice) segment address) (all_segments (slice_bytes file slice))
      → IsInPagesOf file slice address answer → answer.byte ≡ 0

abbrev pub HaveOneMap : List ℕ → Type 0
HaveOneMap file = All (λ slice. IsImage (slice_bytes file slice) → HasOneMap file slice) (slices_of file)
