-- The pages in which a kernel maps an image. (mach/machine.h: cputype; mach/i386/vm_param.h, mach/arm/vm_param.h:
-- PAGE_SIZE)
use Rattle.std.specs.Prelude.{ℕ, ◌+◌, ◌*◌, ◌/◌, ◌==◌, if◌then◌else◌}
use Rattle.macho_fields.specs.declared.header.machine.TheConstants as machine
use Rattle.macho_readers.specs.declared.pages.TheConstants as pages

-- the size of a page, by the cputype of the image
abbrev pub page_size : ℕ → ℕ
page_size cputype = if cputype == machine.CPU_TYPE_X86_64 then pages.SMALL_PAGE else pages.LARGE_PAGE

-- the page in which an address or offset is, and the first place past it
abbrev pub page_end : ℕ → ℕ → ℕ
page_end page place = (place / page + 1) * page
