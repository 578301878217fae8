-- Which segments may execute a byte of the code signature. (mach-o/loader.h: segment_command_64; mach/vm_prot.h:
-- VM_PROT_EXECUTE)
use Rattle.std.specs.Prelude.{◌≡◌, ℕ, ◌<◌, List, Contains, true}
use Rattle.macho_fields.specs.Segment.{all_segments, vmsize}
use Rattle.macho_spans.specs.Span.{Shares}
use Rattle.macho_spans.specs.declared.span.Span.{Span}
use Rattle.macho_strict.specs.Unclaimed.{is_code}
use Rattle.macho_tables.specs.Homes.{bytes_of_segment}

-- The segment is mapped and may be executed, and it shares a byte of the file with the span.
abbrev pub RunsBytes : Span → List ℕ → ℕ → Type 0
RunsBytes bytes image segment =
    (0 < vmsize image segment) × (is_code image segment ≡ true) × Shares (bytes_of_segment image segment) bytes

-- A segment of the image is at the place, and may execute a byte of the span.
abbrev pub IsExecutableIn : Span → List ℕ → ℕ → Type 0
IsExecutableIn bytes image place = Contains (all_segments image) place × RunsBytes bytes image place
