-- The segments of an image that may be executed, and their bytes.
use Rattle.std.specs.Prelude.{ℕ, nat_lt, List, map, filter, Bool, bit_and}
use Rattle.macho_fields.specs.Segment.{initprot}
use Rattle.macho_fields.specs.declared.header.vm_prot.TheConstants as vm_prot
use Rattle.macho_spans.specs.declared.span.Span.{Span}
use Rattle.macho_strict.specs.Rules.{all_segments}
use Rattle.macho_strict.specs.Sharing.{file_part}

-- segment_command_64: initprot allows execution (mach/vm_prot.h: VM_PROT_EXECUTE)
abbrev pub is_code : List ℕ → ℕ → Bool
is_code image segment = nat_lt 0 (bit_and (initprot image segment) vm_prot.VM_PROT_EXECUTE)

-- the bytes of the segments that may be executed
abbrev pub code_among : List ℕ → List ℕ → List Span
code_among image segments =
    map (λ segment. (file_part image segment).span) (filter (is_code image) segments)

-- the code among all segments
abbrev pub code_parts : List ℕ → List Span
code_parts image = code_among image (all_segments image)
