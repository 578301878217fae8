-- Architectures as text. (mach/machine.h)
use Rattle.std.specs.Prelude.{◌&&◌, ℕ, ◌==◌, List, [], ◌∷◌, codes, find, Option}
use Rattle.std.specs.Option.{option_map_or}
use Rattle.macho_fields.specs.declared.header.machine.TheConstants as machine
use Rattle.macho_text.specs.Stream.{joined}
use Rattle.macho_text.specs.Number.{prefixed_hex}

-- an architecture with a name: its cputype, its cpusubtype without the capability bits, its name
pub record NamedArch : Type 0 where
  pub cpu_type : ℕ
  pub cpu_subtype : ℕ
  pub name : List ℕ

abbrev pub arch_entry : ℕ → ℕ → List ℕ → NamedArch
arch_entry cpu_type cpu_subtype name =
    record { cpu_type = cpu_type; cpu_subtype = cpu_subtype; name = name }

abbrev pub named_archs : List NamedArch
named_archs =
    arch_entry machine.CPU_TYPE_X86_64 machine.CPU_SUBTYPE_X86_64_ALL (codes "x86_64")
    ∷ arch_entry machine.CPU_TYPE_X86_64 machine.CPU_SUBTYPE_X86_64_H (codes "x86_64h")
    ∷ arch_entry machine.CPU_TYPE_ARM64 machine.CPU_SUBTYPE_ARM64_ALL (codes "arm64")
    ∷ arch_entry machine.CPU_TYPE_ARM64 machine.CPU_SUBTYPE_ARM64E (codes "arm64e")
    ∷ []

-- the entry of the table with a cputype and a masked cpusubtype
abbrev pub named_arch : ℕ × ℕ → Option NamedArch
named_arch arch =
    find (λ known. (known.cpu_type == arch.0) && (known.cpu_subtype == arch.1)) named_archs

-- both numbers of an architecture
abbrev pub numbers_text : ℕ × ℕ → List ℕ
numbers_text arch = joined (prefixed_hex arch.0 ∷ codes "/" ∷ prefixed_hex arch.1 ∷ [])

-- the pair of a cputype and a masked cpusubtype: its name, or both numbers
abbrev pub arch_text : ℕ × ℕ → List ℕ
arch_text arch = option_map_or (λ known. known.name) (named_arch arch) (numbers_text arch)
