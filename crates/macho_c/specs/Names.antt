-- The names of load commands and platforms (mach-o/loader.h), and of architectures (mach/machine.h).
use Rattle.std.specs.Prelude.{◌≡◌, ℕ, ◌+◌, ◌-◌, ◌*◌, ◌^◌, ◌==◌, ◌⊎◌, Bool, List, [], ◌∷◌, ◌++◌, bytes_eq, codes, find, length, take, Option, MatchOption}
use Rattle.std.specs.Option.{option_map}
use Rattle.macho_fields.specs.Universal.{masked}
use Rattle.macho_c.specs.declared.names.Named.{Named}
use Rattle.macho_c.specs.Status.{KESVUOT_OK, KESVUOT_NONE}

-- the name that a table has for a number, and a zero byte
abbrev pub name_in : List (ℕ × List ℕ) → ℕ → Option (List ℕ)
name_in table number = option_map (λ named. named.1 ++ 0 ∷ []) (find (λ named. named.0 == number) table)

-- the answer on a number: the name that the table has for it
abbrev pub IsName : List (ℕ × List ℕ) → ℕ → ℕ → List ℕ → Type 0
IsName table number status name =
    MatchOption (find (λ named. named.0 == number) table)
    ((status ≡ KESVUOT_NONE) × (name ≡ []))
    (λ named. (status ≡ KESVUOT_OK) × (name ≡ named.1))

-- LC_..
abbrev pub command_names : List (ℕ × List ℕ)
command_names =
    (1, codes "LC_SEGMENT") ∷
    (2, codes "LC_SYMTAB") ∷
    (3, codes "LC_SYMSEG") ∷
    (4, codes "LC_THREAD") ∷
    (5, codes "LC_UNIXTHREAD") ∷
    (6, codes "LC_LOADFVMLIB") ∷
    (7, codes "LC_IDFVMLIB") ∷
    (8, codes "LC_IDENT") ∷
    (9, codes "LC_FVMFILE") ∷
    (10, codes "LC_PREPAGE") ∷
    (11, codes "LC_DYSYMTAB") ∷
    (12, codes "LC_LOAD_DYLIB") ∷
    (13, codes "LC_ID_DYLIB") ∷
    (14, codes "LC_LOAD_DYLINKER") ∷
    (15, codes "LC_ID_DYLINKER") ∷
    (16, codes "LC_PREBOUND_DYLIB") ∷
    (17, codes "LC_ROUTINES") ∷
    (18, codes "LC_SUB_FRAMEWORK") ∷
    (19, codes "LC_SUB_UMBRELLA") ∷
    (20, codes "LC_SUB_CLIENT") ∷
    (21, codes "LC_SUB_LIBRARY") ∷
    (22, codes "LC_TWOLEVEL_HINTS") ∷
    (23, codes "LC_PREBIND_CKSUM") ∷
    (25, codes "LC_SEGMENT_64") ∷
    (26, codes "LC_ROUTINES_64") ∷
    (27, codes "LC_UUID") ∷
    (29, codes "LC_CODE_SIGNATURE") ∷
    (30, codes "LC_SEGMENT_SPLIT_INFO") ∷
    (32, codes "LC_LAZY_LOAD_DYLIB") ∷
    (33, codes "LC_ENCRYPTION_INFO") ∷
    (34, codes "LC_DYLD_INFO") ∷
    (36, codes "LC_VERSION_MIN_MACOSX") ∷
    (37, codes "LC_VERSION_MIN_IPHONEOS") ∷
    (38, codes "LC_FUNCTION_STARTS") ∷
    (39, codes "LC_DYLD_ENVIRONMENT") ∷
    (41, codes "LC_DATA_IN_CODE") ∷
    (42, codes "LC_SOURCE_VERSION") ∷
    (43, codes "LC_DYLIB_CODE_SIGN_DRS") ∷
    (44, codes "LC_ENCRYPTION_INFO_64") ∷
    (45, codes "LC_LINKER_OPTION") ∷
    (46, codes "LC_LINKER_OPTIMIZATION_HINT") ∷
    (47, codes "LC_VERSION_MIN_TVOS") ∷
    (48, codes "LC_VERSION_MIN_WATCHOS") ∷
    (49, codes "LC_NOTE") ∷
    (50, codes "LC_BUILD_VERSION") ∷
    (54, codes "LC_ATOM_INFO") ∷
    (55, codes "LC_FUNCTION_VARIANTS") ∷
    (56, codes "LC_FUNCTION_VARIANT_FIXUPS") ∷
    (57, codes "LC_TARGET_TRIPLE") ∷
    (2147483672, codes "LC_LOAD_WEAK_DYLIB") ∷
    (2147483676, codes "LC_RPATH") ∷
    (2147483679, codes "LC_REEXPORT_DYLIB") ∷
    (2147483682, codes "LC_DYLD_INFO_ONLY") ∷
    (2147483683, codes "LC_LOAD_UPWARD_DYLIB") ∷
    (2147483688, codes "LC_MAIN") ∷
    (2147483699, codes "LC_DYLD_EXPORTS_TRIE") ∷
    (2147483700, codes "LC_DYLD_CHAINED_FIXUPS") ∷
    (2147483701, codes "LC_FILESET_ENTRY") ∷
    []

-- PLATFORM_..
abbrev pub platform_names : List (ℕ × List ℕ)
platform_names =
    (1, codes "PLATFORM_MACOS") ∷
    (2, codes "PLATFORM_IOS") ∷
    (3, codes "PLATFORM_TVOS") ∷
    (4, codes "PLATFORM_WATCHOS") ∷
    (5, codes "PLATFORM_BRIDGEOS") ∷
    (6, codes "PLATFORM_MACCATALYST") ∷
    (7, codes "PLATFORM_IOSSIMULATOR") ∷
    (8, codes "PLATFORM_TVOSSIMULATOR") ∷
    (9, codes "PLATFORM_WATCHOSSIMULATOR") ∷
    (10, codes "PLATFORM_DRIVERKIT") ∷
    (11, codes "PLATFORM_VISIONOS") ∷
    (12, codes "PLATFORM_VISIONOSSIMULATOR") ∷
    []

-- An architecture by one number: the cputype, and in the low 32 bits the cpusubtype without its
-- capability byte.
abbrev pub arch_number : ℕ → ℕ → ℕ
arch_number cputype cpusubtype = cputype * 2 ^ 32 + cpusubtype

-- the architectures, by the names that lipo prints
abbrev pub arch_names : List (ℕ × List ℕ)
arch_names =
    (arch_number 7 3, codes "i386") ∷
    (arch_number 0x1000007 3, codes "x86_64") ∷
    (arch_number 0x1000007 8, codes "x86_64h") ∷
    (arch_number 12 5, codes "armv4t") ∷
    (arch_number 12 6, codes "armv6") ∷
    (arch_number 12 7, codes "armv5e") ∷
    (arch_number 12 8, codes "xscale") ∷
    (arch_number 12 9, codes "armv7") ∷
    (arch_number 12 11, codes "armv7s") ∷
    (arch_number 12 12, codes "armv7k") ∷
    (arch_number 12 14, codes "armv6m") ∷
    (arch_number 12 15, codes "armv7m") ∷
    (arch_number 12 16, codes "armv7em") ∷
    (arch_number 0x100000c 0, codes "arm64") ∷
    (arch_number 0x100000c 2, codes "arm64e") ∷
    (arch_number 0x200000c 1, codes "arm64_32") ∷
    (arch_number 18 0, codes "ppc") ∷
    (arch_number 0x1000012 0, codes "ppc64") ∷
    []

-- kesvuot_find_arch has this name for the architecture
abbrev pub HasArchName : List ℕ → ℕ → ℕ → Type 0
HasArchName name cputype cpusubtype =
    IsName arch_names (arch_number cputype (masked cpusubtype)) KESVUOT_OK name

-- The answer on a name: the numbers of the one architecture that has it, or of none. The
-- second number has no capability byte.
abbrev pub IsArchNamed : List ℕ → ℕ → ℕ → ℕ → Type 0
IsArchNamed name status cputype cpusubtype =
    ((status ≡ KESVUOT_OK) × HasArchName name cputype cpusubtype
    × ((type subtype : ℕ) → HasArchName name type subtype
    → arch_number type (masked subtype) ≡ arch_number cputype cpusubtype))
    ⊎ ((status ≡ KESVUOT_NONE) × ((type subtype : ℕ) → ¬ HasArchName name type subtype)
    × (cputype ≡ 0) × (cpusubtype ≡ 0))

-- What only proofs need.

-- the first entry of a table of the code that passes
pub record IsFound (table : List Named) (test : Named → Bool) (found : Option Named) : Type 0 where
  pub is : found ≡ find test table

-- the number of the first entry that has this name
abbrev pub number_in : List (ℕ × List ℕ) → List ℕ → Option ℕ
number_in table name = option_map (λ named. named.0) (find (λ named. bytes_eq named.1 name) table)

-- a text of the code, which a zero byte ends, is this name
abbrev pub is_named : List ℕ → List ℕ → Bool
is_named text name = bytes_eq (take (length text - 1) text) name
