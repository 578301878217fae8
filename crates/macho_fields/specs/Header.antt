-- The constants of the public headers, as one number each. Compare this list with the headers by
-- eye: the other definitions use the constants by name. The sizes are the bytes of the structures that
-- the headers declare.
use Rattle.std.specs.Prelude.{◌≡◌}
use Rattle.macho_fields.specs.declared.header.cs_blobs.TheConstants as cs
use Rattle.macho_fields.specs.declared.header.fat.TheConstants as fat
use Rattle.macho_fields.specs.declared.header.fixup_chains.TheConstants as chains
use Rattle.macho_fields.specs.declared.header.loader.TheConstants as loader
use Rattle.macho_fields.specs.declared.header.machine.TheConstants as machine
use Rattle.macho_fields.specs.declared.header.nlist.TheConstants as nlist
use Rattle.macho_fields.specs.declared.header.reloc.TheConstants as reloc
use Rattle.macho_fields.specs.declared.header.thread_status.TheConstants as thread_status
use Rattle.macho_fields.specs.declared.header.vm_prot.TheConstants as vm_prot

-- mach-o/fat.h
pub record AreFatConstants : Type 0 where
  -- fat_header.magic
  pub FAT_MAGIC : fat.FAT_MAGIC ≡ 0xcafebabe
  pub FAT_MAGIC_64 : fat.FAT_MAGIC_64 ≡ 0xcafebabf
  -- the sizes of fat_header, fat_arch and fat_arch_64
  pub FAT_HEADER_SIZE : fat.FAT_HEADER_SIZE ≡ 8
  pub FAT_ARCH_SIZE : fat.FAT_ARCH_SIZE ≡ 20
  pub FAT_ARCH_64_SIZE : fat.FAT_ARCH_64_SIZE ≡ 32

-- mach-o/loader.h
pub record AreLoaderConstants : Type 0 where
  -- mach_header.magic and mach_header_64.magic
  pub MH_MAGIC : loader.MH_MAGIC ≡ 0xfeedface
  pub MH_MAGIC_64 : loader.MH_MAGIC_64 ≡ 0xfeedfacf
  -- mach_header_64.flags: each undefined symbol names its library
  pub MH_TWOLEVEL : loader.MH_TWOLEVEL ≡ 0x80
  -- mach_header_64.filetype
  pub MH_EXECUTE : loader.MH_EXECUTE ≡ 0x2
  pub MH_DYLIB : loader.MH_DYLIB ≡ 0x6
  pub MH_BUNDLE : loader.MH_BUNDLE ≡ 0x8
  -- the sizes of mach_header_64, load_command, segment_command_64, linkedit_data_command and section_64
  pub MACH_HEADER_64_SIZE : loader.MACH_HEADER_64_SIZE ≡ 32
  pub LOAD_COMMAND_SIZE : loader.LOAD_COMMAND_SIZE ≡ 8
  pub SEGMENT_COMMAND_64_SIZE : loader.SEGMENT_COMMAND_64_SIZE ≡ 72
  pub LINKEDIT_DATA_COMMAND_SIZE : loader.LINKEDIT_DATA_COMMAND_SIZE ≡ 16
  pub SECTION_64_SIZE : loader.SECTION_64_SIZE ≡ 80
  -- the sizes of version_min_command and source_version_command
  pub VERSION_MIN_COMMAND_SIZE : loader.VERSION_MIN_COMMAND_SIZE ≡ 16
  pub SOURCE_VERSION_COMMAND_SIZE : loader.SOURCE_VERSION_COMMAND_SIZE ≡ 16
  -- the size of segname and of sectname
  pub SHORT_NAME_SIZE : loader.SHORT_NAME_SIZE ≡ 16
  -- the sizes of build_tool_version, dylib_table_of_contents, dylib_module_64, dylib_reference,
  -- twolevel_hint, and of an entry of the indirect symbol table
  pub BUILD_TOOL_VERSION_SIZE : loader.BUILD_TOOL_VERSION_SIZE ≡ 8
  pub DYLIB_TABLE_OF_CONTENTS_SIZE : loader.DYLIB_TABLE_OF_CONTENTS_SIZE ≡ 8
  pub DYLIB_MODULE_64_SIZE : loader.DYLIB_MODULE_64_SIZE ≡ 56
  pub DYLIB_REFERENCE_SIZE : loader.DYLIB_REFERENCE_SIZE ≡ 4
  pub TWOLEVEL_HINT_SIZE : loader.TWOLEVEL_HINT_SIZE ≡ 4
  pub INDIRECT_ENTRY_SIZE : loader.INDIRECT_ENTRY_SIZE ≡ 4
  -- load_command.cmd
  pub LC_SYMTAB : loader.LC_SYMTAB ≡ 0x2
  pub LC_DYSYMTAB : loader.LC_DYSYMTAB ≡ 0xb
  pub LC_LOAD_DYLIB : loader.LC_LOAD_DYLIB ≡ 0xc
  pub LC_ID_DYLIB : loader.LC_ID_DYLIB ≡ 0xd
  pub LC_LOAD_DYLINKER : loader.LC_LOAD_DYLINKER ≡ 0xe
  pub LC_ID_DYLINKER : loader.LC_ID_DYLINKER ≡ 0xf
  pub LC_TWOLEVEL_HINTS : loader.LC_TWOLEVEL_HINTS ≡ 0x16
  pub LC_SEGMENT_64 : loader.LC_SEGMENT_64 ≡ 0x19
  pub LC_UUID : loader.LC_UUID ≡ 0x1b
  pub LC_CODE_SIGNATURE : loader.LC_CODE_SIGNATURE ≡ 0x1d
  pub LC_SEGMENT_SPLIT_INFO : loader.LC_SEGMENT_SPLIT_INFO ≡ 0x1e
  pub LC_LAZY_LOAD_DYLIB : loader.LC_LAZY_LOAD_DYLIB ≡ 0x20
  pub LC_DYLD_INFO : loader.LC_DYLD_INFO ≡ 0x22
  pub LC_FUNCTION_STARTS : loader.LC_FUNCTION_STARTS ≡ 0x26
  pub LC_DYLD_ENVIRONMENT : loader.LC_DYLD_ENVIRONMENT ≡ 0x27
  pub LC_DATA_IN_CODE : loader.LC_DATA_IN_CODE ≡ 0x29
  pub LC_DYLIB_CODE_SIGN_DRS : loader.LC_DYLIB_CODE_SIGN_DRS ≡ 0x2b
  pub LC_ENCRYPTION_INFO_64 : loader.LC_ENCRYPTION_INFO_64 ≡ 0x2c
  pub LC_LINKER_OPTIMIZATION_HINT : loader.LC_LINKER_OPTIMIZATION_HINT ≡ 0x2e
  pub LC_NOTE : loader.LC_NOTE ≡ 0x31
  pub LC_BUILD_VERSION : loader.LC_BUILD_VERSION ≡ 0x32
  pub LC_ATOM_INFO : loader.LC_ATOM_INFO ≡ 0x36
  pub LC_FUNCTION_VARIANTS : loader.LC_FUNCTION_VARIANTS ≡ 0x37
  pub LC_FUNCTION_VARIANT_FIXUPS : loader.LC_FUNCTION_VARIANT_FIXUPS ≡ 0x38
  -- load_command.cmd of the commands that the layout only walks over
  pub LC_SEGMENT : loader.LC_SEGMENT ≡ 0x1
  pub LC_SYMSEG : loader.LC_SYMSEG ≡ 0x3
  pub LC_THREAD : loader.LC_THREAD ≡ 0x4
  pub LC_UNIXTHREAD : loader.LC_UNIXTHREAD ≡ 0x5
  pub LC_LOADFVMLIB : loader.LC_LOADFVMLIB ≡ 0x6
  pub LC_IDFVMLIB : loader.LC_IDFVMLIB ≡ 0x7
  pub LC_IDENT : loader.LC_IDENT ≡ 0x8
  pub LC_FVMFILE : loader.LC_FVMFILE ≡ 0x9
  pub LC_PREPAGE : loader.LC_PREPAGE ≡ 0xa
  pub LC_PREBOUND_DYLIB : loader.LC_PREBOUND_DYLIB ≡ 0x10
  pub LC_ROUTINES : loader.LC_ROUTINES ≡ 0x11
  pub LC_SUB_FRAMEWORK : loader.LC_SUB_FRAMEWORK ≡ 0x12
  pub LC_SUB_UMBRELLA : loader.LC_SUB_UMBRELLA ≡ 0x13
  pub LC_SUB_CLIENT : loader.LC_SUB_CLIENT ≡ 0x14
  pub LC_SUB_LIBRARY : loader.LC_SUB_LIBRARY ≡ 0x15
  pub LC_PREBIND_CKSUM : loader.LC_PREBIND_CKSUM ≡ 0x17
  pub LC_ROUTINES_64 : loader.LC_ROUTINES_64 ≡ 0x1a
  pub LC_ENCRYPTION_INFO : loader.LC_ENCRYPTION_INFO ≡ 0x21
  pub LC_VERSION_MIN_MACOSX : loader.LC_VERSION_MIN_MACOSX ≡ 0x24
  pub LC_VERSION_MIN_IPHONEOS : loader.LC_VERSION_MIN_IPHONEOS ≡ 0x25
  pub LC_SOURCE_VERSION : loader.LC_SOURCE_VERSION ≡ 0x2a
  pub LC_LINKER_OPTION : loader.LC_LINKER_OPTION ≡ 0x2d
  pub LC_VERSION_MIN_TVOS : loader.LC_VERSION_MIN_TVOS ≡ 0x2f
  pub LC_VERSION_MIN_WATCHOS : loader.LC_VERSION_MIN_WATCHOS ≡ 0x30
  pub LC_TARGET_TRIPLE : loader.LC_TARGET_TRIPLE ≡ 0x39
  -- the bit LC_REQ_DYLD, and the commands that have it: the headers write 0x1c | LC_REQ_DYLD
  pub LC_REQ_DYLD : loader.LC_REQ_DYLD ≡ 0x80000000
  pub LC_LOAD_WEAK_DYLIB : loader.LC_LOAD_WEAK_DYLIB ≡ 0x80000018
  pub LC_RPATH : loader.LC_RPATH ≡ 0x8000001c
  pub LC_REEXPORT_DYLIB : loader.LC_REEXPORT_DYLIB ≡ 0x8000001f
  pub LC_DYLD_INFO_ONLY : loader.LC_DYLD_INFO_ONLY ≡ 0x80000022
  pub LC_LOAD_UPWARD_DYLIB : loader.LC_LOAD_UPWARD_DYLIB ≡ 0x80000023
  pub LC_MAIN : loader.LC_MAIN ≡ 0x80000028
  pub LC_DYLD_EXPORTS_TRIE : loader.LC_DYLD_EXPORTS_TRIE ≡ 0x80000033
  pub LC_DYLD_CHAINED_FIXUPS : loader.LC_DYLD_CHAINED_FIXUPS ≡ 0x80000034
  pub LC_FILESET_ENTRY : loader.LC_FILESET_ENTRY ≡ 0x80000035
  -- segment_command_64.flags: a kernel decrypts the pages of the segment
  pub SG_PROTECTED_VERSION_1 : loader.SG_PROTECTED_VERSION_1 ≡ 0x8
  -- section_64.flags: the section is for debuggers alone
  pub S_ATTR_DEBUG : loader.S_ATTR_DEBUG ≡ 0x02000000
  -- section_64.flags: the mask of the type, and the types without bytes in the file
  pub SECTION_TYPE : loader.SECTION_TYPE ≡ 0x000000ff
  pub S_ZEROFILL : loader.S_ZEROFILL ≡ 0x1
  pub S_GB_ZEROFILL : loader.S_GB_ZEROFILL ≡ 0xc
  pub S_THREAD_LOCAL_ZEROFILL : loader.S_THREAD_LOCAL_ZEROFILL ≡ 0x12
  -- the types whose items have indirect entries: pointers that are bound at once, or when they are first used; stubs;
  -- pointers into libraries that are loaded late, and to variables of each thread
  pub S_NON_LAZY_SYMBOL_POINTERS : loader.S_NON_LAZY_SYMBOL_POINTERS ≡ 0x6
  pub S_LAZY_SYMBOL_POINTERS : loader.S_LAZY_SYMBOL_POINTERS ≡ 0x7
  pub S_SYMBOL_STUBS : loader.S_SYMBOL_STUBS ≡ 0x8
  pub S_LAZY_DYLIB_SYMBOL_POINTERS : loader.S_LAZY_DYLIB_SYMBOL_POINTERS ≡ 0x10
  pub S_THREAD_LOCAL_VARIABLE_POINTERS : loader.S_THREAD_LOCAL_VARIABLE_POINTERS ≡ 0x14
  -- the type whose items are offsets of functions, and the size of one: a number of 32 bits
  pub S_INIT_FUNC_OFFSETS : loader.S_INIT_FUNC_OFFSETS ≡ 0x16
  pub INIT_OFFSET_SIZE : loader.INIT_OFFSET_SIZE ≡ 4
  -- the marks of an indirect entry without an index of a symbol
  pub INDIRECT_SYMBOL_LOCAL : loader.INDIRECT_SYMBOL_LOCAL ≡ 0x80000000
  pub INDIRECT_SYMBOL_ABS : loader.INDIRECT_SYMBOL_ABS ≡ 0x40000000

-- mach-o/loader.h: the opcodes of LC_DYLD_INFO
pub record AreOpcodeConstants : Type 0 where
  -- of the stream of rebases
  pub REBASE_OPCODE_MASK : loader.REBASE_OPCODE_MASK ≡ 0xf0
  pub REBASE_IMMEDIATE_MASK : loader.REBASE_IMMEDIATE_MASK ≡ 0x0f
  pub REBASE_TYPE_POINTER : loader.REBASE_TYPE_POINTER ≡ 1
  pub REBASE_OPCODE_DONE : loader.REBASE_OPCODE_DONE ≡ 0x00
  pub REBASE_OPCODE_SET_TYPE_IMM : loader.REBASE_OPCODE_SET_TYPE_IMM ≡ 0x10
  pub REBASE_OPCODE_SET_SEGMENT_AND_OFFSET_ULEB : loader.REBASE_OPCODE_SET_SEGMENT_AND_OFFSET_ULEB ≡ 0x20
  pub REBASE_OPCODE_ADD_ADDR_ULEB : loader.REBASE_OPCODE_ADD_ADDR_ULEB ≡ 0x30
  pub REBASE_OPCODE_ADD_ADDR_IMM_SCALED : loader.REBASE_OPCODE_ADD_ADDR_IMM_SCALED ≡ 0x40
  pub REBASE_OPCODE_DO_REBASE_IMM_TIMES : loader.REBASE_OPCODE_DO_REBASE_IMM_TIMES ≡ 0x50
  pub REBASE_OPCODE_DO_REBASE_ULEB_TIMES : loader.REBASE_OPCODE_DO_REBASE_ULEB_TIMES ≡ 0x60
  pub REBASE_OPCODE_DO_REBASE_ADD_ADDR_ULEB : loader.REBASE_OPCODE_DO_REBASE_ADD_ADDR_ULEB ≡ 0x70
  pub REBASE_OPCODE_DO_REBASE_ULEB_TIMES_SKIPPING_ULEB : loader.REBASE_OPCODE_DO_REBASE_ULEB_TIMES_SKIPPING_ULEB ≡ 0x80
  -- of the streams of binds
  pub BIND_OPCODE_MASK : loader.BIND_OPCODE_MASK ≡ 0xf0
  pub BIND_IMMEDIATE_MASK : loader.BIND_IMMEDIATE_MASK ≡ 0x0f
  pub BIND_TYPE_POINTER : loader.BIND_TYPE_POINTER ≡ 1
  pub BIND_OPCODE_DONE : loader.BIND_OPCODE_DONE ≡ 0x00
  pub BIND_OPCODE_SET_DYLIB_ORDINAL_IMM : loader.BIND_OPCODE_SET_DYLIB_ORDINAL_IMM ≡ 0x10
  pub BIND_OPCODE_SET_DYLIB_ORDINAL_ULEB : loader.BIND_OPCODE_SET_DYLIB_ORDINAL_ULEB ≡ 0x20
  pub BIND_OPCODE_SET_DYLIB_SPECIAL_IMM : loader.BIND_OPCODE_SET_DYLIB_SPECIAL_IMM ≡ 0x30
  pub BIND_OPCODE_SET_SYMBOL_TRAILING_FLAGS_IMM : loader.BIND_OPCODE_SET_SYMBOL_TRAILING_FLAGS_IMM ≡ 0x40
  pub BIND_OPCODE_SET_TYPE_IMM : loader.BIND_OPCODE_SET_TYPE_IMM ≡ 0x50
  pub BIND_OPCODE_SET_ADDEND_SLEB : loader.BIND_OPCODE_SET_ADDEND_SLEB ≡ 0x60
  pub BIND_OPCODE_SET_SEGMENT_AND_OFFSET_ULEB : loader.BIND_OPCODE_SET_SEGMENT_AND_OFFSET_ULEB ≡ 0x70
  pub BIND_OPCODE_ADD_ADDR_ULEB : loader.BIND_OPCODE_ADD_ADDR_ULEB ≡ 0x80
  pub BIND_OPCODE_DO_BIND : loader.BIND_OPCODE_DO_BIND ≡ 0x90
  pub BIND_OPCODE_DO_BIND_ADD_ADDR_ULEB : loader.BIND_OPCODE_DO_BIND_ADD_ADDR_ULEB ≡ 0xa0
  pub BIND_OPCODE_DO_BIND_ADD_ADDR_IMM_SCALED : loader.BIND_OPCODE_DO_BIND_ADD_ADDR_IMM_SCALED ≡ 0xb0
  pub BIND_OPCODE_DO_BIND_ULEB_TIMES_SKIPPING_ULEB : loader.BIND_OPCODE_DO_BIND_ULEB_TIMES_SKIPPING_ULEB ≡ 0xc0

-- mach-o/loader.h: the flags of an export in a trie
pub record AreExportConstants : Type 0 where
  pub EXPORT_SYMBOL_FLAGS_KIND_MASK : loader.EXPORT_SYMBOL_FLAGS_KIND_MASK ≡ 0x03
  pub EXPORT_SYMBOL_FLAGS_KIND_REGULAR : loader.EXPORT_SYMBOL_FLAGS_KIND_REGULAR ≡ 0x00
  pub EXPORT_SYMBOL_FLAGS_KIND_THREAD_LOCAL : loader.EXPORT_SYMBOL_FLAGS_KIND_THREAD_LOCAL ≡ 0x01
  pub EXPORT_SYMBOL_FLAGS_KIND_ABSOLUTE : loader.EXPORT_SYMBOL_FLAGS_KIND_ABSOLUTE ≡ 0x02
  pub EXPORT_SYMBOL_FLAGS_WEAK_DEFINITION : loader.EXPORT_SYMBOL_FLAGS_WEAK_DEFINITION ≡ 0x04
  pub EXPORT_SYMBOL_FLAGS_REEXPORT : loader.EXPORT_SYMBOL_FLAGS_REEXPORT ≡ 0x08
  pub EXPORT_SYMBOL_FLAGS_STUB_AND_RESOLVER : loader.EXPORT_SYMBOL_FLAGS_STUB_AND_RESOLVER ≡ 0x10
  pub EXPORT_SYMBOL_FLAGS_STATIC_RESOLVER : loader.EXPORT_SYMBOL_FLAGS_STATIC_RESOLVER ≡ 0x20

-- mach-o/loader.h: the size of data_in_code_entry, and its kinds
pub record AreDataInCodeConstants : Type 0 where
  pub DATA_IN_CODE_ENTRY_SIZE : loader.DATA_IN_CODE_ENTRY_SIZE ≡ 8
  pub DICE_KIND_DATA : loader.DICE_KIND_DATA ≡ 1
  pub DICE_KIND_JUMP_TABLE8 : loader.DICE_KIND_JUMP_TABLE8 ≡ 2
  pub DICE_KIND_JUMP_TABLE16 : loader.DICE_KIND_JUMP_TABLE16 ≡ 3
  pub DICE_KIND_JUMP_TABLE32 : loader.DICE_KIND_JUMP_TABLE32 ≡ 4
  pub DICE_KIND_ABS_JUMP_TABLE32 : loader.DICE_KIND_ABS_JUMP_TABLE32 ≡ 5

-- mach-o/loader.h: build_version_command.platform
pub record ArePlatforms : Type 0 where
  pub PLATFORM_MACOS : loader.PLATFORM_MACOS ≡ 1
  pub PLATFORM_IOS : loader.PLATFORM_IOS ≡ 2
  pub PLATFORM_TVOS : loader.PLATFORM_TVOS ≡ 3
  pub PLATFORM_WATCHOS : loader.PLATFORM_WATCHOS ≡ 4
  pub PLATFORM_BRIDGEOS : loader.PLATFORM_BRIDGEOS ≡ 5
  pub PLATFORM_MACCATALYST : loader.PLATFORM_MACCATALYST ≡ 6
  pub PLATFORM_IOSSIMULATOR : loader.PLATFORM_IOSSIMULATOR ≡ 7
  pub PLATFORM_TVOSSIMULATOR : loader.PLATFORM_TVOSSIMULATOR ≡ 8
  pub PLATFORM_WATCHOSSIMULATOR : loader.PLATFORM_WATCHOSSIMULATOR ≡ 9
  pub PLATFORM_DRIVERKIT : loader.PLATFORM_DRIVERKIT ≡ 10
  pub PLATFORM_VISIONOS : loader.PLATFORM_VISIONOS ≡ 11
  pub PLATFORM_VISIONOSSIMULATOR : loader.PLATFORM_VISIONOSSIMULATOR ≡ 12

-- mach/machine.h
pub record AreMachineConstants : Type 0 where
  -- cputype: the bit of a processor with 64-bit addresses
  pub CPU_ARCH_ABI64 : machine.CPU_ARCH_ABI64 ≡ 0x01000000
  -- cputype, where the headers write CPU_TYPE_X86 | CPU_ARCH_ABI64: 7 or 12, and 0x01000000
  pub CPU_TYPE_X86_64 : machine.CPU_TYPE_X86_64 ≡ 0x01000007
  pub CPU_TYPE_ARM64 : machine.CPU_TYPE_ARM64 ≡ 0x0100000c
  -- cpusubtype: the mask of the capability bits, and the subtypes of each type
  pub CPU_SUBTYPE_MASK : machine.CPU_SUBTYPE_MASK ≡ 0xff000000
  pub CPU_SUBTYPE_X86_64_ALL : machine.CPU_SUBTYPE_X86_64_ALL ≡ 3
  pub CPU_SUBTYPE_X86_64_H : machine.CPU_SUBTYPE_X86_64_H ≡ 8
  pub CPU_SUBTYPE_ARM64_ALL : machine.CPU_SUBTYPE_ARM64_ALL ≡ 0
  pub CPU_SUBTYPE_ARM64E : machine.CPU_SUBTYPE_ARM64E ≡ 2

-- mach-o/nlist.h
pub record AreNlistConstants : Type 0 where
  -- nlist_64.n_type: the masks, the bit of external symbols, and the type of a symbol that is defined in a section
  pub N_STAB : nlist.N_STAB ≡ 0xe0
  pub N_TYPE : nlist.N_TYPE ≡ 0x0e
  pub N_EXT : nlist.N_EXT ≡ 0x01
  pub N_SECT : nlist.N_SECT ≡ 0x0e
  -- n_type of a symbol that is undefined, stands for another name, or is undefined in a prebound image
  pub N_UNDF : nlist.N_UNDF ≡ 0
  pub N_INDR : nlist.N_INDR ≡ 0xa
  pub N_PBUD : nlist.N_PBUD ≡ 0xc
  -- nlist_64.n_desc: another definition can replace it
  pub N_WEAK_DEF : nlist.N_WEAK_DEF ≡ 0x80
  -- the library ordinals in n_desc that do not number a library
  pub SELF_LIBRARY_ORDINAL : nlist.SELF_LIBRARY_ORDINAL ≡ 0
  pub DYNAMIC_LOOKUP_ORDINAL : nlist.DYNAMIC_LOOKUP_ORDINAL ≡ 0xfe
  pub EXECUTABLE_ORDINAL : nlist.EXECUTABLE_ORDINAL ≡ 0xff
  -- the size of nlist_64
  pub NLIST_64_SIZE : nlist.NLIST_64_SIZE ≡ 16

-- mach-o/reloc.h, mach-o/arm64/reloc.h
pub record AreRelocConstants : Type 0 where
  -- the size of relocation_info
  pub RELOCATION_INFO_SIZE : reloc.RELOCATION_INFO_SIZE ≡ 8
  -- relocation_info.r_type, and the r_length of 8 bytes
  pub ARM64_RELOC_ADDEND : reloc.ARM64_RELOC_ADDEND ≡ 10
  pub POINTER_LENGTH : reloc.POINTER_LENGTH ≡ 3

-- mach/vm_prot.h
pub record AreVmProtConstants : Type 0 where
  pub VM_PROT_READ : vm_prot.VM_PROT_READ ≡ 0x01
  pub VM_PROT_WRITE : vm_prot.VM_PROT_WRITE ≡ 0x02
  pub VM_PROT_EXECUTE : vm_prot.VM_PROT_EXECUTE ≡ 0x04

-- mach/i386/thread_status.h, mach/arm/thread_status.h
pub record AreThreadStatusConstants : Type 0 where
  -- the flavors of a state
  pub X86_THREAD_STATE64 : thread_status.X86_THREAD_STATE64 ≡ 4
  pub X86_THREAD_STATE : thread_status.X86_THREAD_STATE ≡ 7
  pub ARM_THREAD_STATE64 : thread_status.ARM_THREAD_STATE64 ≡ 6
  -- the number of words of each
  pub X86_THREAD_STATE64_COUNT : thread_status.X86_THREAD_STATE64_COUNT ≡ 42
  pub X86_THREAD_STATE_COUNT : thread_status.X86_THREAD_STATE_COUNT ≡ 44
  pub ARM_THREAD_STATE64_COUNT : thread_status.ARM_THREAD_STATE64_COUNT ≡ 68
  -- the sizes of the flavor with the count, and of a word, in bytes
  pub STATE_HEADER_SIZE : thread_status.STATE_HEADER_SIZE ≡ 8
  pub STATE_WORD_SIZE : thread_status.STATE_WORD_SIZE ≡ 4

-- mach-o/fixup-chains.h
pub record AreFixupChainsConstants : Type 0 where
  -- the sizes of dyld_chained_fixups_header, dyld_chained_starts_in_image and an entry of it, and
  -- dyld_chained_starts_in_segment and a page start of it, in bytes
  pub DYLD_CHAINED_FIXUPS_HEADER_SIZE : chains.DYLD_CHAINED_FIXUPS_HEADER_SIZE ≡ 28
  pub DYLD_CHAINED_STARTS_IN_IMAGE_SIZE : chains.DYLD_CHAINED_STARTS_IN_IMAGE_SIZE ≡ 4
  pub SEG_INFO_OFFSET_SIZE : chains.SEG_INFO_OFFSET_SIZE ≡ 4
  pub DYLD_CHAINED_STARTS_IN_SEGMENT_SIZE : chains.DYLD_CHAINED_STARTS_IN_SEGMENT_SIZE ≡ 22
  pub PAGE_START_SIZE : chains.PAGE_START_SIZE ≡ 2
  -- dyld_chained_starts_in_segment.page_start of a page without a chain
  pub DYLD_CHAINED_PTR_START_NONE : chains.DYLD_CHAINED_PTR_START_NONE ≡ 0xffff
  -- dyld_chained_fixups_header.imports_format
  pub DYLD_CHAINED_IMPORT : chains.DYLD_CHAINED_IMPORT ≡ 1
  pub DYLD_CHAINED_IMPORT_ADDEND : chains.DYLD_CHAINED_IMPORT_ADDEND ≡ 2
  pub DYLD_CHAINED_IMPORT_ADDEND64 : chains.DYLD_CHAINED_IMPORT_ADDEND64 ≡ 3
  -- dyld_chained_starts_in_segment.pointer_format
  pub DYLD_CHAINED_PTR_ARM64E : chains.DYLD_CHAINED_PTR_ARM64E ≡ 1
  pub DYLD_CHAINED_PTR_64 : chains.DYLD_CHAINED_PTR_64 ≡ 2
  pub DYLD_CHAINED_PTR_64_OFFSET : chains.DYLD_CHAINED_PTR_64_OFFSET ≡ 6
  pub DYLD_CHAINED_PTR_ARM64E_USERLAND : chains.DYLD_CHAINED_PTR_ARM64E_USERLAND ≡ 9
  pub DYLD_CHAINED_PTR_ARM64E_USERLAND24 : chains.DYLD_CHAINED_PTR_ARM64E_USERLAND24 ≡ 12

-- kern/cs_blobs.h
pub record AreCsBlobsConstants : Type 0 where
  -- magic numbers
  pub CSMAGIC_EMBEDDED_SIGNATURE : cs.CSMAGIC_EMBEDDED_SIGNATURE ≡ 0xfade0cc0
  pub CSMAGIC_CODEDIRECTORY : cs.CSMAGIC_CODEDIRECTORY ≡ 0xfade0c02
  pub CSMAGIC_REQUIREMENTS : cs.CSMAGIC_REQUIREMENTS ≡ 0xfade0c01
  pub CSMAGIC_EMBEDDED_ENTITLEMENTS : cs.CSMAGIC_EMBEDDED_ENTITLEMENTS ≡ 0xfade7171
  pub CSMAGIC_EMBEDDED_DER_ENTITLEMENTS : cs.CSMAGIC_EMBEDDED_DER_ENTITLEMENTS ≡ 0xfade7172
  pub CSMAGIC_EMBEDDED_LAUNCH_CONSTRAINT : cs.CSMAGIC_EMBEDDED_LAUNCH_CONSTRAINT ≡ 0xfade8181
  pub CSMAGIC_BLOBWRAPPER : cs.CSMAGIC_BLOBWRAPPER ≡ 0xfade0b01
  -- slots
  pub CSSLOT_CODEDIRECTORY : cs.CSSLOT_CODEDIRECTORY ≡ 0
  pub CSSLOT_ALTERNATE_CODEDIRECTORIES : cs.CSSLOT_ALTERNATE_CODEDIRECTORIES ≡ 0x1000
  pub CSSLOT_ALTERNATE_CODEDIRECTORY_MAX : cs.CSSLOT_ALTERNATE_CODEDIRECTORY_MAX ≡ 5
  pub CSSLOT_REQUIREMENTS : cs.CSSLOT_REQUIREMENTS ≡ 2
  pub CSSLOT_ENTITLEMENTS : cs.CSSLOT_ENTITLEMENTS ≡ 5
  pub CSSLOT_DER_ENTITLEMENTS : cs.CSSLOT_DER_ENTITLEMENTS ≡ 7
  pub CSSLOT_LAUNCH_CONSTRAINT_SELF : cs.CSSLOT_LAUNCH_CONSTRAINT_SELF ≡ 8
  pub CSSLOT_LIBRARY_CONSTRAINT : cs.CSSLOT_LIBRARY_CONSTRAINT ≡ 11
  pub CSSLOT_SIGNATURESLOT : cs.CSSLOT_SIGNATURESLOT ≡ 0x10000
  pub CSSLOT_TICKETSLOT : cs.CSSLOT_TICKETSLOT ≡ 0x10002
  -- sizes of structures
  pub CS_SUPER_BLOB_SIZE : cs.CS_SUPER_BLOB_SIZE ≡ 12
  pub CS_BLOB_INDEX_SIZE : cs.CS_BLOB_INDEX_SIZE ≡ 8
  pub CS_GENERIC_BLOB_SIZE : cs.CS_GENERIC_BLOB_SIZE ≡ 8
  -- versions of a code directory, and the bytes of its fields from each on
  pub CS_EARLIEST_VERSION : cs.CS_EARLIEST_VERSION ≡ 0x20000
  pub CS_SUPPORTSSCATTER : cs.CS_SUPPORTSSCATTER ≡ 0x20100
  pub CS_SUPPORTSTEAMID : cs.CS_SUPPORTSTEAMID ≡ 0x20200
  pub CS_SUPPORTSCODELIMIT64 : cs.CS_SUPPORTSCODELIMIT64 ≡ 0x20300
  pub CS_SUPPORTSEXECSEG : cs.CS_SUPPORTSEXECSEG ≡ 0x20400
  pub CS_SUPPORTSRUNTIME : cs.CS_SUPPORTSRUNTIME ≡ 0x20500
  pub CS_SUPPORTSLINKAGE : cs.CS_SUPPORTSLINKAGE ≡ 0x20600
  pub CS_CODE_DIRECTORY_SIZE : cs.CS_CODE_DIRECTORY_SIZE ≡ 44
  pub SIZE_WITH_SCATTER : cs.SIZE_WITH_SCATTER ≡ 48
  pub SIZE_WITH_TEAMID : cs.SIZE_WITH_TEAMID ≡ 52
  pub SIZE_WITH_CODELIMIT64 : cs.SIZE_WITH_CODELIMIT64 ≡ 64
  pub SIZE_WITH_EXECSEG : cs.SIZE_WITH_EXECSEG ≡ 88
  pub SIZE_WITH_RUNTIME : cs.SIZE_WITH_RUNTIME ≡ 96
  pub SIZE_WITH_LINKAGE : cs.SIZE_WITH_LINKAGE ≡ 108
  -- types of hashes, and their sizes
  pub CS_HASHTYPE_SHA1 : cs.CS_HASHTYPE_SHA1 ≡ 1
  pub CS_HASHTYPE_SHA256 : cs.CS_HASHTYPE_SHA256 ≡ 2
  pub CS_HASHTYPE_SHA256_TRUNCATED : cs.CS_HASHTYPE_SHA256_TRUNCATED ≡ 3
  pub CS_HASHTYPE_SHA384 : cs.CS_HASHTYPE_SHA384 ≡ 4
  pub CS_SHA1_LEN : cs.CS_SHA1_LEN ≡ 20
  pub CS_SHA256_LEN : cs.CS_SHA256_LEN ≡ 32
  pub CS_SHA256_TRUNCATED_LEN : cs.CS_SHA256_TRUNCATED_LEN ≡ 20
  pub CS_SHA384_LEN : cs.CS_SHA384_LEN ≡ 48
  -- the greatest log2 of a page
  pub MOST_PAGE_SIZE : cs.MOST_PAGE_SIZE ≡ 31
  -- the size of a cdhash
  pub CS_CDHASH_LEN : cs.CS_CDHASH_LEN ≡ 20
