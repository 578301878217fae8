-- The states of a thread. A command and a state are named by their places; a state by its offset in the command, of
-- which these are the bytes. (mach-o/loader.h: thread_command)
use Rattle.std.specs.Prelude.{◌≡◌, ℕ, ◌+◌, ◌*◌, ◌≤◌, List, [], ◌∷◌, length, filter, Bool, Option, IfSome, IsSomeAnd, is_some}
use Rattle.macho_fields.specs.Image.{word, long}
use Rattle.macho_fields.specs.declared.header.loader.TheConstants as fields
use Rattle.macho_commands.specs.Registers.{registers_of}
use Rattle.macho_commands.specs.declared.registers.Registers.{Registers}
use Rattle.macho_commands.specs.declared.registers.StateHeader.{StateHeader}

-- a state: flavor at 0, count at 4, and from 8 on so many words of 4 bytes
abbrev pub flavor : List ℕ → ℕ → ℕ
flavor bytes state = word bytes state

abbrev pub word_count : List ℕ → ℕ → ℕ
word_count bytes state = word bytes (state + 4)

-- where its words begin, and the first offset past them
abbrev pub words_offset : ℕ → ℕ
words_offset state = state + 8

abbrev pub state_end : List ℕ → ℕ → ℕ
state_end bytes state = words_offset state + 4 * word_count bytes state

-- States are at these offsets: the first at start, each other one where the one before it ends. Each ends inside
-- the command, and the last where the command ends.
abbrev pub FollowStates : List ℕ → ℕ → List ℕ → Type 0
FollowStates bytes start [] = start ≡ length bytes
FollowStates bytes start (state ∷ states) =
    (state ≡ start) × (state_end bytes state ≤ length bytes)
    × FollowStates bytes (state_end bytes state) states

-- the states of a thread begin after its cmd and cmdsize
abbrev pub AreStates : List ℕ → List ℕ → Type 0
AreStates bytes states = FollowStates bytes fields.LOAD_COMMAND_SIZE states

-- the state has the registers of a processor with this cputype, by its flavor
abbrev pub has_registers : ℕ → List ℕ → ℕ → Bool
has_registers cputype bytes state = is_some (registers_of cputype (flavor bytes state))

-- it is the one state of the thread that has
abbrev pub IsRegisterState : ℕ → List ℕ → ℕ → Type 0
IsRegisterState cputype bytes state =
    (states : List ℕ) × AreStates bytes states
    × (filter (has_registers cputype bytes) states ≡ state ∷ [])

-- a flavor and a count
abbrev pub header_at : List ℕ → ℕ → StateHeader
header_at bytes offset = record { flavor = flavor bytes offset; count = word_count bytes offset }

-- the words of a state begin with the header, where registers have one
abbrev pub HasStateHeader : List ℕ → ℕ → Option StateHeader → Type 0
HasStateHeader bytes words header = IfSome header (λ h. header_at bytes words ≡ h)

-- a state with these registers is whole, and has this entry
pub record HasEntry (bytes : List ℕ) (state address : ℕ) (registers : Registers) : Type 0 where
  pub count : word_count bytes state ≡ registers.count
  pub header : HasStateHeader bytes (words_offset state) registers.header
  pub entry : long bytes (words_offset state + registers.entry) ≡ address

-- the registers of the state are whole, and have this entry
abbrev pub IsEntryOf : ℕ → List ℕ → ℕ → ℕ → Type 0
IsEntryOf cputype bytes state entry =
    IsSomeAnd (registers_of cputype (flavor bytes state)) (HasEntry bytes state entry)

-- the thread has one state with registers, and these are whole, and have this entry
abbrev pub HasThreadEntry : ℕ → List ℕ → ℕ → Type 0
HasThreadEntry cputype bytes entry =
    (state : ℕ) × IsRegisterState cputype bytes state × IsEntryOf cputype bytes state entry
