-- What readers answer about a slot that fixups bind, and that all answers are the same. (mach-o/loader.h:
-- dyld_info_command, LC_DYLD_CHAINED_FIXUPS)
use Rattle.std.specs.Prelude.{◌≡◌, ℕ, ◌+◌, ◌≤◌, ◌<◌, ◌⊎◌, List, Some, None, IsSomeAnd}
use Rattle.macho_tables.specs.Places.{dyld_info}
use Rattle.macho_tables.specs.declared.limits.TheConstants as size
use Rattle.macho_opcodes.specs.declared.streams.Stream.{Stream}
use Rattle.macho_opcodes.specs.declared.streams.Stream.TheVariants as streams
use Rattle.macho_chains.specs.Chains.{chained_fixups}
use Rattle.macho_alike.specs.Binds.{BindsOf, IsBind, IsOneSlot, ShareBytes, name_of, IsChainSlot}
use Rattle.macho_alike.specs.declared.binds.Bind.{Bind}
use Rattle.macho_alike.specs.declared.binds.Library.{Library}

-- What is a slot bound to? A list shows all of its binds. A reader that keeps one takes the first, or the last: in the
-- order in which a loader goes over the streams, which is the bind stream, the lazy one, and the weak one at the end, and
-- over the opcodes of each.

-- the streams, by their turn
abbrev pub has_turn : Stream → ℕ → Type 0
has_turn streams.Bind turn = turn ≡ 0
has_turn streams.LazyBind turn = turn ≡ 1
has_turn streams.WeakBind turn = turn ≡ 2
has_turn streams.Rebase turn = ⊥

abbrev pub IsBindInTurn : List ℕ → ℕ → Bind → Type 0
IsBindInTurn image turn bind =
    (one : Stream) × has_turn one turn × IsSomeAnd (dyld_info image) (λ command. BindsOf one image command bind)

-- the one of a turn and a place comes before the other
abbrev pub ComesBefore : ℕ → Bind → ℕ → Bind → Type 0
ComesBefore turn one other_turn other =
    (turn < other_turn) ⊎ ((turn ≡ other_turn) × (one.place < other.place))

abbrev pub IsListed : List ℕ → Bind → Bind → Type 0
IsListed image slot bind = IsBind image bind × IsOneSlot slot bind

abbrev pub IsFirst : List ℕ → Bind → Bind → Type 0
IsFirst image slot bind =
    (turn : ℕ) × IsBindInTurn image turn bind × IsOneSlot slot bind
    × ((other_turn : ℕ) (other : Bind) → IsBindInTurn image other_turn other → IsOneSlot slot other
    → ¬ ComesBefore other_turn other turn bind)

abbrev pub IsLast : List ℕ → Bind → Bind → Type 0
IsLast image slot bind =
    (turn : ℕ) × IsBindInTurn image turn bind × IsOneSlot slot bind
    × ((other_turn : ℕ) (other : Bind) → IsBindInTurn image other_turn other → IsOneSlot slot other
    → ¬ ComesBefore turn bind other_turn other)

-- a reader answers with the bind, about the slot of another one
abbrev pub IsAnswer : List ℕ → Bind → Bind → Type 0
IsAnswer image slot bind = IsListed image slot bind ⊎ (IsFirst image slot bind ⊎ IsLast image slot bind)

-- two binds say the same: they look one name up in one library, unless one of them is weak, and add one number
pub record SayTheSame (image : List ℕ) (one other : Bind) : Type 0 where
  pub name : name_of image one ≡ name_of image other
  pub addend : one.addend ≡ other.addend
  pub library : (a b : Library) → one.library ≡ Some a → other.library ≡ Some b → a ≡ b

abbrev pub HasOneBind : List ℕ → Type 0
HasOneBind image = (slot a b : Bind) → IsAnswer image slot a → IsAnswer image slot b → SayTheSame image a b

-- Which slot has a byte? No two slots that are bound have it.
abbrev pub HasOneSlot : List ℕ → Type 0
HasOneSlot image = (one other : Bind) → IsBind image one → IsBind image other → ¬ ShareBytes one other

-- Two pointers of chains of one segment are one, or share no byte. So what a slot is bound to is what its own bytes say.
abbrev pub HasChainSlotsApart : List ℕ → Type 0
HasChainSlotsApart image =
    (k one other : ℕ) → IsChainSlot image k one → IsChainSlot image k other
    → (one ≡ other) ⊎ ((one + size.POINTER_SIZE ≤ other) ⊎ (other + size.POINTER_SIZE ≤ one))

-- Do opcodes bind, or chains? No image has both.
abbrev pub HasOneKindOfFixups : List ℕ → Type 0
HasOneKindOfFixups image = (dyld_info image ≡ None) ⊎ (chained_fixups image ≡ None)
