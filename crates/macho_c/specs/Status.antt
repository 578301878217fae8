-- What a call answers, by the numbers of kesvuot.h.
use Rattle.std.specs.Prelude.{◌≡◌, ℕ, Option, Some, None, MatchOption}
use Rattle.macho_image.specs.declared.symbol.Symbol.{Symbol}
use Rattle.macho_rows.specs.Spans.{span_at}
use Rattle.macho_rows.specs.SymbolIndex.{no_symbol}
use Rattle.macho_rows.specs.Symbols.{symbol_row}
use Rattle.macho_rows.specs.declared.address.Source.{Source}
use Rattle.macho_rows.specs.declared.address.Source.TheVariants as source
use Rattle.macho_rows.specs.declared.span.KesvuotSpan.{KesvuotSpan}
use Rattle.macho_rows.specs.declared.symbols.KesvuotSymbol.{KesvuotSymbol}

abbrev pub KESVUOT_OK : ℕ
KESVUOT_OK = 0

-- the bytes break a rule
abbrev pub KESVUOT_REFUSED : ℕ
KESVUOT_REFUSED = 1

-- memory ran out before the verdict
abbrev pub KESVUOT_NO_MEMORY : ℕ
KESVUOT_NO_MEMORY = 2

-- nothing such is there
abbrev pub KESVUOT_NONE : ℕ
KESVUOT_NONE = 3

-- the slice is of 32 bits or big-endian
abbrev pub KESVUOT_UNREAD : ℕ
KESVUOT_UNREAD = 4

-- the address is mapped, but to no byte of the file
abbrev pub KESVUOT_ZERO : ℕ
KESVUOT_ZERO = 5

-- no profile has the number
abbrev pub KESVUOT_UNKNOWN_PROFILE : ℕ
KESVUOT_UNKNOWN_PROFILE = 6

-- The status and what is written, by what is found: it, or that there is nothing.
abbrev pub Answers : {T : Type 0} → T → ℕ → T → Option T → Type 0
Answers nothing status written found =
    MatchOption found ((status ≡ KESVUOT_NONE) × (written ≡ nothing)) (λ it. (status ≡ KESVUOT_OK) × (written ≡ it))

-- the same of what is at an address
abbrev pub AnswersSource : ℕ → KesvuotSpan → Option Source → Type 0
AnswersSource status bytes (Some (source.Bytes span)) = (status ≡ KESVUOT_OK) × (bytes ≡ span)
AnswersSource status bytes (Some source.Zero) = (status ≡ KESVUOT_ZERO) × (bytes ≡ span_at 0 0)
AnswersSource status bytes None = (status ≡ KESVUOT_NONE) × (bytes ≡ span_at 0 0)

-- the same of a symbol, and its number, in an image with so many sections
abbrev pub AnswersSymbol : ℕ → ℕ → ℕ → KesvuotSymbol → Option (ℕ × Symbol) → Type 0
AnswersSymbol sections status number symbol found =
    MatchOption found ((status ≡ KESVUOT_NONE) × (number ≡ 0) × (symbol ≡ no_symbol))
    (λ it. (status ≡ KESVUOT_OK) × (number ≡ it.0) × (symbol ≡ symbol_row sections it.1))

-- P holds of what is found, and the answer is by it
abbrev pub Tells : {T : Type 0} → (Option T → Type 0) → (Option T → Type 0) → Type 0
Tells {T} P answers = (found : Option T) × P found × answers found
