-- What a rule of the streams is about is there, where the rule is broken.
use Rattle.std.proofs.Common.{◌≡◌, ℕ, ◌<◌, List, length, Some, None, inl, inr, refl, arith}
use Rattle.std.proofs.lemmas.Bool.{cases_lt}
use Rattle.macho_fields.proofs.Options.{some_of}
use Rattle.macho_fields.specs.Field.{part}
use Rattle.macho_fields.specs.Layers.{NothingBreaks}
use Rattle.macho_fields.specs.Rules.{BreaksImage}
use Rattle.macho_fields.specs.Symbol.{table_at}
use Rattle.macho_opcodes.specs.Images.{fields_of, opcodes_of, InBinds, InBindsOf, InRebases, InStream, TooLong}
use Rattle.macho_opcodes.specs.Streams.{names, At, IsUndecoded, NamesNoLibrary, PassesNames}
use Rattle.macho_opcodes.specs.declared.cursor.Cursor.{Cursor}
use Rattle.macho_opcodes.specs.declared.step.Opcodes.{Opcodes}
use Rattle.macho_opcodes.specs.declared.step.Step.{Step}
use Rattle.macho_opcodes.specs.declared.step.Step.TheVariants as step
use Rattle.macho_opcodes.specs.declared.streams.Stream.{Stream}
use Rattle.macho_opcodes.specs.declared.streams.Stream.TheVariants as streams
use Rattle.macho_opcodes.proofs.TableSurveys.{stream_inside}
use Rattle.macho_opcodes.proofs.Within.{step_within}
use Rattle.macho_tables.specs.Homes.{bytes_of_table}
use Rattle.macho_tables.specs.Places.{dyld_info}
use Rattle.macho_explain.specs.Streams.{stream_table, Asks, AtStep, HasBind, HasBindOpcode, HasRebase, HasRebaseOpcode, IsOpcodeAt, OfBinds}
use Rattle.macho_explain.specs.Wholes.{InWhole, Opens}
use Rattle.macho_explain.specs.declared.stream.Asked.{Asked}
use Rattle.macho_explain.specs.declared.stream.Asked.TheVariants as asked

-- what is near an offset of a stream
abbrev Near : (Opcodes → List ℕ → ℕ → Type 0) → (Opcodes → List ℕ → ℕ → Type 0) → Type 0
Near Rule P = (of : Opcodes) (stream : List ℕ) (offset : ℕ) → Rule of stream offset → (offset < length stream) × P of stream offset

undecoded : Near IsUndecoded IsOpcodeAt
undecoded of stream offset (steps, less, none) = (less, (steps, less))

known : (ask : Asked) (done : List Step → ℕ) (P : Cursor → ℕ → Step → Type 0) → ((cursor : Cursor) (n : ℕ) (next : Step) → P cursor n next → Asks ask next)
    → Near (At done P) (AtStep (λ before next. Asks ask next))
known ask done P asks of stream offset (before, next, after, are, at, broken) =
    let within = step_within of stream offset next after at in
    (let less : offset < length stream = omega (arith, within.0, within.1) in less, (before, next, after, are, at, asks _ _ next broken))

pub library : (libraries : ℕ) (cursor : Cursor) (n : ℕ) (next : Step) → NamesNoLibrary libraries cursor n next → Asks asked.Library next
library libraries cursor n (step.SetLibrary ordinal) broken = refl
library libraries cursor n (step.SetSpecial below) broken = refl
library libraries cursor n other broken = absurd broken

-- an opcode is known
abbrev pub AnyStep : List ℕ → Opcodes → List ℕ → ℕ → Type 0
AnyStep image = AtStep (λ before next. Unit {0})

module _ (image : List ℕ) (keeps : NothingBreaks (BreaksImage image None)) where
  opens : Opens image
  opens (r, place, before, broken) = keeps r place broken

  module _ (Rule : List ℕ → Opcodes → List ℕ → ℕ → Type 0) (P : Opcodes → List ℕ → ℕ → Type 0) (near : Near (Rule image) P) where
    in_stream : (one : Stream) (command : ℕ) → dyld_info image ≡ Some command → (place : ℕ) → InStream one image command Rule place
        → InWhole image (stream_table one image) (λ start stream offset. P (opcodes_of one) stream offset) place
    in_stream one command is place (offset, at, broken) =
        let table = table_at image command (fields_of one) in
        let stream = part table.0 table.1 image in
        let (less, has) = near (opcodes_of one) stream offset broken in
        (bytes_of_table table, stream, record { named = rw is refl; inside = stream_inside image keeps command is one (some table.0 table.1 offset less); bytes = refl }, offset, at, has)
      where
        some : (start len offset : ℕ) → offset < length (part start len image) → 0 < len
        some start len offset less = elim (cases_lt 0 len) [
          | inl more ↦ more
          | inr none ↦ (
              let zero : len ≡ 0 = omega (arith, none) in
              let empty : length (part start len image) ≡ 0 = rw zero refl in
              absurd (let never : ⊥ = omega (arith, empty, less) in never)
              )
        ]

    rebases : (place : ℕ) → InRebases image Rule place → InWhole image (stream_table streams.Rebase image) (λ start stream offset. P (opcodes_of streams.Rebase) stream offset) place
    rebases place broken =
        let (command, is, here) = some_of (λ c. InStream streams.Rebase image c Rule place) (dyld_info image) broken in
        in_stream streams.Rebase command is place here

    binds : (place : ℕ) → InBinds image Rule place → OfBinds (λ one. InWhole image (stream_table one image) (λ start stream offset. P (opcodes_of one) stream offset) place)
    binds place broken =
        let (command, is, here) = some_of (λ c. InBindsOf image c Rule place) (dyld_info image) broken in
        elim here [
          | inl first ↦ elim first [ inl bind ↦ inl (in_stream streams.Bind command is place bind) | inr weak ↦ inr (inl (in_stream streams.WeakBind command is place weak)) ]
          | inr lazy ↦ inr (inr (in_stream streams.LazyBind command is place lazy))
        ]

  -- an opcode that is not known
  pub rebase_opcode : (Rule : List ℕ → Opcodes → List ℕ → ℕ → Type 0) → ((of : Opcodes) (stream : List ℕ) (offset : ℕ) → Rule image of stream offset → IsUndecoded of stream offset)
      → (place : ℕ) → InRebases image Rule place → HasRebaseOpcode image place
  rebase_opcode Rule is place broken = (opens, rebases Rule IsOpcodeAt (λ of stream offset here. undecoded of stream offset (is of stream offset here)) place broken)

  pub bind_opcode : (Rule : List ℕ → Opcodes → List ℕ → ℕ → Type 0) → ((of : Opcodes) (stream : List ℕ) (offset : ℕ) → Rule image of stream offset → IsUndecoded of stream offset)
      → (place : ℕ) → InBinds image Rule place → HasBindOpcode image place
  bind_opcode Rule is place broken = (opens, binds Rule IsOpcodeAt (λ of stream offset here. undecoded of stream offset (is of stream offset here)) place broken)

  -- a known one
  module _ (ask : Asked) (done : List Step → ℕ) (Q : Cursor → ℕ → Step → Type 0) (asks : (cursor : Cursor) (n : ℕ) (next : Step) → Q cursor n next → Asks ask next)
      (Rule : List ℕ → Opcodes → List ℕ → ℕ → Type 0) (is : (of : Opcodes) (stream : List ℕ) (offset : ℕ) → Rule image of stream offset → At done Q of stream offset) where
    near : Near (Rule image) (AtStep (λ before next. Asks ask next))
    near of stream offset here = known ask done Q asks of stream offset (is of stream offset here)

    pub rebase : (place : ℕ) → InRebases image Rule place → HasRebase ask image place
    rebase place broken = (opens, rebases Rule (AtStep (λ before next. Asks ask next)) near place broken)

    pub bind : (place : ℕ) → InBinds image Rule place → HasBind ask image place
    bind place broken = (opens, binds Rule (AtStep (λ before next. Asks ask next)) near place broken)

  -- one with which the names have more bytes than the stream
  long : Near (TooLong image) (AtStep (λ before next. Asks asked.Names next))
  long of stream offset here = known asked.Names names (PassesNames (length stream)) (λ cursor n next has. tt) of stream offset here

  pub long_names : (place : ℕ) → InBinds image TooLong place → HasBind asked.Names image place
  long_names place broken = (opens, binds TooLong (AtStep (λ before next. Asks asked.Names next)) long place broken)

  -- any known one
  any_step : Near (AnyStep image) (AtStep (λ before next. Unit {0}))
  any_step of stream offset (before, next, after, are, at, has) =
      let within = step_within of stream offset next after at in
      (let less : offset < length stream = omega (arith, within.0, within.1) in less, (before, next, after, are, at, tt))

  pub bind_step : (place : ℕ) → InBinds image AnyStep place → HasBind asked.First image place
  bind_step place broken = (opens, binds AnyStep (AtStep (λ before next. Unit {0})) any_step place broken)
