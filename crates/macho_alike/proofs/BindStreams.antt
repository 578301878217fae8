-- The binds of the streams of an image.
use Rattle.std.proofs.Common.{◌≡◌, ◌↔◌, ◌⊎◌, ℕ, ◌<◌, List, [], length, get_or, Option, Some, None, Contains, refl, sym, subst, arith, inl, inr}
use Rattle.std.specs.Prelude.{IsSomeAnd, IfOk, Result, Ok, Err}
use Rattle.std.proofs.lemmas.Bool.{cases_eq}
use Rattle.std.proofs.lemmas.List.{get_or_default}
use Rattle.macho_fields.specs.FirstPlace.{IsLeastPlace}
use Rattle.macho_fields.specs.Field.{part}
use Rattle.macho_fields.specs.Layers.{NothingBreaks}
use Rattle.macho_fields.specs.Rules.{BreaksImage}
use Rattle.macho_fields.specs.Symbol.{table_at}
use Rattle.macho_image.proofs.ReadParts.{length-part}
use Rattle.macho_tables.specs.Places.{dyld_info}
use Rattle.macho_tables.proofs.Places.{least_same}
use Rattle.macho_opcodes.specs.Images.{opcodes_of, fields_of}
use Rattle.macho_opcodes.specs.declared.streams.Stream.{Stream}
use Rattle.macho_opcodes.specs.declared.streams.Stream.TheVariants as streams
use Rattle.macho_opcodes.proofs.TableSurveys.{stream_inside}
use Rattle.macho_opcodes.proofs.Within.{step_within}
use Rattle.macho_alike.specs.Binds.{StreamBinds, BindsOf, IsBind, HasBind, BreaksOpcodeBindOnce}
use Rattle.macho_alike.specs.BindLists.{WereAdded, IsInside, ClashAt}
use Rattle.macho_alike.specs.declared.binds.Bind.{Bind}
use Rattle.macho_alike.proofs.BindPairs.{no_bind}
use Rattle.macho_alike.proofs.BindWalks.{stream_binds_inside}

-- a stream without bytes binds nothing
pub binds_nothing : (one : Stream) (from : ℕ) (stream : List ℕ) → length stream ≡ 0 → (bind : Bind) → ¬ StreamBinds one from stream bind
binds_nothing one from stream none bind (offset, (before, next, after, are, at, binds)) =
    let within = step_within (opcodes_of one) stream offset next after at in absurd (omega (arith, within, none))

pub binds_of_none : (one : Stream) (image : List ℕ) (command : ℕ) → (table_at image command (fields_of one)).1 ≡ 0 → (bind : Bind) → ¬ BindsOf one image command bind
unfolding BindsOf
binds_of_none one image command none bind binds =
    binds_nothing one _ (part (table_at image command (fields_of one)).0 (table_at image command (fields_of one)).1 image) (rw none refl) bind binds

-- the bytes that were read are the stream's
pub stream_read : (one : Stream) (image : List ℕ) (command from : ℕ) (bytes : List ℕ) → from ≡ (table_at image command (fields_of one)).0
    → bytes ≡ part (table_at image command (fields_of one)).0 (table_at image command (fields_of one)).1 image
    → (bind : Bind) → StreamBinds one from bytes bind ↔ BindsOf one image command bind
unfolding BindsOf
stream_read one image command from bytes begins read bind =
    subst (λ (n : ℕ). StreamBinds one from bytes bind ↔ StreamBinds one n (part (table_at image command (fields_of one)).0 (table_at image command (fields_of one)).1 image) bind) begins
    (subst (λ (these : List ℕ). StreamBinds one from bytes bind ↔ StreamBinds one from these bind) read (λ is. is, λ is. is))

module _ (image : List ℕ) (keeps : NothingBreaks (BreaksImage image None)) (command : ℕ) (info : dyld_info image ≡ Some command) where
  -- the opcode, the name and the offset of a bind
  of_stream : (one : Stream) (bind : Bind) → BindsOf one image command bind → IsInside (length image) bind
  unfolding BindsOf
  of_stream one bind binds = elim (cases_eq (table_at image command (fields_of one)).1 0) [
    | inl none ↦ absurd (binds_nothing one _ (part (table_at image command (fields_of one)).0 (table_at image command (fields_of one)).1 image) (rw none refl) bind binds)
    | inr some ↦
        let inside = stream_inside image keeps command info one (omega (arith, some)) in
        let size = length-part (table_at image command (fields_of one)).0 (table_at image command (fields_of one)).1 image inside in
        stream_binds_inside one (table_at image command (fields_of one)).0 (part (table_at image command (fields_of one)).0 (table_at image command (fields_of one)).1 image) (length image)
        (omega (arith, inside, size)) bind binds
  ]

  abbrev InStreams : Bind → Type 0
  InStreams bind = (BindsOf streams.Bind image command bind ⊎ BindsOf streams.WeakBind image command bind) ⊎ BindsOf streams.LazyBind image command bind

  pub is_bind : (bind : Bind) → InStreams bind ↔ IsBind image bind
  is_bind bind = subst (λ (o : Option ℕ). InStreams bind ↔ IsSomeAnd o (λ c. (BindsOf streams.Bind image c bind ⊎ BindsOf streams.WeakBind image c bind) ⊎ BindsOf streams.LazyBind image c bind)) (sym info) (λ is. is, λ is. is)

  pub bind_inside : (bind : Bind) → IsBind image bind → IsInside (length image) bind
  bind_inside bind is = elim ((is_bind bind).1 is) [
    | inl early ↦ elim early [ inl one ↦ of_stream streams.Bind bind one | inr two ↦ of_stream streams.WeakBind bind two ]
    | inr three ↦ of_stream streams.LazyBind bind three
  ]

  module _ (first second third : List Bind) (one : WereAdded (BindsOf streams.Bind image command) [] first) (two : WereAdded (BindsOf streams.WeakBind image command) first second)
      (three : WereAdded (BindsOf streams.LazyBind image command) second third) where
    -- the three streams were read
    pub all_read : (bind : Bind) → Contains third bind ↔ IsBind image bind
    all_read bind = (
      λ has. (is_bind bind).0 (elim ((three bind).0 has) [
        | inl early ↦ elim ((two bind).0 early) [
          | inl earlier ↦ elim ((one bind).0 earlier) [ inl none ↦ nowhere none | inr is ↦ inl (inl is) ]
          | inr is ↦ inl (inr is)
        ]
        | inr is ↦ inr is
      ]),
      λ is. elim ((is_bind bind).1 is) [
        | inl early ↦ elim early [
          | inl is_one ↦ (three bind).1 (inl ((two bind).1 (inl ((one bind).1 (inr is_one)))))
          | inr is_two ↦ (three bind).1 (inl ((two bind).1 (inr is_two)))
        ]
        | inr is_three ↦ (three bind).1 (inr is_three)
      ],
    )
      where
        nowhere : Contains [] bind → InStreams bind
        nowhere (k, less, at) = absurd (omega (arith, less))

-- a list has all binds of an image
pub breaks_same : (image : List ℕ) (binds : List Bind) → ((bind : Bind) → Contains binds bind ↔ IsBind image bind) → (place : ℕ) → ClashAt image binds place ↔ BreaksOpcodeBindOnce image place
breaks_same image binds all place = (
  λ (what, one, other, here, there, clash, first, second). (what, one, other, (all one).0 here, (all other).0 there, clash, first, second),
  λ (what, one, other, here, there, clash, first, second). (what, one, other, (all one).1 here, (all other).1 there, clash, first, second),
)

pub some_bind : (image : List ℕ) (binds : List Bind) → ((bind : Bind) → Contains binds bind ↔ IsBind image bind) → 0 < length binds → HasBind image
some_bind image binds all some =
    let first = get_or binds 0 no_bind in (first, (all first).0 (0, some, get_or_default binds 0 _ no_bind some))

pub least_listed : {E : Type 0} (image : List ℕ) (binds : List Bind) → ((bind : Bind) → Contains binds bind ↔ IsBind image bind) → (r : Result (Option ℕ) E)
    → IfOk r (IsLeastPlace (ClashAt image binds)) → IfOk r (IsLeastPlace (BreaksOpcodeBindOnce image))
least_listed image binds all (Ok found) least = least_same (ClashAt image binds) (BreaksOpcodeBindOnce image) found (breaks_same image binds all) least
least_listed image binds all (Err e) least = tt
