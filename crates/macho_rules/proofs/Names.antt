-- Where the strings of an image end for the last time: that one place shows of each name whether it
-- ends in them.
use Rattle.std.proofs.Common.{◌≡◌, ℕ, ◌+◌, ◌≤◌, ◌<◌, ◌↔◌, List, slice_get, Option, None, Some, IsSome, IfSome, ap, sym, ◌∙◌, arith, subst, inl, inr}
use Rattle.std.specs.Option.{option_map}
use Rattle.std.proofs.lemmas.Bool.{cases_lt, false≢true}
use Rattle.std.proofs.lemmas.Option.{none-some, same_Some, slice_get_within, get_or_from_slice_get}
use Rattle.macho_fields.specs.Field.{HasZero}
use Rattle.macho_spans.specs.Span.{Covers}
use Rattle.macho_fields.specs.Image.{commands_of}
use Rattle.macho_fields.specs.declared.header.loader.TheConstants as loader
use Rattle.macho_image.specs.Command.{first_with_cmd}
use Rattle.macho_image.specs.Symbol.{symtab_at}
use Rattle.macho_image.specs.declared.symtab.Symtab.{Symtab}
use Rattle.macho_rules.specs.Survey.{IsNameLimit}
use Rattle.macho_rules.proofs.OneCommand.{first_at}

-- the last of the size places from start on whose byte is zero, or none where no byte there is
abbrev IsLastEnd : List ℕ → ℕ → ℕ → Option ℕ → Type 0
IsLastEnd image start size last =
    (IsSome last ↔ HasZero image start (start + size))
    × IfSome last (λ place. Covers start size place × (slice_get image place ≡ Some 0))
    × IfSome last (λ place. ¬ HasZero image (place + 1) (start + size))

-- what begins past it does not end, and all that begins up to it does
past_last_end : (image : List ℕ) (start size strx : ℕ) (last : Option ℕ) → IsLastEnd image start size last
    → (¬ HasZero image (start + strx) (start + size)) ↔ IfSome last (λ place. place < start + strx)
past_last_end image start size strx None (found, zero, after) = (λ _. tt, λ _ (z, low, high, inside, at). false≢true (found.1 (z, omega arith, high, inside, at)))
past_last_end image start size strx (Some place) (found, zero, after) =
    let ends : start + strx ≤ place → HasZero image (start + strx) (start + size) =
    λ before. (place, before, zero.0.1, slice_get_within image place 0 zero.1, get_or_from_slice_get image place 0 0 zero.1) in (
      λ endless. elim (cases_lt place (start + strx)) [ inl past ↦ past | inr before ↦ absurd (endless (ends before)) ],
      λ past (z, from, below, inside, at). after (z, omega (arith, past), below, inside, at),
    )

module _ (image bytes : List ℕ) (same : bytes ≡ image) (symtab : Symtab) (is : Some symtab ≡ option_map (symtab_at image) (first_with_cmd image loader.LC_SYMTAB (commands_of image)))
    (last : Option ℕ) (found : IsSome last ↔ HasZero bytes symtab.stroff (symtab.stroff + symtab.strsize))
    (zero : IfSome last (λ place. Covers symtab.stroff symtab.strsize place × (slice_get bytes place ≡ Some 0)))
    (after : IfSome last (λ place. ¬ HasZero bytes (place + 1) (symtab.stroff + symtab.strsize))) where
  -- from a limit on that is past the last end no name ends
  pub limit_named : (limit : ℕ) → ((strx : ℕ) → IfSome last (λ place. place < symtab.stroff + strx) ↔ (limit ≤ strx)) → IsNameLimit image limit
  limit_named limit past c first strx =
      let (d, found_d, table) = first_at (symtab_at image) _ symtab is in
      let one : d ≡ c = same_Some d c (sym found_d ∙ first) in
      let here = table ∙ ap (symtab_at image) one in
      let are = subst (λ xs. IsLastEnd xs symtab.stroff symtab.strsize last) same (found, zero, after) in
      let ends = past_last_end image symtab.stroff symtab.strsize strx last are in
      rw (← ap (λ (t : Symtab). t.stroff) here) (rw (← ap (λ (t : Symtab). t.strsize) here) (λ endless. (past strx).0 (ends.0 endless), λ far. ends.1 ((past strx).1 far)))

-- without a symbol table any number is a limit
pub no_names : (image : List ℕ) (limit : ℕ) → first_with_cmd image loader.LC_SYMTAB (commands_of image) ≡ None → IsNameLimit image limit
no_names image limit none c first strx = absurd (none-some c (sym none ∙ first))
