-- The parts of a command, as they are put together.
use Rattle.std.proofs.Common.{◌≡◌, ◌↔◌, ◌⊎◌, ℕ, ◌≤◌, List, length, sym, subst, arith, inl, inr}
use Rattle.macho_spans.specs.declared.span.Span.{Span}
use Rattle.macho_commands.specs.Described.{IsDescribedPart, AreParts, IsInParts, IsBadPart, IsWithin, HasBadPart}
use Rattle.macho_commands.specs.declared.content.Content.{Content}
use Rattle.macho_commands.specs.declared.content.Holding.{Holding}

-- a part without bytes
pub no_part : (size : ℕ) (bytes : List ℕ) → size ≤ length bytes → IsDescribedPart size bytes (λ _. ⊥) (record { start = size; len = 0 })
no_part size bytes whole = record {
  start = omega arith;
  end = omega arith;
  holds = λ offset low high. (λ (from, to). omega (arith, from, to), λ wrong. absurd wrong);
}

module _ (bytes : List ℕ) (content : Content) (what : Holding) (is : content.holding ≡ what) where
  -- two parts belong to a command that holds such
  pub are_parts : (P Q : ℕ → Type 0) (first second : Span) → IsDescribedPart content.size bytes P first → IsDescribedPart content.size bytes Q second → ¬ IsBadPart content.size bytes what
      → ((offset : ℕ) → (P offset ⊎ Q offset) ↔ IsWithin content.size bytes what offset) → AreParts bytes content (record { first = first; second = second })
  are_parts P Q first second one other good same = record {
    inside = record { first_start = one.start; first_end = one.end; second_start = other.start; second_end = other.end };
    good = subst (λ held. ¬ IsBadPart content.size bytes held) (sym is) good;
    holds = λ offset low high.
        subst (λ held. IsInParts (record { first = first; second = second }) offset ↔ IsWithin content.size bytes held offset) (sym is) (
          λ either. (same offset).0 (elim either [ inl here ↦ inl ((one.holds offset low high).0 here) | inr there ↦ inr ((other.holds offset low high).0 there) ]),
          λ within. elim ((same offset).1 within) [ inl p ↦ inl ((one.holds offset low high).1 p) | inr q ↦ inr ((other.holds offset low high).1 q) ],
        );
  }

  -- one part is
  pub is_part : (P : ℕ → Type 0) (first : Span) → content.size ≤ length bytes → IsDescribedPart content.size bytes P first → ¬ IsBadPart content.size bytes what
      → ((offset : ℕ) → P offset ↔ IsWithin content.size bytes what offset) → AreParts bytes content (record { first = first; second = record { start = content.size; len = 0 } })
  is_part P first whole one good same =
      are_parts P (λ _. ⊥) first (record { start = content.size; len = 0 }) one (no_part content.size bytes whole) good
      (λ offset. (λ either. elim either [ inl p ↦ (same offset).0 p | inr wrong ↦ absurd wrong ], λ within. inl ((same offset).1 within)))

  pub is_bad : IsBadPart content.size bytes what → HasBadPart bytes content
  is_bad bad = subst (IsBadPart content.size bytes) (sym is) bad
