-- The parts of the code of an image have bytes where one of its segments that may be executed has them.
use Rattle.std.proofs.Common.{◌≡◌, ◌↔◌, ℕ, ◌<◌, List, true, Any, Contains, sym, subst, arith, inl, inr}
use Rattle.std.specs.Prelude.{filter, IsPermutation}
use Rattle.std.proofs.lemmas.Bool.{and_from, and_parts, lt-ltb, cases_eq}
use Rattle.std.proofs.lemmas.List.Elements.{filter_passes, All-contains}
use Rattle.std.proofs.lemmas.List.Sorted.{Contains-permutation, IsPermutation-sym}
use Rattle.macho_fields.specs.Segment.{all_segments, filesize}
use Rattle.macho_fields.proofs.Lists.{contains_mapped}
use Rattle.macho_rules.proofs.Mapped.{filtered}
use Rattle.macho_rules.proofs.Searches.{unfiltered, mapped_has, any_of, one_of}
use Rattle.macho_spans.specs.Span.{IsInside}
use Rattle.macho_spans.specs.declared.span.Span.{Span}
use Rattle.macho_strict.specs.Passed.{occupied}
use Rattle.macho_strict.specs.Unclaimed.{is_code, code_parts}
use Rattle.macho_strict.proofs.Occupied.{has_place}
use Rattle.macho_tables.specs.CodeParts.{has_code, IsOtherPart, HasOtherPart}
use Rattle.macho_tables.specs.DataInCode.{IsCodeOf}
use Rattle.macho_tables.specs.Homes.{bytes_of_segment}

module _ (image : List ℕ) (bytes : Span) (some : 0 < bytes.len) where
  -- a segment with the bytes has some
  code_with : (segment : ℕ) → IsCodeOf image bytes segment → has_code image segment ≡ true
  code_with segment (is, inside) = and_from _ _ is (lt-ltb 0 (filesize image segment) (omega (arith, some, inside.0, inside.1)))

  -- no segment is code
  pub no_code : ¬ Any (λ segment. has_code image segment ≡ true) (all_segments image) → IsInside bytes (record { start = 0; len = 0 }) ↔ Any (IsCodeOf image bytes) (all_segments image)
  no_code none = (
    λ inside. absurd (let (low, high) = inside in omega (arith, some, low, high)),
    λ any. let (segment, has, here) = one_of (IsCodeOf image bytes) (all_segments image) any in
        absurd (none (any_of (λ s. has_code image s ≡ true) (all_segments image) segment has (code_with segment here))),
  )

  -- one is
  pub one_code : (first : ℕ) → Contains (all_segments image) first → has_code image first ≡ true → ¬ HasOtherPart image first → (part : Span) → part ≡ bytes_of_segment image first
      → IsInside bytes part ↔ Any (IsCodeOf image bytes) (all_segments image)
  one_code first has code none part is = (
    λ inside. any_of (IsCodeOf image bytes) (all_segments image) first has ((and_parts _ _ code).0, subst (IsInside bytes) is inside),
    λ any. let (segment, there, here) = one_of (IsCodeOf image bytes) (all_segments image) any in
        elim (cases_eq segment first) [
          | inl same ↦ subst (IsInside bytes) (sym is) (subst (λ s. IsInside bytes (bytes_of_segment image s)) same here.1)
          | inr apart ↦ absurd (none (any_of (IsOtherPart first image) (all_segments image) segment there (code_with segment here, apart)))
        ],
  )

  -- several are
  pub many_code : (parts : List Span) → IsPermutation (occupied (code_parts image)) parts → Any (IsInside bytes) parts ↔ Any (IsCodeOf image bytes) (all_segments image)
  many_code parts moved = (
    λ any. let (span, has, inside) = one_of (IsInside bytes) parts any in
        let among = unfiltered has_place (code_parts image) span (Contains-permutation parts (occupied (code_parts image)) span (IsPermutation-sym (occupied (code_parts image)) parts moved) has) in
        let (segment, there, at) = mapped_has (bytes_of_segment image) (filter (is_code image) (all_segments image)) span among in
        any_of (IsCodeOf image bytes) (all_segments image) segment (unfiltered (is_code image) (all_segments image) segment there)
        (All-contains (λ s. is_code image s ≡ true) (filter (is_code image) (all_segments image)) segment (filter_passes (is_code image) (all_segments image)) there, subst (IsInside bytes) (sym at) inside),
    λ any. let (segment, there, (is, inside)) = one_of (IsCodeOf image bytes) (all_segments image) any in
        let span = bytes_of_segment image segment in
        let among = contains_mapped (bytes_of_segment image) (filter (is_code image) (all_segments image)) segment (filtered (is_code image) (all_segments image) segment there is) in
        any_of (IsInside bytes) parts span
        (Contains-permutation (occupied (code_parts image)) parts span moved (filtered has_place (code_parts image) span among (lt-ltb 0 span.len (omega (arith, some, inside.0, inside.1))))) inside,
  )
