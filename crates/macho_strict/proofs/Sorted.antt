-- Spans that were passed sorted by their starts, or in their own order.
use Rattle.std.proofs.Common.{◌≡◌, ℕ, true, false, List, Option, None, Some, refl, sym, ◌∙◌, subst}
use Rattle.std.specs.List.Sorted.{IsNonDecreasingBy}
use Rattle.std.specs.Prelude.{IsPermutation, IsSome}
use Rattle.std.proofs.lemmas.Bool.{false≢true, true≢false}
use Rattle.macho_spans.specs.Overlap.{sorted_spans, IsAscending}
use Rattle.macho_spans.specs.declared.overlap.Numbered.{Numbered}
use Rattle.macho_spans.specs.declared.span.Span.{Span}
use Rattle.macho_strict.specs.Gaps.{ArePassed}
use Rattle.macho_strict.specs.Passed.{occupied, ArePassedBy, ArePassedFor, IsByStart}
use Rattle.macho_strict.specs.declared.gaps.Gaps.{Gaps}
use Rattle.macho_strict.specs.declared.gaps.Wanted.TheVariants as wanted
use Rattle.macho_strict.proofs.Occupied.{apart_moved, ascending_moved, cover_listed}
use Rattle.macho_strict.proofs.Passed.{ascending_apart, ascending_by_start}

module _ (image : List ℕ) (spans : List Span) (gaps : Gaps) where
  -- those that have a place were listed and sorted
  pub passed_sorted : (list : List Span) (items : List Numbered) → list ≡ occupied spans → IsPermutation list (sorted_spans items) → IsNonDecreasingBy (λ span. span.start) (sorted_spans items)
      → ArePassed wanted.NonZero image (sorted_spans items) gaps → ArePassedBy image spans gaps (Some items)
  passed_sorted list items are moved rising passed = ((subst (λ (these : List Span). IsPermutation these (sorted_spans items)) are moved, rising), passed)

  pub passed_for : (sorted : Option (List Numbered)) → ArePassedBy image spans gaps sorted → ArePassedFor image spans gaps
  passed_for None passed = record {
    ordered = spans;
    same = λ place. (λ free. free, λ free. free);
    passed = passed;
    apart = ascending_apart spans;
    ascend = λ up. up;
  }
  passed_for (Some items) ((moved, rising), passed) = record {
    ordered = sorted_spans items;
    same = cover_listed spans (occupied spans) (sorted_spans items) refl moved;
    passed = passed;
    apart = apart_moved spans (sorted_spans items) moved;
    ascend = ascending_moved spans (sorted_spans items) moved rising;
  }

  -- where they ascend, all come by their starts
  pub ascending_sorted : (sorted : Option (List Numbered)) → ArePassedBy image spans gaps sorted → gaps.ascend ≡ true → IsByStart spans sorted
  ascending_sorted None passed up = ascending_by_start spans (passed.ascending.0 up)
  ascending_sorted (Some items) passed up = passed.0

  -- where they do not, the spans in their own order do not either
  pub not_ascending : (sorted : Option (List Numbered)) → ArePassedBy image spans gaps sorted → gaps.ascend ≡ false → ¬ IsAscending spans
  not_ascending sorted passed none up = let are = passed_for sorted passed in true≢false (sym (are.passed.ascending.1 (are.ascend up)) ∙ none)

  -- and where they were sorted
  pub some_sorted : (sorted : Option (List Numbered)) → ArePassedBy image spans gaps sorted → IsSome sorted → IsByStart spans sorted
  some_sorted None passed some = absurd (false≢true some)
  some_sorted (Some items) passed some = passed.0
