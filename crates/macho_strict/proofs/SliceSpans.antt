-- The table and the slices of a universal file, and what lies between them.
use Rattle.std.proofs.Common.{◌≡◌, ℕ, suc, zero, ◌+◌, ◌*◌, ◌≤◌, ◌<◌, List, [], ◌∷◌, ◌++◌, length, take, Option, None, Some, All, refl, sym, ap, ◌∙◌, subst, arith, inl, inr}
use Rattle.std.proofs.lemmas.Bool.{cases_lt}
use Rattle.std.proofs.lemmas.List.{length-map, take_all, take_more}
use Rattle.std.proofs.lemmas.Option.{slice_get-map, slice_get_cases, get_or_from_slice_get}
use Rattle.std.specs.Option.{option_map, IsSome}
use Rattle.std.specs.Prelude.{slice_get}
use Rattle.macho_fields.specs.First.{IsUnbroken}
use Rattle.macho_fields.specs.FirstPlace.{IsLeastPlace}
use Rattle.macho_spans.specs.Overlap.{span_at, IsAscending}
use Rattle.macho_spans.specs.Span.{Holds}
use Rattle.macho_fields.specs.Universal.{FileSlice, IsUniversal, HasPlace, entry_count, entry_size, slices_of, table_end}
use Rattle.macho_spans.specs.declared.span.Span.{Span}
use Rattle.macho_fields.proofs.Slices.{slice_count}
use Rattle.macho_strict.specs.declared.gaps.Wanted.TheVariants as wanted
use Rattle.macho_strict.specs.Gaps.{IsStray, ComeByStart}
use Rattle.macho_strict.specs.Rules.{BreaksStrictFile}
use Rattle.macho_strict.specs.Stray.{fat_table_span}
use Rattle.macho_strict.specs.Verdict.{slice_spans}
use Rattle.macho_fields.specs.declared.rule.Rule.TheVariants as rule
use Rattle.macho_strict.proofs.Passed.{least_same, ascending_by_start, all_of_free, free_of_all}

abbrev no_span : Span
no_span = record { start = 0; len = 0 }

abbrev span_of : FileSlice → Span
span_of slice = record { start = slice.start; len = slice.size }

-- one of so many is found
pub is_found : {A X : Type 0} (f : A → X) (o : Option A) (xs : List X) (i : ℕ) → i < length xs → option_map f o ≡ slice_get xs i → IsSome o
is_found f None xs i less is = elim (slice_get_cases xs i).1 [ inl (x, _, at, _) ↦ absurd (cc) | inr (past, _) ↦ absurd (omega arith) ]
is_found f (Some a) xs i less is = refl

-- the slice that is found has the span with its index
pub span_found : (file : List ℕ) (i : ℕ) (slice : FileSlice) → Some slice ≡ slice_get (slices_of file) i → span_of slice ≡ span_at (slice_spans file) i
span_found file i slice is =
    sym (get_or_from_slice_get (slice_spans file) i (span_of slice) no_span (slice_get-map span_of (slices_of file) i ∙ ap (option_map span_of) (sym is)))

table_inside : (file : List ℕ) → IsUnbroken file → IsUniversal file → table_end file ≤ length file
table_inside file unbroken universal = elim (cases_lt (length file) (table_end file)) [
  | inl short ↦ absurd (unbroken (record { scope = 0; rule = rule.FatTruncated; place = 4 }) (refl, universal, inr short))
  | inr most ↦ most
]

-- what is computed of the table of a file that breaks no rule
pub table_found : (file bytes : List ℕ) → bytes ≡ file → IsUnbroken file → (count size len : ℕ) → count ≡ length (slices_of file) → IsUniversal bytes × (size ≡ entry_size bytes) → len ≡ length bytes
    → IsUniversal file × (8 + count * size ≡ table_end file) × (table_end file ≤ len)
table_found file bytes same unbroken count size len counted given long =
    let (universal, sized) = subst (λ (b : List ℕ). IsUniversal b × (size ≡ entry_size b)) same given in
    let entries : count ≡ entry_count file = counted ∙ slice_count file universal in
    let most = table_inside file unbroken universal in
    (universal, ap (λ n. 8 + n * size) entries ∙ ap (λ n. 8 + entry_count file * n) sized, omega (arith, most, long, ap length same))

module _ (file : List ℕ) (table : Span) where
  -- one slice more, and all of them
  pub spans_more : (i : ℕ) → i < length (slices_of file) → table ∷ take (i + 1) (slice_spans file) ≡ (table ∷ take i (slice_spans file)) ++ span_at (slice_spans file) i ∷ []
  spans_more i less = ap (λ spans. table ∷ spans) (take_more (slice_spans file) i no_span (omega (arith, length-map (slices_of file) span_of)))

  -- .. which is pushed
  pub spans_pushed : (i : ℕ) → i < length (slices_of file) → (items new : List Span) (span : Span) → new ≡ items ++ span ∷ [] → items ≡ table ∷ take i (slice_spans file)
      → span ≡ span_at (slice_spans file) i → new ≡ table ∷ take (i + 1) (slice_spans file)
  spans_pushed i less items new span pushed are is = let more = spans_more i less in cc

  pub spans_all : (i : ℕ) → length (slices_of file) ≤ i → table ∷ take i (slice_spans file) ≡ table ∷ slice_spans file
  spans_all i past = ap (λ spans. table ∷ spans) (take_all i (slice_spans file) (omega (arith, length-map (slices_of file) span_of)))

-- slices that ascend come by start, and the table before them
pub ascend_after_table : (file : List ℕ) → IsAscending (slice_spans file) → ComeByStart (fat_table_span file ∷ slice_spans file)
ascend_after_table file up zero j less filled_i filled_j = omega arith
ascend_after_table file up (suc i) zero less filled_i filled_j = absurd (omega arith)
ascend_after_table file up (suc i) (suc j) less filled_i filled_j = ascending_by_start (slice_spans file) up i j (omega arith) filled_i filled_j

module _ (file : List ℕ) (universal : IsUniversal file) where
  breaks : (p : ℕ) → IsStray wanted.NonZero file (fat_table_span file ∷ slice_spans file) p → BreaksStrictFile file rule.FatStrayByte p
  breaks p (is, free) = (universal, is, past, none)
    where
      past : table_end file ≤ p
      past = elim (cases_lt p (table_end file)) [
        | inl before ↦ absurd (free 0 (omega arith, omega arith))
        | inr after ↦ after
      ]

      none : All (λ slice. ¬ HasPlace slice p) (slices_of file)
      none = all_of_free span_of (slices_of file) p (λ k. free (suc k))

  strays : (p : ℕ) → BreaksStrictFile file rule.FatStrayByte p → IsStray wanted.NonZero file (fat_table_span file ∷ slice_spans file) p
  strays p (_, is, past, none) = (is, free)
    where
      free : (i : ℕ) → ¬ Holds (span_at (fat_table_span file ∷ slice_spans file) i) p
      free zero held = absurd (omega (arith, held.1))
      free (suc k) held = free_of_all span_of (slices_of file) (record { start = 0; size = 0; arch = None }) p none k held

  pub least_of_file : (found : Option ℕ) → IsLeastPlace (IsStray wanted.NonZero file (fat_table_span file ∷ slice_spans file)) found → IsLeastPlace (BreaksStrictFile file rule.FatStrayByte) found
  least_of_file found least = least_same (IsStray wanted.NonZero file (fat_table_span file ∷ slice_spans file)) (BreaksStrictFile file rule.FatStrayByte) breaks strays found least
