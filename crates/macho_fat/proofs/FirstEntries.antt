-- What a walk over the entries of a table finds of a rule of a single entry, entry by entry.
use Rattle.std.proofs.Common.{◌≡◌, ℕ, ◌+◌, ◌<◌, List, [], ◌∷◌, ◌++◌, Contains, Option, Some, MatchOption, unwrap_or, Result, IsOk, IsErrAnd, Bool, false, IsTrue, ◌↔◌, refl, sym, ap, ◌∙◌, subst, arith, inl, inr}
use Rattle.std.specs.List.{range_with_len}
use Rattle.std.proofs.lemmas.List.FromFn.{length-range_with_len, get_or-range_with_len, map-range_with_len_more}
use Rattle.std.proofs.lemmas.List.{map-id}
use Rattle.std.proofs.lemmas.Bool.{both_ways}
use Rattle.macho_fields.specs.Universal.{IsUniversal, IsSliceOutside, IsSliceInTable, IsSliceMisaligned, entry_count, entry_place}
use Rattle.macho_fields.specs.First.{rank}
use Rattle.macho_fields.specs.FirstPlace.{IsLeastPlace, IsNoted}
use Rattle.macho_fields.specs.Layers.{KeptBelow, Continues}
use Rattle.macho_fields.specs.Rules.{BreaksFile}
use Rattle.macho_fields.specs.declared.rule.Rule.{Rule}
use Rattle.macho_fields.specs.declared.rule.Break.{Break}
use Rattle.macho_fields.proofs.Entries.{Breaks, place_rises}
use Rattle.macho_fields.proofs.FirstPlaces.{first_of_kept, first_of_broken, first_breaks, first_judged}
use Rattle.macho_fat.specs.TableWalk.{IsFirstEntry, BreaksAlone, AreFirstBreaks}
use Rattle.macho_fat.specs.declared.survey.Notes.{Notes}

-- the first n entries are those below n
entry_below : (n k : ℕ) → Contains (range_with_len 0 n) k → k < n
entry_below n k (i, less, at) =
    let lower : i < n = omega (arith, less, length-range_with_len 0 n) in
    omega (arith, lower, at, get_or-range_with_len 0 n i k lower)

below_contained : (n k : ℕ) → k < n → Contains (range_with_len 0 n) k
below_contained n k less = (k, omega (arith, less, length-range_with_len 0 n), omega (arith, get_or-range_with_len 0 n k k less))

range_more : (n : ℕ) → range_with_len 0 (n + 1) ≡ range_with_len 0 n ++ n ∷ []
range_more n = sym (map-id (range_with_len 0 (n + 1))) ∙ (map-range_with_len_more (λ k. k) 0 n n (omega arith) ∙ ap (λ ks. ks ++ n ∷ []) (map-id (range_with_len 0 n)))

module _ (file : List ℕ) (P : ℕ → Type 0) where
  -- one entry more, without P
  pub entry_kept : (k : ℕ) (found : Option ℕ) → ¬ P k → IsFirstEntry file P k found → IsFirstEntry file P (k + 1) found
  entry_kept k found kept first = rw range_more (first_of_kept (entry_place file) P (range_with_len 0 k) k found kept first)

  -- one entry more, which has P
  pub entry_noted : (k place : ℕ) (old new : Option ℕ) → place ≡ entry_place file k → new ≡ Some (unwrap_or old place) → P k → IsFirstEntry file P k old → IsFirstEntry file P (k + 1) new
  entry_noted k place old new at is broken first =
      subst (IsFirstEntry file P (k + 1)) (sym (is ∙ ap (λ p. Some (unwrap_or old p)) at))
      (rw range_more (first_of_broken (entry_place file) P (range_with_len 0 k) k old (λ i has. let less : i < k = entry_below k i has in place_rises file i k (omega arith)) broken first))

  -- one entry more, by a test of it
  pub entry_tested : (k place : ℕ) (is_broken : Bool) (old new : Option ℕ) → place ≡ entry_place file k → IsNoted (IsTrue is_broken) place old new
      → IsTrue is_broken ↔ P k → IsFirstEntry file P k old → IsFirstEntry file P (k + 1) new
  entry_tested k place is_broken old new at (inl (broken, is)) exactly first = entry_noted k place old new at is (exactly.0 broken) first
  entry_tested k place is_broken old new at (inr (kept, is)) exactly first = subst (IsFirstEntry file P (k + 1)) (sym is) (entry_kept k old (λ broken. kept (exactly.1 broken)) first)

  -- what is found of all entries is the least place of the rule
  pub first_entry_breaks : (found : Option ℕ) → IsUniversal file → IsFirstEntry file P (entry_count file) found → IsLeastPlace (Breaks file P) found
  first_entry_breaks found universal = first_breaks (Breaks file P) (entry_place file) P (range_with_len 0 (entry_count file)) found (record {
    broken = λ k has here. (universal, (k, entry_below (entry_count file) k has, refl, here));
    only = λ place (u, (k, less, at, here)). (k, below_contained (entry_count file) k less, here, sym at);
  })

-- and is the answer of the rule for the file that the table is of
pub entry_judged : {T : Type 0} (table file : List ℕ) (P : List ℕ → ℕ → Type 0) (r : Rule) (found : Option ℕ) (answer : Result T Break) → table ≡ file → KeptBelow (BreaksFile file) (rank r)
    → IsUniversal table → IsFirstEntry table (P table) (entry_count table) found → (IsLeastPlace (Breaks table (P table)) found → IsLeastPlace (BreaksFile table r) found)
    → MatchOption found (IsOk answer) (λ place. IsErrAnd answer (λ b. (b.rule ≡ r) × (b.place ≡ place))) → Continues (BreaksFile file) r answer
entry_judged table file P r found answer same kept universal first of_rule =
    first_judged (BreaksFile file) r found answer kept (subst (λ (f : List ℕ). IsLeastPlace (BreaksFile f r) found) same (of_rule (first_entry_breaks table (P table) found universal first)))

-- one entry more, which breaks none of the rules of a single entry
pub none_broken : (file : List ℕ) (k : ℕ) (notes : Notes) (is_broken : Bool) → is_broken ≡ false → IsTrue is_broken ↔ BreaksAlone file k → AreFirstBreaks file k notes → AreFirstBreaks file (k + 1) notes
none_broken file k notes is_broken fails exactly first = record {
  outside = entry_kept file (IsSliceOutside file) k notes.outside (λ broken. kept (inl broken)) first.outside;
  in_table = entry_kept file (IsSliceInTable file) k notes.in_table (λ broken. kept (inr (inl broken))) first.in_table;
  misaligned = entry_kept file (IsSliceMisaligned file) k notes.misaligned (λ broken. kept (inr (inr broken))) first.misaligned;
}
  where
    kept : ¬ BreaksAlone file k
    kept broken = both_ways is_broken fails (exactly.1 broken)
