-- Rules that are decided entry by entry: the first entry that breaks one is its least place.
use Rattle.std.proofs.Common.{◌≡◌, ℕ, ◌+◌, ◌*◌, ◌^◌, ◌≤◌, ◌<◌, List, length, refl, sym, ap, ◌∙◌, subst, arith, inl, inr, mul-le-mul_right}
use Rattle.std.proofs.lemmas.Bool.{cases_lt}
use Rattle.macho_fields.specs.Universal.{IsUniversal, IsMultiple, IsSliceOutside, IsSliceInTable, IsSliceMisaligned, SharePlace, entry_count, entry_size, entry_place, entry_align, entry_slice, table_end}
use Rattle.macho_fields.specs.Rules.{AtEntry}
use Rattle.macho_spans.specs.Span.{Shares}
use Rattle.macho_fields.specs.declared.rule.Rule.{Rule}
use Rattle.macho_fields.specs.declared.rule.Break.{Break}
use Rattle.macho_spans.specs.declared.span.Span.{Span}

-- the entries before this one do not have P
abbrev pub NoneBelow : (ℕ → Type 0) → ℕ → Type 0
NoneBelow P k = (i : ℕ) → i < k → ¬ P i

pub none_more : (P : ℕ → Type 0) (k : ℕ) → NoneBelow P k → ¬ P k → NoneBelow P (k + 1)
none_more P k none here i less broken =
    elim (cases_lt i k) [ inl lower ↦ none i lower broken | inr most ↦ (let same : i ≡ k = omega arith in here (subst P same broken)) ]

pub place_rises : (file : List ℕ) (i k : ℕ) → i ≤ k → entry_place file i ≤ entry_place file k
place_rises file i k less = let wide = mul-le-mul_right (entry_size file) less in omega (arith, wide)

-- a universal file breaks a rule at the entries that have P
abbrev pub Breaks : List ℕ → (ℕ → Type 0) → ℕ → Type 0
Breaks file P place = IsUniversal file × AtEntry file P place

pub entry_broken : (file : List ℕ) (P : ℕ → Type 0) (r : Rule) (k : ℕ) (b : Break) → IsUniversal file → k < entry_count file → NoneBelow P k → P k → b.rule ≡ r
    → b.place ≡ entry_place file k → (b.rule ≡ r) × Breaks file P b.place × ((place : ℕ) → Breaks file P place → b.place ≤ place)
entry_broken file P r k b universal less none here rule at = (rule, (universal, (k, less, at, here)), least)
  where
    least : (place : ℕ) → Breaks file P place → b.place ≤ place
    least place (u, (i, within, there, broken)) =
        elim (cases_lt i k) [
          | inl lower ↦ absurd (none i lower broken)
          | inr most ↦ (let rises = place_rises file k i most in omega (arith, rises, at, there))
        ]

pub entries_kept : (file : List ℕ) (P : ℕ → Type 0) (k : ℕ) → k ≡ entry_count file → NoneBelow P k → (place : ℕ) → ¬ Breaks file P place
entries_kept file P k all none place (u, (i, within, there, broken)) = none i (omega (arith, all)) broken

-- a slice that begins after the table does not begin at offset 0
pub begins_late : (file : List ℕ) (k : ℕ) → IsUniversal file → k < entry_count file → ((place : ℕ) → ¬ Breaks file (IsSliceInTable file) place) → 0 < (entry_slice file k).start
begins_late file k universal less none =
    elim (cases_lt (entry_slice file k).start (table_end file)) [
      | inl lower ↦ absurd (none (entry_place file k) (universal, (k, less, refl, lower)))
      | inr most ↦ omega arith
    ]

-- a slice that is not outside lies inside the file
pub ends_inside : (file : List ℕ) (k : ℕ) → IsUniversal file → k < entry_count file → ((place : ℕ) → ¬ Breaks file (IsSliceOutside file) place)
    → (entry_slice file k).start + (entry_slice file k).size ≤ length file
ends_inside file k universal less none =
    elim (cases_lt (length file) ((entry_slice file k).start + (entry_slice file k).size)) [
      | inl past ↦ absurd (none (entry_place file k) (universal, (k, less, refl, past)))
      | inr most ↦ most
    ]

-- what was read of an entry says whether it is aligned
pub aligned_entry : (file : List ℕ) (k offset align : ℕ) → offset ≡ (entry_slice file k).start → align ≡ entry_align file k → IsMultiple align offset → ¬ IsSliceMisaligned file k
aligned_entry file k offset align start exponent (m, is) misaligned = misaligned (m, ap (λ n. m * 2 ^ n) (sym exponent) ∙ (is ∙ start))

pub misaligned_entry : (file : List ℕ) (k offset align : ℕ) → offset ≡ (entry_slice file k).start → align ≡ entry_align file k → ¬ IsMultiple align offset → IsSliceMisaligned file k
misaligned_entry file k offset align start exponent none (m, is) = none (m, ap (λ n. m * 2 ^ n) exponent ∙ (is ∙ sym start))

-- what was read of two entries says whether they share a place
pub sharing_entries : (file : List ℕ) (i j : ℕ) (a b : Span) → a.start ≡ (entry_slice file i).start → a.len ≡ (entry_slice file i).size → b.start ≡ (entry_slice file j).start
    → b.len ≡ (entry_slice file j).size → SharePlace (entry_slice file i) (entry_slice file j) → Shares a b
sharing_entries file i j a b start size begin long (place, (first, within), (second, inside)) =
    (place, (omega (arith, first, start), omega (arith, within, start, size)), (omega (arith, second, begin), omega (arith, inside, begin, long)))
