-- Two slices; the second has another architecture than the table says.
use Rattle.std.proofs.Common.{◌≡◌, ℕ, suc, zero, ◌+◌, ◌≤◌, ◌<◌, ◌⊎◌, List, [], ◌∷◌, ◌++◌, replicate, Any, Option, Some, None, refl, sym, ap, subst, arith, lit≤, lit<, inl, inr, ⊎_elim}
use Rattle.macho_fields.specs.Universal.{IsUniversal, IsImage, slice_bytes, entry_slice, IsSliceMisaligned, IsUnreadImage}
use Rattle.macho_fields.specs.Rules.{BreaksFile, BreaksHeader, BreaksImage, BreaksCommands}
use Rattle.macho_fields.specs.First.{rank, IsBrokenIn, IsBefore, IsFirstBroken}
use Rattle.macho_fields.specs.declared.rule.Rule.{Rule}
use Rattle.macho_fields.specs.declared.rule.Rule.TheVariants as rule
use Rattle.macho_fields.proofs.Chains.{commands_unique}
use Rattle.macho_fields.proofs.Ranks.{rank_determines_rule, image_rule_rank}
use Rattle.macho_fields.proofs.Walks.{IsHeader, commands_keep_walk, header_keeps}
use Rattle.macho_fields.proofs.ExampleImages.{nothing_commanded}

abbrev other_header : ℕ → List ℕ
other_header subtype = 0xcf ∷ 0xfa ∷ 0xed ∷ 0xfe ∷ 0xc ∷ 0 ∷ 0 ∷ 1 ∷ subtype ∷ 0 ∷ 0 ∷ 0 ∷ 2 ∷ 0 ∷ 0 ∷ 0 ∷ replicate 16 0

abbrev big_four : ℕ → List ℕ
big_four n = 0 ∷ 0 ∷ 0 ∷ n ∷ []

abbrev entry : ℕ → ℕ → List ℕ
entry subtype start = (1 ∷ 0 ∷ 0 ∷ 0xc ∷ []) ++ big_four subtype ++ big_four start ++ big_four 32 ++ big_four 0

abbrev twins : List ℕ
twins = (0xca ∷ 0xfe ∷ 0xba ∷ 0xbe ∷ []) ++ big_four 2 ++ entry 0 64 ++ entry 2 96 ++ replicate 16 0 ++ other_header 0 ++ other_header 0

below_two : (P : ℕ → Type 0) → P 0 → P 1 → (k : ℕ) → k < 2 → P k
below_two P a b zero h = a
below_two P a b (suc zero) h = b
below_two P a b (suc (suc k)) h = absurd (omega arith)

any_two : {X : Type 0} (P : X → Type 0) (x y : X) → Any P (x ∷ y ∷ []) → P x ⊎ P y
any_two P x y (zero, z, less, e, h) = inl (subst P (sym e) h)
any_two P x y (suc zero, z, less, e, h) = inr (subst P (sym e) h)
any_two P x y (suc (suc k), z, less, e, h) = absurd (omega arith)

universal : IsUniversal twins
universal = (lit≤ tt, refl)

-- no place is in both slices
apart : (place : ℕ) → place < 96 → 96 ≤ place → ⊥
apart place a b = absurd (omega arith)

no_overlap : (k : ℕ) → k < 2
    → ¬ ((i : ℕ) × (i < k) × ((place : ℕ)
    × ((entry_slice twins i).start ≤ place) × (place < (entry_slice twins i).start + (entry_slice twins i).size)
    × ((entry_slice twins k).start ≤ place) × (place < (entry_slice twins k).start + (entry_slice twins k).size)))
no_overlap zero low (i, less, h) = absurd (omega arith)
no_overlap (suc zero) low (zero, less, (place, a, b, c, d)) = apart place b c
no_overlap (suc zero) low (suc i, less, h) = absurd (omega arith)
no_overlap (suc (suc k)) low h = absurd (omega arith)

second : Option (ℕ × ℕ) → ℕ
second None = 9
second (Some p) = p.1

no_duplicate : (k : ℕ) → k < 2 → ¬ ((i : ℕ) × (i < k) × ((entry_slice twins i).arch ≡ (entry_slice twins k).arch))
unfolding second
no_duplicate zero low (i, less, h) = absurd (omega arith)
no_duplicate (suc zero) low (zero, less, h) = let p : ◌≡◌ {A = ℕ} 0 2 = ap second h in absurd (omega arith)
no_duplicate (suc zero) low (suc i, less, h) = absurd (omega arith)
no_duplicate (suc (suc k)) low h = absurd (omega arith)

file_keeps : (r : Rule) (at : ℕ) → ¬ BreaksFile twins r at
file_keeps rule.Magic at h = h.1 (inl universal)
file_keeps rule.FatTruncated at h = ⊎_elim (λ k. let p : 128 < 8 = k in absurd (omega arith)) (λ k. let p : 128 < 48 = k in absurd (omega arith)) h.2
file_keeps rule.FatSliceOutside at (u, (k, low, e, h)) =
    below_two (λ n. ¬ (128 < (entry_slice twins n).start + (entry_slice twins n).size))
    (λ g. let p : 128 < 96 = g in absurd (omega arith)) (λ g. let p : 128 < 128 = g in absurd (omega arith)) k low h
file_keeps rule.FatSliceInTable at (u, (k, low, e, h)) =
    below_two (λ n. ¬ ((entry_slice twins n).start < 48))
    (λ g. let p : 64 < 48 = g in absurd (omega arith)) (λ g. let p : 96 < 48 = g in absurd (omega arith)) k low h
file_keeps rule.FatAlign at (u, (k, low, e, h)) = below_two (λ n. ¬ IsSliceMisaligned twins n) (λ g. g (64, refl)) (λ g. g (96, refl)) k low h
file_keeps rule.FatOverlap at (u, (k, low, e, (i, less, (place, (a, b), (c, d))))) = no_overlap k low (i, less, (place, a, b, c, d))
file_keeps rule.FatDuplicate at (u, (k, low, e, h)) = no_duplicate k low h
file_keeps rule.FatSliceMagic at (u, h) =
    elim (any_two (λ slice. (at ≡ slice.start) × ¬ (IsImage (slice_bytes twins slice) ⊎ IsUnreadImage (slice_bytes twins slice)))
    (entry_slice twins 0) (entry_slice twins 1) h) [
      | inl k ↦ k.1 (inl (lit≤ tt, refl))
      | inr k ↦ k.1 (inl (lit≤ tt, refl))
    ]
file_keeps rule.FatEmpty at (e, u, h) = h 0 (entry_slice twins 0) (lit< tt) (lit≤ tt, refl)
file_keeps other at h = h

abbrev first : List ℕ
first = other_header 0

first_header : IsHeader first
first_header = record { long_enough = lit≤ tt; kind = refl; commands_inside = lit≤ tt }

first_keeps_header : (r : Rule) (at : ℕ) → ¬ BreaksHeader first (Some (0x0100000c, 0)) r at
first_keeps_header rule.HeaderTruncated at h = header_keeps first [] first_header (refl, 32, refl) rule.HeaderTruncated at h
first_keeps_header rule.ArchMismatch at h = ⊎_elim (λ k. k refl) (λ k. k refl) h.1
first_keeps_header rule.FileType at h = header_keeps first [] first_header (refl, 32, refl) rule.FileType at h
first_keeps_header rule.CommandsOutside at h = header_keeps first [] first_header (refl, 32, refl) rule.CommandsOutside at h
first_keeps_header rule.CommandWalk at h = commands_keep_walk first [] (Some (0x0100000c, 0)) at (refl, 32, refl) h
first_keeps_header other at h = h

first_keeps : (r : Rule) (at : ℕ) → ¬ BreaksImage first (Some (0x0100000c, 0)) r at
first_keeps r at (inl h) = first_keeps_header r at h
first_keeps r at (inr (commands, are, h)) = nothing_commanded first refl r at (subst (λ xs. BreaksCommands first xs r at) (commands_unique first commands [] are (refl, 32, refl)) h)

second_least : (r : Rule) (at : ℕ) → BreaksImage first (Some (0x0100000c, 2)) r at → ¬ ((rank r < rank rule.ArchMismatch) ⊎ ((rank r ≡ rank rule.ArchMismatch) × (at < 4)))
second_least r at b (inl less) = whole (rank_determines_rule r rule.HeaderTruncated (let p : rank rule.HeaderTruncated ≤ rank r = image_rule_rank first (Some (0x0100000c, 2)) r at b in omega arith))
  where
    whole : r ≡ rule.HeaderTruncated → ⊥
    whole e = ⊎_elim (λ k. let p : 32 < 32 = k.1 in absurd (omega arith)) (λ k. k.2) (subst (λ q. BreaksImage first (Some (0x0100000c, 2)) q at) e b)
second_least r at b (inr (e, less)) =
    ⊎_elim (λ k. let p : at ≡ 4 = k.0 in absurd (omega arith)) (λ k. k.2)
    (subst (λ q. BreaksImage first (Some (0x0100000c, 2)) q at) (rank_determines_rule r rule.ArchMismatch e) b)

none_before : (scope : ℕ) (r : Rule) (at : ℕ) → IsBrokenIn twins scope r at → ¬ IsBefore (record { scope = scope; rule = r; place = at }) (record { scope = 2; rule = rule.ArchMismatch; place = 4 })
none_before zero r at h before = file_keeps r at h
none_before (suc zero) r at h before = first_keeps r at h.1
none_before (suc (suc zero)) r at h (inl less) = let p : 2 < 2 = less in absurd (omega arith)
none_before (suc (suc zero)) r at h (inr later) = second_least r at h.1 later.1
none_before (suc (suc (suc k))) r at h before = absurd h

pub second_slice_mismatch : IsFirstBroken twins (record { rule = rule.ArchMismatch; place = 100 })
second_slice_mismatch = (
  record { scope = 2; rule = rule.ArchMismatch; place = 4 },
  ((lit≤ tt, refl), inl (refl, inr (λ e. let p : ◌≡◌ {A = ℕ} 2 0 = e in absurd (omega arith)))),
  (λ other. none_before other.scope other.rule other.place),
  refl,
  refl,
)
