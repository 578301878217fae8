-- Small files that break a rule of the file, of the header or of the walk.
use Rattle.std.proofs.Common.{◌≡◌, ℕ, ◌≤◌, ◌<◌, ◌⊎◌, List, [], ◌∷◌, ◌++◌, take, None, refl, sym, subst, arith, lit≤, lit<, inl, inr, ⊎_elim, true, false, true≢false}
use Rattle.macho_fields.specs.Universal.{IsUniversal, IsImage}
use Rattle.macho_fields.specs.Image.{IsGood}
use Rattle.macho_fields.specs.Rules.{BreaksImage, BreaksHeader}
use Rattle.macho_fields.specs.Layers.{IsLeast}
use Rattle.macho_fields.specs.First.{rank, Fault, IsBefore, IsFirstBroken}
use Rattle.macho_fields.specs.declared.rule.Rule.{Rule}
use Rattle.macho_fields.specs.declared.rule.Rule.TheVariants as rule
use Rattle.macho_fields.proofs.Ranks.{rank_least, rank_determines_rule, image_rule_rank}
use Rattle.macho_fields.proofs.Plain.{first_in_image}
use Rattle.macho_fields.proofs.Walks.{IsHeader, before_walk, walk_breaks_once}

pub nothing_before : (f : Fault) → ¬ IsBefore f (record { scope = 0; rule = rule.Magic; place = 0 })
nothing_before f (inl h) = absurd (omega arith)
nothing_before f (inr h) = let p : rank rule.Magic ≤ rank f.rule = rank_least f.rule in ⊎_elim (λ k. absurd (omega arith)) (λ k. absurd (omega arith)) h.1

pub empty_file : IsFirstBroken [] (record { rule = rule.Magic; place = 0 })
empty_file = (
  record { scope = 0; rule = rule.Magic; place = 0 },
  (refl, λ h. ⊎_elim (λ k. let p : 4 ≤ 0 = k.0 in absurd (omega arith)) (λ k. let p : 4 ≤ 0 = k.0 in absurd (omega arith)) h),
  λ f _. nothing_before f,
  refl,
  refl,
)

-- the bytes of a small number, the lowest first
abbrev pub four : ℕ → List ℕ
four n = n ∷ 0 ∷ 0 ∷ 0 ∷ []

abbrev pub header : ℕ → ℕ → ℕ → List ℕ
header kind count size =
    0xcf ∷ 0xfa ∷ 0xed ∷ 0xfe ∷ 7 ∷ 0 ∷ 0 ∷ 1 ∷ 3 ∷ 0 ∷ 0 ∷ 0 ∷ kind ∷ 0 ∷ 0 ∷ 0 ∷ count ∷ 0 ∷ 0 ∷ 0 ∷ size ∷ 0 ∷ 0 ∷ 0
    ∷ 0 ∷ 0 ∷ 0 ∷ 0 ∷ 0 ∷ 0 ∷ 0 ∷ 0 ∷ []

abbrev cut : List ℕ
cut = take 31 (header 2 0 0)

pub cut_header : IsFirstBroken cut (record { rule = rule.HeaderTruncated; place = 0 })
cut_header = first_in_image cut refl (lit≤ tt, refl) rule.HeaderTruncated 0 (inl (refl, lit< tt), later)
  where
    later : (other : Rule) (at : ℕ) → BreaksImage cut None other at → ¬ ((rank other < rank rule.HeaderTruncated) ⊎ ((rank other ≡ rank rule.HeaderTruncated) × (at < 0)))
    later other at b (inl h) = let p : rank rule.HeaderTruncated ≤ rank other = image_rule_rank cut None other at b in absurd (omega arith)
    later other at b (inr h) = absurd (omega arith)

-- after a good header the one bad place of the walk is the first fault
walk_is_least : (image : List ℕ) → IsHeader image → (place : ℕ) → BreaksHeader image None rule.CommandWalk place → IsLeast (BreaksImage image None) (record { rule = rule.CommandWalk; place = place })
walk_is_least image good place bad = (inl bad, least)
  where
    same : (at : ℕ) → BreaksImage image None rule.CommandWalk at → at ≡ place
    same at (inl h) = walk_breaks_once image None None at place h bad
    same at (inr h) = absurd h.2

    least : (other : Rule) (at : ℕ) → BreaksImage image None other at → ¬ ((rank other < rank rule.CommandWalk) ⊎ ((rank other ≡ rank rule.CommandWalk) × (at < place)))
    least other at b (inl less) = before_walk image good other at less b
    least other at b (inr (e, less)) =
        let is = rank_determines_rule other rule.CommandWalk e in
        let p : at ≡ place = same at (subst (λ r. BreaksImage image None r at) is b) in absurd (omega arith)

abbrev no_size : List ℕ
no_size = header 2 1 8 ++ four 0x99 ++ four 0

pub command_of_no_size : IsFirstBroken no_size (record { rule = rule.CommandWalk; place = 32 })
command_of_no_size = first_in_image no_size refl (lit≤ tt, refl) rule.CommandWalk 32 (walk_is_least no_size good 32 ([], lit< tt, refl, λ g. let p : 8 ≤ 0 = g.least in absurd (omega arith)))
  where
    good : IsHeader no_size
    good = record { long_enough = lit≤ tt; kind = refl; commands_inside = lit≤ tt }

abbrev past_end : List ℕ
past_end = header 2 2 8 ++ four 0x99 ++ four 8

pub command_past_end : IsFirstBroken past_end (record { rule = rule.CommandWalk; place = 40 })
command_past_end =
    first_in_image past_end refl (lit≤ tt, refl) rule.CommandWalk 40
    (walk_is_least past_end good 40 (32 ∷ [], lit< tt, (refl, first, refl), λ g. let p : 48 ≤ 40 = g.head in absurd (omega arith)))
  where
    good : IsHeader past_end
    good = record { long_enough = lit≤ tt; kind = refl; commands_inside = lit≤ tt }

    first : IsGood past_end 32
    first = record { head = lit≤ tt; whole = refl; least = lit≤ tt; inside = lit≤ tt }

-- a file with none of the magic numbers
no_magic : (file : List ℕ) → ¬ IsUniversal file → ¬ IsImage file → IsFirstBroken file (record { rule = rule.Magic; place = 0 })
no_magic file other another = (record { scope = 0; rule = rule.Magic; place = 0 }, (refl, λ h. ⊎_elim other another h), λ f _. nothing_before f, refl, refl)

pub three_bytes : IsFirstBroken (0xca ∷ 0xfe ∷ 0xba ∷ []) (record { rule = rule.Magic; place = 0 })
three_bytes = no_magic (0xca ∷ 0xfe ∷ 0xba ∷ []) (λ u. let p : 4 ≤ 3 = u.0 in absurd (omega arith)) (λ i. let p : 4 ≤ 3 = i.0 in absurd (omega arith))

pub big_endian_image : IsFirstBroken (0xfe ∷ 0xed ∷ 0xfa ∷ 0xcf ∷ []) (record { rule = rule.Magic; place = 0 })
big_endian_image = no_magic (0xfe ∷ 0xed ∷ 0xfa ∷ 0xcf ∷ []) (λ u. let p : false ≡ true = u.1 in true≢false (sym p)) (λ i. let p : ◌≡◌ {A = ℕ} 0xcffaedfe 0xfeedfacf = i.1 in absurd (omega arith))
