-- Where no code directory disagrees, all say the same, and one has the best hashes.
use Rattle.std.proofs.Common.{◌≡◌, ℕ, zero, suc, ◌+◌, ◌<◌, ◌⊎◌, List, Bool, true, false, Option, None, Some, refl, sym, ap, ◌∙◌, subst, arith, inl, inr}
use Rattle.std.specs.Prelude.{◌==◌, if◌then◌else◌}
use Rattle.std.specs.Option.{is_some}
use Rattle.std.proofs.lemmas.Bool.{cases_lt, cases_eq, cases_Bool, eqb-true, false≢true}
use Rattle.std.proofs.lemmas.Option.{same_Some}
use Rattle.macho_fields.proofs.Decided.{not_not, both_or_not}
use Rattle.macho_fields.specs.Field.{part}
use Rattle.macho_identity.specs.DirectoryAgree.{HasDirectory, IsFirstDirectory, IsDisagreeing, BreaksDirectoryAgree}
use Rattle.macho_identity.specs.Identity.{hash_type, identifier_of, team_of, settings_of, SayAlike}
use Rattle.macho_identity.specs.Models.{Agree, hash_rank, rank_at, IsDirectoryOfAll, IsBestDirectory, IsChosenDirectory, IsSaid, SaysOneThing, HasOneIdentity}
use Rattle.macho_identity.specs.declared.identity.Settings.{Settings}
use Rattle.macho_seals.proofs.HashTests.{same_or_not}
use Rattle.macho_signature.specs.CodeDirectories.{code_directory}
use Rattle.macho_signature.specs.Signature.{bytes_at}
use Rattle.macho_signature.specs.Superblobs.{blob_at, blob_count, entry_offset, is_directory_slot}

-- Whether two directories say the same can be decided

team_or_not : (a b : Option (List ℕ)) → (a ≡ b) ⊎ ¬ (a ≡ b)
team_or_not None None = inl refl
team_or_not None (Some y) = inr (λ wrong. absurd (cc))
team_or_not (Some x) None = inr (λ wrong. absurd (cc))
team_or_not (Some x) (Some y) = elim (same_or_not x y) [ inl same ↦ inl (ap (λ t. Some t) same) | inr other ↦ inr (λ is. other (same_Some x y is)) ]

same_settings : (s t : Settings) → s.flags ≡ t.flags → s.platform ≡ t.platform → s.exec_seg_base ≡ t.exec_seg_base → s.exec_seg_limit ≡ t.exec_seg_limit → s.exec_seg_flags ≡ t.exec_seg_flags → s.runtime ≡ t.runtime → s ≡ t
same_settings s t flags platform base limit segment runtime =
    λ i. record {
      flags = flags i;
      platform = platform i;
      exec_seg_base = base i;
      exec_seg_limit = limit i;
      exec_seg_flags = segment i;
      runtime = runtime i;
    }

settings_or_not : (s t : Settings) → (s ≡ t) ⊎ ¬ (s ≡ t)
settings_or_not s t = elim (cases_eq s.flags t.flags) [
  | inr other ↦ inr (λ same. other (ap (λ (x : Settings). x.flags) same))
  | inl flags ↦ elim (cases_eq s.platform t.platform) [
    | inr other ↦ inr (λ same. other (ap (λ (x : Settings). x.platform) same))
    | inl platform ↦ elim (cases_eq s.exec_seg_base t.exec_seg_base) [
      | inr other ↦ inr (λ same. other (ap (λ (x : Settings). x.exec_seg_base) same))
      | inl base ↦ elim (cases_eq s.exec_seg_limit t.exec_seg_limit) [
        | inr other ↦ inr (λ same. other (ap (λ (x : Settings). x.exec_seg_limit) same))
        | inl limit ↦ elim (cases_eq s.exec_seg_flags t.exec_seg_flags) [
          | inr other ↦ inr (λ same. other (ap (λ (x : Settings). x.exec_seg_flags) same))
          | inl segment ↦ elim (cases_eq s.runtime t.runtime) [
            | inr other ↦ inr (λ same. other (ap (λ (x : Settings). x.runtime) same))
            | inl runtime ↦ inl (same_settings s t flags platform base limit segment runtime)
          ]
        ]
      ]
    ]
  ]
]

alike_or_not : (one other : List ℕ) → SayAlike one other ⊎ ¬ SayAlike one other
alike_or_not one other = elim (same_or_not (identifier_of one) (identifier_of other)) [
  | inr differs ↦ inr (λ alike. differs alike.0)
  | inl identifier ↦ elim (team_or_not (team_of one) (team_of other)) [
    | inr differs ↦ inr (λ alike. differs alike.1)
    | inl team ↦ elim (settings_or_not (settings_of one) (settings_of other)) [ inr differs ↦ inr (λ alike. differs alike.2) | inl settings ↦ inl (identifier, team, settings) ]
  ]
]

-- The first directory

directory_or_not : (signature : List ℕ) (k : ℕ) → HasDirectory signature k ⊎ ¬ HasDirectory signature k
directory_or_not signature k = both_or_not (true_or_not (is_directory_slot (blob_at signature k).slot)) (true_or_not (is_some (code_directory (bytes_at signature k))))
  where
    true_or_not : (b : Bool) → (b ≡ true) ⊎ ¬ (b ≡ true)
    true_or_not b = elim (cases_Bool b) [ inl is ↦ inl is | inr other ↦ inr (λ is. false≢true (sym other ∙ is)) ]

first_below : (signature : List ℕ) (n : ℕ) → ((f : ℕ) × (f < n) × IsFirstDirectory signature f) ⊎ ((j : ℕ) → j < n → ¬ HasDirectory signature j)
first_below signature zero = inr (λ j less. absurd (omega (arith, less)))
first_below signature (suc n) = elim (first_below signature n) [
  | inl (f, less, is) ↦ inl (f, omega (arith, less), is)
  | inr none ↦ elim (directory_or_not signature n) [
    | inl has ↦ inl (n, omega arith, (has, none))
    | inr lacks ↦ inr (λ j less has. elim (cases_lt j n) [
      | inl before ↦ none j before has
      | inr late ↦ let same : j ≡ n = omega (arith, less, late) in lacks (subst (HasDirectory signature) same has)
    ])
  ]
]

-- The rank of a type of hashes

ranked : (test : Bool) (r rest n : ℕ) → (if test then r else rest) ≡ n → ((test ≡ true) × (n ≡ r)) ⊎ (rest ≡ n)
ranked true r rest n is = inl (refl, sym is)
ranked false r rest n is = inr is

abbrev IsRanked : ℕ → ℕ → Type 0
IsRanked type n = ((type ≡ 1) × (n ≡ 1)) ⊎ (((type ≡ 3) × (n ≡ 2)) ⊎ (((type ≡ 2) × (n ≡ 3)) ⊎ (((type ≡ 4) × (n ≡ 4)) ⊎ (n ≡ 0))))

rank_is : (type n : ℕ) → hash_rank type ≡ n → IsRanked type n
rank_is type n is = elim (ranked (type == 1) 1 _ n is) [
  | inl (at, rank) ↦ inl (eqb-true type 1 at, rank)
  | inr is1 ↦ elim (ranked (type == 3) 2 _ n is1) [
    | inl (at, rank) ↦ inr (inl (eqb-true type 3 at, rank))
    | inr is2 ↦ elim (ranked (type == 2) 3 _ n is2) [
      | inl (at, rank) ↦ inr (inr (inl (eqb-true type 2 at, rank)))
      | inr is3 ↦ elim (ranked (type == 4) 4 0 n is3) [ inl (at, rank) ↦ inr (inr (inr (inl (eqb-true type 4 at, rank)))) | inr none ↦ inr (inr (inr (inr (sym none)))) ]
    ]
  ]
]

-- two types of one rank are the same
one_type : (type other n : ℕ) → 0 < n → hash_rank type ≡ n → hash_rank other ≡ n → type ≡ other
one_type type other n some is also = by (rank_is type n is) (rank_is other n also)
  where
    by : IsRanked type n → IsRanked other n → type ≡ other
    by first second = omega (arith, some, first, second)

module _ (signature : List ℕ) (good : (k : ℕ) → k < blob_count signature → ¬ IsDisagreeing signature k) where
  -- each says what the first one does
  alike_first : (f k : ℕ) → IsFirstDirectory signature f → IsDirectoryOfAll signature k → SayAlike (bytes_at signature f) (bytes_at signature k)
  alike_first f k is (less, has) = not_not (alike_or_not (bytes_at signature f) (bytes_at signature k)) (λ differs. good k less (has, inr (inl (f, is, differs))))

  alike : (j k : ℕ) → IsDirectoryOfAll signature j → IsDirectoryOfAll signature k → SayAlike (bytes_at signature j) (bytes_at signature k)
  alike j k one other = elim (first_below signature (k + 1)) [
    | inr none ↦ absurd (none k (omega arith) other.1)
    | inl (f, less, is) ↦
        let (identifier, team, settings) = alike_first f j is one in
        let (same, alike_team, alike_settings) = alike_first f k is other in
        (sym identifier ∙ same, sym team ∙ alike_team, sym settings ∙ alike_settings)
  ]

  of_all : (k : ℕ) → IsChosenDirectory signature k → IsDirectoryOfAll signature k
  of_all k (inl (is, slot)) = is
  of_all k (inr (inl (inl (less, has, first)))) = (less, has)
  of_all k (inr (inl (inr (less, has, last)))) = (less, has)
  of_all k (inr (inr best)) = best.0

  said_once : {A : Type 0} (what : List ℕ → A) → ((j k : ℕ) → IsDirectoryOfAll signature j → IsDirectoryOfAll signature k → what (bytes_at signature j) ≡ what (bytes_at signature k)) → Agree (IsSaid what signature)
  said_once what same a b (j, one, is) (k, other, also) = is ∙ (same j k (of_all j one) (of_all k other) ∙ sym also)

  one_best : Agree (IsBestDirectory signature)
  one_best j k (one, some, best) (other, any, better) =
      let up = better j one in
      let down = best k other in
      let rank : rank_at signature j ≡ rank_at signature k = omega (arith, up, down) in
      let type = one_type (hash_type (bytes_at signature j)) (hash_type (bytes_at signature k)) (rank_at signature k) any rank refl in
      elim (cases_lt j k) [
        | inl before ↦ absurd (good k other.0 (other.1, inr (inr (j, before, (one.1, type)))))
        | inr past ↦ elim (cases_lt k j) [ inl before ↦ absurd (good j one.0 (one.1, inr (inr (k, before, (other.1, sym type))))) | inr to ↦ omega (arith, past, to) ]
      ]

  pub says_one : SaysOneThing signature
  says_one = record {
    identifier = said_once identifier_of (λ j k one other. (alike j k one other).0);
    team = said_once team_of (λ j k one other. (alike j k one other).1);
    settings = said_once settings_of (λ j k one other. (alike j k one other).2);
    best = one_best;
  }

-- of an image
pub image_one_identity : (image : List ℕ) → ((place : ℕ) → ¬ BreaksDirectoryAgree image place) → HasOneIdentity image
image_one_identity image none table is =
    says_one (part table.start table.len image) (λ k less bad. none (table.start + entry_offset k) (table, is, (entry_offset k, refl, (k, less, refl, bad))))
