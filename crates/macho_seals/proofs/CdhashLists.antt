-- The cdhashes of a signature, entry by entry.
use Rattle.std.proofs.Common.{◌≡◌, ℕ, suc, ◌+◌, ◌-◌, ◌≤◌, ◌<◌, ◌⊎◌, List, [], ◌∷◌, length, true, false, Option, None, Some, refl, sym, ap, ◌∙◌, subst, arith, inl, inr}
use Rattle.std.specs.Iterator.{YieldsFirst, MakesProgress, item_count}
use Rattle.std.specs.Prelude.{◌==◌, nat_le, IsSomeAnd, ⊤}
use Rattle.std.specs.Option.{is_some, option_map_or}
use Rattle.std.proofs.lemmas.Bool.{cases_lt, cases_eq, cases_Bool, and_from, and_parts, le-leb, leb-true, eq-eqb, eqb-true, false_from_ne_true, true≢false, false≢true, cond-true, cond-false}
use Rattle.macho_fields.specs.Field.{part}
use Rattle.macho_fields.specs.Image.{commands_of}
use Rattle.macho_fields.specs.LoadCommands.{linkedit_data_table}
use Rattle.macho_fields.specs.Symbol.{table_at}
use Rattle.macho_fields.specs.declared.header.loader.TheConstants as loader
use Rattle.macho_image.specs.Command.{first_with_cmd}
use Rattle.macho_image.proofs.Progress.{nearer_end}
use Rattle.macho_seals.specs.Cdhashes.{entry_count, cdhash_at, cdhashes_from, signature_cdhashes, image_cdhashes}
use Rattle.macho_seals.specs.declared.digest.Digest.{Digest}
use Rattle.macho_signature.specs.Superblobs.{superblob_at, blob_count, has_superblob, HasNoSuperblob}
use Rattle.macho_signature.proofs.SuperblobTests.{superblob_true, superblob_there}
use Rattle.macho_signature.specs.declared.superblob.Superblob.{Superblob}
use Rattle.macho_spans.specs.declared.span.Span.{Span}
use Rattle.macho_tables.specs.DataTables.{IsDataTable}
use Rattle.macho_tables.specs.Homes.{bytes_of_table}

-- How many entries there are

-- as many as are read
pub counted : (signature : List ℕ) (superblob : Superblob) → ¬ HasNoSuperblob signature → superblob ≡ superblob_at signature → superblob.count ≡ entry_count signature
counted signature superblob whole same =
    ap (λ (s : Superblob). s.count) same ∙ sym (cond-true (has_superblob signature) (blob_count signature) 0 (superblob_true signature whole))

pub none_counted : (signature : List ℕ) → HasNoSuperblob signature → 0 ≡ entry_count signature
none_counted signature none =
    sym (cond-false (has_superblob signature) (blob_count signature) 0 (false_from_ne_true (has_superblob signature) (λ has. superblob_there signature has none)))

-- an entry is one of a superblob
pub entry_there : (signature : List ℕ) (k : ℕ) → k < entry_count signature → (¬ HasNoSuperblob signature) × (k < blob_count signature)
entry_there signature k less = elim (cases_Bool (has_superblob signature)) [
  | inl has ↦ (superblob_there signature has, subst (λ n. k < n) (cond-true (has_superblob signature) (blob_count signature) 0 has) less)
  | inr none ↦ let below : k < 0 = subst (λ n. k < n) (cond-false (has_superblob signature) (blob_count signature) 0 none) less in absurd (omega (arith, below))
]

-- The list

module _ (signature : List ℕ) (k count : ℕ) (less : k < count) where
  step : cdhashes_from signature k (count - k)
      ≡ option_map_or (λ found. found ∷ cdhashes_from signature (k + 1) (count - (k + 1))) (cdhash_at signature k) (cdhashes_from signature (k + 1) (count - (k + 1)))
  unfolding cdhashes_from
  step = let left : count - k ≡ suc (count - (k + 1)) = omega (arith, less) in ap (cdhashes_from signature k) left

  pub from_found : (found : Option Digest) → found ≡ cdhash_at signature k → (d : Digest) → found ≡ Some d → cdhashes_from signature k (count - k) ≡ d ∷ cdhashes_from signature (k + 1) (count - (k + 1))
  from_found found same d is =
      step ∙ ap (λ (o : Option Digest). option_map_or (λ found. found ∷ cdhashes_from signature (k + 1) (count - (k + 1))) o (cdhashes_from signature (k + 1) (count - (k + 1)))) (sym same ∙ is)

  pub from_skipped : (found : Option Digest) → found ≡ cdhash_at signature k → found ≡ None → cdhashes_from signature k (count - k) ≡ cdhashes_from signature (k + 1) (count - (k + 1))
  from_skipped found same is =
      step ∙ ap (λ (o : Option Digest). option_map_or (λ found. found ∷ cdhashes_from signature (k + 1) (count - (k + 1))) o (cdhashes_from signature (k + 1) (count - (k + 1)))) (sym same ∙ is)

pub from_end : (signature : List ℕ) (k count : ℕ) → count ≤ k → cdhashes_from signature k (count - k) ≡ []
unfolding cdhashes_from
from_end signature k count past = let left : count - k ≡ 0 = omega (arith, past) in ap (cdhashes_from signature k) left

-- What the next one is

pub yields : (before after : List Digest) (found : Option Digest) → is_some found ≡ true → ((d : Digest) → found ≡ Some d → before ≡ d ∷ after) → YieldsFirst (λ left. left) before found after
yields before after None wrong each = absurd (false≢true wrong)
yields before after (Some d) is each = each d refl

pub comes_nearer : (before after : List Digest) (found : Option Digest) → is_some found ≡ true → ((d : Digest) → found ≡ Some d → before ≡ d ∷ after)
    → MakesProgress (λ _. ⊤) (item_count (λ left. left)) before found after
comes_nearer before after None wrong each = absurd (false≢true wrong)
comes_nearer before after (Some d) is each = nearer_end before after d d (each d refl)

pub none_of : (found : Option Digest) → is_some found ≡ false → found ≡ None
none_of None is = refl
none_of (Some d) wrong = absurd (true≢false wrong)

-- The signature of an image

pub image_has : (image : List ℕ) (table : Span) → IsDataTable image loader.LC_CODE_SIGNATURE table → image_cdhashes image ≡ signature_cdhashes (part table.start table.len image)
image_has image table = by (first_with_cmd image loader.LC_CODE_SIGNATURE (commands_of image))
  where
    by : (command : Option ℕ) → IsSomeAnd command (λ c. (table ≡ bytes_of_table (table_at image c linkedit_data_table)) × (0 < table.len))
        → option_map_or (λ c. let t = table_at image c linkedit_data_table in signature_cdhashes (part t.0 t.1 image)) command [] ≡ signature_cdhashes (part table.start table.len image)
    by None is = absurd is
    by (Some c) (same, some) = ap (λ (t : Span). signature_cdhashes (part t.start t.len image)) (sym same)

none_of_nothing : signature_cdhashes [] ≡ []
unfolding cdhashes_from
none_of_nothing = refl

pub image_has_none : (image signature : List ℕ) → signature ≡ [] → ((table : Span) → ¬ IsDataTable image loader.LC_CODE_SIGNATURE table) → signature_cdhashes signature ≡ image_cdhashes image
image_has_none image signature empty none = ap signature_cdhashes empty ∙ (none_of_nothing ∙ sym (by (first_with_cmd image loader.LC_CODE_SIGNATURE (commands_of image)) none))
  where
    by : (command : Option ℕ) → ((table : Span) → ¬ IsSomeAnd command (λ c. (table ≡ bytes_of_table (table_at image c linkedit_data_table)) × (0 < table.len)))
        → option_map_or (λ c. let t = table_at image c linkedit_data_table in signature_cdhashes (part t.0 t.1 image)) command [] ≡ []
    by None nowhere = refl
    by (Some c) nowhere = elim (cases_lt 0 (table_at image c linkedit_data_table).1) [
      | inl some ↦ absurd (nowhere (bytes_of_table (table_at image c linkedit_data_table)) (refl, some))
      | inr short ↦ let size : (table_at image c linkedit_data_table).1 ≡ 0 = omega (arith, short) in
          ap (λ n. signature_cdhashes (part (table_at image c linkedit_data_table).0 n image)) size ∙ none_of_nothing
    ]
