-- From what the entries of a signature say to the least places at which it breaks its rules.
use Rattle.std.proofs.Common.{◌≡◌, ℕ, suc, ◌+◌, ◌≤◌, ◌<◌, ◌⊎◌, List, Bool, true, false, Option, None, Some, refl, sym, ◌∙◌, subst, arith, inl, inr}
use Rattle.std.specs.Prelude.{◌==◌, ◌||◌, IsTrue}
use Rattle.std.proofs.lemmas.Bool.{cases_lt, eqb-true, eq-eqb, false≢true}
use Rattle.std.proofs.Math.Numerals.{add-one}
use Rattle.macho_fields.specs.FirstPlace.{IsLeastPlace}
use Rattle.macho_tables.specs.Items.{AtItem}
use Rattle.macho_signature.specs.Signature.{HasMain, IsUnsound, IsPartial, BadDirectory, PartialDirectory, AreGoodDirectories}
use Rattle.macho_signature.specs.Superblobs.{blob_count, entry_offset, blob_at, least_offset, blob_end, HasNoSuperblob, IsBadBlob, BadBlob, AreGoodBlobs}
use Rattle.macho_signature.specs.Surveys.{AreDirectories, AreNextDirectories, AreLeastInSignature, directories_before, survey_of}
use Rattle.macho_fields.specs.declared.header.cs_blobs.TheConstants as cs
use Rattle.macho_signature.specs.declared.survey.Directories.{Directories}
use Rattle.macho_signature.specs.declared.survey.SignatureSurvey.{SignatureSurvey}
use Rattle.macho_tables.proofs.Items.{noted_item, items_rise}

-- The code directories of the first entries

pub directories_none : (start : ℕ) (signature : List ℕ) → AreDirectories start signature 0 directories_before
directories_none start signature = record {
  main = (λ wrong. absurd (false≢true wrong), λ (k, less, slot). absurd (omega (arith, less)));
  unsound = λ place (k, less, at, has). absurd (omega (arith, less));
  partial = λ place (k, less, at, has). absurd (omega (arith, less));
}

module _ (start : ℕ) (signature : List ℕ) (k : ℕ) (old new : Directories) (are : AreDirectories start signature k old) (next : AreNextDirectories start signature k old new) where
  main_more : (IsTrue new.has_main → HasMain signature (suc k)) × (HasMain signature (suc k) → IsTrue new.has_main)
  main_more = by old.has_main new.has_main next.main are.main
    where
      slot : ℕ
      slot = (blob_at signature k).slot

      by : (before now : Bool) → now ≡ (before || slot == cs.CSSLOT_CODEDIRECTORY) → (IsTrue before → HasMain signature k) × (HasMain signature k → IsTrue before)
          → (IsTrue now → HasMain signature (suc k)) × (HasMain signature (suc k) → IsTrue now)
      by true now is has = (λ _. let (j, less, at) = has.0 refl in (j, omega (arith, less), at), λ _. is)
      by false now is has = (
        λ there. (k, omega arith, eqb-true slot cs.CSSLOT_CODEDIRECTORY (sym is ∙ there)),
        λ (j, less, at). elim (cases_lt j k) [
          | inl earlier ↦ absurd (false≢true (has.1 (j, earlier, at)))
          | inr late ↦
              let same : j ≡ k = omega (arith, less, late) in
              is ∙ eq-eqb slot cs.CSSLOT_CODEDIRECTORY (subst (λ i. (blob_at signature i).slot ≡ cs.CSSLOT_CODEDIRECTORY) same at)
        ],
      )

  pub directories_more : AreDirectories start signature (suc k) new
  directories_more = record {
    main = main_more;
    unsound = noted_item entry_offset (items_rise 12 8) (IsUnsound start signature) k (IsUnsound start signature k) old.unsound new.unsound (λ is. is) (λ is. is) next.unsound are.unsound;
    partial = noted_item entry_offset (items_rise 12 8) (IsPartial start signature) k (IsPartial start signature k) old.partial new.partial (λ is. is) (λ is. is) next.partial are.partial;
  }

-- with the next one, as a loop counts it
pub directories_next : (start : ℕ) (signature : List ℕ) (k : ℕ) (old new : Directories) → AreDirectories start signature k old → AreNextDirectories start signature k old new
    → AreDirectories start signature (k + 1) new
directories_next start signature k old new are next = rw add-one (directories_more start signature k old new are next)

-- A bad blob

-- the next blob begins where this one ends, or past it
pub least_next : (signature : List ℕ) (k : ℕ) → least_offset signature (k + 1) ≡ blob_end (blob_at signature k)
least_next signature k = rw add-one refl

-- one more is not bad
pub blobs_next : (signature : List ℕ) (k : ℕ) → ((j : ℕ) → j < k → ¬ IsBadBlob signature j) → ¬ IsBadBlob signature k → (j : ℕ) → j < k + 1 → ¬ IsBadBlob signature j
blobs_next signature k none here j less bad = elim (cases_lt j k) [
  | inl before ↦ none j before bad
  | inr late ↦ let same : j ≡ k = omega (arith, less, late) in here (subst (IsBadBlob signature) same bad)
]

-- the rules of code directories are not judged
not_judged : (start : ℕ) (signature : List ℕ) → ¬ AreGoodBlobs signature → (survey : SignatureSurvey) → survey.directory ≡ None → survey.whole ≡ None
    → IsLeastPlace (BadBlob signature) survey.blob → AreLeastInSignature start signature survey
not_judged start signature bad survey directory whole least = record {
  blob = least;
  directory = subst (IsLeastPlace (BadDirectory start signature)) (sym directory) (λ place (good, broken). bad good);
  whole = subst (IsLeastPlace (PartialDirectory start signature)) (sym whole) (λ place (good, broken). bad good.blobs);
}

module _ (start : ℕ) (signature : List ℕ) (whole : ¬ HasNoSuperblob signature) where
  -- the first one is at an entry
  pub first_bad_blob : (k : ℕ) → k < blob_count signature → IsBadBlob signature k → ((j : ℕ) → j < k → ¬ IsBadBlob signature j)
      → (survey : SignatureSurvey) → survey.blob ≡ Some (entry_offset k) → survey.directory ≡ None → survey.whole ≡ None → AreLeastInSignature start signature survey
  first_bad_blob k less bad none survey blob directory partial =
      not_judged start signature (λ good. good.blobs k less bad) survey directory partial
      (subst (IsLeastPlace (BadBlob signature)) (sym blob) (inr (whole, (k, less, refl, bad)), least))
    where
      least : (place : ℕ) → BadBlob signature place → entry_offset k ≤ place
      least place (inl (at, gone)) = absurd (whole gone)
      least place (inr (_, (j, below, at, worse))) = elim (cases_lt j k) [ inl before ↦ absurd (none j before worse) | inr late ↦ omega (arith, at, late) ]

-- No blob is bad

module _ (start : ℕ) (signature : List ℕ) (good : AreGoodBlobs signature) (directories : Directories) (are : AreDirectories start signature (blob_count signature) directories) where
  no_bad_blob : IsLeastPlace (BadBlob signature) None
  no_bad_blob place (inl (at, gone)) = good.superblob gone
  no_bad_blob place (inr (_, (k, less, at, bad))) = good.blobs k less bad

  pub good_blobs : AreLeastInSignature start signature (survey_of directories)
  good_blobs = by directories.has_main directories.unsound directories.partial are.main are.unsound are.partial
    where
      by : (main : Bool) (unsound partial : Option ℕ)
          → (IsTrue main → HasMain signature (blob_count signature)) × (HasMain signature (blob_count signature) → IsTrue main)
          → IsLeastPlace (AtItem entry_offset (blob_count signature) (IsUnsound start signature)) unsound
          → IsLeastPlace (AtItem entry_offset (blob_count signature) (IsPartial start signature)) partial
          → AreLeastInSignature start signature (survey_of (record { has_main = main; unsound = unsound; partial = partial }))
      by false unsound partial main first other = record {
        blob = no_bad_blob;
        directory = ((good, inl (refl, λ has. false_is_not (main.1 has))), λ place broken. omega arith);
        whole = λ place (all, broken). false_is_not (main.1 all.main);
      }
        where
          false_is_not : IsTrue false → ⊥
          false_is_not wrong = false≢true wrong
      by true None partial main none other = record {
        blob = no_bad_blob;
        directory = λ place (_, broken). no_directory place broken;
        whole = here partial other;
      }
        where
          has : HasMain signature (blob_count signature)
          has = main.0 refl

          all : AreGoodDirectories start signature
          all = record { blobs = good; main = has; sound = λ k less bad. none (entry_offset k) (k, less, refl, bad) }

          no_directory : (place : ℕ) → ((place ≡ 0) × ¬ HasMain signature (blob_count signature)) ⊎ AtItem entry_offset (blob_count signature) (IsUnsound start signature) place → ⊥
          no_directory place (inl (at, lacks)) = lacks has
          no_directory place (inr broken) = none place broken

          here : (found : Option ℕ) → IsLeastPlace (AtItem entry_offset (blob_count signature) (IsPartial start signature)) found
              → IsLeastPlace (PartialDirectory start signature) found
          here None nowhere = λ place (_, broken). nowhere place broken
          here (Some first) (broken, least) = ((all, broken), λ place (_, at). least place at)
      by true (Some first) partial main (broken, least) other = record {
        blob = no_bad_blob;
        directory = ((good, inr broken), λ place (_, here). first_directory place here);
        whole = λ place (all, here). unsound_gone all broken;
      }
        where
          first_directory : (place : ℕ) → ((place ≡ 0) × ¬ HasMain signature (blob_count signature)) ⊎ AtItem entry_offset (blob_count signature) (IsUnsound start signature) place → first ≤ place
          first_directory place (inl (at, lacks)) = absurd (lacks (main.0 refl))
          first_directory place (inr here) = least place here

          unsound_gone : AreGoodDirectories start signature → AtItem entry_offset (blob_count signature) (IsUnsound start signature) first → ⊥
          unsound_gone all (k, less, at, bad) = all.sound k less bad
