-- The imports of chained fixups lie in the table, and a walk finds the least offset of each mistake.
use Rattle.std.proofs.Common.{◌≡◌, ◌↔◌, ℕ, zero, suc, ◌+◌, ◌-◌, ◌≤◌, ◌<◌, List, length, slice_get, Option, Some, None, refl, sym, ap, ◌∙◌, subst, arith, inl, inr}
use Rattle.std.specs.Option.{option_map}
use Rattle.std.proofs.lemmas.Bool.{cases_lt}
use Rattle.std.proofs.lemmas.Option.{slice_get_within, get_or_from_slice_get}
use Rattle.macho_fields.specs.Field.{string_from}
use Rattle.macho_fields.specs.FirstPlace.{IsNoted, IsLeastPlace}
use Rattle.macho_fields.proofs.Strings.{zero_after}
use Rattle.macho_chains.specs.ChainImports.{import_bits, import_offset, import_name_start, names_size, MayShare, HasNoNameEnd, PassesTable, IsOfNoLibrary, ImportsEndPast, BreaksChainTotal, AreLeastImports, unbroken_imports}
use Rattle.macho_tables.specs.Items.{AtItem, IsFirstItem}
use Rattle.macho_chains.specs.declared.chain_header.ChainHeader.{ChainHeader}
use Rattle.macho_chains.specs.declared.chain_imports.ImportSurvey.{ImportSurvey}
use Rattle.macho_tables.proofs.Items.{first_item, noted_item, least_where, least_other, item_inside, items_rise}

-- a string ends by a place that is past it, right past a zero byte
ended_by : (bytes : List ℕ) (start next : ℕ) → start < next → slice_get bytes (next - 1) ≡ Some 0 → start + length (string_from start bytes) < next
ended_by bytes start next rises zero_before =
    (zero_after bytes start next (next - 1, omega arith, omega arith, slice_get_within bytes (next - 1) 0 zero_before, get_or_from_slice_get bytes (next - 1) 0 0 zero_before)).0

-- each import lies in the table
pub import_inside : (chains : List ℕ) (header : ChainHeader) → ¬ ImportsEndPast chains header → (k : ℕ) → k < header.imports_count
    → import_offset header k + (import_bits header.imports_format).size ≤ length chains
import_inside chains header lie k less =
    elim (cases_lt (length chains) (import_offset header header.imports_count)) [
      | inl past ↦ absurd (lie (omega arith, past))
      | inr fits ↦ let inside = item_inside header.imports_offset (import_bits header.imports_format).size header.imports_count k less in omega (arith, fits, inside)
    ]

-- the name before the name of an import
abbrev pub name_before : List ℕ → ChainHeader → ℕ → Option ℕ
name_before chains header zero = None
name_before chains header (suc k) = Some (import_name_start chains header k)

abbrev pub MayShareBytes : List ℕ → ChainHeader → ℕ → Type 0
MayShareBytes chains header k = MayShare chains (name_before chains header k) (import_name_start chains header k)

-- What a walk over the first imports has found, so many

pub record AreWalked (libraries : ℕ) (chains : List ℕ) (header : ChainHeader) (count : ℕ) (before shared : Option ℕ) (survey : ImportSurvey) : Type 0 where
  pub last : before ≡ name_before chains header count
  pub apart : IsLeastPlace (AtItem (import_offset header) count (MayShareBytes chains header)) shared
  pub imports : IsLeastPlace (AtItem (import_offset header) count (HasNoNameEnd chains header)) survey.imports
  pub total : survey.total ≡ None
  pub library : IsLeastPlace (AtItem (import_offset header) count (IsOfNoLibrary libraries chains header)) survey.library

pub walked_none : (libraries : ℕ) (chains : List ℕ) (header : ChainHeader) → AreWalked libraries chains header 0 None None unbroken_imports
walked_none libraries chains header = record {
  last = refl;
  apart = none (MayShareBytes chains header);
  imports = none (HasNoNameEnd chains header);
  total = refl;
  library = none (IsOfNoLibrary libraries chains header);
}
  where
    none : (P : ℕ → Type 0) (place : ℕ) → ¬ AtItem (import_offset header) 0 P place
    none P place (k, less, at, has) = omega (arith, less)

-- one more
module _ (libraries : ℕ) (chains : List ℕ) (header : ChainHeader) (count : ℕ) (before shared : Option ℕ) (survey : ImportSurvey)
    (walked : AreWalked libraries chains header count before shared survey) (offset : ℕ) (at : offset ≡ import_offset header count) where
  noted : (P : ℕ → Type 0) (broken : Type 0) (old new : Option ℕ) → broken ↔ P count → IsNoted broken offset old new
      → IsLeastPlace (AtItem (import_offset header) count P) old → IsLeastPlace (AtItem (import_offset header) (suc count) P) new
  noted P broken old new same is least = noted_item (import_offset header) (items_rise header.imports_offset (import_bits header.imports_format).size) P count broken old new same.0 same.1
      (subst (λ (place : ℕ). IsNoted broken place old new) at is) least

  pub walked_more : (name : ℕ) (also : Option ℕ) (next : ImportSurvey) (shares endless unknown : Type 0) → name ≡ import_name_start chains header count
      → shares ↔ MayShare chains before name → endless ↔ HasNoNameEnd chains header count → unknown ↔ IsOfNoLibrary libraries chains header count
      → next.total ≡ survey.total → IsNoted shares offset shared also → IsNoted endless offset survey.imports next.imports → IsNoted unknown offset survey.library next.library
      → AreWalked libraries chains header (count + 1) (Some name) also next
  walked_more name also next shares endless unknown is meets ends lacks kept shared_noted imports_noted library_noted =
      let one : suc count ≡ count + 1 = omega arith in
      let may = subst (λ (n : ℕ). shares ↔ MayShare chains before n) is meets in
      subst (λ (n : ℕ). AreWalked libraries chains header n (Some name) also next) one (record {
        last = ap Some is;
        apart = noted (MayShareBytes chains header) shares _ _ (subst (λ (b : Option ℕ). shares ↔ MayShare chains b (import_name_start chains header count)) walked.last may)
            shared_noted walked.apart;
        imports = noted (HasNoNameEnd chains header) endless _ _ ends imports_noted walked.imports;
        total = kept ∙ walked.total;
        library = noted (IsOfNoLibrary libraries chains header) unknown _ _ lacks library_noted walked.library;
      })

-- Names that share no byte, and each end in the table, have no more bytes than it
module _ (chains : List ℕ) (header : ChainHeader) (count : ℕ) (apart : (place : ℕ) → ¬ AtItem (import_offset header) count (MayShareBytes chains header) place) where
  names_low : (k : ℕ) → k < count → names_size chains header k ≤ import_name_start chains header k
  names_low zero less = omega arith
  names_low (suc k) less =
      let start = import_name_start chains header k in
      let next = import_name_start chains header (suc k) in
      let low = names_low k (omega (arith, less)) in
      elim (cases_lt next (names_size chains header (suc k))) [
        | inl more ↦ absurd (apart (import_offset header (suc k)) (
          suc k,
          less,
          refl,
          elim (cases_lt start next) [
            | inl rises ↦ inr (λ zero_before. let ended = ended_by chains start next rises zero_before in omega (arith, low, more, ended))
            | inr falls ↦ inl falls
          ],
        ))
        | inr fits ↦ fits
      ]

  pub names_fit : ((place : ℕ) → ¬ AtItem (import_offset header) count (HasNoNameEnd chains header) place) → (place : ℕ) → ¬ AtItem (import_offset header) count (PassesTable chains header) place
  names_fit ended place (k, less, at, passes) =
      ended (import_offset header k) (
        k,
        less,
        refl,
        λ has.
            let (ends, zero_after_it) = zero_after chains (import_name_start chains header k) (length chains) has in
            let low = names_low k less in omega (arith, low, ends, passes),
      )

-- all of them
module _ (libraries : ℕ) (chains : List ℕ) (header : ChainHeader) (lie : ¬ ImportsEndPast chains header) where
  -- the first import with which the names have more bytes than the table
  pub first_past : (found : Option ℕ) → IsFirstItem header.imports_count (PassesTable chains header) found → IsLeastPlace (BreaksChainTotal chains header) (option_map (import_offset header) found)
  first_past found first = least_where (¬ ImportsEndPast chains header) _ _ lie
      (first_item (import_offset header) (items_rise header.imports_offset (import_bits header.imports_format).size) header.imports_count (PassesTable chains header) found first)

  module _ (before shared : Option ℕ) (survey : ImportSurvey) (walked : AreWalked libraries chains header header.imports_count before shared survey) where
    pub walked_all : (total : Option ℕ) → IsLeastPlace (BreaksChainTotal chains header) total → AreLeastImports libraries chains header (record survey { total = total })
    walked_all total least = record {
      imports = least_other (λ offset. (offset ≡ 0) × ImportsEndPast chains header) _ _ (λ offset past. lie past.1) (least_where (¬ ImportsEndPast chains header) _ _ lie walked.imports);
      total = least;
      library = least_where (¬ ImportsEndPast chains header) _ _ lie walked.library;
    }

    pub walked_apart : shared ≡ None → survey.imports ≡ None → AreLeastImports libraries chains header survey
    walked_apart apart ended =
        let none = subst (IsLeastPlace (AtItem (import_offset header) header.imports_count (MayShareBytes chains header))) apart walked.apart in
        let ends = subst (IsLeastPlace (AtItem (import_offset header) header.imports_count (HasNoNameEnd chains header))) ended walked.imports in
        subst (λ (total : Option ℕ). AreLeastImports libraries chains header (record survey { total = total })) (sym walked.total)
        (walked_all None (λ place broken. names_fit chains header header.imports_count none ends place broken.1))

module _ (libraries : ℕ) (chains : List ℕ) (header : ChainHeader) where
  -- none, where they end past the table
  pub imports_past : ImportsEndPast chains header → AreLeastImports libraries chains header (record unbroken_imports { imports = Some 0 })
  imports_past past = record {
    imports = (inl (refl, past), λ offset broken. omega arith);
    total = λ offset broken. broken.0 past;
    library = λ offset broken. broken.0 past;
  }
