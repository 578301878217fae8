-- The look-ups by the imports of chained fixups.
use Rattle.std.proofs.Common.{◌≡◌, ◌↔◌, ◌⊎◌, ◌∙◌, ℕ, ◌+◌, ◌-◌, ◌<◌, List, length, Option, None, Some, sym, ap, subst, arith, inl, inr}
use Rattle.std.specs.Prelude.{IsSomeAnd, nat_lt}
use Rattle.std.proofs.lemmas.Bool.{cases_Bool, cases_eq, ltb-true}
use Rattle.std.proofs.lemmas.Option.{same_Some, none-some}
use Rattle.macho_fields.specs.Bytes.{bytes_of}
use Rattle.macho_fields.specs.Field.{part}
use Rattle.macho_fields.specs.LoadCommands.{linkedit_data_table}
use Rattle.macho_fields.specs.Symbol.{table_at}
use Rattle.macho_fields.proofs.Options.{some_of, of_some, some_has}
use Rattle.macho_spans.specs.declared.span.Span.{Span}
use Rattle.macho_tables.specs.Homes.{bytes_of_table}
use Rattle.macho_chains.specs.ChainHeader.{chain_header}
use Rattle.macho_chains.specs.ChainImports.{ordinal_of, import_of, import_at, import_bits, ImportsEndPast}
use Rattle.macho_chains.specs.Chains.{chained_fixups, IsChainTable, IsTableOf, OfTable}
use Rattle.macho_chains.specs.declared.chain_header.ChainHeader.{ChainHeader}
use Rattle.macho_chains.specs.declared.chain_imports.Ordinal.TheVariants as special
use Rattle.macho_chains.specs.declared.chains.ChainTable.{ChainTable}
use Rattle.macho_chains.proofs.ChainTables.{chain_table_of}
use Rattle.macho_alike.specs.Imports.{ImportLooksUp, TableLooksUp, IsChainLookUp}
use Rattle.macho_alike.specs.LookUps.{IsLookedUpIn, IsNear}
use Rattle.macho_alike.specs.declared.binds.Library.{Library}

-- The table of an image

module _ (image : List ℕ) (name : List ℕ) (from : Library) where
  abbrev Looks : List ℕ → ℕ → List ℕ → ChainHeader → ℕ → Type 0
  Looks image start chains header place = TableLooksUp chains header name from

  abbrev InHeader : List ℕ → Type 0
  InHeader chains = IsSomeAnd (chain_header chains) (λ header. TableLooksUp chains header name from)

  -- without a table no import looks a name up
  pub untabled : ((table : Span) → ¬ IsChainTable image table) → ¬ IsChainLookUp image name from
  untabled none looks =
      let (command, is, (some, here)) = some_of (λ c. OfTable image (table_at image c linkedit_data_table) Looks 0) (chained_fixups image) looks in
      none (bytes_of_table (table_at image command linkedit_data_table)) (chain_table_of image command is some)

  module _ (table : ChainTable) (is : IsTableOf image table) where
    abbrev IsNamedBy : ℕ → Type 0
    IsNamedBy command = (record { start = table.start; len = length (bytes_of table.bytes) } ≡ bytes_of_table (table_at image command linkedit_data_table)) × (0 < length (bytes_of table.bytes))

    named : (command : ℕ) × (chained_fixups image ≡ Some command) × IsNamedBy command
    named = some_of IsNamedBy (chained_fixups image) is.named

    same_bytes : bytes_of table.bytes ≡ part (table_at image named.0 linkedit_data_table).0 (table_at image named.0 linkedit_data_table).1 image
    same_bytes = is.bytes ∙ ap (λ (s : Span). part s.start s.len image) named.2.0

    in_header : IsChainLookUp image name from ↔ InHeader (bytes_of table.bytes)
    in_header = (to, back)
      where
        to : IsChainLookUp image name from → InHeader (bytes_of table.bytes)
        to looks =
            let (command, at, (some, here)) = some_of (λ c. OfTable image (table_at image c linkedit_data_table) Looks 0) (chained_fixups image) looks in
            let equal : command ≡ named.0 = same_Some command named.0 (sym at ∙ named.1) in
            subst InHeader (sym same_bytes) (subst (λ (c : ℕ). InHeader (part (table_at image c linkedit_data_table).0 (table_at image c linkedit_data_table).1 image)) equal here)

        back : InHeader (bytes_of table.bytes) → IsChainLookUp image name from
        back here =
            let some : 0 < (table_at image named.0 linkedit_data_table).1 = subst (λ (n : ℕ). 0 < n) (ap (λ (s : Span). s.len) named.2.0) named.2.1 in
            of_some (λ c. OfTable image (table_at image c linkedit_data_table) Looks 0) (chained_fixups image) named.0 named.1 (some, subst InHeader same_bytes here)

    pub headless : table.header ≡ None → ¬ IsChainLookUp image name from
    headless none looks =
        let (header, some, here) = some_of (λ header. TableLooksUp (bytes_of table.bytes) header name from) (chain_header (bytes_of table.bytes)) (in_header.0 looks) in
        none-some header (sym none ∙ (is.header ∙ some))

    pub headed : (header : ChainHeader) → table.header ≡ Some header → TableLooksUp (bytes_of table.bytes) header name from ↔ IsChainLookUp image name from
    headed header at =
        let known : chain_header (bytes_of table.bytes) ≡ Some header = sym is.header ∙ at in (
          λ looks. in_header.1 (of_some (λ h. TableLooksUp (bytes_of table.bytes) h name from) (chain_header (bytes_of table.bytes)) header known looks),
          λ looks. some_has (λ h. TableLooksUp (bytes_of table.bytes) h name from) (chain_header (bytes_of table.bytes)) header known (in_header.0 looks),
        )

-- The first imports, so many

module _ (chains : List ℕ) (header : ChainHeader) where
  abbrev pub ImportsBelow : ℕ → List ℕ → Library → Type 0
  ImportsBelow count name from = (k : ℕ) × (k < count) × ImportLooksUp chains header k name from

  pub imports_none : (name : List ℕ) (from : Library) → ¬ ImportsBelow 0 name from
  imports_none name from (k, less, looks) = omega (arith, less)

  pub imports_more : (count : ℕ) (name : List ℕ) (looked_in : Option Library)
      → ((other : List ℕ) (from : Library) → ImportLooksUp chains header count other from ↔ IsLookedUpIn name looked_in other from)
      → (other : List ℕ) (from : Library) → ImportsBelow (count + 1) other from ↔ (ImportsBelow count other from ⊎ IsLookedUpIn name looked_in other from)
  imports_more count name looked_in says other from = (to, back)
    where
      to : ImportsBelow (count + 1) other from → ImportsBelow count other from ⊎ IsLookedUpIn name looked_in other from
      to (k, less, looks) = elim (cases_eq k count) [
        | inl same ↦ inr ((says other from).0 (subst (λ (n : ℕ). ImportLooksUp chains header n other from) same looks))
        | inr apart ↦ inl (k, omega (arith, less, apart), looks)
      ]

      back : ImportsBelow count other from ⊎ IsLookedUpIn name looked_in other from → ImportsBelow (count + 1) other from
      back (inl (k, less, looks)) = (k, omega (arith, less), looks)
      back (inr here) = (count, omega arith, (says other from).1 here)

  pub imports_all : (count : ℕ) → count ≡ header.imports_count → ¬ ImportsEndPast chains header → (name : List ℕ) (from : Library) → ImportsBelow count name from ↔ TableLooksUp chains header name from
  imports_all count all lie name from = (
    λ (k, less, looks). (lie, (k, omega (arith, less, all), looks)),
    λ (lies, (k, less, looks)). (k, omega (arith, less, all), looks),
  )

-- Special ordinals are at most 15 below 0.

near_special : (mask bits : ℕ) → IsNear (ordinal_of mask bits)
near_special mask bits below is = elim (cases_Bool (nat_lt (mask - 15) bits)) [
  | inl t ↦
      let high : mask - 15 < bits = ltb-true (mask - 15) bits t in
      let same : below ≡ mask + 1 - bits = special_same (mask + 1 - bits) (rw t at is) in
      omega (arith, high, same)
  | inr f ↦ absurd (library_same (rw f at is))
]
  where
    special_same : (n : ℕ) → special.Special n ≡ special.Special below → below ≡ n
    special_same n same = cc

    library_same : special.Library bits ≡ special.Special below → ⊥
    library_same wrong = absurd (cc)

pub near_import : (chains : List ℕ) (header : ChainHeader) (k : ℕ) → IsNear (import_of chains header k).ordinal
unfolding import_at
near_import chains header k = near_special (import_bits header.imports_format).ordinal_mask _
