-- What is said of a place of the table of chained fixups, where the table was found.
use Rattle.std.proofs.Common.{◌≡◌, ◌∙◌, ◌≢◌, ℕ, zero, suc, ◌+◌, ◌*◌, ◌≤◌, ◌⊎◌, List, Option, None, Some, inl, inr, refl, ap, sym, subst, arith}
use Rattle.std.specs.Prelude.{MatchOption}
use Rattle.std.proofs.lemmas.Bool.{cases_lt}
use Rattle.std.proofs.lemmas.Option.{same_Some}
use Rattle.macho_chains.specs.ChainHeader.{chain_header}
use Rattle.macho_chains.specs.ChainImports.{import_bits, names_size}
use Rattle.macho_chains.specs.declared.chain_header.ImportFormat.{ImportFormat}
use Rattle.macho_chains.specs.declared.chain_header.ImportFormat.TheVariants as format
use Rattle.macho_chains.specs.declared.chain_header.ChainHeader.{ChainHeader}
use Rattle.macho_fields.specs.declared.header.loader.TheConstants as loader
use Rattle.macho_spans.specs.declared.span.Span.{Span}
use Rattle.macho_explain.specs.Fixups.{AreChains, InFixups, OfChains}
use Rattle.macho_explain.specs.Wholes.{named_table, Opens}
use Rattle.macho_explain.proofs.Wholes.{same_bytes, same_table}

-- without a table nothing is said of it
pub no_chains : (image : List ℕ) (P : Span → List ℕ → ChainHeader → Type 0)
    → (Opens image → (table : Span) (bytes : List ℕ) (header : ChainHeader) → ¬ AreChains image table bytes header) → Opens image → ¬ OfChains image P
no_chains image P none opens (table, chains, header, are, has) = none opens table chains header are

-- and nothing is in it
pub no_fixup : (image : List ℕ) (P : List ℕ → ChainHeader → ℕ → Type 0) (place : ℕ)
    → (Opens image → (table : Span) (bytes : List ℕ) (header : ChainHeader) → ¬ AreChains image table bytes header) → ¬ InFixups P image place
no_fixup image P place none (opens, (table, chains, header, are, has)) = none opens table chains header are

module _ (image : List ℕ) (table : Span) (chains : List ℕ) (header : ChainHeader) (is : AreChains image table chains header) where
  -- it is said of that table
  pub of_chains : (P : Span → List ℕ → ChainHeader → Type 0) → OfChains image P → P table chains header
  of_chains P (other, read, found, also, has) =
      let one : other ≡ table = same_table image (named_table image loader.LC_DYLD_CHAINED_FIXUPS) table chains is.0 other read also.0 in
      let same : read ≡ chains = same_bytes image (named_table image loader.LC_DYLD_CHAINED_FIXUPS) table chains is.0 other read also.0 in
      let known : found ≡ header = same_Some found header (sym also.1 ∙ (ap chain_header same ∙ is.1)) in
      subst (λ (t : Span). P t chains header) one (subst (λ (b : List ℕ). P other b header) same (subst (λ (h : ChainHeader). P other read h) known has))

  -- at the offset of the place
  pub at_fixup : (P : List ℕ → ChainHeader → ℕ → Type 0) (place : ℕ) → InFixups P image place → (offset : ℕ) × (place ≡ table.start + offset) × P chains header offset
  at_fixup P place (opens, has) = of_chains (λ t b h. (offset : ℕ) × (place ≡ t.start + offset) × P b h offset) has

-- more names have no fewer bytes
pub names_rise : (chains : List ℕ) (header : ChainHeader) (j k : ℕ) → j ≤ k → names_size chains header j ≤ names_size chains header k
names_rise chains header j zero less = let none : j ≡ 0 = omega (arith, less) in rw none (omega arith)
names_rise chains header j (suc k) less = elim (cases_lt k j) [
  | inl last ↦ let same : j ≡ suc k = omega (arith, last, less) in rw same (omega arith)
  | inr earlier ↦ let more = names_rise chains header j k earlier in omega (arith, more)
]

-- the import that is at an offset is one only
pub same_index : (known : ImportFormat) (start j k : ℕ) → start + j * (import_bits known).size ≡ start + k * (import_bits known).size → j ≡ k
same_index format.Import start j k is = omega (arith, is)
same_index format.ImportAddend start j k is = omega (arith, is)
same_index format.ImportAddend64 start j k is = omega (arith, is)

-- an entry, where seg_count is in the table, and not at the offset
pub is_entry : (Q : ℕ → Type 0) (count : Option ℕ) (offset starts : ℕ) → count ≢ None → offset ≢ starts → MatchOption count (offset ≡ 0) (λ n. (offset ≡ starts) ⊎ Q n) → MatchOption count ⊥ Q
is_entry Q None offset starts some other has = some refl
is_entry Q (Some n) offset starts some other has = elim has [ inl at ↦ absurd (other at) | inr entry ↦ entry ]
