-- The rows of imports, one after another.
use Rattle.std.proofs.Common.{◌≡◌, ◌∙◌, ℕ, zero, suc, ◌+◌, ◌-◌, ◌≤◌, ◌<◌, ◌^◌, List, [], ◌∷◌, true, false, length, refl, sym, ap, arith, inl, inr, lit<}
use Rattle.std.specs.Prelude.{nat_lt}
use Rattle.std.proofs.lemmas.Bool.{and_parts, cases_Bool, ltb-true, leb-true}
use Rattle.std.proofs.lemmas.Nat.{and_le_r}
use Rattle.macho_chains.specs.ChainImports.{import_at, import_bits, ordinal_of}
use Rattle.macho_chains.specs.declared.chain_header.ChainHeader.{ChainHeader}
use Rattle.macho_chains.specs.declared.chain_header.ImportFormat.{ImportFormat}
use Rattle.macho_chains.specs.declared.chain_header.ImportFormat.TheVariants as format
use Rattle.macho_fields.specs.Symbol.{number_of}
use Rattle.macho_fixups.specs.ChainedImports.{import_name_size, import_row, imports_up_to, imports_left, is_listed, IsNear}
use Rattle.macho_fixups.specs.declared.cursor.KesvuotFixupCursor.{KesvuotFixupCursor}

-- an ordinal has few bits
ordinal_near : (mask bits : ℕ) → mask < 2 ^ 62 → bits ≤ mask → IsNear (ordinal_of mask bits)
ordinal_near mask bits small most = elim (cases_Bool (nat_lt (mask - 15) bits)) [ inl is ↦ rw is (omega arith) | inr is ↦ rw is (omega arith) ]

pub import_near : (chains : List ℕ) (kind : ImportFormat) (offset : ℕ) → IsNear (import_at chains kind offset).ordinal
unfolding import_at
import_near chains format.Import offset = ordinal_near 0xff _ (lit< tt) (and_le_r (number_of (import_bits format.Import).width chains offset) 0xff)
import_near chains format.ImportAddend offset = ordinal_near 0xff _ (lit< tt) (and_le_r (number_of (import_bits format.ImportAddend).width chains offset) 0xff)
import_near chains format.ImportAddend64 offset = ordinal_near 0xffff _ (lit< tt) (and_le_r (number_of (import_bits format.ImportAddend64).width chains offset) 0xffff)

module _ (place : ℕ) (chains : List ℕ) (header : ChainHeader) where
  -- a listed import is in the table, and its name too
  pub listed_parts : (names k : ℕ) → is_listed chains header names k ≡ true
      → (k < header.imports_count) × (names + import_name_size chains header k ≤ length chains)
  unfolding is_listed
  listed_parts names k is =
      let (first, total) = and_parts _ _ is in
      let (there, _) = and_parts _ _ first in
      let (less, _) = and_parts _ _ there in
      (ltb-true _ _ less, leb-true _ _ total)

  none_listed : (most names k : ℕ) → is_listed chains header names k ≡ false → imports_up_to most place chains header names k ≡ []
  none_listed zero names k none = refl
  none_listed (suc most) names k none = rw none refl

  pub imports_none : (cursor : KesvuotFixupCursor) → is_listed chains header cursor.name_size cursor.import ≡ false → imports_left place chains header cursor ≡ []
  unfolding imports_left
  imports_none cursor none = none_listed (header.imports_count - cursor.import) cursor.name_size cursor.import none

  pub imports_next : (before after : KesvuotFixupCursor) → is_listed chains header before.name_size before.import ≡ true
      → after.name_size ≡ before.name_size + import_name_size chains header before.import → after.import ≡ before.import + 1
      → imports_left place chains header before ≡ import_row place chains header before.import ∷ imports_left place chains header after
  unfolding imports_left
  imports_next before after is names counted =
      let less = (listed_parts before.name_size before.import is).0 in
      let some : header.imports_count - before.import ≡ suc (header.imports_count - suc before.import) = omega (arith, less) in
      let next : suc before.import ≡ after.import = omega arith in
      rw some
      (rw is
      (ap (λ rest. import_row place chains header before.import ∷ rest)
      (ap (λ k. imports_up_to (header.imports_count - k) place chains header (before.name_size + import_name_size chains header before.import) k) next
      ∙ ap (λ n. imports_up_to (header.imports_count - after.import) place chains header n after.import) (sym names))))
