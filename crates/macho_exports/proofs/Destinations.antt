-- What the exports of an image lead to.
use Rattle.std.proofs.Common.{◌≡◌, ◌∙◌, ◌↔◌, ℕ, ◌+◌, ◌<◌, List, Bool, false, Option, Some, IsTrue, sym, subst, inl, inr}
use Rattle.std.proofs.lemmas.Bool.{false≢true}
use Rattle.std.proofs.lemmas.Option.{none-some}
use Rattle.macho_fields.proofs.Options.{of_some, some_has}
use Rattle.macho_spans.specs.declared.span.Span.{Span}
use Rattle.macho_exports.specs.ExportWalk.{whole_export, HasExport}
use Rattle.macho_exports.specs.Exports.{LeadsNowhere, ResolvesNowhere, HasNoLibrary, HasNoAddress, AreNodeBreaks}
use Rattle.macho_tables.specs.MappedAddresses.{IsMapped}
use Rattle.macho_exports.specs.declared.export_trie.Export.{Export}
use Rattle.macho_exports.specs.declared.export_trie.Target.{Target}
use Rattle.macho_exports.specs.declared.export_trie.Target.TheVariants as target

module _ (image : List ℕ) (base : ℕ) (t : Target) (address : ℕ) (resolver : Option ℕ) (is : t ≡ target.Address address resolver) where
  -- no segment has the address
  pub nowhere_first : (first : Bool) → IsTrue first → IsTrue first ↔ (¬ IsMapped image (base + address)) → IsTrue first ↔ LeadsNowhere image base t
  nowhere_first first so says = (λ _. subst (LeadsNowhere image base) (sym is) (inl (says.0 so)), λ _. so)

  -- some segment has
  pub nowhere_second : (first second : Bool) → first ≡ false → IsTrue first ↔ (¬ IsMapped image (base + address)) → IsTrue second ↔ ResolvesNowhere image base resolver
      → IsTrue second ↔ LeadsNowhere image base t
  nowhere_second first second not says then = (
    λ so. subst (LeadsNowhere image base) (sym is) (inr (then.0 so)),
    λ has. elim (subst (LeadsNowhere image base) is has) [
      | inl out ↦ absurd (false≢true (sym not ∙ says.1 out))
      | inr out ↦ then.1 out
    ],
  )

-- what a terminal part breaks that is an export
pub export_breaks : (image trie : List ℕ) (terminal : Span) (export : Export) (library address : Bool) → 0 < terminal.len → whole_export trie terminal ≡ Some export
    → IsTrue library ↔ HasNoLibrary image export → IsTrue address ↔ HasNoAddress image export
    → AreNodeBreaks image trie terminal (record { terminal = false; library = library; address = address })
export_breaks image trie terminal export library address some is of_library of_address = record {
  terminal = (λ wrong. absurd (false≢true wrong), λ (_, none). absurd (none-some export (sym none ∙ is)));
  library = has_export library (HasNoLibrary image) of_library;
  address = has_export address (HasNoAddress image) of_address;
}
  where
    has_export : (broken : Bool) (P : Export → Type 0) → IsTrue broken ↔ P export → IsTrue broken ↔ HasExport trie P terminal
    has_export broken P says = (
      λ so. (some, of_some P (whole_export trie terminal) export is (says.0 so)),
      λ (_, has). says.1 (some_has P (whole_export trie terminal) export is has),
    )
