-- The export trie of an image, and what is found in it.
use Rattle.std.proofs.Common.{◌≡◌, ◌∙◌, ℕ, ◌+◌, ◌≤◌, List, length, Option, Some, None, inl, inr, refl, sym, ap, subst}
use Rattle.std.specs.Prelude.{nat_le, IfSome}
use Rattle.std.specs.Option.{option_and_then, option_map, unwrap_or}
use Rattle.macho_fields.specs.Image.{commands_of}
use Rattle.macho_fields.specs.Segment.{base_of}
use Rattle.std.proofs.lemmas.Bool.{leb-true, cases_Bool}
use Rattle.macho_fields.specs.Layers.{NothingBreaks}
use Rattle.macho_fields.specs.Rules.{BreaksImage}
use Rattle.macho_spans.specs.Span.{end_of}
use Rattle.macho_spans.specs.declared.span.Span.{Span}
use Rattle.macho_exports.specs.Exports.{export_table}
use Rattle.macho_alike.specs.ExportModels.{HasOneExportOfName, IsExportOf}
use Rattle.macho_exports.specs.ExportTrie.{find_export, find_terminal, export_in}
use Rattle.macho_exports.specs.declared.export_trie.Export.{Export}
use Rattle.macho_fields.specs.Field.{part}
use Rattle.macho_c.specs.Exports.{exported, export_row, no_export, FindsAlike, FindsExport}
use Rattle.macho_c.specs.ExportTrie.{if_inside}
use Rattle.macho_c.specs.Status.{Answers}
use Rattle.macho_rows.specs.Image.{ShowsUnbroken, image_in}
use Rattle.macho_rows.specs.Rows.{IsBrokenImage}
use Rattle.macho_c.specs.declared.exports.KesvuotExport.{KesvuotExport}
use Rattle.macho_rows.specs.declared.image.KesvuotImage.{KesvuotImage}
use Rattle.macho_rows.proofs.AllSymbols.{unbroken}

-- the headers of an image that breaks no rule are unbroken
pub never_broken : (image : List ℕ) → IsBrokenImage image None → ¬ NothingBreaks (BreaksImage image None)
never_broken image (r, place, early, broken) keeps = keeps r place broken

-- a table that ends past the image is not read
past_none : (image : List ℕ) (table : Span) → ¬ (end_of table ≤ length image) → None ≡ if_inside image table
past_none image table past = elim (cases_Bool (nat_le (end_of table) (length image))) [
  | inl fits ↦ absurd (past (leb-true _ _ fits))
  | inr over ↦ rw over refl
]

pub trie_past : (image opened : List ℕ) (table : Span) → opened ≡ image → Some table ≡ export_table opened → ¬ (end_of table ≤ length image)
    → None ≡ option_and_then (if_inside image) (export_table image)
trie_past image opened table same is past = rw (sym (is ∙ ap export_table same)) (past_none image table past)

-- and an image that breaks no rule has none such
pub never_past : (image opened : List ℕ) (table : Span) → opened ≡ image → (NothingBreaks (BreaksImage opened None) → end_of table ≤ length opened) → ¬ (end_of table ≤ length image)
    → ¬ NothingBreaks (BreaksImage image None)
never_past image opened table same inside past keeps =
    past (subst (λ (bytes : List ℕ). end_of table ≤ length bytes) same (inside (subst (λ (bytes : List ℕ). NothingBreaks (BreaksImage bytes None)) (sym same) keeps)))

-- what a look-up finds in an image that breaks no rule, by the base of the struct
pub finds : (file : List ℕ) (row : KesvuotImage) → ShowsUnbroken file row → (name : List ℕ) (status : ℕ) (export : KesvuotExport) (found : Option KesvuotExport)
    → (NothingBreaks (BreaksImage (image_in file row) None) → IfSome (export_table (image_in file row)) (λ table. end_of table ≤ length (image_in file row)))
    → (NothingBreaks (BreaksImage (image_in file row) None) → found ≡ exported row.base row.slice.offset (image_in file row) (export_table (image_in file row)) name)
    → Answers no_export status export found → FindsExport (image_in file row) row.slice.offset name status export
finds file row shows name status export found inside is answer = (
  inside (unbroken file row shows),
  subst (λ (base : ℕ). Answers no_export status export (exported base row.slice.offset (image_in file row) (export_table (image_in file row)) name)) shows.0.parts.base
      (subst (Answers no_export status export) (is (unbroken file row shows)) answer),
)

found_in : (trie name : List ℕ) (terminal : Span) → find_terminal trie name ≡ Some terminal → find_export trie name ≡ option_map (λ e. e.0) (export_in trie terminal)
unfolding find_export
found_in trie name terminal is = ap (λ (o : Option Span). option_and_then (λ (t : Span). option_map (λ e. e.0) (export_in trie t)) o) is

-- what any reader finds is what the look-up finds
pub finds_alike : (image : List ℕ) (place : ℕ) (name : List ℕ) (status : ℕ) (export : KesvuotExport) → HasOneExportOfName image → FindsExport image place name status export
    → FindsAlike image place name status export
finds_alike image place name status export one found table terminal is reads =
    let trie = part table.start table.len image in
    let looked_up : find_terminal trie name ≡ Some terminal = elim reads [ inl listed ↦ ((one table is).same name terminal).0 listed | inr same ↦ same ] in
    let base = unwrap_or (base_of image (commands_of image)) 0 in
    let at_table = subst (λ (o : Option Span). Answers no_export status export (exported base place image o name)) is found.1 in
    subst (λ (e : Option Export). Answers no_export status export (option_map (export_row base (place + table.start) trie) e)) (found_in trie name terminal looked_up) at_table
