use Rattle.std.proofs.Common.{◌≡◌, ◌+◌, ℕ, List, Option, Some, None, refl, ap, subst}
use Rattle.macho_fields.specs.Layers.{NothingBreaks}
use Rattle.macho_fields.specs.Rules.{BreaksImage}
use Rattle.macho_spans.specs.declared.span.Span.{Span}
use Rattle.macho_exports.specs.Exports.{export_table}
use Rattle.macho_c.specs.ExportTrie.{IsTrie, IsTrieAt}
use Rattle.macho_rows.specs.Spans.{span_at}
use Rattle.macho_rows.proofs.AllSymbols.{unbroken}
use Rattle.macho_c.proofs.export_trie.kesvuot_find_export_trie.Goals as goal

pub returns-in-Some-clause-answer : goal.returns-in-Some-clause-answer
returns-in-Some-clause-answer c = (
  Some c.in-Some.table,
  subst (λ (bytes : List ℕ). IsTrie bytes (Some c.in-Some.table)) c.held-held.ensures.bytes c.in-Some.ensures.trie,
  (refl, ap (λ (place : ℕ). span_at (place + c.in-Some.table.start) c.in-Some.table.len) c.held-held.ensures.place),
)

pub returns-in-None-clause-answer : goal.returns-in-None-clause-answer
returns-in-None-clause-answer c = (
  None,
  subst (λ (bytes : List ℕ). IsTrie bytes None) c.held-held.ensures.bytes c.in-None.ensures.trie,
  (refl, refl),
)

pub returns-in-None-clause-all : goal.returns-in-None-clause-all
returns-in-None-clause-all c = λ shows.
    let none = subst (λ (bytes : List ℕ). NothingBreaks (BreaksImage bytes None) → None ≡ export_table bytes) c.held-held.ensures.bytes c.in-None.ensures.all (unbroken c.args.file.now c.args.image.now shows) in
    subst (λ (trie : Option Span). IsTrieAt c.args.image.now.slice.offset trie 3 (span_at 0 0)) none (refl, refl)
