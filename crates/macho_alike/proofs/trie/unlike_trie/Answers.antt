use Rattle.std.proofs.Common.{◌≡◌, ◌∙◌, List, ℕ, Option, sym, ap, subst}
use Rattle.std.specs.Prelude.{IfOk}
use Rattle.std.proofs.lemmas.Result.{IfOk-weaker}
use Rattle.macho_fields.specs.Bytes.{bytes_of}
use Rattle.macho_fields.specs.Field.{part}
use Rattle.macho_fields.specs.FirstPlace.{IsLeastPlace}
use Rattle.macho_rules.proofs.Verdicts.{unbroken_opened}
use Rattle.macho_alike.proofs.TrieNames.{sorted_names, whole_trie, trie_listed}
use Rattle.macho_alike.specs.TrieSymbols.{BreaksTrieSymbol}
use Rattle.macho_alike.specs.TrieWalks.{IsWhole, AreSorted, IsUnlikeAt}
use Rattle.macho_alike.proofs.trie.unlike_trie.Goals as goal

pub export_table-requires : goal.export_table-requires
export_table-requires c = unbroken_opened c.args.image.now c.requires.unbroken

pub least_unlike-requires-clause-trie : goal.least_unlike-requires-clause-trie
least_unlike-requires-clause-trie c =
    let table = c.in-Some.table in
    let trie : bytes_of c.slice.result ≡ part table.start table.len c.args.image.now = c.slice.ensures ∙ ap (part table.start table.len) c.bytes-bytes.ensures.bytes in
    subst IsWhole (sym trie) (whole_trie c.args.image.now c.args.names.now c.requires.named c.requires.node c.requires.total c.requires.edge table (sym c.in-Some.ensures.table))

pub least_unlike-requires-clause-names : goal.least_unlike-requires-clause-names
least_unlike-requires-clause-names c =
    subst (λ (image : List ℕ). AreSorted image c.args.names.now) (sym c.bytes-bytes.ensures.bytes)
    (sorted_names c.args.image.now c.args.names.now c.requires.unbroken c.requires.named c.requires.sorted)

pub returns-clause-least : goal.returns-clause-least
returns-clause-least c =
    let image = c.args.image.now in
    let names = c.args.names.now in
    let table = c.in-Some.table in
    let trie : bytes_of c.slice.result ≡ part table.start table.len image = c.slice.ensures ∙ ap (part table.start table.len) c.bytes-bytes.ensures.bytes in
    let found = λ (bytes trie : List ℕ) (base : Option ℕ). IfOk c.least_unlike.result (IsLeastPlace (IsUnlikeAt bytes trie names base)) in
    let by_image = subst (λ (bytes : List ℕ). found bytes (bytes_of c.slice.result) c.base.result) c.bytes-bytes.ensures.bytes c.least_unlike.ensures in
    let by_trie = subst (λ (bytes : List ℕ). found image bytes c.base.result) trie by_image in
    let by_base = subst (found image (part table.start table.len image)) c.base.ensures by_trie in
    IfOk-weaker c.least_unlike.result _ (IsLeastPlace (BreaksTrieSymbol image))
    (trie_listed image names c.requires.named c.requires.node c.requires.total c.requires.edge table (sym c.in-Some.ensures.table)) by_base
