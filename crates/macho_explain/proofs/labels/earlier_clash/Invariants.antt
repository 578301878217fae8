use Rattle.std.proofs.Common.{◌≡◌, ◌≤◌, ◌<◌, ℕ, List, Some}
use Rattle.macho_fields.specs.Bytes.{bytes_of}
use Rattle.macho_explain.specs.Alike.{labels_from, ClashesAt}
use Rattle.macho_explain.proofs.EdgeLabels.{AreRead}
use Rattle.macho_explain.proofs.labels.earlier_clash.Given as goal

-- no label that was passed clashes
abbrev pub invariant-loop-index : goal.invariant-loop-index
invariant-loop-index l =
    (total : ℕ) (labels : List (List ℕ)) → l.count ≤ total → labels_from total (bytes_of l.trie) l.edges ≡ Some labels
    → (before : List (List ℕ)) × AreRead (bytes_of l.trie) total l.index l.place labels before
    × ((j : ℕ) → j < l.index → ¬ ClashesAt labels j l.label)
