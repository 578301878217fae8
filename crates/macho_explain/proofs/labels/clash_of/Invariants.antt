use Rattle.std.proofs.Common.{◌≡◌, ◌<◌, ℕ, List, Some}
use Rattle.macho_fields.specs.Bytes.{bytes_of}
use Rattle.macho_explain.specs.Alike.{labels_from}
use Rattle.macho_explain.proofs.EdgeLabels.{AreRead, IsBadAt}
use Rattle.macho_explain.proofs.labels.clash_of.Given as goal

-- no label that was passed is empty, or clashes with an earlier one
abbrev pub invariant-loop-later : goal.invariant-loop-later
invariant-loop-later l =
    (labels : List (List ℕ)) → labels_from l.count (bytes_of l.trie) l.edges ≡ Some labels
    → (before : List (List ℕ)) × AreRead (bytes_of l.trie) l.count l.later l.place labels before
    × ((k : ℕ) → k < l.later → ¬ IsBadAt labels k)
