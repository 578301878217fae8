use Rattle.std.proofs.Common.{◌≡◌, ◌∙◌, ◌+◌, List, ℕ, length, take, drop, ap}
use Rattle.std.specs.Cmp.Lexicographic.{slice_cmp}
use Rattle.std.specs.Ordering.{nat_cmp}
use Rattle.macho_fields.specs.Bytes.{bytes_of}
use Rattle.macho_fields.specs.Field.{part}
use Rattle.macho_alike.specs.Names.{text_of}
use Rattle.macho_alike.proofs.TrieOrders.{following}
use Rattle.macho_alike.proofs.trie.compare.Goals as goal

pub returns : goal.returns
returns c =
    let image = bytes_of c.args.image in
    let name = c.args.named.name in
    let label = c.args.label.now in
    let read : c.read_part.result.now ≡ take (length label) (drop c.args.depth (text_of image c.args.named)) =
    c.read_part.ensures
    ∙ (ap (λ (n : ℕ). part (name.start + c.args.depth) n image) c.min.ensures ∙ following name.start name.len c.args.depth (length label) image c.requires.deep) in
    c.cmp.ensures ∙ ap (λ (bytes : List ℕ). slice_cmp nat_cmp bytes label) read
