use Rattle.std.proofs.Common.{◌≡◌, ℕ, ◌-◌, ◌<◌, List, [], ◌∷◌, ◌++◌, length, take, drop, slice_index_or, slice_set, refl, arith, ap, sym, rules}
use Rattle.macho_text.proofs.StreamLemmas.{rest_is}
use Rattle.macho_tests.proofs.doubles.slow.SlowReaderInput.read.Goals as goal

-- the first byte of a list in the first place of a piece, and then the others
first_moved : (bytes piece : List ℕ) → 0 < length bytes → 0 < length piece
    → bytes ≡ take 1 (slice_set piece 0 (slice_index_or bytes 0 0)) ++ take (length bytes - 1) (drop 1 bytes)
first_moved [] piece some room = absurd (omega arith)
first_moved (first ∷ rest) [] some room = absurd (omega arith)
first_moved (first ∷ rest) (place ∷ places) some room = ap (λ l. first ∷ l) (sym (rest_is (length (first ∷ rest)) 1 (first ∷ rest) refl))

pub returns-clause-bytes : goal.returns-clause-bytes
returns-clause-bytes c =
    let some : 0 < length c.args.self.now.bytes.now = search rules in
    let room : 0 < length c.args.piece.now = search rules in
    record {
      taken = first_moved _ _ some room;
      end = λ none. absurd (omega arith);
    }
