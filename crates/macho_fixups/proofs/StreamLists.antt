-- The opcodes that write, of one stream after another.
use Rattle.std.proofs.Common.{◌≡◌, ℕ, ◌+◌, ◌<◌, List, [], ◌∷◌, ◌++◌, length, map, drop, get_or, slice_get, Option, Some, None, refl, sym, ap, ◌∙◌, subst, inl, inr}
use Rattle.std.proofs.lemmas.List.{drop_more, drop_all}
use Rattle.std.proofs.lemmas.Option.{slice_get_within, slice_get_cases, get_or_from_slice_get}
use Rattle.macho_opcodes.specs.Images.{opcodes_of}
use Rattle.macho_opcodes.specs.declared.step.Opcodes.{Opcodes}
use Rattle.macho_opcodes.specs.declared.streams.Stream.{Stream}
use Rattle.macho_fixups.specs.Streams.{all_streams, writes_in, writes_left}
use Rattle.macho_fixups.specs.Walks.{no_walk, followed, writes_from, step_of}
use Rattle.macho_fixups.specs.declared.streams.Position.{Position}
use Rattle.macho_fixups.specs.declared.walk.Walk.{Walk}
use Rattle.macho_fixups.specs.declared.walk.Write.{Write}

-- the item at an index begins what is left from there on
drop_some : {X : Type 0} (xs : List X) (i : ℕ) (x : X) → slice_get xs i ≡ Some x → drop i xs ≡ x ∷ drop (i + 1) xs
drop_some xs i x is = drop_more xs i x (slice_get_within xs i x is) ∙ ap (λ first. first ∷ drop (i + 1) xs) (get_or_from_slice_get xs i x x is)

-- nothing is left without one
drop_none : {X : Type 0} (xs : List X) (i : ℕ) → slice_get xs i ≡ None → drop i xs ≡ []
drop_none xs i none = elim ((slice_get_cases xs i).1) [
  | inl (x, within, is, same) ↦ cc
  | inr (past, is) ↦ drop_all i xs past
]

module _ (bytes : Stream → List ℕ) (at : Position) where
  abbrev writes_here : Stream → List Write
  writes_here one = writes_from (opcodes_of one) (bytes one) at.place at.walk

  abbrev paired : Stream → List Write → List (Stream × Write)
  paired one writes = map (λ write. (one, write)) writes

  in_stream : (one : Stream) → slice_get all_streams at.stream ≡ Some one
      → writes_left bytes at ≡ paired one (writes_here one) ++ writes_in bytes (drop (at.stream + 1) all_streams) 0 no_walk
  in_stream one is = ap (λ streams. writes_in bytes streams at.place at.walk) (drop_some all_streams at.stream one is)

  -- nothing is left past the last stream
  pub past_streams : slice_get all_streams at.stream ≡ None → writes_left bytes at ≡ []
  past_streams none = ap (λ streams. writes_in bytes streams at.place at.walk) (drop_none all_streams at.stream none)

  -- a stream without any leads to the next one
  pub next_stream : (one : Stream) → slice_get all_streams at.stream ≡ Some one → writes_here one ≡ []
      → writes_left bytes at ≡ writes_left bytes (record { stream = at.stream + 1; place = 0; walk = no_walk })
  next_stream one is none =
      in_stream one is ∙ ap (λ writes. paired one writes ++ writes_in bytes (drop (at.stream + 1) all_streams) 0 no_walk) none

-- the first of a stream is the first of all that are left
pub first_in_stream : (bytes : Stream → List ℕ) (at : Position) (one : Stream) (write : Write) (place : ℕ) (walk : Walk) → slice_get all_streams at.stream ≡ Some one
    → writes_from (opcodes_of one) (bytes one) at.place at.walk ≡ write ∷ writes_from (opcodes_of one) (bytes one) place walk
    → writes_left bytes at ≡ (one, write) ∷ writes_left bytes (record { stream = at.stream; place = place; walk = walk })
first_in_stream bytes at one write place walk is first =
    in_stream bytes at one is
    ∙ (ap (λ writes. paired bytes at one writes ++ writes_in bytes (drop (at.stream + 1) all_streams) 0 no_walk) first
    ∙ ap (λ rest. (one, write) ∷ rest) (sym (in_stream bytes (record { stream = at.stream; place = place; walk = walk }) one is)))

-- the same of the bytes and the opcodes of a stream that were read
module _ (bytes : Stream → List ℕ) (at : Position) (one : Stream) (is : slice_get all_streams at.stream ≡ Some one)
    (of : Opcodes) (stream : List ℕ) (opcodes : of ≡ opcodes_of one) (read : stream ≡ bytes one) where
  pub found_in_stream : (write : Write) (place : ℕ) (walk : Walk) → walk ≡ followed write.walk (step_of write)
      → writes_from of stream at.place at.walk ≡ write ∷ writes_from of stream place (followed write.walk (step_of write))
      → writes_left bytes at ≡ (one, write) ∷ writes_left bytes (record { stream = at.stream; place = place; walk = walk })
  found_in_stream write place walk goes first =
      let set = followed write.walk (step_of write) in
      let there = subst (λ (o : Opcodes). writes_from o stream at.place at.walk ≡ write ∷ writes_from o stream place set) opcodes first in
      let here = subst (λ (s : List ℕ). writes_from (opcodes_of one) s at.place at.walk ≡ write ∷ writes_from (opcodes_of one) s place set) read there in
      first_in_stream bytes at one write place walk is (here ∙ ap (λ (w : Walk). write ∷ writes_from (opcodes_of one) (bytes one) place w) (sym goes))

  pub none_in_stream : (walk : Walk) → walk ≡ no_walk → writes_from of stream at.place at.walk ≡ []
      → writes_left bytes at ≡ writes_left bytes (record { stream = at.stream + 1; place = 0; walk = walk })
  none_in_stream walk starts none =
      let there = subst (λ (o : Opcodes). writes_from o stream at.place at.walk ≡ []) opcodes none in
      let here = subst (λ (s : List ℕ). writes_from (opcodes_of one) s at.place at.walk ≡ []) read there in
      next_stream bytes at one is here
      ∙ ap (λ (w : Walk). let next : Position = record { stream = at.stream + 1; place = 0; walk = w } in writes_left bytes next) (sym starts)
