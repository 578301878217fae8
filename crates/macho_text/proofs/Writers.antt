-- Calls that write a text one part after the other.
use Rattle.std.proofs.Common.{◌≡◌, ℕ, List, [], ◌∷◌, Result, Ok, Err, IsErr, true, map, refl, sym, ◌∙◌, append-nil, subst}
use Rattle.macho_text.specs.Stream.{WrotePrefix, joined}
use Rattle.macho_text.specs.Writer.{PutsText, Writing}
use Rattle.macho_text.specs.declared.stream.Output as output
use Rattle.macho_text.proofs.StreamLemmas.{wrote_next_text, wrote_prefix_next_text, wrote_prefix_first_text, writing_begins, writing_next, writing_fails, writing_ends}

-- The output's bytes grew by the first part of a text, while these texts are left. No write has failed since.
pub record PutsPart {W : Type 0} (o : output.Ghosts W) (old new : W) (whole : List ℕ) (left : List (List ℕ)) : Type 0 where
  pub bytes : Writing (o.contents old) (o.contents new) whole left
  pub failed : o.has_failed new ≡ o.has_failed old

module _ {W : Type 0} {o : output.Ghosts W} where
  -- the same text in another form
  pub puts_same : {T E : Type 0} {a b : W} {r : Result T E} {text other : List ℕ} → text ≡ other → PutsText o a b r text → PutsText o a b r other
  puts_same {a = a} {b = b} {r = r} same h = subst (PutsText o a b r) same h

  -- a fault after a prefix
  pub puts_fault : {T E : Type 0} {a b : W} {r : Result T E} {text : List ℕ} → IsErr r → WrotePrefix (o.contents a) (o.contents b) text → o.has_failed b ≡ true → PutsText o a b r text
  puts_fault {r = Ok x} err wrote failed = absurd (cc)
  puts_fault {r = Err e} err wrote failed = record { bytes = wrote; failed = failed }

  -- a text, and then those after it
  pub puts_next : {T U E F : Type 0} {a b c : W} {x : T} {r : Result U F} {text : List ℕ} (rest : List (List ℕ))
      → PutsText {E = E} o a b (Ok x) text → PutsText o b c r (joined rest) → PutsText o a c r (joined (text ∷ rest))
  puts_next {r = Ok y} rest first second = record { bytes = wrote_next_text _ _ _ _ _ first.bytes second.bytes; failed = second.failed ∙ first.failed }
  puts_next {r = Err f} rest first second = record { bytes = wrote_prefix_next_text _ _ _ _ _ first.bytes second.bytes; failed = second.failed }

  -- a fault in the first text
  pub puts_fails : {T U E F : Type 0} {a b : W} {e : E} {r : Result U F} {text : List ℕ} (rest : List (List ℕ))
      → IsErr r → PutsText {T = T} o a b (Err e) text → PutsText o a b r (joined (text ∷ rest))
  puts_fails rest err h = puts_fault err (wrote_prefix_first_text _ _ _ _ h.bytes) h.failed

  pub puts_last : {T E : Type 0} {a b : W} {r : Result T E} {text : List ℕ} → PutsText o a b r text → PutsText o a b r (joined (text ∷ []))
  unfolding joined
  puts_last {text = text} h = puts_same (sym (append-nil text)) h

  -- a loop that writes a text for each item
  pub items_begin : {a : W} {whole : List ℕ} {texts : List (List ℕ)} → joined texts ≡ whole → PutsPart o a a whole texts
  items_begin {a = a} {texts = texts} is = subst (λ whole. PutsPart o a a whole texts) is record { bytes = writing_begins _ _; failed = refl }

  module _ {X : Type 0} (f : X → List ℕ) {a b : W} {whole : List ℕ} {left : List X} where
    pub item_put : {c : W} {T E : Type 0} {y : T} {rest : List X} {x : X} → left ≡ x ∷ rest → PutsPart o a b whole (map f left) → PutsText {E = E} o b c (Ok y) (f x) → PutsPart o a c whole (map f rest)
    item_put is h put = record {
      bytes = writing_next _ _ _ _ _ _ (subst (λ xs. Writing (o.contents a) (o.contents b) whole (map f xs)) is h.bytes) put.bytes;
      failed = put.failed ∙ h.failed;
    }

    pub item_fails : {c : W} {T U E F : Type 0} {e : E} {r : Result U F} {rest : List X} {x : X} → IsErr r → left ≡ x ∷ rest → PutsPart o a b whole (map f left) → PutsText {T = T} o b c (Err e) (f x)
        → PutsText o a c r whole
    item_fails err is h put =
        puts_fault err (writing_fails _ _ _ _ _ _ (subst (λ xs. Writing (o.contents a) (o.contents b) whole (map f xs)) is h.bytes) put.bytes) put.failed

    pub items_end : {T E : Type 0} {y : T} → left ≡ [] → PutsPart o a b whole (map f left) → PutsText {E = E} o a b (Ok y) whole
    items_end is h = record {
      bytes = writing_ends _ _ _ (subst (λ xs. Writing (o.contents a) (o.contents b) whole (map f xs)) is h.bytes);
      failed = h.failed;
    }
