-- Texts that are held in a line, and written later.
use Rattle.std.proofs.Common.{◌≡◌, ℕ, List, [], ◌∷◌, ◌++◌, Option, Result, Ok, Err, IsErr, OnOk, map, refl, sym, ap, ◌∙◌, append_assoc, append-nil, subst}
use Rattle.macho_text.specs.Stream.{Wrote, WrotePrefix, joined}
use Rattle.macho_text.specs.Writer.{PutsText, HoldsText, Writing}
use Rattle.macho_text.specs.declared.stream.Output as output
use Rattle.macho_text.proofs.StreamLemmas.{wrote_nothing, wrote_then, wrote_prefix_then, wrote_prefix_more, writing_begins}
use Rattle.macho_text.proofs.Writers.{PutsPart, items_begin, puts_fault, puts_same}
use Rattle.macho_text.proofs.Puts.{joined_append}

-- what was held is written
held_written : (a b : Option (List ℕ)) (held : List ℕ) → Wrote a b held → Writing a b held ([] ∷ [])
unfolding joined
held_written a b held wrote = record { done = held; wrote = wrote; rest = append-nil held }

-- .. and a text is held in its place
text_held : (a b : Option (List ℕ)) (before text held : List ℕ) → Wrote a b before → held ≡ text → Writing a b (before ++ text) (held ∷ [])
unfolding joined
text_held a b before text held wrote is = record { done = before; wrote = wrote; rest = ap (λ l. before ++ l) (append-nil held ∙ is) }

-- a text with which those that are left begin joins what is held
module _ (a b c : Option (List ℕ)) (whole held text : List ℕ) (before after : List (List ℕ)) where
  part_held : (next : List ℕ) → joined before ≡ text ++ joined after → Writing a b whole (held ∷ before) → Writing b c (held ++ text) (next ∷ []) → Writing a c whole (next ∷ after)
  unfolding joined
  part_held next is h joins = record {
    done = h.done ++ joins.done;
    wrote = wrote_then a b c h.done joins.done h.wrote joins.wrote;
    rest = append_assoc h.done joins.done (next ++ joined after)
        ∙ ap (λ l. h.done ++ l) (sym (append_assoc joins.done next (joined after))
        ∙ ap (λ l. l ++ joined after) (ap (λ l. joins.done ++ l) (sym (append-nil next)) ∙ joins.rest)
        ∙ append_assoc held text (joined after) ∙ ap (λ l. held ++ l) (sym is))
        ∙ h.rest;
  }

  part_fails : joined before ≡ text ++ joined after → Writing a b whole (held ∷ before) → WrotePrefix b c (held ++ text) → WrotePrefix a c whole
  unfolding joined
  part_fails is h failed =
      subst (WrotePrefix a c) (ap (λ l. h.done ++ l) (append_assoc held text (joined after) ∙ ap (λ l. held ++ l) (sym is)) ∙ h.rest)
      (wrote_prefix_then a b c h.done ((held ++ text) ++ joined after) h.wrote (wrote_prefix_more b c (held ++ text) (joined after) failed))

-- a text of a line after others, with those that come later
after_others : (first rest : List (List ℕ)) (line text : List ℕ) → line ≡ joined first → (line ++ text) ++ joined rest ≡ joined (first ++ text ∷ rest)
unfolding joined
after_others first rest line text is = append_assoc line text (joined rest) ∙ ap (λ l. l ++ (text ++ joined rest)) is ∙ sym (joined_append first (text ∷ rest))

module _ {W : Type 0} {o : output.Ghosts W} where
  -- a text, or a prefix of it, after one that was written
  puts_after : {T E : Type 0} {a b c : W} {r : Result T E} {done text : List ℕ} → Wrote (o.contents a) (o.contents b) done → o.has_failed b ≡ o.has_failed a
      → PutsText o b c r text → PutsText o a c r (done ++ text)
  puts_after {r = Ok y} wrote same put = record { bytes = wrote_then _ _ _ _ _ wrote put.bytes; failed = put.failed ∙ same }
  puts_after {r = Err e} wrote same put = record { bytes = wrote_prefix_then _ _ _ _ _ wrote put.bytes; failed = put.failed }

  -- the same text in another form
  pub holds_same : {T E : Type 0} {a b : W} {r : Result T E} (before : List ℕ) {held text other : List ℕ} → text ≡ other → HoldsText o a b r held (before ++ text) → HoldsText o a b r held (before ++ other)
  holds_same {a = a} {b = b} {r = r} before {held = held} same h = subst (λ l. HoldsText o a b r held (before ++ l)) same h

  -- what was held is written, if the call that does it succeeds, and none is held afterwards
  pub holds_written : {T E : Type 0} {a b : W} {r : Result T E} {before held : List ℕ} → OnOk r (held ≡ []) → PutsText o a b r before → HoldsText o a b r held before
  holds_written {r = Ok x} {before = before} none put = rw none record { bytes = held_written _ _ before put.bytes; failed = put.failed }
  holds_written {r = Err e} none put = record { bytes = put.bytes; failed = put.failed }

  -- all of a text is held
  pub holds_all : {T E : Type 0} {a : W} {x : T} {text held : List ℕ} → held ≡ text → HoldsText {E = E} o a a (Ok x) held text
  unfolding joined
  holds_all {a = a} {held = held} is = record {
    bytes = record { done = []; wrote = wrote_nothing (o.contents a); rest = append-nil held ∙ is };
    failed = refl;
  }

  -- there is no text
  pub holds_nothing : {T E : Type 0} {a : W} {x : T} {text held : List ℕ} → text ≡ [] → HoldsText {E = E} o a a (Ok x) held (held ++ text)
  holds_nothing {held = held} none = rw none (holds_all (sym (append-nil held)))

  -- what was held is written, and a text is held in its place
  pub holds_anew : {T U E F : Type 0} {a b : W} {x : T} {y : U} {before text held : List ℕ}
      → PutsText {E = E} o a b (Ok x) before → held ≡ text → HoldsText {E = F} o a b (Ok y) held (before ++ text)
  holds_anew put is = record { bytes = text_held _ _ _ _ _ put.bytes is; failed = put.failed }

  -- .. or is written after it, and none is held
  pub holds_none : {T U E F : Type 0} {a b c : W} {x : T} {r : Result U F} {before text held : List ℕ}
      → PutsText {E = E} o a b (Ok x) before → held ≡ [] → PutsText o b c r text → HoldsText o a c r held (before ++ text)
  holds_none {r = Ok y} {before = before} {text = text} first none put =
      rw none record { bytes = held_written _ _ (before ++ text) (wrote_then _ _ _ before text first.bytes put.bytes); failed = put.failed ∙ first.failed }
  holds_none {r = Err e} first none put = record { bytes = wrote_prefix_then _ _ _ _ _ first.bytes put.bytes; failed = put.failed }

  -- what was held is not written
  pub holds_fault : {T U E F : Type 0} {a b : W} {e : E} {r : Result U F} {before held : List ℕ} (text : List ℕ)
      → IsErr r → PutsText {T = T} o a b (Err e) before → HoldsText o a b r held (before ++ text)
  holds_fault {r = Ok x} text err h = absurd (cc)
  holds_fault {r = Err f} text err h = record { bytes = wrote_prefix_more _ _ _ _ h.bytes; failed = h.failed }

  -- before the first text joins what is held
  pub holds_begin : {a : W} {held : List ℕ} {left : List (List ℕ)} → PutsPart o a a (held ++ joined left) (held ∷ left)
  unfolding joined
  holds_begin {held = held} {left = left} = record { bytes = writing_begins _ (held ∷ left); failed = refl }

  pub holds_begin_as : {a : W} {held text : List ℕ} {left : List (List ℕ)} → joined left ≡ text → PutsPart o a a (held ++ text) (held ∷ left)
  holds_begin_as {a = a} {held = held} {left = left} is = subst (λ l. PutsPart o a a (held ++ l) (held ∷ left)) is holds_begin

  -- .. where none is held yet
  pub holds_start : {a : W} {held whole : List ℕ} {left : List (List ℕ)} → held ≡ [] → joined left ≡ whole → PutsPart o a a whole (held ∷ left)
  unfolding joined
  holds_start {left = left} none is = rw none (items_begin {texts = [] ∷ left} is)

  -- .. or where a call made room for it
  pub holds_more : {T E : Type 0} {a b : W} {x : T} {before held : List ℕ} {left : List (List ℕ)} → HoldsText {E = E} o a b (Ok x) held before → PutsPart o a b (before ++ joined left) (held ∷ left)
  unfolding joined
  holds_more {held = held} {left = left} h = record {
    bytes = record {
      done = h.bytes.done;
      wrote = h.bytes.wrote;
      rest = sym (append_assoc h.bytes.done held (joined left)) ∙ ap (λ l. l ++ joined left) (ap (λ l. h.bytes.done ++ l) (sym (append-nil held)) ∙ h.bytes.rest);
    };
    failed = h.failed;
  }

  pub holds_more_fails : {T U E F : Type 0} {a b : W} {e : E} {r : Result U F} {before held other : List ℕ} (text : List ℕ)
      → IsErr r → HoldsText {T = T} o a b (Err e) held before → HoldsText o a b r other (before ++ text)
  holds_more_fails {r = Ok x} text err h = absurd (cc)
  holds_more_fails {r = Err f} text err h = record { bytes = wrote_prefix_more _ _ _ _ h.bytes; failed = h.failed }

  -- the first of the texts that are left join what is held
  pub holds_first : {a b : W} {whole held after : List ℕ} (first : List (List ℕ)) {rest : List (List ℕ)} → after ≡ held ++ joined first
      → PutsPart o a b whole (held ∷ (first ++ rest)) → PutsPart o a b whole (after ∷ rest)
  unfolding joined
  holds_first {held = held} first {rest = rest} is h = record {
    bytes = record {
      done = h.bytes.done;
      wrote = h.bytes.wrote;
      rest = ap (λ l. h.bytes.done ++ l) (ap (λ l. l ++ joined rest) is ∙ append_assoc held (joined first) (joined rest) ∙ ap (λ l. held ++ l) (sym (joined_append first rest)))
          ∙ h.bytes.rest;
    };
    failed = h.failed;
  }

  -- .. or all of them do
  pub holds_texts : {T E : Type 0} {a b : W} {y : T} {whole held after : List ℕ} {texts : List (List ℕ)} → after ≡ held ++ joined texts
      → PutsPart o a b whole (held ∷ texts) → HoldsText {E = E} o a b (Ok y) after whole
  unfolding joined
  holds_texts {after = after} is h = record {
    bytes = record { done = h.bytes.done; wrote = h.bytes.wrote; rest = ap (λ l. h.bytes.done ++ l) (append-nil after ∙ is) ∙ h.bytes.rest };
    failed = h.failed;
  }

  -- a text with which those that are left begin joins what is held
  pub holds_part : {T E : Type 0} {a b c : W} {x : T} {whole held next : List ℕ} (text : List ℕ) {before after : List (List ℕ)} → joined before ≡ text ++ joined after
      → PutsPart o a b whole (held ∷ before) → HoldsText {E = E} o b c (Ok x) next (held ++ text) → PutsPart o a c whole (next ∷ after)
  holds_part text is h joins = record { bytes = part_held _ _ _ _ _ _ _ _ _ is h.bytes joins.bytes; failed = joins.failed ∙ h.failed }

  pub holds_part_fails : {T U E F : Type 0} {a b c : W} {e : E} {r : Result U F} {whole held next other : List ℕ} (text : List ℕ) {before : List (List ℕ)} (after : List (List ℕ))
      → IsErr r → joined before ≡ text ++ joined after
      → PutsPart o a b whole (held ∷ before) → HoldsText {T = T} o b c (Err e) next (held ++ text) → HoldsText o a c r other whole
  holds_part_fails {r = Ok x} text after err is h joins = absurd (cc)
  holds_part_fails {r = Err f} text after err is h joins = record { bytes = part_fails _ _ _ _ _ _ _ _ is h.bytes joins.bytes; failed = joins.failed }

  -- the first text that is left joins what is held
  pub holds_next : {T E : Type 0} {a b c : W} {x : T} {whole held text next : List ℕ} {left : List (List ℕ)}
      → PutsPart o a b whole (held ∷ text ∷ left) → HoldsText {E = E} o b c (Ok x) next (held ++ text) → PutsPart o a c whole (next ∷ left)
  unfolding joined
  holds_next {text = text} h joins = holds_part text refl h joins

  pub holds_fails : {T U E F : Type 0} {a b c : W} {e : E} {r : Result U F} {whole held text next other : List ℕ} {left : List (List ℕ)}
      → IsErr r → PutsPart o a b whole (held ∷ text ∷ left) → HoldsText {T = T} o b c (Err e) next (held ++ text) → HoldsText o a c r other whole
  unfolding joined
  holds_fails {text = text} {left = left} err h joins = holds_part_fails text left err refl h joins

  -- the last text joins what is held
  pub holds_last : {T E : Type 0} {a b c : W} {r : Result T E} {whole held text next : List ℕ}
      → PutsPart o a b whole (held ∷ text ∷ []) → HoldsText o b c r next (held ++ text) → HoldsText o a c r next whole
  unfolding joined
  holds_last {r = Ok x} h joins = record { bytes = part_held _ _ _ _ _ _ _ _ _ refl h.bytes joins.bytes; failed = joins.failed ∙ h.failed }
  holds_last {r = Err e} {text = text} h joins = record { bytes = part_fails _ _ _ _ _ text (text ∷ []) [] refl h.bytes joins.bytes; failed = joins.failed }

  -- a text joins what is held, after a call that made room for it
  pub holds_then : {T U E F : Type 0} {a b c : W} {x : T} {r : Result U F} {before held next : List ℕ} (text : List ℕ) → HoldsText {E = E} o a b (Ok x) held before → HoldsText o b c r next (held ++ text)
      → HoldsText o a c r next (before ++ text)
  unfolding joined
  holds_then {a = a} {c = c} {r = r} {before = before} {next = next} text begins joins =
      subst (λ l. HoldsText o a c r next (before ++ l)) (append-nil text) (holds_last (holds_more {left = text ∷ []} begins) joins)

  -- .. or that is not written
  pub held_fails : {T U E F : Type 0} {a b c : W} {e : E} {r : Result U F} {whole held text next : List ℕ} {left : List (List ℕ)}
      → IsErr r → PutsPart o a b whole (held ∷ text ∷ left) → HoldsText {T = T} o b c (Err e) next (held ++ text) → PutsText o a c r whole
  unfolding joined
  held_fails {text = text} {left = left} err h joins = puts_fault err (part_fails _ _ _ _ _ text (text ∷ left) left refl h.bytes joins.bytes) joins.failed

  -- the last text joins what is held, and that is written
  pub held_puts : {T E : Type 0} {a b c : W} {r : Result T E} {whole held text : List ℕ}
      → PutsPart o a b whole (held ∷ text ∷ []) → PutsText o b c r (held ++ text) → PutsText o a c r whole
  unfolding joined
  held_puts {r = r} {held = held} {text = text} h put = puts_same (ap (λ l. h.bytes.done ++ (held ++ l)) (sym (append-nil text)) ∙ h.bytes.rest) (puts_after h.bytes.wrote h.failed put)

  -- a loop that puts a text for each item
  module _ {X : Type 0} (f : X → List ℕ) {a b : W} {whole held : List ℕ} {items : List X} where
    pub holds_item : {c : W} {next : List ℕ} {T E : Type 0} {y : T} {rest : List X} {x : X} → items ≡ x ∷ rest → PutsPart o a b whole (held ∷ map f items) → HoldsText {E = E} o b c (Ok y) next (held ++ f x)
        → PutsPart o a c whole (next ∷ map f rest)
    holds_item is h joins = holds_next (subst (λ xs. PutsPart o a b whole (held ∷ map f xs)) is h) joins

    pub holds_item_fails : {c : W} {next : List ℕ} {T U E F : Type 0} {e : E} {r : Result U F} {other : List ℕ} {rest : List X} {x : X} → IsErr r → items ≡ x ∷ rest → PutsPart o a b whole (held ∷ map f items)
        → HoldsText {T = T} o b c (Err e) next (held ++ f x) → HoldsText o a c r other whole
    holds_item_fails err is h joins = holds_fails err (subst (λ xs. PutsPart o a b whole (held ∷ map f xs)) is h) joins

    pub holds_items : {T E : Type 0} {y : T} → items ≡ [] → PutsPart o a b whole (held ∷ map f items) → HoldsText {E = E} o a b (Ok y) held whole
    holds_items is h = record { bytes = subst (λ xs. Writing (o.contents a) (o.contents b) whole (held ∷ map f xs)) is h.bytes; failed = h.failed }

    -- what is held at the end is written
    pub held_items : {c : W} {T E : Type 0} {r : Result T E} → items ≡ [] → PutsPart o a b whole (held ∷ map f items) → PutsText o b c r held → PutsText o a c r whole
    unfolding joined
    held_items is h put =
        let left = subst (λ xs. Writing (o.contents a) (o.contents b) whole (held ∷ map f xs)) is h.bytes in
        puts_same (ap (λ l. left.done ++ l) (sym (append-nil held)) ∙ left.rest) (puts_after left.wrote h.failed put)

    pub held_item_fails : {c : W} {next : List ℕ} {T U E F : Type 0} {e : E} {r : Result U F} {rest : List X} {x : X} → IsErr r → items ≡ x ∷ rest → PutsPart o a b whole (held ∷ map f items)
        → HoldsText {T = T} o b c (Err e) next (held ++ f x) → PutsText o a c r whole
    held_item_fails err is h joins = held_fails err (subst (λ xs. PutsPart o a b whole (held ∷ map f xs)) is h) joins

  -- a line whose texts join what is held, with one that may have been written in part
  pub line_kept : {T U V E F G : Type 0} {a b c : W} {x : T} {y : U} {z : V} (first rest : List (List ℕ)) (text : List ℕ) {before begun start held line : List ℕ}
      → HoldsText {E = E} o a b (Ok x) begun before → start ≡ begun ++ joined first → HoldsText {E = F} o b c (Ok y) held (start ++ text) → line ≡ held ++ joined rest
      → HoldsText {E = G} o a c (Ok z) line (before ++ joined (first ++ text ∷ rest))
  line_kept first rest text begins is named all = holds_texts all (holds_next (holds_first first is (holds_more {left = first ++ text ∷ rest} begins)) named)

  -- .. and where that fails
  pub line_lost : {T U V E F G : Type 0} {a b c : W} {x : T} {e : F} {r : Result V G} (first rest : List (List ℕ)) (text : List ℕ) {before begun start held other : List ℕ}
      → IsErr r → HoldsText {E = E} o a b (Ok x) begun before → start ≡ begun ++ joined first → HoldsText {T = U} o b c (Err e) held (start ++ text)
      → HoldsText o a c r other (before ++ joined (first ++ text ∷ rest))
  line_lost first rest text err begins is named = holds_fails err (holds_first first is (holds_more {left = first ++ text ∷ rest} begins)) named

  -- the line from a text that may have been written in part: those after it join what is held, and that is written
  line_ends : {T U E F : Type 0} {a b c : W} {x : T} {r : Result U F} (before held line : List ℕ) (rest : List (List ℕ))
      → HoldsText {E = E} o a b (Ok x) held before → line ≡ held ++ joined rest → PutsText o b c r line → PutsText o a c r (before ++ joined rest)
  unfolding joined
  line_ends before held line rest h is put =
      let whole : h.bytes.done ++ line ≡ before ++ joined rest =
      ap (λ l. h.bytes.done ++ l) is ∙ sym (append_assoc h.bytes.done held (joined rest)) ∙ ap (λ l. l ++ joined rest) (ap (λ l. h.bytes.done ++ l) (sym (append-nil held)) ∙ h.bytes.rest) in
      puts_same whole (puts_after h.bytes.wrote h.failed put)

  -- the line whose text was put by parts that may be written
  pub line_written : {T U E F : Type 0} {a b c : W} {x : T} {r : Result U F} (first rest : List (List ℕ)) (text : List ℕ) {start held line : List ℕ} → start ≡ joined first
      → HoldsText {E = E} o a b (Ok x) held (start ++ text) → line ≡ held ++ joined rest → PutsText o b c r line → PutsText o a c r (joined (first ++ text ∷ rest))
  line_written first rest text {start = start} {held = held} {line = line} is h put wrote =
      puts_same (after_others first rest start text is) (line_ends (start ++ text) held line rest h put wrote)

  -- .. and where that fails
  pub line_fails : {T U E F : Type 0} {a b : W} {e : E} {r : Result U F} (first rest : List (List ℕ)) (text : List ℕ) {start held : List ℕ} → IsErr r → start ≡ joined first
      → HoldsText {T = T} o a b (Err e) held (start ++ text) → PutsText o a b r (joined (first ++ text ∷ rest))
  line_fails first rest text {start = start} err is h =
      puts_same (after_others first rest start text is) (puts_fault err (wrote_prefix_more _ _ (start ++ text) (joined rest) h.bytes) h.failed)
