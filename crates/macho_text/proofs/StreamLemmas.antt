-- Texts that are written one after the other.
use Rattle.std.proofs.Common.{◌≡◌, ◌≢◌, ℕ, ◌+◌, ◌-◌, ◌<◌, ◌≤◌, arith, Result, Ok, Err, List, [], ◌∷◌, ◌++◌, Option, Some, None, OnErr}
use Rattle.std.proofs.Common.{length, take, drop, refl, sym, ap, ◌∙◌, append_assoc, append-nil, take-append-drop, subst}
use Rattle.std.proofs.lemmas.Grind.{common_steps}
use Rattle.std.proofs.lemmas.List.{take_all}
use Rattle.std.proofs.Math.Seq.{take-add, take-append-add, take-append_seam}
use Rattle.std.proofs.KnownBytes.{Appends-nil, Appends-trans}
use Rattle.std.specs.Io.KnownBytes.{Keeps}
use Rattle.macho_text.specs.Stream.{Wrote, WrotePrefix, joined}
use Rattle.macho_text.specs.Writer.{Writing}

pub wrote_nothing : (a : Option (List ℕ)) → Wrote a a []
wrote_nothing a = record { appended = Appends-nil a }

pub wrote_then : (a b c : Option (List ℕ)) (xs ys : List ℕ) → Wrote a b xs → Wrote b c ys → Wrote a c (xs ++ ys)
wrote_then a b c xs ys first second =
    record { appended = Appends-trans a b c xs ys first.appended second.appended }

pub wrote_prefix_then : (a b c : Option (List ℕ)) (xs ys : List ℕ) → Wrote a b xs → WrotePrefix b c ys → WrotePrefix a c (xs ++ ys)
wrote_prefix_then a b c xs ys first second = record {
  count = length xs + second.count;
  appended = rw (take-append-add xs ys second.count) (Appends-trans a b c xs _ first.appended second.appended);
}

-- the front of a list is the front of what it goes on to
take_front : (n : ℕ) (xs ys : List ℕ) → take (length (take n xs)) (xs ++ ys) ≡ take n xs
take_front n xs ys =
    let front = take n xs in
    let parts : front ++ (drop n xs ++ ys) ≡ xs ++ ys = sym (append_assoc front (drop n xs) ys) ∙ ap (λ l. l ++ ys) (take-append-drop n xs) in
    ap (take (length front)) (sym parts) ∙ take-append_seam front (drop n xs ++ ys)

pub wrote_prefix_more : (a b : Option (List ℕ)) (xs ys : List ℕ) → WrotePrefix a b xs → WrotePrefix a b (xs ++ ys)
wrote_prefix_more a b xs ys h = record {
  count = length (take h.count xs);
  appended = rw (take_front h.count xs ys) h.appended;
}

-- `&text[i..]`, with the length of the slice
pub rest_is : (n i : ℕ) (text : List ℕ) → length text ≡ n → take (n - i) (drop i text) ≡ drop i text
rest_is n i text e = grind (arith, common_steps)

-- what a loop has written of a text, where it has come to the end
pub wrote_all : (a b : Option (List ℕ)) (i : ℕ) (text : List ℕ) → length text ≤ i → Wrote a b (take i text) → Wrote a b text
wrote_all a b i text end wrote = subst (Wrote a b) (take_all i text end) wrote

pub some_bytes : (text : List ℕ) → text ≢ [] → 0 < length text
some_bytes [] some = absurd (some refl)
some_bytes (byte ∷ rest) some = omega arith

-- what a loop has written of a text, and then a part of the rest
pub wrote_next : (a b c : Option (List ℕ)) (i n : ℕ) (text : List ℕ) → Wrote a b (take i text)
    → Wrote b c (take n (take (length text - i) (drop i text))) → Wrote a c (take (i + n) text)
wrote_next a b c i n text first second =
    rw (take-add i n text) (wrote_then a b c _ _ first (rw (rest_is (length text) i text refl) at second))

pub wrote_next_prefix : (a b c : Option (List ℕ)) (i : ℕ) (text : List ℕ) → Wrote a b (take i text)
    → WrotePrefix b c (take (length text - i) (drop i text)) → WrotePrefix a c text
wrote_next_prefix a b c i text first second =
    subst (WrotePrefix a c) (take-append-drop i text) (wrote_prefix_then a b c _ _ first (rw (rest_is (length text) i text refl) at second))

-- a fault that wrote nothing
pub wrote_prefix_kept : (a b : Option (List ℕ)) (text : List ℕ) → Keeps a b → WrotePrefix a b text
wrote_prefix_kept None b text h = record { count = 0; appended = tt }
wrote_prefix_kept (Some x) None text h = absurd h
wrote_prefix_kept (Some x) (Some y) text h = record { count = 0; appended = h ∙ sym (append-nil x) }

pub fault_kept : {T E : Type 0} (a b : Option (List ℕ)) (r : Result T E) (text : List ℕ) → OnErr r (Keeps a b) → OnErr r (WrotePrefix a b text)
fault_kept a b (Ok x) text h = tt
fault_kept a b (Err e) text h = wrote_prefix_kept a b text h

-- a text, and then those after it
pub wrote_next_text : (a b c : Option (List ℕ)) (text : List ℕ) (rest : List (List ℕ)) → Wrote a b text → Wrote b c (joined rest) → Wrote a c (joined (text ∷ rest))
unfolding joined
wrote_next_text a b c text rest first second = wrote_then a b c text (joined rest) first second

-- a text, and then a prefix of the texts after it
pub wrote_prefix_next_text : (a b c : Option (List ℕ)) (text : List ℕ) (rest : List (List ℕ)) → Wrote a b text → WrotePrefix b c (joined rest) → WrotePrefix a c (joined (text ∷ rest))
unfolding joined
wrote_prefix_next_text a b c text rest first second = wrote_prefix_then a b c text (joined rest) first second

-- a prefix of the first text
pub wrote_prefix_first_text : (a b : Option (List ℕ)) (text : List ℕ) (rest : List (List ℕ)) → WrotePrefix a b text → WrotePrefix a b (joined (text ∷ rest))
unfolding joined
wrote_prefix_first_text a b text rest h = wrote_prefix_more a b text (joined rest) h

-- What a loop has written of a text.
pub writing_begins : (a : Option (List ℕ)) (texts : List (List ℕ)) → Writing a a (joined texts) texts
writing_begins a texts = record { done = []; wrote = wrote_nothing a; rest = refl }

-- a turn of the loop
pub writing_next : (a b c : Option (List ℕ)) (whole text : List ℕ) (left : List (List ℕ))
    → Writing a b whole (text ∷ left) → Wrote b c text → Writing a c whole left
unfolding joined
writing_next a b c whole text left h wrote = record {
  done = h.done ++ text;
  wrote = wrote_then a b c h.done text h.wrote wrote;
  rest = append_assoc h.done text (joined left) ∙ h.rest;
}

-- a turn that fails
pub writing_fails : (a b c : Option (List ℕ)) (whole text : List ℕ) (left : List (List ℕ))
    → Writing a b whole (text ∷ left) → WrotePrefix b c text → WrotePrefix a c whole
unfolding joined
writing_fails a b c whole text left h wrote =
    subst (WrotePrefix a c) h.rest (wrote_prefix_then a b c h.done (text ++ joined left) h.wrote (wrote_prefix_more b c text (joined left) wrote))

-- the end of the loop
pub writing_ends : (a b : Option (List ℕ)) (whole : List ℕ) → Writing a b whole [] → Wrote a b whole
unfolding joined
writing_ends a b whole h = subst (Wrote a b) (sym (append-nil h.done) ∙ h.rest) h.wrote
