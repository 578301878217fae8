-- What the first segment with an address has there, in an image that breaks no rule.
use Rattle.std.proofs.Common.{◌≡◌, ◌≢◌, ◌∙◌, ◌⊎◌, ℕ, ◌+◌, ◌-◌, ◌==◌, ◌≤◌, ◌<◌, List, [], ◌∷◌, length, leb, map, drop, take, Bool, true, false, cond, Option, Some, None, Contains, inl, inr, refl, sym, ap, subst, arith}
use Rattle.std.specs.Prelude.{find, MatchOption}
use Rattle.std.proofs.lemmas.Bool.{true≢false, cases_Bool, eqb-true, and_parts, and_from, leb-true, ltb-true, le-leb, lt-ltb, le-ltb, cases_lt}
use Rattle.std.proofs.lemmas.List.{length-take, length-drop, drop-take, drop-drop, drop_all}
use Rattle.std.proofs.lemmas.List.Elements.{Contains-append_left, Contains-append_right, Contains-append_cases, Contains-push, Contains-push_cases}
use Rattle.macho_fields.specs.Field.{part}
use Rattle.macho_spans.specs.Span.{Covers}
use Rattle.macho_fields.specs.Image.{commands_of}
use Rattle.macho_fields.specs.Layers.{NothingBreaks}
use Rattle.macho_fields.specs.Loader.{IsSoundImage}
use Rattle.macho_fields.specs.Loader.Reads.{in_segment}
use Rattle.macho_fields.specs.Rules.{BreaksImage}
use Rattle.macho_fields.specs.Segment.{IsAtAddress, Supplies, source, segments_of, vmaddr, fileoff, filesize}
use Rattle.macho_rules.proofs.Verdicts.{unbroken_image_sound}
use Rattle.macho_image.specs.Segment.{SegmentView, segment_at}
use Rattle.macho_rules.proofs.Searches.{any_of}
use Rattle.macho_rows.specs.Address.{supplies, supplier, bytes_from, HasSource, IsSourceAt}
use Rattle.macho_rows.specs.Segments.{segment_bytes}
use Rattle.macho_rows.specs.Spans.{part_or_none, span_at, span_of}
use Rattle.macho_rows.specs.declared.address.Source.{Source}
use Rattle.macho_rows.specs.declared.address.Source.TheVariants as seen
use Rattle.macho_rows.specs.declared.span.KesvuotSpan.{KesvuotSpan}

-- the first that passes, or none
module _ (image : List ℕ) (address : ℕ) where
  cases : (b : Bool) (a s : SegmentView) (f : Option SegmentView) → cond b (Some a) f ≡ Some s → ((b ≡ true) × (a ≡ s)) ⊎ (f ≡ Some s)
  cases true a s f is = inl (refl, cc)
  cases false a s f is = inr is

  missed : (b : Bool) (a : SegmentView) (f : Option SegmentView) → cond b (Some a) f ≡ None → (b ≡ false) × (f ≡ None)
  missed true a f is = absurd (cc)
  missed false a f is = (refl, is)

  pub found_in : (xs : List ℕ) (s : SegmentView) → find (supplies address) (map (segment_at image) xs) ≡ Some s → (p : ℕ) × Contains xs p × (segment_at image p ≡ s) × (supplies address (segment_at image p) ≡ true)
  found_in [] s is = absurd (cc)
  found_in (x ∷ xs) s is = elim (cases (supplies address (segment_at image x)) (segment_at image x) s (find (supplies address) (map (segment_at image) xs)) is) [
    | inl (here, same) ↦ (x, Contains-append_left (x ∷ []) xs x (Contains-push [] x), same, here)
    | inr rest ↦ let (p, has, same, here) = found_in xs s rest in (p, Contains-append_right (x ∷ []) xs p has, same, here)
  ]

  pub none_in : (xs : List ℕ) → find (supplies address) (map (segment_at image) xs) ≡ None → (p : ℕ) → Contains xs p → supplies address (segment_at image p) ≡ false
  none_in [] is p (k, less, here) = absurd (omega arith)
  none_in (x ∷ xs) is p has =
      let (no_first, rest) = missed (supplies address (segment_at image x)) (segment_at image x) (find (supplies address) (map (segment_at image) xs)) is in
      elim (Contains-append_cases (x ∷ []) xs p has) [
        | inl first ↦ elim (Contains-push_cases [] x p first) [ inl (k, less, here) ↦ absurd (omega arith) | inr same ↦ subst (λ q. supplies address (segment_at image q) ≡ false) same no_first ]
        | inr later ↦ none_in xs rest p later
      ]

  pub supplied : (p : ℕ) → supplies address (segment_at image p) ≡ true → Supplies image p address
  supplied p is = let (low, high) = and_parts _ _ is in (leb-true _ _ low, ltb-true _ _ high)

  pub supplying : (p : ℕ) → Supplies image p address → supplies address (segment_at image p) ≡ true
  supplying p (low, high) = and_from _ _ (le-leb _ _ low) (lt-ltb _ _ high)

  pub source_none : find (supplies address) (map (segment_at image) (segments_of image (commands_of image))) ≡ None → IsAtAddress image address None
  source_none is = (λ q has sup. let passed : supplies address (segment_at image q) ≡ true = supplying q sup in let missing = none_in (segments_of image (commands_of image)) is q has in absurd (true≢false (sym passed ∙ missing)), λ none. refl)

  pub source_found : IsSoundImage image (commands_of image) → (p : ℕ) → Contains (segments_of image (commands_of image)) p → Supplies image p address → IsAtAddress image address (Some (source image p address))
  source_found sound p has sup = (λ q other supplies_too. ap (λ r. Some (source image r address)) (sound.one_segment p q address has other sup supplies_too), λ none. absurd (none p has sup))

-- the bytes from the one at the address on
module _ (image : List ℕ) (f n past : ℕ) where
  pub rest_of : f + n ≤ length image → past < n → drop past (part f n image) ≡ part (f + past) (n - past) image
  rest_of fits less =
      let sum : n ≡ past + (n - past) = omega (arith, less) in
      ap (λ m. drop past (take m (drop f image))) sum ∙ drop-take past (n - past) (drop f image) ∙ ap (take (n - past)) (drop-drop past f image)

  left_of : f + n ≤ length image → length (drop past (part f n image)) ≡ n - past
  left_of fits = omega (arith, length-drop past (part f n image), length-take n (drop f image), length-drop f image)

  pub some_left : (bytes : List ℕ) → bytes ≡ drop past (part_or_none f n image) → bytes ≢ [] → (past < n) × (bytes ≡ part (f + past) (length bytes) image)
  some_left bytes is some = by (leb (f + n) (length image)) refl
    where
      by : (b : Bool) → leb (f + n) (length image) ≡ b → (past < n) × (bytes ≡ part (f + past) (length bytes) image)
      by false over = absurd (some (is ∙ rw over (drop_all past [] (omega arith))))
      by true under =
          let fits = leb-true (f + n) (length image) under in
          let whole : bytes ≡ drop past (part f n image) = is ∙ rw under refl in
          elim (cases_lt past n) [
            | inl less ↦ let many : length bytes ≡ n - past = ap length whole ∙ left_of fits in (less, whole ∙ rest_of fits less ∙ ap (λ m. part (f + past) m image) (sym many))
            | inr most ↦ absurd (some (whole ∙ drop_all past (part f n image) (omega (arith, length-take n (drop f image)))))
          ]

  pub none_left : (bytes : List ℕ) → bytes ≡ drop past (part_or_none f n image) → bytes ≡ [] → f + n ≤ length image → n ≤ past
  none_left bytes is none fits =
      let whole : bytes ≡ drop past (part f n image) = is ∙ rw (le-leb (f + n) (length image) fits) refl in
      omega (arith, left_of fits, ap length whole, ap length none)

-- what is left of the bytes of the segment begins in the image
pub starts : (image : List ℕ) (address past : ℕ) (s : SegmentView) → supplier image address ≡ Some s → drop past (segment_bytes s.image s.place) ≢ [] → fileoff s.image s.place + past < length image
starts image address past s is some =
    let (p, has, same, passed) = found_in image address (segments_of image (commands_of image)) s is in
    subst (λ (t : SegmentView). drop past (segment_bytes t.image t.place) ≢ [] → fileoff t.image t.place + past < length image) same (here p) some
  where
    at : (f n : ℕ) → drop past (part_or_none f n image) ≢ [] → f + past < length image
    at f n rest = elim (cases_Bool (leb (f + n) (length image))) [
      | inl under ↦
          let fits = leb-true (f + n) (length image) under in
          let (less, same) = some_left image f n past (drop past (part_or_none f n image)) refl rest in omega (arith, fits, less)
      | inr over ↦ absurd (rest (rw over (drop_all past [] (omega arith))))
    ]

    here : (p : ℕ) → drop past (segment_bytes image p) ≢ [] → fileoff image p + past < length image
    here p rest = at (fileoff image p) (filesize image p) rest

none_of : (xs : List ℕ) → length xs ≡ 0 → xs ≡ []
none_of [] none = refl
none_of (x ∷ xs) none = absurd (omega arith)

-- where these bytes lie, at least one
found_span : (place from : ℕ) (bytes image : List ℕ) (span : KesvuotSpan) → span ≡ span_of (place + from) bytes → bytes ≢ [] → bytes ≡ part from (length bytes) image
    → (span.offset ≡ place + from) × (0 < span.size) × (from + span.size ≤ length image)
found_span place from bytes image span is some rest = elim (cases_Bool (length bytes == 0)) [
  | inl none ↦ absurd (some (none_of bytes (eqb-true (length bytes) 0 none)))
  | inr there ↦
      let here : span ≡ span_at (place + from) (length bytes) = is ∙ rw there refl in
      let offset : span.offset ≡ place + from = ap (λ (s : KesvuotSpan). s.offset) here in
      let size : span.size ≡ length bytes = ap (λ (s : KesvuotSpan). s.size) here in
      let more : 0 < length bytes = elim (cases_lt 0 (length bytes)) [ inl less ↦ less | inr most ↦ absurd (some (none_of bytes (omega arith))) ] in
      (offset, omega (arith, size), omega (arith, size, ap length rest, length-take (length bytes) (drop from image), length-drop from image))
]

pub last_inside : (image : List ℕ) (p : ℕ) → IsSoundImage image (commands_of image) → Contains (segments_of image (commands_of image)) p → 0 < filesize image p → fileoff image p + filesize image p ≤ length image
last_inside image p sound has some =
    let place : ℕ = fileoff image p + (filesize image p - 1) in
    let covers : Covers (fileoff image p) (filesize image p) place = (omega arith, omega arith) in
    let inside = sound.reads place (in_segment (any_of (λ s. Covers (fileoff image s) (filesize image s) place) (segments_of image (commands_of image)) p has covers)) in omega arith

pub told : (image : List ℕ) (place address : ℕ) (found : Option Source) → NothingBreaks (BreaksImage image None) → HasSource image place address found → IsSourceAt image place address found
told image place address found unbroken answer = by (supplier image address) refl answer
  where
    sound : IsSoundImage image (commands_of image)
    sound = unbroken_image_sound image unbroken

    by : (o : Option SegmentView) → supplier image address ≡ o
        → MatchOption o (found ≡ None) (λ s. ((found ≡ Some (seen.Bytes (span_of (place + (fileoff s.image s.place + (address - vmaddr s.image s.place))) (bytes_from address s)))) × (bytes_from address s ≢ [])) ⊎ ((found ≡ Some seen.Zero) × (bytes_from address s ≡ [])))
        → IsSourceAt image place address found
    by None is none = subst (IsSourceAt image place address) (sym none) (source_none image address is)
    by (Some s) is answers =
        let (p, has, same, passed) = found_in image address (segments_of image (commands_of image)) s is in
        let sup = supplied image address p passed in
        let at = source_found image address sound p has sup in
        let bytes : List ℕ = bytes_from address s in
        let here : bytes ≡ drop (address - vmaddr image p) (part_or_none (fileoff image p) (filesize image p) image) = ap (bytes_from address) (sym same) in
        let begins : fileoff s.image s.place + (address - vmaddr s.image s.place) ≡ fileoff image p + (address - vmaddr image p) = ap (λ (t : SegmentView). fileoff t.image t.place + (address - vmaddr t.image t.place)) (sym same) in
        elim answers [
          | inl (is_found, some) ↦
              let (less, rest) = some_left image (fileoff image p) (filesize image p) (address - vmaddr image p) bytes here some in
              let span : KesvuotSpan = span_of (place + (fileoff s.image s.place + (address - vmaddr s.image s.place))) bytes in
              let (offset, more, inside) = found_span place (fileoff image p + (address - vmaddr image p)) bytes image span (ap (λ from. span_of (place + from) bytes) begins) some rest in
              subst (IsSourceAt image place address) (sym is_found) (fileoff image p + (address - vmaddr image p), subst (λ g. IsAtAddress image address (Some g)) (rw (lt-ltb _ _ less) refl) at, offset, more, inside)
          | inr (is_zero, empty) ↦
              let past : filesize image p ≤ address - vmaddr image p = elim (cases_lt 0 (filesize image p)) [
                | inl some ↦ none_left image (fileoff image p) (filesize image p) (address - vmaddr image p) bytes here empty (last_inside image p sound has some)
                | inr most ↦ omega arith
              ] in
              subst (IsSourceAt image place address) (sym is_zero) (subst (λ g. IsAtAddress image address (Some g)) (rw (le-ltb _ _ past) refl) at)
        ]

-- what the code finds at the address is the source there
module _ (image : List ℕ) (place address : ℕ) (found : Option Source) where
  pub has_none : supplier image address ≡ None → found ≡ None → HasSource image place address found
  has_none none is = rw none is

  pub has_zero : (s : SegmentView) → supplier image address ≡ Some s → found ≡ Some seen.Zero → length (bytes_from address s) ≡ 0 → HasSource image place address found
  has_zero s first is empty = rw first (inr (is, none_of (bytes_from address s) empty))

  pub has_bytes : (s : SegmentView) → supplier image address ≡ Some s → found ≡ Some (seen.Bytes (span_of (place + (fileoff s.image s.place + (address - vmaddr s.image s.place))) (bytes_from address s))) → length (bytes_from address s) ≢ 0
      → HasSource image place address found
  has_bytes s first is some = rw first (inl (is, λ empty. some (ap length empty)))
