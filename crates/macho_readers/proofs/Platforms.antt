-- The platforms of the commands of an image, as spans, and which of them is the first that an earlier command has.
use Rattle.std.proofs.Common.{◌≡◌, ℕ, zero, suc, ◌+◌, ◌≤◌, ◌<◌, List, [], ◌∷◌, ◌++◌, map, length, get_or, slice_get, Any, Contains, Option, None, Some, Result, Ok, Err, OnErr, refl, sym, ap, ◌∙◌, subst, arith, inl, inr, le_refl}
use Rattle.std.specs.Prelude.{IsSomeAnd, is_some, true}
use Rattle.std.specs.Option.{option_map, option_map_or}
use Rattle.std.specs.Iterator.{SkipsThenYields}
use Rattle.std.proofs.lemmas.Bool.{cases_order}
use Rattle.std.proofs.lemmas.Iterator.Consumers.{nth_from_yields_List}
use Rattle.std.proofs.lemmas.List.{get_or-map, length-map, map_push}
use Rattle.std.proofs.lemmas.List.Elements.{All-contains, Contains-get_or}
use Rattle.std.proofs.lemmas.Option.{same_Some, slice_get-get_or, slice_get-map}
use Rattle.macho_fields.specs.FirstPlace.{IsLeastPlace}
use Rattle.macho_fields.specs.Image.{command_size, commands_of, Follow}
use Rattle.macho_fields.proofs.Chains.{places_above}
use Rattle.macho_image.specs.Command.{CommandView, command_of, command_at}
use Rattle.macho_image.specs.Opened.{IsOpened}
use Rattle.macho_image.specs.declared.command.Command.{Command}
use Rattle.macho_rules.proofs.Judged.{opened_commands}
use Rattle.macho_rules.proofs.Searches.{Ordered, any_of, one_of, ordered_at}
use Rattle.macho_spans.specs.Overlap.{span_at, SharesEarlier, IsLeastSharing}
use Rattle.macho_spans.specs.Span.{Shares}
use Rattle.macho_spans.specs.declared.span.Span.{Span}
use Rattle.macho_tables.proofs.Found.{Steps, commands_yield}
use Rattle.macho_readers.specs.Commands.{platform_of, platform_span, RepeatsPlatform, HasPlatform, FollowsPlatform, HasSeveralPlatforms}

abbrev no_span : Span
no_span = record { start = 0; len = 0 }

abbrev span_of : Option ℕ → Span
span_of platform = option_map_or (λ p. record { start = p; len = 1 }) platform no_span

-- two platforms share a place exactly if they are one

shares_same : (o q : Option ℕ) → Shares (span_of o) (span_of q) → (p : ℕ) × (o ≡ Some p) × (q ≡ Some p)
shares_same None q (x, (low, high), other) = absurd (omega (arith, high))
shares_same (Some p) None (x, in_p, (low, high)) = absurd (omega (arith, high))
shares_same (Some p) (Some q) (x, (low_p, high_p), (low_q, high_q)) = let same : q ≡ p = omega (arith, low_p, high_p, low_q, high_q) in (p, refl, ap Some same)

same_shares : (o q : Option ℕ) (p : ℕ) → o ≡ Some p → q ≡ Some p → Shares (span_of o) (span_of q)
same_shares o q p is_o is_q =
    subst (λ (a : Option ℕ). Shares (span_of a) (span_of q)) (sym is_o)
    (subst (λ (b : Option ℕ). Shares (span_of (Some p)) (span_of b)) (sym is_q) (p, (le_refl p, omega arith), (le_refl p, omega arith)))

some_and : (o : Option ℕ) (P : ℕ → Type 0) → IsSomeAnd o P → (p : ℕ) × (o ≡ Some p) × P p
some_and None P wrong = absurd wrong
some_and (Some p) P here = (p, refl, here)

get_same : (xs : List ℕ) (k d e : ℕ) → k < length xs → get_or xs k d ≡ get_or xs k e
get_same [] k d e less = absurd (omega arith)
get_same (x ∷ xs) zero d e less = refl
get_same (x ∷ xs) (suc k) d e less = get_same xs k d e (omega (arith, less))

-- each command comes before each later one
pub rises_from : (image : List ℕ) (start : ℕ) (xs : List ℕ) (m : ℕ) → Follow image start xs m → Ordered (λ a b. a < b) xs
rises_from image start [] m chain = tt
rises_from image start (x ∷ xs) m chain = (
  λ y has.
      let above = All-contains (λ place. x + command_size image x ≤ place) xs y (places_above image (x + command_size image x) xs m chain.2) has in
      let least : 8 ≤ command_size image x = chain.1.least in
      omega (arith, above, least),
  rises_from image (x + command_size image x) xs m chain.2,
)

module _ (image : List ℕ) (opened : IsOpened image) where
  abbrev commands : List ℕ
  commands = commands_of image

  abbrev at : ℕ → ℕ
  at k = get_or commands k 0

  abbrev pub spans : List Span
  spans = map (platform_span image) commands

  rises : Ordered (λ a b. a < b) commands
  rises = let (count, next, chain) = opened_commands image opened in rises_from image 32 commands next chain

  earlier_is_less : (i j : ℕ) → i < j → j < length commands → at i < at j
  earlier_is_less i j before less = ordered_at (λ a b. a < b) commands 0 i j rises before less

  span_is : (k : ℕ) → k < length commands → span_at spans k ≡ platform_span image (at k)
  span_is k less = get_or-map (platform_span image) commands k 0 no_span less

  sized : length spans ≡ length commands
  sized = length-map commands (platform_span image)

  less_in : (j : ℕ) → SharesEarlier spans j → j < length commands
  less_in j shares = let less = shares.0 in let size = sized in omega (arith, less, size)

  repeats_at : (j : ℕ) → SharesEarlier spans j → RepeatsPlatform image (at j)
  repeats_at j (within, (i, before, shares)) =
      let size = sized in
      let less : j < length commands = omega (arith, within, size) in
      let (p, is_i, is_j) = shares_same (platform_of image (at i)) (platform_of image (at j))
      (subst (λ (a : Span). Shares a (platform_span image (at j))) (span_is i (omega (arith, before, less))) (subst (λ (b : Span). Shares (span_at spans i) b) (span_is j less) shares)) in
      subst (λ (o : Option ℕ). IsSomeAnd o (λ (q : ℕ). Any (λ earlier. (earlier < at j) × (platform_of image earlier ≡ Some q)) commands)) (sym is_j)
      (any_of (λ earlier. (earlier < at j) × (platform_of image earlier ≡ Some p)) commands (at i) (Contains-get_or commands i 0 (omega (arith, before, less))) (earlier_is_less i j before less, is_i))

  -- a command that repeats a platform is at an index j
  repeated_at : (place : ℕ) → Contains commands place → RepeatsPlatform image place → (j : ℕ) × (at j ≡ place) × (j < length commands) × SharesEarlier spans j
  repeated_at place (j, less, there) repeats =
      let (p, is, any) = some_and (platform_of image place) (λ q. Any (λ earlier. (earlier < place) × (platform_of image earlier ≡ Some q)) commands) repeats in
      let (e, (i, within, at_e), (lower, same)) = one_of (λ earlier. (earlier < place) × (platform_of image earlier ≡ Some p)) commands any in
      let here : at j ≡ place = get_same commands j 0 place less ∙ there in
      let its : at i ≡ e = get_same commands i 0 e within ∙ at_e in
      let before : i < j = elim (cases_order i j) [
        | inl one ↦ absurd (let both : at i ≡ at j = ap at one in omega (arith, both, here, its, lower))
        | inr (inl first) ↦ first
        | inr (inr later) ↦ absurd (let wrong = earlier_is_less j i later within in omega (arith, wrong, here, its, lower))
      ] in
      let shares : Shares (platform_span image (at i)) (platform_span image (at j)) =
      same_shares (platform_of image (at i)) (platform_of image (at j)) p (ap (platform_of image) its ∙ same) (ap (platform_of image) here ∙ is) in
      let size = sized in (
        j,
        here,
        less,
        (omega (arith, less, size), (i, before, subst (λ (a : Span). Shares a (span_at spans j)) (sym (span_is i within)) (subst (λ (b : Span). Shares (platform_span image (at i)) b) (sym (span_is j less)) shares))),
      )

  abbrev pub Repeats : ℕ → Type 0
  Repeats place = Contains commands place × RepeatsPlatform image place

  pub none_repeated : ((j : ℕ) → ¬ SharesEarlier spans j) → IsLeastPlace Repeats None
  none_repeated none place (has, repeats) = let (j, _, _, shares) = repeated_at place has repeats in none j shares

  pub first_repeated : (j : ℕ) → IsLeastSharing spans j → IsLeastPlace Repeats (Some (at j))
  first_repeated j (shares, least) = ((Contains-get_or commands j 0 (less_in j shares), repeats_at j shares), first)
    where
      first : (place : ℕ) → Repeats place → at j ≤ place
      first place (has, repeats) =
          let (k, here, within, others) = repeated_at place has repeats in
          elim (cases_order j k) [
            | inl same ↦ (let both : at j ≡ at k = ap at same in omega (arith, both, here))
            | inr (inl before) ↦ (let lower = earlier_is_less j k before within in omega (arith, lower, here))
            | inr (inr after) ↦ absurd (least k after others)
          ]

  place_is : (found : Option Command) (place : Option ℕ) → option_map command_of found ≡ option_map (command_at image) place → option_map (λ (x : Command). x.place) found ≡ place
  place_is None None same = refl
  place_is None (Some p) same = absurd (cc)
  place_is (Some x) None same = absurd (cc)
  place_is (Some x) (Some p) same = ap Some (ap (λ (v : CommandView). v.place) (same_Some (command_of x) (command_at image p) same))

  -- the command with this index
  pub nth_place : {all : List CommandView} → all ≡ map (command_at image) commands → (found : Option Command) (rest : List CommandView) (j : ℕ) → SkipsThenYields Steps all j found rest
      → IsLeastSharing spans j → option_map (λ (x : Command). x.place) found ≡ Some (at j)
  nth_place {all = all} are found rest j ran sharing =
      place_is found (slice_get commands j) (nth_from_yields_List found rest j ran (commands_yield image opened are) ∙ (ap (λ (these : List CommandView). slice_get these j) are ∙ slice_get-map (command_at image) commands j))
      ∙ slice_get-get_or commands j 0 (less_in j sharing.0)

-- The spans, as they are listed

pub mapped_spans : (image commands : List ℕ) → map (λ (v : CommandView). platform_span image v.place) (map (command_at image) commands) ≡ map (platform_span image) commands
mapped_spans image [] = refl
mapped_spans image (c ∷ cs) = ap (λ (rest : List Span). platform_span image c ∷ rest) (mapped_spans image cs)

pub span_pushed : (image : List ℕ) (seen : List CommandView) (v : CommandView) (old new : List Span) (span : Span) → new ≡ old ++ span ∷ [] → old ≡ map (λ (w : CommandView). platform_span image w.place) seen
    → span ≡ platform_span image v.place → new ≡ map (λ (w : CommandView). platform_span image w.place) (seen ++ v ∷ [])
span_pushed image seen v old new span pushed are is = let more = map_push (λ (w : CommandView). platform_span image w.place) seen v in cc

pub some_commands : (image : List ℕ) (all : List CommandView) → all ≡ map (command_at image) (commands_of image) → (v : CommandView) → Contains all v → 0 < length (commands_of image)
some_commands image all are v (k, less, _) = omega (arith, less, ap length are, length-map (commands_of image) (command_at image))

pub if_err : {T E : Type 0} (answer : Result T E) (P : Type 0) → P → OnErr answer P
if_err (Ok x) P here = tt
if_err (Err e) P here = here

-- Where no two commands have a platform, none repeats one

has_one : (o : Option ℕ) (P : ℕ → Type 0) → IsSomeAnd o P → (is_some o ≡ true) × ((p : ℕ) × (o ≡ Some p) × P p)
has_one None P wrong = absurd wrong
has_one (Some p) P here = (refl, (p, refl, here))

pub alone : (image : List ℕ) → ¬ HasSeveralPlatforms image → IsLeastPlace (λ place. Contains (commands_of image) place × RepeatsPlatform image place) None
unfolding FollowsPlatform
alone image none place (has, repeats) =
    let (some, (p, is, any)) = has_one (platform_of image place) (λ q. Any (λ earlier. (earlier < place) × (platform_of image earlier ≡ Some q)) (commands_of image)) repeats in
    let (earlier, among, (less, same)) = one_of (λ e. (e < place) × (platform_of image e ≡ Some p)) (commands_of image) any in
    none (any_of (FollowsPlatform image) (commands_of image) place has (some, any_of (λ e. (e < place) × HasPlatform image e) (commands_of image) earlier among (less, ap is_some same)))
