-- The segments of an opened image, one after the other.
use Rattle.std.proofs.Common.{◌≡◌, ℕ, ◌+◌, ◌≤◌, ◌<◌, List, [], ◌∷◌, map, Any, Contains, refl, sym, ap, subst, arith}
use Rattle.std.proofs.lemmas.List.Elements.{All-contains}
use Rattle.macho_fields.proofs.Lists.{contains_mapped}
use Rattle.macho_fields.specs.Image.{command_size, commands_of, Follow}
use Rattle.macho_fields.specs.Segment.{segments_of, Supplies}
use Rattle.macho_fields.proofs.Chains.{places_above}
use Rattle.macho_fields.specs.Rules.{BreaksCommands}
use Rattle.macho_fields.specs.declared.rule.Rule.{Rule}
use Rattle.macho_image.specs.Opened.{IsOpened}
use Rattle.macho_image.specs.Segment.{SegmentView, segment_at}
use Rattle.macho_rules.specs.Survey.{BreaksSegment, IsSegmentRule}
use Rattle.macho_rules.proofs.Searches.{mapped_has, Ordered, ordered_weaken, ordered_filter, ordered_map, Rising}
use Rattle.macho_fields.proofs.FirstPlaces.{AreBreaks}
use Rattle.macho_rules.proofs.Searches.{Searching, search_all, first_among, are_breaks_at, are_breaks_as, any_of, one_of}
use Rattle.macho_rules.proofs.Judged.{opened_commands}

-- a command ends before each later one begins
abbrev pub EndsBefore : List ℕ → ℕ → ℕ → Type 0
EndsBefore image a b = a + command_size image a ≤ b

chain_spreads : (image : List ℕ) (start : ℕ) (xs : List ℕ) (m : ℕ) → Follow image start xs m → Ordered (EndsBefore image) xs
chain_spreads image start [] m chain = tt
chain_spreads image start (x ∷ xs) m chain = (
  λ y has. All-contains (λ place. x + command_size image x ≤ place) xs y (places_above image (x + command_size image x) xs m chain.2) has,
  chain_spreads image (x + command_size image x) xs m chain.2,
)

rises : (image places : List ℕ) → Ordered (EndsBefore image) places → Rising (λ p. p) places
rises image places order = ordered_weaken (EndsBefore image) (λ a b. a ≤ b) (λ a b ends. omega arith) places order

commands_spread : (image : List ℕ) → IsOpened image → Ordered (EndsBefore image) (commands_of image)
commands_spread image opened = let (count, next, chain) = opened_commands image opened in chain_spreads image 32 (commands_of image) next chain

pub commands_rise : (image : List ℕ) → IsOpened image → Rising (λ p. p) (commands_of image)
commands_rise image opened = rises image (commands_of image) (commands_spread image opened)

pub segments_spread : (image : List ℕ) → IsOpened image → Ordered (EndsBefore image) (segments_of image (commands_of image))
segments_spread image opened = ordered_filter (EndsBefore image) _ (commands_of image) (commands_spread image opened)

pub segments_rise : (image : List ℕ) → IsOpened image → Rising (λ p. p) (segments_of image (commands_of image))
segments_rise image opened = rises image _ (segments_spread image opened)

-- the segments of the image
abbrev pub AreSegments : List ℕ → List SegmentView → Type 0
AreSegments image all = all ≡ map (segment_at image) (segments_of image (commands_of image))

module _ (image : List ℕ) (all : List SegmentView) (are : AreSegments image all) where
  pub segments_search : (P : SegmentView → Type 0) → IsOpened image → Searching (λ s. s.place) P all all
  segments_search P opened =
      search_all (λ s. s.place) P all (subst (Rising (λ s. s.place)) (sym are) (ordered_map (λ (s t : SegmentView). s.place ≤ t.place) (segment_at image) _ (segments_rise image opened)))

  -- what breaks a rule of segments
  segments_break : (P : List ℕ → ℕ → Type 0) → AreBreaks (λ p. Contains (segments_of image (commands_of image)) p × P image p) (λ s. s.place) (λ s. P s.image s.place) all
  segments_break P =
      subst (AreBreaks (λ p. Contains (segments_of image (commands_of image)) p × P image p) (λ s. s.place) (λ s. P s.image s.place)) (sym are)
      (are_breaks_at (λ p. Contains (segments_of image (commands_of image)) p × P image p) (λ (s : SegmentView). s.place) (λ s. P s.image s.place) (segment_at image) _
      (λ p has here. (has, here)) (λ p broken. (p, broken.0, broken.1, refl)))

  pub segment_rule_breaks : (r : Rule) → IsSegmentRule image r → AreBreaks (BreaksCommands image (commands_of image) r) (λ s. s.place) (BreaksSegment r) all
  segment_rule_breaks r is = are_breaks_as is (segments_break (λ bytes place. BreaksSegment r (segment_at bytes place)))

  pub segment_of : (s : SegmentView) → Contains all s → s ≡ segment_at image s.place
  segment_of s has = let (p, _, at) = mapped_has (segment_at image) _ s (subst (λ xs. Contains xs s) are has) in subst (λ t. t ≡ segment_at image t.place) at refl

  pub segment_among : (s : SegmentView) → Contains all s → Contains (segments_of image (commands_of image)) s.place
  segment_among s has =
      let (p, among, at) = mapped_has (segment_at image) _ s (subst (λ xs. Contains xs s) are has) in
      subst (λ q. Contains (segments_of image (commands_of image)) q) (ap (λ (t : SegmentView). t.place) at) among

  -- whether some segment has P
  pub some_segment : (P : List ℕ → ℕ → Type 0) (s : SegmentView) → Contains all s → P s.image s.place → Any (P image) (segments_of image (commands_of image))
  some_segment P s has here = any_of (P image) _ s.place (segment_among s has) (subst (λ (t : SegmentView). P t.image s.place) (segment_of s has) here)

  pub of_segment : (P : List ℕ → ℕ → Type 0) → Any (P image) (segments_of image (commands_of image)) → (s : SegmentView) × Contains all s × P s.image s.place
  of_segment P any =
      let (p, has, here) = one_of (P image) _ any in
      (segment_at image p, subst (λ xs. Contains xs (segment_at image p)) (sym are) (contains_mapped (segment_at image) _ p has), here)

  -- a segment that is left is one of the image
  pub segment_image : (P : SegmentView → Type 0) (left rest : List SegmentView) (s : SegmentView) → left ≡ s ∷ rest → Searching (λ t. t.place) P all left → s.image ≡ image
  segment_image P left rest s is search = ap (λ (t : SegmentView). t.image) (segment_of s (first_among (λ t. t.place) P all left rest s is search))

-- an earlier segment supplies an address of the one at the place
abbrev pub SharesBefore : ℕ → List ℕ → ℕ → Type 0
SharesBefore place image earlier = (earlier < place) × ((address : ℕ) × Supplies image earlier address × Supplies image place address)
