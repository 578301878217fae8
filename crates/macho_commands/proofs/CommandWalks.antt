-- A walk over the commands of an image, and what it notes of them.
use Rattle.std.proofs.Common.{◌≡◌, ◌↔◌, ◌∙◌, ◌⊎◌, ℕ, ◌+◌, ◌≤◌, ◌<◌, List, [], ◌∷◌, ◌++◌, map, length, Any, Bool, true, false, Contains, Option, None, Some, IsSomeAnd, find, refl, sym, ap, subst, arith, inl, inr, length-drop, length-take}
use Rattle.std.specs.Prelude.{IsTrue, drop}
use Rattle.std.specs.Option.{option_map}
use Rattle.std.proofs.lemmas.Bool.{cases_Bool, false≢true}
use Rattle.std.proofs.lemmas.Option.{none-some}
use Rattle.std.proofs.lemmas.List.Elements.{All-contains, Contains-append_left, Contains-append_right, Contains-append_cases}
use Rattle.macho_fields.specs.FirstPlace.{IsFirstOf, IsNoted, IsLeastPlace}
use Rattle.macho_fields.specs.Image.{command_cmd, command_size, commands_of, Follow}
use Rattle.macho_fields.proofs.Chains.{places_above}
use Rattle.macho_fields.proofs.FirstPlaces.{AreBreaks, first_breaks, first_of_none}
use Rattle.macho_fields.proofs.Lists.{contains_first, contains_mapped, first_or_later, only_one, any_nil}
use Rattle.macho_fields.proofs.Opened.{command_inside}
use Rattle.macho_fields.proofs.Options.{of_some, some_has, of_none}
use Rattle.macho_fields.proofs.Parts.{command_good}
use Rattle.macho_image.specs.Command.{CommandView, command_at}
use Rattle.macho_image.specs.Opened.{IsOpened, IsCommandOf}
use Rattle.macho_image.proofs.Opened.{opened_keeps}
use Rattle.macho_image.proofs.OpenedWalk.{opened_commands}
use Rattle.macho_rules.proofs.Searches.{Ordered, ordered_map, mapped_has, any_of, one_of, are_breaks_at}
use Rattle.macho_rules.proofs.Surveys.{ordered_before, first_noted}
use Rattle.macho_commands.specs.Content.{content_of}
use Rattle.macho_commands.specs.declared.content.Content.{Content}
use Rattle.macho_commands.specs.declared.content.Holding.{Holding}
use Rattle.macho_commands.specs.declared.content.Holding.TheVariants as holding
use Rattle.macho_commands.specs.Commands.{HasBadTarget, HasBadContent, command_bytes, HasEarlier, is_thread, is_routine, IsBadThread, IsBadCommand, BreaksThread, BreaksCommandContent, first_thread, NamesEntry, IsThreadEntry}
use Rattle.macho_commands.specs.Survey.{NotesThread, NotesContent}
use Rattle.macho_commands.specs.declared.survey.Walk.{Walk}

-- each command comes before each later one
chain_rises : (image : List ℕ) (start : ℕ) (xs : List ℕ) (m : ℕ) → Follow image start xs m → Ordered (λ a b. a < b) xs
chain_rises image start [] m chain = tt
chain_rises image start (x ∷ xs) m chain = (
  λ y has.
      let above = All-contains (λ place. x + command_size image x ≤ place) xs y (places_above image (x + command_size image x) xs m chain.2) has in
      let least : 8 ≤ command_size image x = chain.1.least in
      omega (arith, above, least),
  chain_rises image (x + command_size image x) xs m chain.2,
)

-- A command has its bytes

module _ (image : List ℕ) (v : CommandView) (of : IsCommandOf image v) where
  pub bytes_are : v.bytes ≡ command_bytes image v.place
  bytes_are = ap (λ (w : CommandView). w.bytes) of.same

  pub cmd_is : v.cmd ≡ command_cmd image v.place
  cmd_is = ap (λ (w : CommandView). w.cmd) of.same

  pub has_head : 8 ≤ length v.bytes
  has_head =
      let inside = command_inside image (commands_of image) (opened_keeps image of.opened) (opened_commands image of.opened) v.place of.listed in
      let least : 8 ≤ command_size image v.place = (command_good image (commands_of image) v.place (opened_commands image of.opened) of.listed).least in
      let long = ap length bytes_are in
      omega (arith, inside, least, long, length-take (command_size image v.place) (drop v.place image), length-drop v.place image)

module _ (image : List ℕ) (opened : IsOpened image) (all : List CommandView) (are : all ≡ map (command_at image) (commands_of image)) where
  -- what is gone over is a command of the image
  pub is_command : (v : CommandView) → Contains all v → IsCommandOf image v
  is_command v has =
      let (p, listed, at) = mapped_has (command_at image) (commands_of image) v (subst (λ these. Contains these v) are has) in
      subst (IsCommandOf image) at (record { opened = opened; listed = listed; same = refl })

  rises : Ordered (λ (v w : CommandView). v.place < w.place) all
  rises =
      let (count, next, chain) = opened_commands image opened in
      subst (Ordered (λ (v w : CommandView). v.place < w.place)) (sym are)
      (ordered_map (λ (v w : CommandView). v.place < w.place) (command_at image) (commands_of image) (chain_rises image 32 (commands_of image) next chain))

  among : (command : ℕ) → Contains (commands_of image) command → Contains all (command_at image command)
  among command has = subst (λ these. Contains these (command_at image command)) (sym are) (contains_mapped (command_at image) (commands_of image) command has)

  -- a command is next: these were passed before, and the rest comes after
  module _ (seen rest : List CommandView) (v : CommandView) (here : all ≡ seen ++ v ∷ rest) where
    pub has_next : Contains all v
    has_next = subst (λ these. Contains these v) (sym here) (Contains-append_right seen (v ∷ rest) v (contains_first v rest))

    order : Ordered (λ (x y : CommandView). x.place < y.place) (seen ++ v ∷ rest)
    order = subst (Ordered (λ (x y : CommandView). x.place < y.place)) here rises

    before : (w : CommandView) → Contains seen w → w.place < v.place
    before w has = ordered_before (λ (x y : CommandView). x.place < y.place) seen v rest order w has

    pub end_by : (w : CommandView) → Contains seen w → w.place ≤ v.place
    end_by w has = let less = before w has in omega (arith, less)

    past : (ws : List CommandView) → Ordered (λ (x y : CommandView). x.place < y.place) (ws ++ v ∷ rest) → (w : CommandView) → Contains rest w → v.place < w.place
    past [] (first, others) w has = first w has
    past (x ∷ ws) (first, others) w has = past ws others w has

    -- an earlier command is of a kind if one that was passed is
    pub earlier : (is_kind : ℕ → Bool) → HasEarlier image is_kind v.place ↔ Any (λ w. is_kind w.cmd ≡ true) seen
    earlier is_kind = (
      λ any.
          let (command, has, (less, kind)) = one_of (λ e. (e < v.place) × (is_kind (command_cmd image e) ≡ true)) (commands_of image) any in
          elim (Contains-append_cases seen (v ∷ rest) (command_at image command) (subst (λ these. Contains these (command_at image command)) here (among command has))) [
            | inl passed ↦ any_of (λ w. is_kind w.cmd ≡ true) seen (command_at image command) passed kind
            | inr later ↦ elim (first_or_later v (command_at image command) rest later) [
              | inl same ↦ let at = ap (λ (w : CommandView). w.place) same in absurd (omega (arith, less, at))
              | inr after ↦ let more = past seen order (command_at image command) after in absurd (omega (arith, less, more))
            ]
          ],
      λ any.
          let (w, has, kind) = one_of (λ w. is_kind w.cmd ≡ true) seen any in
          let of = is_command w (subst (λ these. Contains these w) (sym here) (Contains-append_left seen (v ∷ rest) w has)) in
          any_of (λ e. (e < v.place) × (is_kind (command_cmd image e) ≡ true)) (commands_of image) w.place of.listed (before w has, ap is_kind (sym (cmd_is image w of)) ∙ kind),
    )

-- What is noted

pub noted_where : {P Q : Type 0} → (P ↔ Q) → (place : ℕ) (old new : Option ℕ) → IsNoted P place old new → IsNoted Q place old new
noted_where same place old new (inl (broken, is)) = inl (same.0 broken, is)
noted_where same place old new (inr (kept, is)) = inr ((λ q. kept (same.1 q)), is)

-- a command is a bad thread, or its content is bad
abbrev pub IsBadThreadAt : List ℕ → CommandView → Type 0
IsBadThreadAt image v = (is_thread v.cmd ≡ true) × IsBadThread image (HasEarlier image is_thread v.place) v.bytes

abbrev pub IsBadCommandAt : List ℕ → CommandView → Type 0
IsBadCommandAt image v = IsBadCommand image (HasEarlier image is_routine v.place) v.cmd v.bytes

-- of the commands that were passed
pub record AreNoted (image : List ℕ) (seen : List CommandView) (walk : Walk) : Type 0 where
  pub has_thread : IsTrue walk.has_thread ↔ Any (λ v. is_thread v.cmd ≡ true) seen
  pub has_routine : IsTrue walk.has_routine ↔ Any (λ v. is_routine v.cmd ≡ true) seen
  pub thread : IsFirstOf (λ v. v.place) (IsBadThreadAt image) seen walk.thread
  pub content : IsFirstOf (λ v. v.place) (IsBadCommandAt image) seen walk.content

module _ (image : List ℕ) (opened : IsOpened image) (all : List CommandView) (are : all ≡ map (command_at image) (commands_of image)) where
  -- none was passed
  pub none_noted : (walk : Walk) → walk ≡ record { has_thread = false; has_routine = false; thread = None; content = None } → AreNoted image [] walk
  none_noted walk is = subst (AreNoted image []) (sym is) (record {
    has_thread = (λ wrong. absurd (false≢true wrong), λ any. absurd (any_nil (λ (v : CommandView). is_thread v.cmd ≡ true) any));
    has_routine = (λ wrong. absurd (false≢true wrong), λ any. absurd (any_nil (λ (v : CommandView). is_routine v.cmd ≡ true) any));
    thread = first_of_none (λ (v : CommandView). v.place) (IsBadThreadAt image);
    content = first_of_none (λ (v : CommandView). v.place) (IsBadCommandAt image);
  })

  -- some item of a list with one more
  any_more : (P : CommandView → Type 0) (seen : List CommandView) (v : CommandView) → Any P (seen ++ v ∷ []) ↔ (Any P seen ⊎ P v)
  any_more P seen v = (
    λ any.
        let (w, has, here) = one_of P (seen ++ v ∷ []) any in
        elim (Contains-append_cases seen (v ∷ []) w has) [
          | inl before ↦ inl (any_of P seen w before here)
          | inr last ↦ inr (subst P (sym (only_one v w last)) here)
        ],
    λ either. elim either [
      | inl any ↦ let (w, has, here) = one_of P seen any in any_of P (seen ++ v ∷ []) w (Contains-append_left seen (v ∷ []) w has) here
      | inr here ↦ any_of P (seen ++ v ∷ []) v (Contains-append_right seen (v ∷ []) v (contains_first v [])) here
    ],
  )

  flag_more : (P : CommandView → Type 0) (seen : List CommandView) (v : CommandView) (old new : Bool) → (IsTrue new ↔ (IsTrue old ⊎ P v)) → (IsTrue old ↔ Any P seen)
      → IsTrue new ↔ Any P (seen ++ v ∷ [])
  flag_more P seen v old new one so_far = (
    λ is. (any_more P seen v).1 (elim (one.0 is) [ inl before ↦ inl (so_far.0 before) | inr here ↦ inr here ]),
    λ any. one.1 (elim ((any_more P seen v).0 any) [ inl before ↦ inl (so_far.1 before) | inr here ↦ inr here ]),
  )

  -- with what repeats, as it is known
  bad_target_where : (p q : Type 0) → (p → q) → (bytes : List ℕ) (what : Holding) → HasBadTarget image p bytes what → HasBadTarget image q bytes what
  bad_target_where p q to bytes (holding.Routine width) (inl repeats) = inl (to repeats)
  bad_target_where p q to bytes (holding.Routine width) (inr none) = inr none
  bad_target_where p q to bytes (holding.Range table) bad = bad
  bad_target_where p q to bytes holding.Nothing bad = bad
  bad_target_where p q to bytes holding.Name bad = bad
  bad_target_where p q to bytes holding.NameAndModules bad = bad
  bad_target_where p q to bytes holding.Strings bad = bad
  bad_target_where p q to bytes holding.CountedStrings bad = bad

  bad_content_where : (p q : Type 0) → (p → q) → (bytes : List ℕ) (found : Option Content) → IsSomeAnd found (HasBadContent image p bytes) → IsSomeAnd found (HasBadContent image q bytes)
  bad_content_where p q to bytes None bad = bad
  bad_content_where p q to bytes (Some content) (inl short) = inl short
  bad_content_where p q to bytes (Some content) (inr (inl target)) = inr (inl (bad_target_where p q to bytes content.holding target))
  bad_content_where p q to bytes (Some content) (inr (inr part)) = inr (inr part)

  bad_command_to : (p q : Type 0) → (p → q) → (v : CommandView) → IsBadCommand image p v.cmd v.bytes → IsBadCommand image q v.cmd v.bytes
  bad_command_to p q to v (inl foreign) = inl foreign
  bad_command_to p q to v (inr bad) = inr (bad_content_where p q to v.bytes (content_of v.cmd) bad)

  bad_command_where : (p q : Type 0) → (p ↔ q) → (v : CommandView) → IsBadCommand image p v.cmd v.bytes ↔ IsBadCommand image q v.cmd v.bytes
  bad_command_where p q same v = (bad_command_to p q same.0 v, bad_command_to q p same.1 v)

  bad_thread_where : (p q : Type 0) → (p ↔ q) → (v : CommandView) → ((is_thread v.cmd ≡ true) × IsBadThread image p v.bytes) ↔ ((is_thread v.cmd ≡ true) × IsBadThread image q v.bytes)
  bad_thread_where p q same v = (
    λ (is, bad). (is, elim bad [ inl repeats ↦ inl (same.0 repeats) | inr none ↦ inr none ]),
    λ (is, bad). (is, elim bad [ inl repeats ↦ inl (same.1 repeats) | inr none ↦ inr none ]),
  )

  module _ (seen rest : List CommandView) (v : CommandView) (here : all ≡ seen ++ v ∷ rest) (old middle new : Walk) (noted : AreNoted image seen old) where
    repeats : (is_kind : ℕ → Bool) (flag : Bool) → (IsTrue flag ↔ Any (λ (w : CommandView). is_kind w.cmd ≡ true) seen) → IsTrue flag ↔ HasEarlier image is_kind v.place
    repeats is_kind flag so_far =
        let same = earlier image opened all are seen rest v here is_kind in (λ is. same.1 (so_far.0 is), λ has. so_far.1 (same.0 has))

    pub one_noted : NotesThread image v old middle → middle.has_routine ≡ old.has_routine → middle.content ≡ old.content
        → NotesContent image v middle new → new.has_thread ≡ middle.has_thread → new.thread ≡ middle.thread → AreNoted image (seen ++ v ∷ []) new
    one_noted thread same_routine same_content content same_flag same_thread = record {
      has_thread = subst (λ flag. IsTrue flag ↔ Any (λ (w : CommandView). is_thread w.cmd ≡ true) (seen ++ v ∷ [])) (sym same_flag)
          (flag_more (λ (w : CommandView). is_thread w.cmd ≡ true) seen v old.has_thread middle.has_thread thread.has_thread noted.has_thread);
      has_routine =
          flag_more (λ (w : CommandView). is_routine w.cmd ≡ true) seen v old.has_routine new.has_routine
          (subst (λ flag. IsTrue new.has_routine ↔ (IsTrue flag ⊎ (is_routine v.cmd ≡ true))) same_routine content.has_routine) noted.has_routine;
      thread = subst (IsFirstOf (λ (w : CommandView). w.place) (IsBadThreadAt image) (seen ++ v ∷ [])) (sym same_thread)
          (first_noted (λ (w : CommandView). w.place) (IsBadThreadAt image) seen v old.thread middle.thread (end_by image opened all are seen rest v here)
          (noted_where (bad_thread_where (IsTrue old.has_thread) (HasEarlier image is_thread v.place) (repeats is_thread old.has_thread noted.has_thread) v) v.place old.thread middle.thread thread.thread)
          noted.thread);
      content =
          first_noted (λ (w : CommandView). w.place) (IsBadCommandAt image) seen v old.content new.content (end_by image opened all are seen rest v here)
          (noted_where (bad_command_where (IsTrue middle.has_routine) (HasEarlier image is_routine v.place)
          (subst (λ flag. IsTrue flag ↔ HasEarlier image is_routine v.place) (sym same_routine) (repeats is_routine old.has_routine noted.has_routine)) v)
          v.place old.content new.content (subst (λ found. IsNoted (IsBadCommand image (IsTrue middle.has_routine) v.cmd v.bytes) v.place found new.content) same_content content.content))
          noted.content;
    }

  -- all were passed
  pub all_noted : (seen : List CommandView) → all ≡ seen → (walk : Walk) → AreNoted image seen walk
      → IsLeastPlace (BreaksThread image) walk.thread × IsLeastPlace (BreaksCommandContent image) walk.content
  all_noted seen same walk noted = (
    first_breaks (BreaksThread image) (λ (v : CommandView). v.place) (IsBadThreadAt image) seen walk.thread
        (subst (AreBreaks (BreaksThread image) (λ (v : CommandView). v.place) (IsBadThreadAt image)) (sym are ∙ same)
        (are_breaks_at (BreaksThread image) (λ (v : CommandView). v.place) (IsBadThreadAt image) (command_at image) (commands_of image)
        (λ p has bad. (has, bad.0, bad.1)) (λ p broken. (p, broken.0, (broken.1, broken.2), refl)))) noted.thread,
    first_breaks (BreaksCommandContent image) (λ (v : CommandView). v.place) (IsBadCommandAt image) seen walk.content
        (subst (AreBreaks (BreaksCommandContent image) (λ (v : CommandView). v.place) (IsBadCommandAt image)) (sym are ∙ same)
        (are_breaks_at (BreaksCommandContent image) (λ (v : CommandView). v.place) (IsBadCommandAt image) (command_at image) (commands_of image)
        (λ p has bad. (has, bad)) (λ p broken. (p, broken.0, broken.1, refl)))) noted.content,
  )

-- The first thread

find_mapped : {A X : Type 0} (test : X → Bool) (at : A → X) (ps : List A) → find test (map at ps) ≡ option_map at (find (λ p. test (at p)) ps)
find_mapped test at [] = refl
find_mapped test at (p ∷ ps) = elim (cases_Bool (test (at p))) [ inl it ↦ rw it refl | inr other ↦ rw other (find_mapped test at ps) ]

mapped_from : {A X : Type 0} (at : A → X) (found : Option A) (x : X) → option_map at found ≡ Some x → (p : A) × (found ≡ Some p) × (at p ≡ x)
mapped_from at None x is = absurd (none-some x is)
mapped_from {A = A} {X = X} at (Some p) x is = (p, refl, one_value is)
  where
    value : Option X → X
    value None = x
    value (Some y) = y

    one_value : Some (at p) ≡ Some x → at p ≡ x
    one_value same = ap value same

mapped_none : {A X : Type 0} (at : A → X) (found : Option A) → option_map at found ≡ None → found ≡ None
mapped_none at None is = refl
mapped_none at (Some p) is = absurd (none-some (at p) (sym is))

-- the first of the commands that is a thread
abbrev pub thread_among : List CommandView → Option CommandView
thread_among commands = find (λ v. is_thread v.cmd) commands

pub thread_next : (left rest : List CommandView) (v : CommandView) → left ≡ v ∷ rest → is_thread v.cmd ≡ true → thread_among left ≡ Some v
thread_next left rest v is it = ap thread_among is ∙ first it
  where
    first : is_thread v.cmd ≡ true → thread_among (v ∷ rest) ≡ Some v
    first test = rw test refl

pub thread_passed : (left rest : List CommandView) (v : CommandView) → left ≡ v ∷ rest → is_thread v.cmd ≡ false → thread_among left ≡ thread_among rest
thread_passed left rest v is other = ap thread_among is ∙ next other
  where
    next : is_thread v.cmd ≡ false → thread_among (v ∷ rest) ≡ thread_among rest
    next test = rw test refl

module _ (image : List ℕ) (all : List CommandView) (are : all ≡ map (command_at image) (commands_of image)) where
  -- as the image has it
  pub thread_found : (v : CommandView) → thread_among all ≡ Some v → (entry : ℕ) → NamesEntry image v.bytes entry ↔ IsThreadEntry image entry
  thread_found v is entry =
      let (p, found, at) = mapped_from (command_at image) (first_thread image) v (sym (find_mapped (λ (w : CommandView). is_thread w.cmd) (command_at image) (commands_of image)) ∙ (ap thread_among (sym are) ∙ is)) in
      let names : List ℕ → Type 0 = λ bytes. NamesEntry image bytes entry in
      let same = ap (λ (w : CommandView). w.bytes) at in (
        λ here. of_some (λ thread. NamesEntry image (command_bytes image thread) entry) (first_thread image) p found (subst names (sym same) here),
        λ there. subst names same (some_has (λ thread. NamesEntry image (command_bytes image thread) entry) (first_thread image) p found there),
      )

  pub thread_none : thread_among all ≡ None → (entry : ℕ) → ¬ IsThreadEntry image entry
  thread_none is entry =
      of_none (λ thread. NamesEntry image (command_bytes image thread) entry) (first_thread image)
      (mapped_none (command_at image) (first_thread image) (sym (find_mapped (λ (w : CommandView). is_thread w.cmd) (command_at image) (commands_of image)) ∙ (ap thread_among (sym are) ∙ is)))
