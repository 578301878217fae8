-- Readers give one answer about a slot.
use Rattle.std.proofs.Common.{◌≡◌, ◌≢◌, ◌↔◌, ◌⊎◌, ◌∙◌, ℕ, suc, ◌+◌, ◌*◌, ◌≤◌, ◌<◌, Bool, true, List, [], ◌∷◌, get_or, Option, Some, None, refl, sym, ap, subst, arith, inl, inr}
use Rattle.std.specs.Prelude.{IsSomeAnd, IfOk, Result, Ok, Err}
use Rattle.std.specs.Bool.{Decides}
use Rattle.std.proofs.lemmas.Nat.{mul-le}
use Rattle.std.proofs.lemmas.Bool.{cases_Bool, cases_lt, cases_eq, false≢true}
use Rattle.std.proofs.lemmas.Bool.Decides.{Decides-int_eq}
use Rattle.std.proofs.lemmas.Slice.Eq.{bytes_eq-Decides}
use Rattle.macho_fields.specs.FirstPlace.{IsLeastPlace}
use Rattle.macho_fields.specs.Image.{command_cmd, commands_of}
use Rattle.macho_fields.specs.Segment.{all_segments}
use Rattle.macho_fields.specs.declared.header.loader.TheConstants as loader
use Rattle.macho_image.proofs.FirstWithCmd.{first_is}
use Rattle.macho_rules.proofs.Searches.{any_of}
use Rattle.macho_tables.specs.Kinds.{is_fixups, share_kind, BreaksTableRepeated}
use Rattle.macho_tables.specs.Places.{dyld_info}
use Rattle.macho_tables.proofs.Places.{info_has, least_same}
use Rattle.macho_opcodes.specs.declared.streams.Stream.{Stream}
use Rattle.macho_opcodes.specs.declared.streams.Stream.TheVariants as streams
use Rattle.macho_chains.specs.ChainHeader.{chain_header}
use Rattle.macho_chains.specs.ChainPointers.{pointer_at, first_offset, Lead, ComesTo}
use Rattle.macho_chains.specs.ChainStarts.{starts_of}
use Rattle.macho_chains.specs.Chains.{chained_fixups}
use Rattle.macho_chains.specs.declared.chain_starts.SegmentStarts.{SegmentStarts}
use Rattle.macho_alike.specs.BindModels.{has_turn, IsBindInTurn, IsAnswer, SayTheSame, HasOneBind, HasOneSlot, HasChainSlotsApart, HasOneKindOfFixups}
use Rattle.macho_alike.specs.Binds.{BindsOf, IsBind, IsOneSlot, Clash, name_of, BreaksOpcodeBindOnce, BreaksChainBindOnce, BreaksBindOnce}
use Rattle.macho_alike.specs.declared.binds.Bind.{Bind}
use Rattle.macho_alike.specs.declared.binds.Compared.{Compared}
use Rattle.macho_alike.specs.declared.binds.Compared.TheVariants as compared
use Rattle.macho_alike.specs.declared.binds.Library.{Library}
use Rattle.macho_alike.specs.declared.binds.Library.TheVariants as library
use Rattle.macho_alike.proofs.BindPairs.{clash_both_ways}

-- a test decides P, and P is not wrong: then it holds

surely : (b : Bool) (P : Type 0) → Decides b P → ¬ ¬ P → P
surely b P decides sure = elim (cases_Bool b) [ inl t ↦ decides.0 t | inr f ↦ absurd (sure (λ p. false≢true (sym f ∙ decides.1 p))) ]

surely_library : (a b : Library) → ¬ ¬ (a ≡ b) → a ≡ b
surely_library (library.Ordinal n) (library.Ordinal m) sure = elim (cases_eq n m) [ inl same ↦ ap library.Ordinal same | inr apart ↦ absurd (sure (λ same. apart (cc))) ]
surely_library (library.Special n) (library.Special m) sure = elim (cases_eq n m) [ inl same ↦ ap library.Special same | inr apart ↦ absurd (sure (λ same. apart (cc))) ]
surely_library (library.Ordinal n) (library.Special m) sure = absurd (sure (λ wrong. absurd (cc)))
surely_library (library.Special n) (library.Ordinal m) sure = absurd (sure (λ wrong. absurd (cc)))

module _ (image : List ℕ) (unbroken : (place : ℕ) → ¬ BreaksOpcodeBindOnce image place) where
  -- no two binds clash
  agree : (what : Compared) (one other : Bind) → IsBind image one → IsBind image other → ¬ Clash what image one other
  agree what one other here there clash = elim (cases_lt other.place one.place) [
    | inl less ↦ unbroken one.place (what, other, one, there, here, clash_both_ways what image one other clash, omega (arith, less), refl)
    | inr up ↦ unbroken other.place (what, one, other, here, there, clash, up, refl)
  ]

  pub one_slot : HasOneSlot image
  one_slot one other here there shares = agree compared.Names one other here there (tt, tt, inl shares)

  same : (one other : Bind) → IsBind image one → IsBind image other → IsOneSlot one other → SayTheSame image one other
  same one other here there slot = record {
    name = surely _ _ (bytes_eq-Decides (name_of image one) (name_of image other)) (λ differ. agree compared.Names one other here there (tt, tt, inr (slot, λ is. differ is.0)));
    addend = surely _ _ (Decides-int_eq one.addend other.addend) (λ differ. agree compared.Names one other here there (tt, tt, inr (slot, λ is. differ is.1)));
    library = λ a b is also. surely_library a b (λ differ. agree compared.Libraries one other here there (
      (λ none. absurd (cc)),
      (λ none. absurd (cc)),
      inr (slot, λ equal. differ (cc)),
    ));
  }

  in_turn : (turn : ℕ) (bind : Bind) → IsBindInTurn image turn bind → IsBind image bind
  in_turn turn bind (one, has, is) = by_option (dyld_info image) one has is
    where
      by_option : (o : Option ℕ) (one : Stream) → has_turn one turn → IsSomeAnd o (λ command. BindsOf one image command bind)
          → IsSomeAnd o (λ command. (BindsOf streams.Bind image command bind ⊎ BindsOf streams.WeakBind image command bind) ⊎ BindsOf streams.LazyBind image command bind)
      by_option None one has is = is
      by_option (Some command) streams.Bind has is = inl (inl is)
      by_option (Some command) streams.WeakBind has is = inl (inr is)
      by_option (Some command) streams.LazyBind has is = inr is
      by_option (Some command) streams.Rebase has is = absurd has

  answers : (slot bind : Bind) → IsAnswer image slot bind → IsBind image bind × IsOneSlot slot bind
  answers slot bind (inl listed) = listed
  answers slot bind (inr (inl (turn, is, here, first))) = (in_turn turn bind is, here)
  answers slot bind (inr (inr (turn, is, here, last))) = (in_turn turn bind is, here)

  pub one_bind : HasOneBind image
  one_bind slot a b first second =
      let (here, at) = answers slot a first in
      let (there, also) = answers slot b second in
      same a b here there (sym at.0 ∙ also.0, sym at.1 ∙ also.1)

-- The pointers of chains

abbrev AreApart : ℕ → ℕ → Type 0
AreApart one other = (one ≡ other) ⊎ ((one + 8 ≤ other) ⊎ (other + 8 ≤ one))

module _ (image chains : List ℕ) (segment : ℕ) (starts : SegmentStarts) where
  module _ (page : ℕ) where
    abbrev distance : ℕ → ℕ
    distance pointer = (pointer_at image segment starts.format pointer).distance

    rise : (from : ℕ) (before : List ℕ) (to : ℕ) → Lead image segment starts page from before to → from ≤ to
    rise from [] to same = omega arith
    rise from (first ∷ rest) to (is, fits, far, on) = let up = rise (first + distance first) rest to on in omega (arith, is, up)

    -- two ways from one pointer
    ways : (from : ℕ) (one other : List ℕ) (to end : ℕ) → Lead image segment starts page from one to → Lead image segment starts page from other end → AreApart to end
    ways from [] [] to end same also = inl (sym same ∙ also)
    ways from [] (first ∷ rest) to end same (is, fits, far, on) = let up = rise (first + distance first) rest end on in inr (inl (omega (arith, same, is, far, up)))
    ways from (first ∷ rest) [] to end (is, fits, far, on) same = let up = rise (first + distance first) rest to on in inr (inr (omega (arith, same, is, far, up)))
    ways from (first ∷ rest) (second ∷ more) to end (is, fits, far, on) (also, here, past, goes) =
        ways (first + distance first) rest more to end on (subst (λ (n : ℕ). Lead image segment starts page (n + distance n) more end) (also ∙ sym is) goes)

  -- pointers of two pages
  pages_below : (page after : ℕ) (one other : ℕ) → page < after → ComesTo image chains segment starts page one → ComesTo image chains segment starts after other → one + 8 ≤ other
  pages_below page after one other less (has, lead, fits) (more, (before, goes), here) =
      let up = rise after (first_offset chains starts after) before other goes in
      let scaled : suc page * starts.page_size ≤ after * starts.page_size = mul-le (suc page) starts.page_size after starts.page_size less (omega arith) in
      omega (arith, fits.0, up, scaled)

  pages_apart : (page after : ℕ) (one other : ℕ) → ComesTo image chains segment starts page one → ComesTo image chains segment starts after other → AreApart one other
  pages_apart page after one other comes also = elim (cases_lt page after) [
    | inl less ↦ inr (inl (pages_below page after one other less comes also))
    | inr more ↦ elim (cases_eq page after) [
      | inl same ↦ on_page (subst (λ (p : ℕ). ComesTo image chains segment starts p one) same comes) also
      | inr apart ↦ inr (inr (pages_below after page other one (omega (arith, more, apart)) also comes))
    ]
  ]
    where
      on_page : ComesTo image chains segment starts after one → ComesTo image chains segment starts after other → AreApart one other
      on_page (has, (before, lead), fits) (more, (others, goes), here) = ways after (first_offset chains starts after) before others one other lead goes

-- what holds of one value holds of the other, since it is the same
both : {X : Type 0} (C : Type 0) (o : Option X) (P Q : X → Type 0) → IsSomeAnd o P → IsSomeAnd o Q → ((x : X) → P x → Q x → C) → C
both C None P Q p q use_both = absurd p
both C (Some x) P Q p q use_both = use_both x p q

pub chain_slots_apart : (image : List ℕ) → HasChainSlotsApart image
chain_slots_apart image k one other here there =
    both (AreApart one other) (chained_fixups image) _ _ here there (λ command first second.
    both (AreApart one other) (chain_header _) _ _ first.1 second.1 (λ header third fourth.
    both (AreApart one other) (starts_of _ header k) _ _ third fourth (λ starts fifth sixth.
    pages_apart image _ (get_or (all_segments image) k 0) starts fifth.0 sixth.0 one other fifth.2 sixth.2)))

-- so they break no rule
pub chains_kept : (image : List ℕ) (place : ℕ) → ¬ BreaksChainBindOnce image place
chains_kept image place (k, one, other, here, there, less, near, at) = elim (chain_slots_apart image k one other here there) [
  | inl same ↦ absurd (omega (arith, same, less))
  | inr apart ↦ elim apart [ inl below ↦ absurd (omega (arith, below, near)) | inr above ↦ absurd (omega (arith, above, less)) ]
]

pub opcodes_alone : (image : List ℕ) (place : ℕ) → BreaksOpcodeBindOnce image place ↔ BreaksBindOnce image place
opcodes_alone image place = (λ broken. inl broken, λ broken. elim broken [ inl opcode ↦ opcode | inr chain ↦ absurd (chains_kept image place chain) ])

pub least_alone : {E : Type 0} (image : List ℕ) (r : Result (Option ℕ) E) → IfOk r (IsLeastPlace (BreaksOpcodeBindOnce image)) → IfOk r (IsLeastPlace (BreaksBindOnce image))
least_alone image (Ok found) least = least_same (BreaksOpcodeBindOnce image) (BreaksBindOnce image) found (opcodes_alone image) least
least_alone image (Err e) least = tt

-- Opcodes or chains

module _ (image : List ℕ) (unbroken : (place : ℕ) → ¬ BreaksTableRepeated image place) where
  abbrev IsOpcodes : ℕ → Type 0
  IsOpcodes cmd = (is_fixups cmd ≡ true) × (cmd ≢ loader.LC_DYLD_CHAINED_FIXUPS)

  not_both : (info chained : ℕ) → dyld_info image ≡ Some info → chained_fixups image ≡ Some chained → ⊥
  not_both info chained is also =
      let (there, (fixups, other)) = info_has image IsOpcodes (refl, λ same. absurd (omega (arith, same))) (refl, λ same. absurd (omega (arith, same))) info is in
      let (here, cmd) = first_is image loader.LC_DYLD_CHAINED_FIXUPS chained (commands_of image) also in
      let shared : share_kind (command_cmd image info) (command_cmd image chained) ≡ true = rw (fixups, cmd) refl in
      let turned : share_kind (command_cmd image chained) (command_cmd image info) ≡ true = rw (cmd, fixups) refl in
      elim (cases_lt info chained) [
        | inl less ↦ unbroken chained (here, any_of _ (commands_of image) info there (less, shared))
        | inr more ↦ elim (cases_eq info chained) [
          | inl same ↦ other (ap (command_cmd image) same ∙ cmd)
          | inr apart ↦ unbroken info (there, any_of _ (commands_of image) chained here (omega (arith, more, apart), turned))
        ]
      ]

  pub one_kind_of_fixups : HasOneKindOfFixups image
  one_kind_of_fixups = by_both (dyld_info image) (chained_fixups image) refl refl
    where
      by_both : (o c : Option ℕ) → dyld_info image ≡ o → chained_fixups image ≡ c → HasOneKindOfFixups image
      by_both None c is also = inl is
      by_both (Some info) None is also = inr also
      by_both (Some info) (Some chained) is also = absurd (not_both info chained is also)
