-- The survey of the export trie: what is noted of the nodes that were met.
use Rattle.std.proofs.Common.{◌≡◌, ◌∙◌, ◌↔◌, ℕ, zero, suc, ◌+◌, ◌-◌, ◌≤◌, ◌<◌, ◌⊎◌, List, [], ◌∷◌, ◌++◌, length, min, Contains, Bool, true, false, cond, Option, Some, None, IsTrue, refl, sym, ap, subst, arith, inl, inr}
use Rattle.std.specs.Prelude.{nat_lt, IsSomeAnd}
use Rattle.std.specs.Option.{option_map_or}
use Rattle.std.proofs.lemmas.Bool.{false≢true, lt-ltb, le-ltb}
use Rattle.std.proofs.lemmas.List.{append-nil, append_assoc}
use Rattle.std.proofs.lemmas.List.Elements.{Contains-append_left, Contains-push, Contains-push_cases}
use Rattle.std.proofs.lemmas.Option.{same_Some, none-some}
use Rattle.macho_fields.proofs.Options.{some_of, of_some}
use Rattle.macho_fields.specs.FirstPlace.{IsLeastPlace}
use Rattle.macho_spans.specs.declared.span.Span.{Span}
use Rattle.macho_exports.specs.ExportNodes.{IsMetAt}
use Rattle.macho_exports.specs.ExportTrie.{Node, node_at}
use Rattle.macho_exports.specs.ExportWalk.{Met, walk, met_nodes, children, AtMet, own_place, place_or_end, HasNoEnd, PassesTable, HasTerminal, IsBadTerminal, HasExport}
use Rattle.macho_exports.specs.Exports.{HasNoLibrary, HasNoAddress, AreLeastInTrie, AreNodeBreaks, IsNotedLeast, unbroken_exports}
use Rattle.macho_tables.specs.Places.{lesser}
use Rattle.macho_exports.specs.declared.export_walk.MetNode.{MetNode}
use Rattle.macho_exports.specs.declared.exports.ExportSurvey.{ExportSurvey}
use Rattle.macho_exports.specs.declared.exports.NodeBreaks.{NodeBreaks}
use Rattle.macho_tables.proofs.Places.{least_same, least_joined}

-- One node more

module _ (at : Met → ℕ) (P : Met → Type 0) (done : List Met) (next : Met) where
  abbrev more : List Met
  more = done ++ next ∷ []

  either : (place : ℕ) → (AtMet at P done place ⊎ ((at next ≡ place) × P next)) ↔ AtMet at P more place
  either place = (
    λ one. elim one [
      | inl (met, among, is, has) ↦ (met, Contains-append_left done (next ∷ []) met among, is, has)
      | inr (is, has) ↦ (next, Contains-push done next, is, has)
    ],
    λ (met, among, is, has). elim (Contains-push_cases done next met among) [
      | inl before ↦ inl (met, before, is, has)
      | inr same ↦ inr (subst (λ (m : Met). (at m ≡ place) × P m) (sym same) (is, has))
    ],
  )

  -- without P
  pub least_kept : (found : Option ℕ) → ¬ P next → IsLeastPlace (AtMet at P done) found → IsLeastPlace (AtMet at P more) found
  least_kept found none least =
      least_same (AtMet at P done) (AtMet at P more) found (λ place. (
        λ before. (either place).0 (inl before),
        λ has. elim ((either place).1 has) [ inl before ↦ before | inr (is, here) ↦ absurd (none here) ],
      )) least

  -- or with it
  pub least_added : (found : Option ℕ) → P next → IsLeastPlace (AtMet at P done) found → IsLeastPlace (AtMet at P more) (lesser found (Some (at next)))
  least_added found has least =
      let here : IsLeastPlace (λ place. (at next ≡ place) × P next) (Some (at next)) = ((refl, has), λ place (is, _). omega (arith, is)) in
      least_same _ (AtMet at P more) (lesser found (Some (at next))) either (least_joined (AtMet at P done) (λ place. (at next ≡ place) × P next) found (Some (at next)) least here)

  pub least_noted : (broken : Bool) (old new : Option ℕ) → IsTrue broken ↔ P next → IsNotedLeast broken (at next) old new → IsLeastPlace (AtMet at P done) old → IsLeastPlace (AtMet at P more) new
  least_noted true old new says is least = subst (IsLeastPlace (AtMet at P more)) (sym is) (least_added old (says.0 refl) least)
  least_noted false old new says is least = subst (IsLeastPlace (AtMet at P more)) (sym is) (least_kept old (λ has. false≢true (says.1 has)) least)

-- none of them has P
abbrev pub HaveNone : (Met → Type 0) → List Met → Type 0
HaveNone P done = (met : Met) → Contains done met → ¬ P met

none_least : (at : Met → ℕ) (P : Met → Type 0) (done : List Met) → HaveNone P done → IsLeastPlace (AtMet at P done) None
none_least at P done none = λ place (met, among, is, has). none met among has

none_more : (P : Met → Type 0) (done : List Met) (next : Met) → HaveNone P done → ¬ P next → HaveNone P (done ++ next ∷ [])
none_more P done next none here = λ met among has. elim (Contains-push_cases done next met among) [
  | inl before ↦ none met before has
  | inr same ↦ here (subst P (sym same) has)
]

-- The walk

-- Some nodes were met, and these wait. The last two fields of a survey are of nodes at which the walk ends.
pub record IsWalkedTo (image trie : List ℕ) (left : ℕ) (waiting : List ℕ) (survey : ExportSurvey) : Type 0 where
  pub done : List Met
  pub most : ℕ
  pub enough : left < most
  pub rest : met_nodes trie ≡ done ++ walk most trie left waiting
  pub node : survey.node ≡ None
  pub total : survey.total ≡ None
  pub ended : HaveNone (HasNoEnd trie) done
  pub kept : HaveNone (PassesTable trie) done
  pub terminal : IsLeastPlace (AtMet own_place (HasTerminal trie (IsBadTerminal trie)) done) survey.terminal
  pub library : IsLeastPlace (AtMet own_place (HasTerminal trie (HasExport trie (HasNoLibrary image))) done) survey.library
  pub address : IsLeastPlace (AtMet own_place (HasTerminal trie (HasExport trie (HasNoAddress image))) done) survey.address

-- what follows a node in the walk
abbrev follows : ℕ → List ℕ → ℕ → ℕ → List ℕ → Node → List Met
follows most trie left place waiting node =
    cond (nat_lt left (node.end - place)) [] (walk most trie (left - (node.end - place)) (children node ++ waiting))

module _ (image trie : List ℕ) where
  pub walked_start : IsWalkedTo image trie (length trie) (0 ∷ []) unbroken_exports
  walked_start = record {
    done = [];
    most = length trie + 1;
    enough = omega arith;
    rest = refl;
    node = refl;
    total = refl;
    ended = λ met (k, less, at). absurd (omega (arith, less));
    kept = λ met (k, less, at). absurd (omega (arith, less));
    terminal = λ place (met, (k, less, at), _, _). absurd (omega (arith, less));
    library = λ place (met, (k, less, at), _, _). absurd (omega (arith, less));
    address = λ place (met, (k, less, at), _, _). absurd (omega (arith, less));
  }

  -- no node waits
  pub walked_all : (left : ℕ) (survey : ExportSurvey) → IsWalkedTo image trie left [] survey → AreLeastInTrie image trie survey
  walked_all left survey are =
      let all : are.done ≡ met_nodes trie = sym (are.rest ∙ (ap (λ (r : List Met). are.done ++ r) (none are.most) ∙ append-nil are.done)) in
      record {
        node = subst (IsLeastPlace _) (sym are.node) (subst (λ (n : List Met). IsLeastPlace (AtMet (place_or_end trie) (HasNoEnd trie) n) None) all (none_least (place_or_end trie) _ _ are.ended));
        total = subst (IsLeastPlace _) (sym are.total) (subst (λ (n : List Met). IsLeastPlace (AtMet own_place (PassesTable trie) n) None) all (none_least own_place _ _ are.kept));
        terminal = subst (λ (n : List Met). IsLeastPlace (AtMet own_place (HasTerminal trie (IsBadTerminal trie)) n) survey.terminal) all are.terminal;
        library = subst (λ (n : List Met). IsLeastPlace (AtMet own_place (HasTerminal trie (HasExport trie (HasNoLibrary image))) n) survey.library) all are.library;
        address = subst (λ (n : List Met). IsLeastPlace (AtMet own_place (HasTerminal trie (HasExport trie (HasNoAddress image))) n) survey.address) all are.address;
      }
    where
      none : (most : ℕ) → walk most trie left [] ≡ []
      none zero = refl
      none (suc most) = refl

  module _ (left place : ℕ) (waiting : List ℕ) (survey : ExportSurvey) (are : IsWalkedTo image trie left (place ∷ waiting) survey) where
    abbrev here : Met
    here = record { place = place; left = left }

    abbrev with_this : List Met
    with_this = are.done ++ here ∷ []

    step : (most : ℕ) → left < most → (after : ℕ → List Met) → ((m : ℕ) → option_map_or (follows m trie left place waiting) (node_at trie place) [] ≡ after m)
        → (m : ℕ) × (most ≡ suc m) × (are.done ++ walk most trie left (place ∷ waiting) ≡ with_this ++ after m)
    step zero few after is = absurd (omega arith)
    step (suc m) few after is =
        (m, refl, ap (λ (r : List Met). are.done ++ here ∷ r) (is m) ∙ sym (append_assoc are.done (here ∷ []) (after m)))

    -- the walk ends at this node
    last : ((m : ℕ) → option_map_or (follows m trie left place waiting) (node_at trie place) [] ≡ []) → with_this ≡ met_nodes trie
    last ends =
        let (m, is, same) = step are.most are.enough (λ m. []) ends in
        sym (are.rest ∙ (same ∙ append-nil with_this))

    -- what was noted before it stays
    ended_at : with_this ≡ met_nodes trie → (node total : Option ℕ) → IsLeastPlace (AtMet (place_or_end trie) (HasNoEnd trie) with_this) node → IsLeastPlace (AtMet own_place (PassesTable trie) with_this) total
        → ((Q : Span → Type 0) → ¬ HasTerminal trie Q here)
        → AreLeastInTrie image trie (record { node = node; total = total; terminal = survey.terminal; library = survey.library; address = survey.address })
    ended_at all node total least_node least_total none = record {
      node = subst (λ (n : List Met). IsLeastPlace (AtMet (place_or_end trie) (HasNoEnd trie) n) node) all least_node;
      total = subst (λ (n : List Met). IsLeastPlace (AtMet own_place (PassesTable trie) n) total) all least_total;
      terminal = subst (λ (n : List Met). IsLeastPlace (AtMet own_place (HasTerminal trie (IsBadTerminal trie)) n) survey.terminal) all (least_kept own_place _ are.done here survey.terminal (none _) are.terminal);
      library = subst (λ (n : List Met). IsLeastPlace (AtMet own_place (HasTerminal trie (HasExport trie (HasNoLibrary image))) n) survey.library) all (least_kept own_place _ are.done here survey.library (none _) are.library);
      address = subst (λ (n : List Met). IsLeastPlace (AtMet own_place (HasTerminal trie (HasExport trie (HasNoAddress image))) n) survey.address) all (least_kept own_place _ are.done here survey.address (none _) are.address);
    }

    -- it does not end
    pub walked_endless : node_at trie place ≡ None → AreLeastInTrie image trie (record survey { node = Some (min place (length trie)) })
    walked_endless none =
        let all = last (λ m. rw none refl) in
        subst (λ (t : Option ℕ). AreLeastInTrie image trie (record survey { node = Some (min place (length trie)); total = t })) (sym are.total)
        (ended_at all (Some (min place (length trie))) None
        (least_added (place_or_end trie) (HasNoEnd trie) are.done here None none (none_least (place_or_end trie) (HasNoEnd trie) are.done are.ended))
        (least_kept own_place (PassesTable trie) are.done here None (λ has. let (node, is, _) = some_of _ (node_at trie place) has in none-some node (sym none ∙ is)) (none_least own_place (PassesTable trie) are.done are.kept))
        (λ Q has. let (node, is, _) = some_of _ (node_at trie place) has in none-some node (sym none ∙ is)))

    module _ (node : Node) (is : node_at trie place ≡ Some node) where
      -- what is said of it
      of_node : (P : Node → Type 0) → IsSomeAnd (node_at trie place) P → P node
      of_node P has = let (other, there, so) = some_of P (node_at trie place) has in subst P (same_Some other node (sym there ∙ is)) so

      ends : ¬ HasNoEnd trie here
      ends none = none-some node (sym none ∙ is)

      -- it has too many bytes
      pub walked_past : left < node.end - place → AreLeastInTrie image trie (record survey { total = Some place })
      walked_past past =
          let all = last (λ m. rw (is, lt-ltb left (node.end - place) past) refl) in
          subst (λ (n : Option ℕ). AreLeastInTrie image trie (record survey { node = n; total = Some place })) (sym are.node)
          (ended_at all None (Some place)
          (least_kept (place_or_end trie) (HasNoEnd trie) are.done here None ends (none_least (place_or_end trie) (HasNoEnd trie) are.done are.ended))
          (least_added own_place (PassesTable trie) are.done here None (of_some (λ n. left < n.end - place) (node_at trie place) node is past) (none_least own_place (PassesTable trie) are.done are.kept))
          (λ Q has. let (fits, _) = of_node (λ n. (n.end - place ≤ left) × Q n.terminal) has in omega (arith, fits, past)))

      -- it is met
      pub walked_more : place < node.end → node.end - place ≤ left → (breaks : NodeBreaks) (new : ExportSurvey) → AreNodeBreaks image trie node.terminal breaks
          → new.node ≡ survey.node → new.total ≡ survey.total → IsNotedLeast breaks.terminal place survey.terminal new.terminal
          → IsNotedLeast breaks.library place survey.library new.library → IsNotedLeast breaks.address place survey.address new.address
          → IsWalkedTo image trie (left - (node.end - place)) (children node ++ waiting) new
      walked_more some fits breaks new says same_node same_total terminal library address =
          let (m, most, same) = step are.most are.enough (λ m. walk m trie (left - (node.end - place)) (children node ++ waiting)) (λ m. rw (is, le-ltb left (node.end - place) fits) refl) in
          let enough = are.enough in
          record {
            done = with_this;
            most = m;
            enough = omega (arith, enough, most, some, fits);
            rest = are.rest ∙ same;
            node = same_node ∙ are.node;
            total = same_total ∙ are.total;
            ended = none_more (HasNoEnd trie) are.done here are.ended ends;
            kept = none_more (PassesTable trie) are.done here are.kept (λ has. let past = of_node (λ n. left < n.end - place) has in omega (arith, past, fits));
            terminal = least_noted own_place _ are.done here breaks.terminal survey.terminal new.terminal (of_terminal breaks.terminal (IsBadTerminal trie) says.terminal) terminal are.terminal;
            library = least_noted own_place _ are.done here breaks.library survey.library new.library (of_terminal breaks.library (HasExport trie (HasNoLibrary image)) says.library) library are.library;
            address = least_noted own_place _ are.done here breaks.address survey.address new.address (of_terminal breaks.address (HasExport trie (HasNoAddress image)) says.address) address are.address;
          }
        where
          of_terminal : (broken : Bool) (Q : Span → Type 0) → IsTrue broken ↔ Q node.terminal → IsTrue broken ↔ HasTerminal trie Q here
          of_terminal broken Q tells = (
            λ so. of_some (λ n. (n.end - place ≤ left) × Q n.terminal) (node_at trie place) node is (fits, tells.0 so),
            λ has. tells.1 (of_node (λ n. (n.end - place ≤ left) × Q n.terminal) has).1,
          )

-- As the code has it

module _ (image trie : List ℕ) (left place : ℕ) (old waiting after : List ℕ) (survey : ExportSurvey) (next : old ≡ place ∷ waiting) (are : IsWalkedTo image trie left old survey) where
  now : IsWalkedTo image trie left (place ∷ waiting) survey
  now = subst (λ (w : List ℕ). IsWalkedTo image trie left w survey) next are

  pub survey_endless : (met : Option MetNode) → met ≡ None → IsMetAt trie place waiting after met → (reported : ℕ) → reported ≡ min place (length trie)
      → AreLeastInTrie image trie (record survey { node = Some reported })
  survey_endless met none read reported is =
      subst (λ (n : ℕ). AreLeastInTrie image trie (record survey { node = Some n })) (sym is)
      (walked_endless image trie left place waiting survey now (subst (IsMetAt trie place waiting after) none read))

  module _ (met : Option MetNode) (m : MetNode) (some : met ≡ Some m) (read : IsMetAt trie place waiting after met) where
    pub survey_past : left < m.end - place → AreLeastInTrie image trie (record survey { total = Some place })
    survey_past past =
        let (node, at, terminal, end, are_children) = subst (IsMetAt trie place waiting after) some read in
        walked_past image trie left place waiting survey now node at (subst (λ (e : ℕ). left < e - place) end past)

    pub survey_more : place < m.end → m.end - place ≤ left → (rest : ℕ) → rest ≡ left - (m.end - place) → (breaks : NodeBreaks) (new : ExportSurvey)
        → AreNodeBreaks image trie m.terminal breaks → new.node ≡ survey.node → new.total ≡ survey.total → IsNotedLeast breaks.terminal place survey.terminal new.terminal
        → IsNotedLeast breaks.library place survey.library new.library → IsNotedLeast breaks.address place survey.address new.address → IsWalkedTo image trie rest after new
    survey_more begins fits rest is breaks new says same_node same_total terminal_noted library_noted address_noted =
        let (node, at, terminal, end, are_children) = subst (IsMetAt trie place waiting after) some read in
        let more = walked_more image trie left place waiting survey now node at (subst (λ (e : ℕ). place < e) end begins) (subst (λ (e : ℕ). e - place ≤ left) end fits) breaks new
        (subst (λ (t : Span). AreNodeBreaks image trie t breaks) terminal says) same_node same_total terminal_noted library_noted address_noted in
        let rest_is : rest ≡ left - (node.end - place) = is ∙ ap (λ (e : ℕ). left - (e - place)) end in
        subst (λ (w : List ℕ). IsWalkedTo image trie rest w new) (sym are_children)
        (subst (λ (n : ℕ). IsWalkedTo image trie n (children node ++ waiting) new) (sym rest_is) more)
