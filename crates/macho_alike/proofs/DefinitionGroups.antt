-- Definitions that are sorted by their names: the least place at which one says something else than an earlier one.
use Rattle.std.proofs.Common.{◌≡◌, ◌≢◌, ◌∙◌, ◌↔◌, ◌⊎◌, ℕ, ◌+◌, ◌*◌, ◌<◌, ◌≤◌, List, length, get_or, Option, None, Some, MatchOption, IfSome, Contains, refl, sym, ap, subst, arith, lit<, inl, inr, le_refl}
use Rattle.std.specs.Prelude.{IsSomeAnd}
use Rattle.std.proofs.lemmas.Bool.{cases_lt}
use Rattle.std.proofs.lemmas.List.{get_or_default}
use Rattle.std.proofs.lemmas.List.Elements.{Contains-get_or}
use Rattle.macho_fields.specs.FirstPlace.{IsLeastPlace}
use Rattle.macho_fields.specs.Image.{commands_of, with_cmd}
use Rattle.macho_fields.specs.Layers.{NothingBreaks}
use Rattle.macho_fields.specs.Rules.{BreaksImage}
use Rattle.macho_fields.specs.Symbol.{symoff, nsyms}
use Rattle.macho_fields.specs.declared.header.loader.TheConstants as loader
use Rattle.macho_fields.specs.declared.rule.Rule.TheVariants as rule
use Rattle.macho_fields.proofs.Lists.{any_of}
use Rattle.macho_image.specs.Opened.{IsOpened}
use Rattle.macho_image.specs.Symbol.{symbol_at}
use Rattle.macho_image.specs.declared.symbol.Symbol.{Symbol}
use Rattle.macho_rules.proofs.Judged.{keeps_opened}
use Rattle.macho_rules.proofs.OneCommand.{one_with_cmd}
use Rattle.macho_spans.specs.Span.{end_of}
use Rattle.macho_spans.specs.declared.span.Span.{Span}
use Rattle.macho_tables.proofs.Places.{least_same, least_joined}
use Rattle.macho_tables.specs.Places.{lesser}
use Rattle.macho_alike.specs.Definitions.{DefinesName, name_of, meaning_of, Disagree, DisagreesEarlier, BreaksDefinition}
use Rattle.macho_alike.specs.Names.{IsNamed, text_of, AreByName}
use Rattle.macho_alike.specs.SortedDefinitions.{HasNameOf, IsFirstOfName}
use Rattle.macho_alike.specs.SymbolModels.{symbol_place}
use Rattle.macho_alike.specs.declared.definitions.DefinedName.{DefinedName}
use Rattle.macho_alike.specs.declared.definitions.Meaning.{Meaning}
use Rattle.macho_alike.specs.declared.names.Named.{Named}
use Rattle.macho_alike.proofs.NameLists.{text_is, named_at, name_at, named_for}
use Rattle.macho_alike.proofs.NameOrder.{name_between, place_rises}

-- one more place
least_with : (P Q : ℕ → Type 0) (found : Option ℕ) (p : ℕ) → IsLeastPlace P found → ((q : ℕ) → P q → Q q) → Q p → ((q : ℕ) → Q q → P q ⊎ (p ≤ q)) → IsLeastPlace Q (lesser found (Some p))
least_with P Q found p least to here from =
    least_same (λ q. P q ⊎ ((p ≤ q) × Q q)) Q (lesser found (Some p)) (λ q. (λ either. elim either [ inl is ↦ to q is | inr is ↦ is.1 ], λ is. elim (from q is) [ inl old ↦ inl old | inr above ↦ inr (above, is) ]))
    (least_joined P (λ q. (p ≤ q) × Q q) found (Some p) least ((le_refl p, here), λ q is. is.0))

-- places that are not below those that were known
least_above : (P Q : ℕ → Type 0) (found : Option ℕ) → IsLeastPlace P found → ((q : ℕ) → P q → Q q) → ((q : ℕ) → Q q → (p : ℕ) × P p × (p ≤ q)) → IsLeastPlace Q found
least_above P Q None none to from = λ q is. let (p, known, low) = from q is in none p known
least_above P Q (Some f) (here, least) to from = (to f here, λ q is. let (p, known, low) = from q is in let first = least p known in omega (arith, low, first))

-- what stands for a symbol that is not there
abbrev pub no_named : Named
no_named = record { name = record { start = 0; len = 0 }; place = 0 }

-- the first is an earlier symbol that defines the name of the second otherwise
abbrev pub IsPair : List ℕ → Named → Named → Type 0
IsPair image one other =
    DefinesName (symbol_at image one.place) × DefinesName (symbol_at image other.place) × (text_of image one ≡ text_of image other)
    × (one.place < other.place) × (meaning_of (symbol_at image one.place) ≢ meaning_of (symbol_at image other.place))

module _ (image : List ℕ) (names : List Named) where
  abbrev pub at : ℕ → Named
  at k = get_or names k no_named

  abbrev pub symbol : ℕ → Symbol
  symbol k = symbol_at image (at k).place

  abbrev text : ℕ → List ℕ
  text k = text_of image (at k)

  abbrev pub Defines : ℕ → Type 0
  Defines k = DefinesName (symbol k)

  abbrev means : ℕ → Meaning
  means k = meaning_of (symbol k)

  abbrev pub Pair : ℕ → ℕ → Type 0
  Pair i j = IsPair image (at i) (at j)

  -- among the first n
  abbrev pub DiffersBelow : ℕ → ℕ → Type 0
  DiffersBelow n place = (i j : ℕ) × (i < n) × (j < n) × Pair i j × (place ≡ (at j).place)

  -- it is the first of the first n that defines the last name
  pub record IsHead (n : ℕ) (head : DefinedName) : Type 0 where
    pub index : ℕ
    pub less : index < n
    pub defines : Defines index
    pub name : head.name ≡ (at index).name
    pub meaning : head.meaning ≡ means index
    pub lowest : (i : ℕ) → i < n → Defines i → text i ≡ text index → index ≤ i
    pub last : (i : ℕ) → i < n → Defines i → index ≤ i → text i ≡ text index

  -- what the walk has found in the first n
  pub record Walked (n : ℕ) (first : Option DefinedName) (found : Option ℕ) : Type 0 where
    pub least : IsLeastPlace (DiffersBelow n) found
    pub head : MatchOption first ((i : ℕ) → i < n → ¬ Defines i) (IsHead n)

  pub walked_none : Walked 0 None None
  walked_none = record {
    least = λ place (i, j, less, _, _, _). absurd (omega (arith, less));
    head = λ i less defines. absurd (omega (arith, less));
  }

  more : (n place : ℕ) → DiffersBelow n place → DiffersBelow (n + 1) place
  more n place (i, j, less_i, less_j, pair, is) = (i, j, omega (arith, less_i), omega (arith, less_j), pair, is)

  before_or_last : (n i : ℕ) → i < n + 1 → (i < n) ⊎ (i ≡ n)
  before_or_last n i within = elim (cases_lt i n) [ inl before ↦ inl before | inr past ↦ inr (omega (arith, within, past)) ]

  module _ (sorted : AreByName image names) (n : ℕ) (within : n < length names) where
    rises : (i : ℕ) → i ≤ n → text i ≡ text n → (at i).place ≤ (at n).place
    rises i low = place_rises image names sorted i n no_named low within

    -- a pair among one more: an old one, or one whose second is the last
    split : (place : ℕ) → DiffersBelow (n + 1) place → DiffersBelow n place ⊎ ((i : ℕ) × (i < n) × Pair i n × (place ≡ (at n).place))
    split place (i, j, less_i, less_j, pair, is) = elim (before_or_last n j less_j) [
      | inl before ↦ elim (before_or_last n i less_i) [
        | inl earlier ↦ inl (i, j, earlier, before, pair, is)
        | inr last ↦
            let (_, _, same, below, _) = pair in
            let name : text j ≡ text n = sym same ∙ ap text last in
            let up = rises j (omega (arith, before)) name in
            let here : (at i).place ≡ (at n).place = ap (λ k. (at k).place) last in
            absurd (omega (arith, up, here, below))
      ]
      | inr last ↦ elim (before_or_last n i less_i) [
        | inl earlier ↦ inr (i, earlier, subst (Pair i) last pair, is ∙ ap (λ k. (at k).place) last)
        | inr also ↦
            let (_, _, _, below, _) = pair in
            let here : (at i).place ≡ (at j).place = ap (λ k. (at k).place) (also ∙ sym last) in
            absurd (omega (arith, here, below))
      ]
    ]

    module _ (first : Option DefinedName) (found : Option ℕ) (walked : Walked n first found) where
      -- the last defines nothing
      pub walked_past : ¬ Defines n → Walked (n + 1) first found
      walked_past nothing = record {
        least = least_same (DiffersBelow n) (DiffersBelow (n + 1)) found (λ q. (more n q, λ is. old q (split q is))) walked.least;
        head = kept first walked.head;
      }
        where
          old : (q : ℕ) → DiffersBelow n q ⊎ ((i : ℕ) × (i < n) × Pair i n × (q ≡ (at n).place)) → DiffersBelow n q
          old q (inl is) = is
          old q (inr (i, less, (_, defines, _, _, _), is)) = absurd (nothing defines)

          each : {P : ℕ → Type 0} → ((i : ℕ) → i < n → Defines i → P i) → (i : ℕ) → i < n + 1 → Defines i → P i
          each known i less defines = elim (before_or_last n i less) [ inl before ↦ known i before defines | inr last ↦ absurd (nothing (subst Defines last defines)) ]

          kept : (one : Option DefinedName) → MatchOption one ((i : ℕ) → i < n → ¬ Defines i) (IsHead n) → MatchOption one ((i : ℕ) → i < n + 1 → ¬ Defines i) (IsHead (n + 1))
          kept None none = λ i less defines. elim (before_or_last n i less) [ inl before ↦ none i before defines | inr last ↦ nothing (subst Defines last defines) ]
          kept (Some head) is = record {
            index = is.index;
            less = let below = is.less in omega (arith, below);
            defines = is.defines;
            name = is.name;
            meaning = is.meaning;
            lowest = λ i less defines. elim (before_or_last n i less) [ inl before ↦ is.lowest i before defines | inr last ↦ absurd (nothing (subst Defines last defines)) ];
            last = λ i less defines. elim (before_or_last n i less) [ inl before ↦ is.last i before defines | inr last ↦ absurd (nothing (subst Defines last defines)) ];
          }

      module _ (defines : Defines n) where
        -- it has another name than the last definition
        pub walked_other : (head : DefinedName) → head.name ≡ (at n).name → head.meaning ≡ means n
            → ¬ IsSomeAnd first (λ (one : DefinedName). text_of image (record { name = one.name; place = 0 }) ≡ text n) → Walked (n + 1) (Some head) found
        walked_other head name meaning other = record {
          least = least_same (DiffersBelow n) (DiffersBelow (n + 1)) found (λ q. (more n q, λ is. old q (split q is))) walked.least;
          head = record {
            index = n;
            less = omega arith;
            defines = defines;
            name = name;
            meaning = meaning;
            lowest = λ i less defines_i same. elim (before_or_last n i less) [ inl before ↦ absurd (alone first walked.head other i before defines_i same) | inr last ↦ omega (arith, last) ];
            last = λ i less defines_i most. let here : i ≡ n = omega (arith, less, most) in ap text here;
          };
        }
          where
            alone : (one : Option DefinedName) → MatchOption one ((i : ℕ) → i < n → ¬ Defines i) (IsHead n) → ¬ IsSomeAnd one (λ (d : DefinedName). text_of image (record { name = d.name; place = 0 }) ≡ text n)
                → (i : ℕ) → i < n → Defines i → text i ≢ text n
            alone None none differs i less defines_i same = none i less defines_i
            alone (Some d) is differs i less defines_i same =
                let named : text_of image (record { name = d.name; place = 0 }) ≡ text is.index = ap (λ s. text_of image (record { name = s; place = 0 })) is.name in
                let below = is.less in
                differs (named ∙ elim (cases_lt i is.index) [
                  | inl before ↦ name_between image names sorted i is.index n no_named (omega (arith, before)) (omega (arith, below)) within same ∙ same
                  | inr past ↦ sym (is.last i less defines_i past) ∙ same
                ])

            old : (q : ℕ) → DiffersBelow n q ⊎ ((i : ℕ) × (i < n) × Pair i n × (q ≡ (at n).place)) → DiffersBelow n q
            old q (inl is) = is
            old q (inr (i, less, (defines_i, _, same, _, _), is)) = absurd (alone first walked.head other i less defines_i same)

        module _ (head : DefinedName) (is_first : first ≡ Some head) (same_name : text_of image (record { name = head.name; place = 0 }) ≡ text n) where
          is : IsHead n head
          is = subst (λ (one : Option DefinedName). MatchOption one ((i : ℕ) → i < n → ¬ Defines i) (IsHead n)) is_first walked.head

          of_head : text is.index ≡ text n
          of_head = sym (ap (λ s. text_of image (record { name = s; place = 0 })) is.name) ∙ same_name

          head_next : IsHead (n + 1) head
          head_next = record {
            index = is.index;
            less = let below = is.less in omega (arith, below);
            defines = is.defines;
            name = is.name;
            meaning = is.meaning;
            lowest = λ i less defines_i same. elim (before_or_last n i less) [ inl before ↦ is.lowest i before defines_i same | inr last ↦ let below = is.less in omega (arith, last, below) ];
            last = λ i less defines_i most. elim (before_or_last n i less) [ inl before ↦ is.last i before defines_i most | inr last ↦ ap text last ∙ sym of_head ];
          }

          -- two with other meanings are at two places
          apart : (i j : ℕ) → means i ≢ means j → (at i).place ≤ (at j).place → (at i).place < (at j).place
          apart i j other low = elim (cases_lt (at i).place (at j).place) [
            | inl less ↦ less
            | inr most ↦ let level : (at i).place ≡ (at j).place = omega (arith, low, most) in absurd (other (ap (λ p. meaning_of (symbol_at image p)) level))
          ]

          -- it says the same
          pub walked_same : head.meaning ≡ means n → Walked (n + 1) (Some head) found
          walked_same same = record {
            least = least_above (DiffersBelow n) (DiffersBelow (n + 1)) found walked.least (more n) (λ q broken. from q (split q broken));
            head = head_next;
          }
            where
              from : (q : ℕ) → DiffersBelow n q ⊎ ((i : ℕ) × (i < n) × Pair i n × (q ≡ (at n).place)) → (p : ℕ) × DiffersBelow n p × (p ≤ q)
              from q (inl old) = (q, old, le_refl q)
              from q (inr (i, less, (defines_i, _, name, below, differ), at_n)) =
                  let to_head : text i ≡ text is.index = name ∙ sym of_head in
                  let other : means is.index ≢ means i = λ equal. differ (sym equal ∙ (sym is.meaning ∙ same)) in
                  let low = place_rises image names sorted is.index i no_named (is.lowest i less defines_i to_head) (omega (arith, less, within)) (sym to_head) in
                  ((at i).place, (is.index, i, is.less, less, (is.defines, defines_i, sym to_head, apart is.index i other low, other), refl), omega (arith, below, at_n))

          -- it says something else
          pub walked_differs : head.meaning ≢ means n → Walked (n + 1) (Some head) (lesser found (Some (at n).place))
          walked_differs differ = record {
            least = least_with (DiffersBelow n) (DiffersBelow (n + 1)) found (at n).place walked.least (more n) here (λ q broken. from q (split q broken));
            head = head_next;
          }
            where
              here : DiffersBelow (n + 1) (at n).place
              here =
                  let below = is.less in
                  let other : means is.index ≢ means n = λ equal. differ (is.meaning ∙ equal) in
                  (is.index, n, omega (arith, below), omega arith, (is.defines, defines, of_head, apart is.index n other (rises is.index (omega (arith, below)) of_head), other), refl)

              from : (q : ℕ) → DiffersBelow n q ⊎ ((i : ℕ) × (i < n) × Pair i n × (q ≡ (at n).place)) → DiffersBelow n q ⊎ ((at n).place ≤ q)
              from q (inl old) = inl old
              from q (inr (i, less, pair, at_n)) = inr (omega (arith, at_n))

        -- the first of its name, and whether it says the same
        module _ (meaning : Meaning) (is_meaning : meaning ≡ means n) (head : DefinedName) (first_of : IsFirstOfName image first (record { name = (at n).name; meaning = meaning }) head) where
          abbrev OfName : DefinedName → Type 0
          OfName one = HasNameOf image one (record { name = (at n).name; meaning = meaning })

          pub walked_noted : head.meaning ≢ meaning → Walked (n + 1) (Some head) (lesser found (Some (at n).place))
          walked_noted other = elim first_of [
            | inl (named, is_first) ↦ walked_differs head is_first (subst (λ (o : Option DefinedName). IsSomeAnd o OfName) is_first named) (λ same. other (same ∙ sym is_meaning))
            | inr (_, here) ↦ absurd (other (ap (λ (one : DefinedName). one.meaning) here))
          ]

          pub walked_kept : head.meaning ≡ meaning → Walked (n + 1) (Some head) found
          walked_kept same = elim first_of [
            | inl (named, is_first) ↦ walked_same head is_first (subst (λ (o : Option DefinedName). IsSomeAnd o OfName) is_first named) (same ∙ is_meaning)
            | inr (apart, here) ↦ walked_other head (ap (λ (one : DefinedName). one.name) here) (same ∙ is_meaning) apart
          ]

  -- what is known of the walk lies in the image
  pub head_inside : (n : ℕ) → n ≤ length names → (first : Option DefinedName) (found : Option ℕ) → Walked n first found → ((one : Named) → Contains names one → end_of one.name ≤ length image)
      → IfSome first (λ (one : DefinedName). end_of one.name ≤ length image)
  head_inside n most None found walked inside = tt
  head_inside n most (Some head) found walked inside =
      let is = walked.head in
      let below = is.less in
      subst (λ (name : Span). end_of name ≤ length image) (sym is.name) (inside (at is.index) (Contains-get_or names is.index no_named (omega (arith, below, most))))

-- From the list to the image

module _ (image : List ℕ) (keeps : NothingBreaks (BreaksImage image None)) (names : List Named) (are : (one : Named) → Contains names one ↔ IsNamed image one) where
  opened : IsOpened image
  opened = keeps_opened image rule.SymbolName (lit< tt) (λ other place early. keeps other place)

  index_of : (one : Named) → IsNamed image one → (k : ℕ) × (k < length names) × (at image names k ≡ one)
  index_of one is = let (k, less, same) = (are one).1 is in (k, less, get_or_default names k no_named one less ∙ same)

  pub differ_breaks : (place : ℕ) → DiffersBelow image names (length names) place ↔ BreaksDefinition image place
  differ_breaks place = (to, from)
    where
      to : DiffersBelow image names (length names) place → BreaksDefinition image place
      to (i, j, less_i, less_j, (defines_i, defines_j, same, below, differ), is) =
          let one : Named = at image names i in
          let other : Named = at image names j in
          let (x, c, in_c, at_c, (k, few, at_k, of_one)) = (are one).0 (Contains-get_or names i no_named less_i) in
          let (y, d, in_d, at_d, (m, few_m, at_m, of_other)) = (are other).0 (Contains-get_or names j no_named less_j) in
          let table : c ≡ d = one_with_cmd image loader.LC_SYMTAB opened refl c d (x, in_c, at_c) (y, in_d, at_d) in
          let text : name_of image c (symbol_at image one.place) ≡ name_of image c (symbol_at image other.place) =
          sym (text_is image c (symbol_at image one.place) one of_one) ∙ (same ∙ (text_is image d (symbol_at image other.place) other of_other ∙ ap (λ t. name_of image t (symbol_at image other.place)) (sym table))) in
          let disagree : Disagree image c (symbol_at image one.place) (symbol_at image other.place) = (defines_i, defines_j, text, differ) in
          let earlier : DisagreesEarlier image c other.place = (k, few, subst (λ p. p < other.place) at_k below, subst (λ p. Disagree image c (symbol_at image p) (symbol_at image other.place)) at_k disagree) in
          subst (BreaksDefinition image) (sym is)
          (any_of (λ t. (n : ℕ) × (n < nsyms image t) × (other.place ≡ symoff image t + 16 * n) × DisagreesEarlier image t other.place)
          (with_cmd image loader.LC_SYMTAB (commands_of image)) d (y, in_d, at_d) (m, few_m, at_m, subst (λ t. DisagreesEarlier image t other.place) table earlier))

      from : BreaksDefinition image place → DiffersBelow image names (length names) place
      from (x, c, in_c, at_c, (m, few_m, at_m, (k, few, below, ((external_k, known_k), (external_m, known_m), text, differ)))) =
          let first : ℕ = symbol_place image c k in
          let one = named_at image c (symbol_at image first) in
          let other = named_at image c (symbol_at image place) in
          let (i, less_i, is_one) = index_of one (named_for image c (x, in_c, at_c) k few first refl (external_k.0, known_k)) in
          let (j, less_j, is_other) = index_of other (named_for image c (x, in_c, at_c) m few_m place at_m (external_m.0, known_m)) in
          let same : text_of image one ≡ text_of image other =
          text_is image c (symbol_at image first) one (name_at image c (symbol_at image first) (external_k.0, known_k))
          ∙ (text ∙ sym (text_is image c (symbol_at image place) other (name_at image c (symbol_at image place) (external_m.0, known_m)))) in
          let pair : IsPair image one other = ((external_k, known_k), (external_m, known_m), same, below, differ) in (
            i,
            j,
            less_i,
            less_j,
            subst (λ (a : Named). IsPair image a (at image names j)) (sym is_one) (subst (λ (b : Named). IsPair image one b) (sym is_other) pair),
            sym (ap (λ (b : Named). b.place) is_other),
          )

  pub least_defined : (found : Option ℕ) → IsLeastPlace (DiffersBelow image names (length names)) found → IsLeastPlace (BreaksDefinition image) found
  least_defined found = least_same (DiffersBelow image names (length names)) (BreaksDefinition image) found differ_breaks
