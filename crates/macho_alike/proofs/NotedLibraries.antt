-- What is noted of the libraries in which names are looked up is what the look-ups say.
use Rattle.std.proofs.Common.{◌≡◌, ◌≢◌, ◌↔◌, ◌⊎◌, ◌∙◌, ℕ, List, [], ◌∷◌, ◌++◌, Contains, Bool, true, false, cond, Option, None, Some, refl, sym, ap, subst, arith, inl, inr}
use Rattle.std.specs.Prelude.{IsSomeAnd, bytes_eq}
use Rattle.std.specs.Borrow.{Bor}
use Rattle.std.specs.BTreeMap.{BTreeMap, UpdatesBy}
use Rattle.std.specs.Cmp.Lexicographic.{slice_cmp}
use Rattle.std.specs.Ordering.{nat_cmp}
use Rattle.std.proofs.lemmas.Bool.{cases_Bool, false≢true}
use Rattle.std.proofs.lemmas.Map.Text.{btree_map_updates_str}
use Rattle.std.proofs.lemmas.Option.{same_Some, none-some}
use Rattle.std.proofs.lemmas.Slice.Eq.{bytes_eq-Decides}
use Rattle.macho_fields.proofs.Options.{some_of, of_some, some_has, of_none}
use Rattle.macho_alike.specs.LookUps.{LookUps, WereListed}
use Rattle.macho_alike.specs.NotedLibraries.{by_name, IsWith, IsNoted, AreNoted, AreKnown, HasOther}
use Rattle.macho_alike.specs.declared.binds.Library.{Library}
use Rattle.macho_alike.specs.declared.binds.Library.TheVariants as library
use Rattle.macho_alike.specs.declared.imports.Libraries.{Libraries}
use Rattle.macho_alike.proofs.DefinitionMeanings.{equal_or_not}
use Rattle.macho_alike.proofs.NotedLookUps.{listed_one}

-- What is known, by the names
abbrev Known : Type 0
Known = List ℕ → Option Libraries

pub libraries_or_not : (a b : Library) → (a ≡ b) ⊎ (a ≢ b)
libraries_or_not (library.Ordinal n) (library.Ordinal m) = elim (equal_or_not n m) [ inl same ↦ inl (ap library.Ordinal same) | inr apart ↦ inr (λ same. apart (cc)) ]
libraries_or_not (library.Special n) (library.Special m) = elim (equal_or_not n m) [ inl same ↦ inl (ap library.Special same) | inr apart ↦ inr (λ same. apart (cc)) ]
libraries_or_not (library.Ordinal n) (library.Special m) = inr (λ wrong. absurd (cc))
libraries_or_not (library.Special n) (library.Ordinal m) = inr (λ wrong. absurd (cc))

names_or_not : (a b : List ℕ) → (a ≡ b) ⊎ (a ≢ b)
names_or_not a b = elim (cases_Bool (bytes_eq a b)) [
  | inl t ↦ inl ((bytes_eq-Decides a b).0 t)
  | inr f ↦ inr (λ same. false≢true (sym f ∙ (bytes_eq-Decides a b).1 same))
]

differ_by : (a b : List ℕ) → a ≢ b → bytes_eq a b ≡ false
differ_by a b apart = elim (cases_Bool (bytes_eq a b)) [ inl t ↦ absurd (apart ((bytes_eq-Decides a b).0 t)) | inr f ↦ f ]

-- In a map

pub with_by : (old new : BTreeMap (Bor (List ℕ)) Libraries) (name : List ℕ) (from : Library) (libraries : Libraries)
    → UpdatesBy (λ x y. slice_cmp nat_cmp x.now y.now) (λ key. slice_cmp nat_cmp name key.now) old new (Some libraries) → IsWith (by_name old name) from libraries
    → IsNoted (by_name old) (by_name new) name from
with_by old new name from libraries updates is =
    let after = btree_map_updates_str name old new (Some libraries) updates in (
      (libraries, after name ∙ ap (λ (here : Bool). cond here (Some libraries) (by_name old name)) ((bytes_eq-Decides name name).1 refl), is),
      λ other apart.
          let differ : bytes_eq name other ≡ false = differ_by name other (λ same. apart (sym same)) in
          after other ∙ ap (λ (here : Bool). cond here (Some libraries) (by_name old other)) differ,
    )

-- By look-ups with P

module _ (P : List ℕ → Library → Type 0) where
  pub noted_nothing : (known : Known) → ((name : List ℕ) (from : Library) → ¬ P name from) → ((name : List ℕ) → known name ≡ None) → AreNoted P known
  noted_nothing known nothing empty = record {
    each = λ name from is. absurd (nothing name from is);
    first = λ name libraries is. absurd (none-some libraries (sym (empty name) ∙ is));
    other = λ name libraries is more. absurd (none-some libraries (sym (empty name) ∙ is));
  }

  pub noted_same : (Q : List ℕ → Library → Type 0) (known : Known) → ((name : List ℕ) (from : Library) → P name from ↔ Q name from) → AreNoted P known → AreNoted Q known
  noted_same Q known same are = record {
    each = λ name from is. are.each name from ((same name from).1 is);
    first = λ name libraries is. (same name libraries.first).0 (are.first name libraries is);
    other = λ name libraries is more. let (from, here, apart) = are.other name libraries is more in (from, (same name from).0 here, apart);
  }

  module _ (old new : Known) (are : AreNoted P old) where
    module _ (name : List ℕ) (from : Library) (noted : IsNoted old new name from) where
      abbrev More : List ℕ → Library → Type 0
      More other also = P other also ⊎ ((other ≡ name) × (also ≡ from))

      abbrev libraries : Libraries
      libraries = noted.0.0

      -- of the name itself
      record AreOfName : Type 0 where
        pub each : (also : Library) → P name also ⊎ (also ≡ from) → (also ≡ libraries.first) ⊎ (libraries.has_other ≡ true)
        pub first : P name libraries.first ⊎ (libraries.first ≡ from)
        pub other : libraries.has_other ≡ true → (also : Library) × (P name also ⊎ (also ≡ from)) × (also ≢ libraries.first)

      of_name : (o : Option Libraries) → old name ≡ o → IsWith o from libraries → AreOfName
      of_name None is (first, alone) = record {
        each = λ also either. elim either [
          | inl here ↦ absurd (of_none (λ l. (also ≡ l.first) ⊎ (l.has_other ≡ true)) (old name) is (are.each name also here))
          | inr same ↦ inl (same ∙ sym first)
        ];
        first = inr first;
        other = λ more. absurd (false≢true (sym alone ∙ more));
      }
      of_name (Some was) is (first, more) = record {
        each = λ also either. elim either [
          | inl here ↦ elim (some_has (λ l. (also ≡ l.first) ⊎ (l.has_other ≡ true)) (old name) was is (are.each name also here)) [
            | inl same ↦ inl (same ∙ sym first)
            | inr has ↦ inr (more.1 (inl has))
          ]
          | inr same ↦ elim (libraries_or_not from was.first) [
            | inl equal ↦ inl (same ∙ (equal ∙ sym first))
            | inr apart ↦ inr (more.1 (inr apart))
          ]
        ];
        first = inl (subst (P name) (sym first) (are.first name was is));
        other = λ has. elim (more.0 has) [
          | inl had ↦ let (also, here, apart) = are.other name was is had in (also, inl here, λ same. apart (same ∙ first))
          | inr apart ↦ (from, inr refl, λ same. apart (same ∙ first))
        ];
      }

      named : AreOfName
      named = of_name (old name) refl noted.0.2

      to_more : (also : Library) → P name also ⊎ (also ≡ from) → More name also
      to_more also (inl here) = inl here
      to_more also (inr same) = inr (refl, same)

      each_more : (other : List ℕ) (also : Library) → More other also → IsSomeAnd (new other) (λ l. (also ≡ l.first) ⊎ (l.has_other ≡ true))
      each_more other also either = elim (names_or_not other name) [
        | inl same ↦ of_some (λ l. (also ≡ l.first) ⊎ (l.has_other ≡ true)) (new other) libraries (ap new same ∙ noted.0.1) (named.each also (elim either [
          | inl here ↦ inl (subst (λ (n : List ℕ). P n also) same here)
          | inr (also_name, is) ↦ inr is
        ]))
        | inr apart ↦ elim either [
          | inl here ↦ subst (λ (o : Option Libraries). IsSomeAnd o (λ l. (also ≡ l.first) ⊎ (l.has_other ≡ true))) (sym (noted.1 other apart)) (are.each other also here)
          | inr (same, is) ↦ absurd (apart same)
        ]
      ]

      first_more : (other : List ℕ) (found : Libraries) → new other ≡ Some found → More other found.first
      first_more other found is = elim (names_or_not other name) [
        | inl same ↦
            let equal : libraries ≡ found = same_Some libraries found (sym noted.0.1 ∙ (ap new (sym same) ∙ is)) in
            subst (λ (n : List ℕ). More n found.first) (sym same) (subst (λ (l : Libraries). More name l.first) equal (to_more libraries.first named.first))
        | inr apart ↦ inl (are.first other found (sym (noted.1 other apart) ∙ is))
      ]

      other_more : (other : List ℕ) (found : Libraries) → new other ≡ Some found → found.has_other ≡ true → (also : Library) × More other also × (also ≢ found.first)
      other_more other found is has = elim (names_or_not other name) [
        | inl same ↦
            let equal : libraries ≡ found = same_Some libraries found (sym noted.0.1 ∙ (ap new (sym same) ∙ is)) in
            let (also, here, apart) = named.other (ap (λ (l : Libraries). l.has_other) equal ∙ has) in
            (also, subst (λ (n : List ℕ). More n also) (sym same) (to_more also here), λ wrong. apart (wrong ∙ sym (ap (λ (l : Libraries). l.first) equal)))
        | inr apart ↦ let (also, here, differ) = are.other other found (sym (noted.1 other apart) ∙ is) has in (also, inl here, differ)
      ]

      pub noted_more : AreNoted More new
      noted_more = record { each = each_more; first = first_more; other = other_more }

-- one look-up more of a list
pub known_more : (before : LookUps) (old new : BTreeMap (Bor (List ℕ)) Libraries) (name : List ℕ) (from : Library) → IsNoted (by_name old) (by_name new) name from → AreKnown before old
    → AreKnown (before ++ (name, from) ∷ []) new
known_more before old new name from noted are =
    noted_same (More P (by_name old) (by_name new) are name from noted) (λ other also. Contains (before ++ (name, from) ∷ []) (other, also)) (by_name new)
    (λ other also. ((listed_one name from before other also).1, (listed_one name from before other also).0)) (noted_more P (by_name old) (by_name new) are name from noted)
  where
    P : List ℕ → Library → Type 0
    P other also = Contains before (other, also)

-- no look-up leaves nothing known
pub known_none : (known : BTreeMap (Bor (List ℕ)) Libraries) → ((name : List ℕ) → by_name known name ≡ None) → AreKnown [] known
known_none known empty = noted_nothing (λ name from. Contains [] (name, from)) (by_name known) (λ name from (k, less, at). omega (arith, less)) empty

-- what is known of a list of all look-ups with P
pub known_all : (P : List ℕ → Library → Type 0) (looks : LookUps) (known : BTreeMap (Bor (List ℕ)) Libraries) → WereListed P [] looks → AreKnown looks known → AreNoted P (by_name known)
known_all P looks known listed = noted_same (λ name from. Contains looks (name, from)) P (by_name known) (λ name from. (
  λ has. elim ((listed name from).0 has) [ inl (k, less, at) ↦ absurd (omega (arith, less)) | inr is ↦ is ],
  λ is. (listed name from).1 (inr is),
))

-- what is known of another library
pub has_other : (P : List ℕ → Library → Type 0) (known : Known) → AreNoted P known → (name : List ℕ) (own : Library) → HasOther known name own ↔ ((from : Library) × P name from × (from ≢ own))
has_other P known are name own = (to, back)
  where
    to : HasOther known name own → (from : Library) × P name from × (from ≢ own)
    to has =
        let (libraries, is, either) = some_of (λ (l : Libraries). (l.has_other ≡ true) ⊎ (l.first ≢ own)) (known name) has in
        elim (libraries_or_not libraries.first own) [
          | inr apart ↦ (libraries.first, are.first name libraries is, apart)
          | inl same ↦ elim either [
            | inl more ↦ let (from, here, apart) = are.other name libraries is more in (from, here, λ equal. apart (equal ∙ sym same))
            | inr apart ↦ absurd (apart same)
          ]
        ]

    back : (from : Library) × P name from × (from ≢ own) → HasOther known name own
    back (from, here, apart) =
        let (libraries, is, either) = some_of (λ (l : Libraries). (from ≡ l.first) ⊎ (l.has_other ≡ true)) (known name) (are.each name from here) in
        of_some (λ (l : Libraries). (l.has_other ≡ true) ⊎ (l.first ≢ own)) (known name) libraries is (elim either [
          | inl same ↦ inr (λ equal. apart (same ∙ equal))
          | inr more ↦ inl more
        ])
