-- The pages with another hash in a code directory, where directories with pages of one size are walked together.
use Rattle.std.proofs.Common.{◌≡◌, ◌↔◌, ℕ, ◌+◌, ◌≤◌, ◌<◌, ◌⊎◌, List, length, get_or, Option, None, Some, sym, ap, ◌∙◌, subst, arith, inl, inr}
use Rattle.std.proofs.lemmas.Bool.{cases_lt}
use Rattle.macho_fields.specs.FirstPlace.{IsLeastPlace}
use Rattle.macho_fields.proofs.Options.{some_of, of_some}
use Rattle.macho_seals.specs.Directories.{EachDirectory, AnyDirectory, IsWholeBefore, AreWhole, HasPageSize, HasSlotFor, IsOneOfSize, HasPage, HasPageOfSize, LacksPageOfSize, HasOtherPage, HasOtherOfSize, HasOtherBelow, HaveOtherPage, HaveOtherOfSize, HaveOtherBelow}
use Rattle.macho_seals.specs.Pages.{bytes_in, page_at, page_span}
use Rattle.macho_seals.specs.declared.directories.Directory.{Directory}
use Rattle.macho_seals.proofs.PlacedDirectories.{at_number, any_gives, any_turned, any_mapped, each_turned}
use Rattle.macho_seals.proofs.Firsts.{first_at, none_at}
use Rattle.macho_seals.proofs.PageSpans.{page_inside, page_rises}
use Rattle.macho_signature.specs.CodeDirectories.{slots_of, HasSlots}
use Rattle.macho_signature.specs.declared.code_directory.CodeDirectory.{CodeDirectory}
use Rattle.macho_spans.specs.declared.span.Span.{Span}
use Rattle.macho_tables.specs.Items.{AtItem}
use Rattle.macho_tables.specs.Places.{lesser}
use Rattle.macho_tables.proofs.Places.{least_same, least_joined}

-- a directory with pages of this size does not have the hash of the page k
abbrev pub LackPage : List ℕ → List (Option Directory) → ℕ → ℕ → ℕ → Type 0
LackPage image directories size limit k = AnyDirectory directories (LacksPageOfSize size k (bytes_in image (page_span size limit k)))

-- one has pages of this size, and all have hashes of the same bytes
pub record IsShared (image : List ℕ) (directories : List (Option Directory)) (size : ℕ) (one : CodeDirectory) : Type 0 where
  pub slots : HasSlots one
  pub sized : one.page_size ≡ size
  pub inside : one.limit ≤ length image
  pub whole : EachDirectory directories (IsWholeBefore one.limit)

pub is_shared : (image : List ℕ) (directories : List (Option Directory)) (size : ℕ) (one : CodeDirectory) → AreWhole image directories → IsOneOfSize directories size one → IsShared image directories size one
is_shared image directories size one are =
    any_gives directories (IsWholeBefore are.limit) are.each (λ this. HasPageSize size this × (this.fields ≡ one)) (IsShared image directories size one)
    (λ this is (same, named).
    let end : one.limit ≡ are.limit = ap (λ (f : CodeDirectory). f.limit) (sym named) ∙ is.1 in
    record {
      slots = subst HasSlots named is.0.slots;
      sized = ap (λ (f : CodeDirectory). f.page_size) (sym named) ∙ same;
      inside = omega (arith, end, are.inside);
      whole = subst (λ l. EachDirectory directories (IsWholeBefore l)) (sym end) are.each;
    })

-- so its pages are the pages of all
module _ (image : List ℕ) (directories : List (Option Directory)) (size : ℕ) (one : CodeDirectory) (is : IsShared image directories size one) where
  pub count_shared : one.code_slots ≡ slots_of size one.limit
  count_shared = is.slots.slots ∙ ap (λ s. slots_of s one.limit) is.sized

  pub page_shared : (k : ℕ) → page_at one k ≡ page_span size one.limit k
  page_shared k = ap (λ s. page_span s one.limit k) is.sized

module _ (image : List ℕ) (directories : List (Option Directory)) (limit : ℕ) (whole : EachDirectory directories (IsWholeBefore limit)) where
  -- Those with pages of one size

  module _ (size : ℕ) where
    -- the page k of each
    page_of_each : (this : Directory) → IsWholeBefore limit this → HasPageSize size this → (k : ℕ) → page_at this.fields k ≡ page_span size limit k
    page_of_each this is same k = ap (λ s. page_span s this.fields.limit k) same ∙ ap (λ l. page_span size l k) is.1

    count_of_each : (this : Directory) → IsWholeBefore limit this → HasPageSize size this → this.fields.code_slots ≡ slots_of size limit
    count_of_each this is same = is.0.slots.slots ∙ (ap (λ s. slots_of s this.fields.limit) same ∙ ap (slots_of size) is.1)

    -- each has a hash of a page that one has
    pub each_has_slot : (k : ℕ) → k < slots_of size limit → EachDirectory directories (HasSlotFor size k)
    each_has_slot k less =
        each_turned directories (IsWholeBefore limit) (HasSlotFor size k) (λ this is. (is.0.hashes, λ same. subst (λ n. k < n) (sym (count_of_each this is same)) less)) whole

    pub none_lacks : (k : ℕ) → EachDirectory directories (HasPageOfSize size k (bytes_in image (page_span size limit k))) → ¬ LackPage image directories size limit k
    none_lacks k each =
        any_gives directories (HasPageOfSize size k (bytes_in image (page_span size limit k))) each (LacksPageOfSize size k (bytes_in image (page_span size limit k))) ⊥
        (λ this has (same, lack). lack (has same))

    same_place : (place : ℕ) → AtItem (λ k. (page_span size limit k).start) (slots_of size limit) (LackPage image directories size limit) place ↔ HaveOtherOfSize image directories size place
    same_place place = (to, from)
      where
        to : AtItem (λ k. (page_span size limit k).start) (slots_of size limit) (LackPage image directories size limit) place → HaveOtherOfSize image directories size place
        to (k, less, at, lacks) =
            any_turned directories (IsWholeBefore limit) whole (LacksPageOfSize size k (bytes_in image (page_span size limit k))) (HasOtherOfSize image size place)
            (λ this is (same, lack). let page = sym (page_of_each this is same k) in (
              same,
              (k, subst (λ n. k < n) (sym (count_of_each this is same)) less, at ∙ ap (λ (s : Span). s.start) page, λ has. lack (subst (λ (s : Span). HasPage k (bytes_in image s) this) (sym page) has)),
            )) lacks

        from : HaveOtherOfSize image directories size place → AtItem (λ k. (page_span size limit k).start) (slots_of size limit) (LackPage image directories size limit) place
        from (n, other) =
            let (this, found, (same, (k, less, at, bad))) = some_of (HasOtherOfSize image size place) (get_or directories n None) other in
            let is = at_number directories (IsWholeBefore limit) whole n this found in
            let page = page_of_each this is same k in (
              k,
              subst (λ n. k < n) (count_of_each this is same) less,
              at ∙ ap (λ (s : Span). s.start) page,
              (n, of_some (LacksPageOfSize size k (bytes_in image (page_span size limit k))) (get_or directories n None) this found (same, λ has. bad (subst (λ (s : Span). HasPage k (bytes_in image s) this) (sym page) has))),
            )

    -- the first page whose hash one lacks is at the least place
    pub first_lack : (k : ℕ) → k < slots_of size limit → LackPage image directories size limit k → ((j : ℕ) → j < k → ¬ LackPage image directories size limit j)
        → IsLeastPlace (HaveOtherOfSize image directories size) (Some (page_span size limit k).start)
    first_lack k less lack none =
        least_same (AtItem (λ k. (page_span size limit k).start) (slots_of size limit) (LackPage image directories size limit)) (HaveOtherOfSize image directories size) (Some (page_span size limit k).start) same_place
        (first_at (λ n. (page_span size limit n).start) (slots_of size limit) (LackPage image directories size limit) k less (λ j late few. page_rises size limit k j late) lack none)

    pub no_lack : ((j : ℕ) → j < slots_of size limit → ¬ LackPage image directories size limit j) → IsLeastPlace (HaveOtherOfSize image directories size) None
    no_lack none =
        least_same (AtItem (λ k. (page_span size limit k).start) (slots_of size limit) (LackPage image directories size limit)) (HaveOtherOfSize image directories size) None same_place
        (none_at (λ n. (page_span size limit n).start) (slots_of size limit) (LackPage image directories size limit) none)

  -- a page is before the limit
  pub page_before : (place : ℕ) → HaveOtherPage image directories place → place ≤ limit
  page_before place =
      any_gives directories (IsWholeBefore limit) whole (HasOtherPage image place) (place ≤ limit)
      (λ one is (k, less, at, bad).
      let inside = page_inside one.fields.page_size one.fields.limit k (subst (λ n. k < n) is.0.slots.slots less) in
      let end = is.1 in
      omega (arith, at, inside, end))

-- All of them, by the sizes of their pages

-- of one size more
pub one_size_more : (image : List ℕ) (directories : List (Option Directory)) (size : ℕ) (old found : Option ℕ) → IsLeastPlace (HaveOtherBelow image directories size) old
    → IsLeastPlace (HaveOtherOfSize image directories size) found → IsLeastPlace (HaveOtherBelow image directories (size + 1)) (lesser old found)
one_size_more image directories size old found least here =
    least_same (λ place. HaveOtherBelow image directories size place ⊎ HaveOtherOfSize image directories size place) (HaveOtherBelow image directories (size + 1)) (lesser old found) same
    (least_joined (HaveOtherBelow image directories size) (HaveOtherOfSize image directories size) old found least here)
  where
    same : (place : ℕ) → (HaveOtherBelow image directories size place ⊎ HaveOtherOfSize image directories size place) ↔ HaveOtherBelow image directories (size + 1) place
    same place = (to, from)
      where
        to : HaveOtherBelow image directories size place ⊎ HaveOtherOfSize image directories size place → HaveOtherBelow image directories (size + 1) place
        to (inl below) = any_mapped directories (HasOtherBelow image size place) (HasOtherBelow image (size + 1) place) (λ one (less, bad). (omega (arith, less), bad)) below
        to (inr of) = any_mapped directories (HasOtherOfSize image size place) (HasOtherBelow image (size + 1) place) (λ one (at, bad). (omega (arith, at), bad)) of

        from : HaveOtherBelow image directories (size + 1) place → HaveOtherBelow image directories size place ⊎ HaveOtherOfSize image directories size place
        from (n, other) =
            let (one, found, (less, bad)) = some_of (HasOtherBelow image (size + 1) place) (get_or directories n None) other in
            elim (cases_lt one.fields.page_size size) [
              | inl below ↦ inl (n, of_some (HasOtherBelow image size place) (get_or directories n None) one found (below, bad))
              | inr late ↦
                  let at : one.fields.page_size ≡ size = omega (arith, less, late) in
                  inr (n, of_some (HasOtherOfSize image size place) (get_or directories n None) one found (at, bad))
            ]

-- of all sizes
pub all_sizes : (image : List ℕ) (directories : List (Option Directory)) → AreWhole image directories → (size : ℕ) → 32 ≤ size → (found : Option ℕ) → IsLeastPlace (HaveOtherBelow image directories size) found
    → IsLeastPlace (HaveOtherPage image directories) found
all_sizes image directories are size most found least = least_same (HaveOtherBelow image directories size) (HaveOtherPage image directories) found same least
  where
    same : (place : ℕ) → HaveOtherBelow image directories size place ↔ HaveOtherPage image directories place
    same place = (
      any_mapped directories (HasOtherBelow image size place) (HasOtherPage image place) (λ one (less, bad). bad),
      any_turned directories (IsWholeBefore are.limit) are.each (HasOtherPage image place) (HasOtherBelow image size place) (λ one is bad. let few = is.0.slots.page in (omega (arith, few, most), bad)),
    )
