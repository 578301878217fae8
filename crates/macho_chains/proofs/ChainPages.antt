-- The pointers of a page, one after the other: the first with a mistake is at the least place.
use Rattle.std.proofs.Common.{◌≡◌, ◌↔◌, ℕ, ◌+◌, ◌-◌, ◌*◌, ◌≤◌, ◌<◌, ◌⊎◌, Bool, true, false, IsTrue, suc, zero, List, [], ◌∷◌, length, min, Any, Contains, slice_get, Option, Some, None, refl, sym, ap, ◌∙◌, subst, arith, inl, inr}
use Rattle.std.specs.Prelude.{◌==◌, nat_le, not, unwrap_or, cond, IsSomeAnd}
use Rattle.std.specs.Option.{option_map}
use Rattle.std.proofs.lemmas.Bool.{cases_lt, eq-eqb, leb-true, le-leb}
use Rattle.macho_fields.specs.FirstPlace.{IsNoted, IsLeastPlace}
use Rattle.macho_fields.specs.Image.{command_cmd, commands_of, with_cmd}
use Rattle.macho_fields.specs.Segment.{fileoff, filesize, PassesImage}
use Rattle.macho_fields.specs.declared.header.loader.TheConstants as loader
use Rattle.macho_image.specs.Command.{CommandView, command_of, command_at, first_with_cmd}
use Rattle.macho_image.specs.Opened.{IsCommandOf}
use Rattle.macho_image.specs.declared.command.Command.{Command}
use Rattle.macho_image.proofs.FirstWithCmd.{first_is, first_none}
use Rattle.macho_rules.proofs.Mapped.{filtered}
use Rattle.macho_rules.proofs.OneCommand.{no_first, first_at}
use Rattle.macho_rules.proofs.Searches.{any_of, one_of}
use Rattle.macho_spans.specs.declared.span.Span.{Span}
use Rattle.macho_chains.specs.ChainPages.{IsRoom, IsEncryptionOf, IsClear, AtPointer}
use Rattle.macho_chains.specs.ChainPointers.{pointer_at, page_start_offset, first_offset, Fits, Lead, HasChain, HasBadNext, BindsNone, BreaksPageSlot, BreaksPageBind, encryption_count}
use Rattle.macho_tables.specs.Homes.{bytes_of_segment, Encrypts}
use Rattle.macho_tables.specs.Limits.{room}
use Rattle.macho_tables.specs.Segments.{is_writable, is_protected}
use Rattle.macho_chains.specs.declared.chain_pages.Encryption.{Encryption}
use Rattle.macho_chains.specs.declared.chain_pointers.ChainPointer.{ChainPointer}
use Rattle.macho_chains.specs.declared.chain_starts.SegmentStarts.{SegmentStarts}
use Rattle.macho_tables.proofs.Nots.{not_true, true_not}
use Rattle.macho_tables.proofs.Places.{least_same}

-- What is encrypted

-- there is one at most, as they were counted
pub few_counted : (count all : ℕ) → count ≡ all → IsTrue (nat_le count 1) ↔ (all ≤ 1)
few_counted count all are = (λ few. let low = leb-true count 1 few in omega (arith, low, are), λ low. le-leb count 1 (omega (arith, low, are)))

module _ (image : List ℕ) (encryption : Encryption) (is : IsEncryptionOf image encryption) where
  abbrev first_encryption : Option ℕ
  first_encryption = first_with_cmd image loader.LC_ENCRYPTION_INFO_64 (commands_of image)

  -- no command has an encrypted range
  none_encrypted : encryption.first ≡ None → (span : Span) → ¬ Any (Encrypts span image) (commands_of image)
  none_encrypted none span any =
      let (command, listed, encrypts) = one_of (Encrypts span image) (commands_of image) any in
      let nothing : first_encryption ≡ None = no_first (command_at image) first_encryption (sym (ap (option_map command_of) none) ∙ is.first) in
      first_none image loader.LC_ENCRYPTION_INFO_64 command (commands_of image) nothing listed encrypts.0

  pub none_clear : encryption.first ≡ None → encryption_count image ≤ 1 → (span : Span) → IsClear span image
  none_clear none single span = (single, none_encrypted none span)

  -- one has
  module _ (command : Command) (some : encryption.first ≡ Some command) where
    its_view : (place : ℕ) × (first_encryption ≡ Some place) × (command_of command ≡ command_at image place)
    its_view = first_at (command_at image) first_encryption (command_of command) (sym (ap (option_map command_of) some) ∙ is.first)

    at_place : its_view.0 ≡ command.place
    at_place = sym (ap (λ (v : CommandView). v.place) its_view.2)

    its_place : first_encryption ≡ Some command.place
    its_place = its_view.1 ∙ ap Some at_place

    pub encryption_listed : IsCommandOf image (command_of command)
    encryption_listed = record {
      opened = is.opened;
      listed = (first_is image loader.LC_ENCRYPTION_INFO_64 command.place (commands_of image) its_place).0;
      same = subst (λ p. command_of command ≡ command_at image p) at_place its_view.2;
    }

    -- and no other one
    single_encrypts : encryption_count image ≤ 1 → (span : Span) → Any (Encrypts span image) (commands_of image) → Encrypts span image command.place
    single_encrypts single span any =
        let (other, listed, encrypts) = one_of (Encrypts span image) (commands_of image) any in
        let among = filtered (λ c. command_cmd image c == loader.LC_ENCRYPTION_INFO_64) (commands_of image) other listed (eq-eqb (command_cmd image other) loader.LC_ENCRYPTION_INFO_64 encrypts.0) in
        subst (Encrypts span image) (only (with_cmd image loader.LC_ENCRYPTION_INFO_64 (commands_of image)) other single among its_place) encrypts
      where
        only : (places : List ℕ) (other : ℕ) → length places ≤ 1 → Contains places other → slice_get places 0 ≡ Some command.place → other ≡ command.place
        only [] other few (k, less, at) found = absurd (omega arith)
        only (place ∷ places) other few (zero, less, at) found = sym at ∙ cc
        only (place ∷ places) other few (suc k, less, at) found = absurd (omega arith)

    pub single_clear : encryption_count image ≤ 1 → (span : Span) (encrypts : Bool) → (IsTrue encrypts ↔ Encrypts span image command.place) → IsTrue (not encrypts) ↔ IsClear span image
    single_clear single span encrypts says = (
      λ clear. (single, λ any. not_true encrypts clear (says.1 (single_encrypts single span any))),
      λ clear. true_not encrypts (λ encrypted. clear.1 (any_of (Encrypts span image) (commands_of image) command.place encryption_listed.listed (says.0 encrypted))),
    )

-- Where a pointer fits

module _ (image : List ℕ) (segment : ℕ) where
  -- a kernel decrypts some of the segment, or there is more than one encrypted range
  pub room_none : (¬ (is_protected image segment ≡ false)) ⊎ (¬ IsClear (bytes_of_segment image segment) image) → IsRoom image segment 0
  room_none why end some = (
    λ low. absurd (omega arith),
    λ to. elim why [ inl decrypted ↦ absurd (decrypted to.plain) | inr encrypted ↦ absurd (encrypted (to.single, to.clear)) ],
  )

  -- or none of it
  pub room_whole : is_protected image segment ≡ false → IsClear (bytes_of_segment image segment) image → IsRoom image segment (room image segment)
  room_whole plain clear end some = (λ low. record { written = low; plain = plain; single = clear.0; clear = clear.1 }, λ to. to.written)

  -- what can be written of it lies in the image
  room_inside : (end : ℕ) → 0 < end → end ≤ room image segment → ¬ PassesImage image segment → fileoff image segment + end ≤ length image
  room_inside end some low lies = by_access (is_writable image segment) low
    where
      by_access : (writable : Bool) → end ≤ cond writable (filesize image segment) 0 → fileoff image segment + end ≤ length image
      by_access true within = elim (cases_lt (length image) (fileoff image segment + filesize image segment)) [ inl past ↦ absurd (lies (omega arith, past)) | inr inside ↦ omega arith ]
      by_access false within = absurd (omega arith)

module _ (image : List ℕ) (segment : ℕ) (starts : SegmentStarts) (page : ℕ) where
  abbrev pointer : ℕ → ChainPointer
  pointer offset = pointer_at image segment starts.format offset

  -- one number bounds the pointers
  pub limit_fits : (room limit : ℕ) → IsRoom image segment room → limit ≡ min (suc page * starts.page_size) room → (offset : ℕ) → (offset + 8 ≤ limit) ↔ Fits image segment starts page offset
  limit_fits room limit is at offset = (
    λ low. (omega arith, (is (offset + 8) (omega arith)).0 (omega arith)),
    λ fits. let inside = (is (offset + 8) (omega arith)).1 fits.1 in let ends = fits.0 in omega (arith, inside, ends, at),
  )

  -- one that fits is in the image
  pub fits_inside : ¬ PassesImage image segment → (offset : ℕ) → Fits image segment starts page offset → fileoff image segment + offset + 8 ≤ length image
  fits_inside lies offset fits = let inside = room_inside image segment (offset + 8) (omega arith) fits.1.written lies in omega (arith, inside)

  -- The way from one to another

  lead_rise : (from : ℕ) (before : List ℕ) (to : ℕ) → Lead image segment starts page from before to → from ≤ to
  lead_rise from [] to same = omega arith
  lead_rise from (first ∷ rest) to (is, fits, far, on) = let up = lead_rise (first + (pointer first).distance) rest to on in omega (arith, is, up)

  -- none leads on from where no pointer fits
  lead_none : (from : ℕ) → ¬ Fits image segment starts page from → (before : List ℕ) (to : ℕ) → Lead image segment starts page from before to → ¬ Fits image segment starts page to
  lead_none from out [] to same fits = out (subst (Fits image segment starts page) (sym same) fits)
  lead_none from out (first ∷ rest) to (is, here, far, on) fits = out (subst (Fits image segment starts page) is here)

  -- What is found from a pointer on, where some have P

  module _ (P : ℕ → Type 0) where
    abbrev Broken : ℕ → ℕ → Type 0
    Broken from = AtPointer image segment starts page from P

    -- it has P
    least_here : (from : ℕ) → Fits image segment starts page from → P from → IsLeastPlace (Broken from) (Some (fileoff image segment + from))
    least_here from fits has = (
      (from, refl, (([], refl), fits), has),
      λ place (offset, is, ((before, lead), there), broken). let up = lead_rise from before offset lead in omega (arith, is, up),
    )

    -- it is without P, and the next one fits
    least_on : (from next : ℕ) → Fits image segment starts page from → next ≡ from + (pointer from).distance → 8 ≤ (pointer from).distance → ¬ P from → (found : Option ℕ)
        → IsLeastPlace (Broken next) found → IsLeastPlace (Broken from) found
    least_on from next fits at far kept found =
        least_same (Broken next) (Broken from) found (λ place. (
          λ (offset, is, ((before, lead), there), broken).
              (offset, is, ((from ∷ before, (refl, fits, far, subst (λ n. Lead image segment starts page n before offset) at lead)), there), broken),
          λ (offset, is, ((before, lead), there), broken). on place offset is before lead there broken,
        ))
      where
        on : (place offset : ℕ) → place ≡ fileoff image segment + offset → (before : List ℕ) → Lead image segment starts page from before offset → Fits image segment starts page offset → P offset
            → Broken next place
        on place offset is [] same there broken = absurd (kept (subst P (sym same) broken))
        on place offset is (first ∷ rest) (here, first_fits, first_far, lead) there broken =
            let start : first + (pointer first).distance ≡ next = subst (λ n. first + (pointer first).distance ≡ n + (pointer n).distance) here refl ∙ sym at in
            (offset, is, ((rest, subst (λ n. Lead image segment starts page n rest offset) start lead), there), broken)

    -- it is without P, and ends the chain
    least_last : (from : ℕ) → ((pointer from).distance < 8) ⊎ (¬ Fits image segment starts page (from + (pointer from).distance)) → ¬ P from → IsLeastPlace (Broken from) None
    least_last from end kept place (offset, is, ((before, lead), there), broken) = nothing before lead
      where
        nothing : (before : List ℕ) → ¬ Lead image segment starts page from before offset
        nothing [] same = kept (subst P (sym same) broken)
        nothing (first ∷ rest) (here, first_fits, far, lead) =
            let far_here = subst (λ n. 8 ≤ (pointer n).distance) here far in
            let on = subst (λ n. Lead image segment starts page (n + (pointer n).distance) rest offset) here lead in
            elim end [ inl short ↦ omega arith | inr out ↦ lead_none (from + (pointer from).distance) out rest offset on there ]

    -- Where a walk has come, and what it has found: the least place from the first one on is what was found, or
    -- else what is found of the rest

    abbrev pub or_else : Option ℕ → Option ℕ → Option ℕ
    or_else None rest = rest
    or_else (Some place) rest = Some place

    abbrev pub IsWalkedTo : ℕ → ℕ → Option ℕ → Type 0
    IsWalkedTo first offset found = (rest : Option ℕ) → IsLeastPlace (Broken offset) rest → IsLeastPlace (Broken first) (or_else found rest)

    or_noted : (found : Option ℕ) (place : ℕ) → or_else found (Some place) ≡ Some (unwrap_or found place)
    or_noted None place = refl
    or_noted (Some first) place = refl

    or_none : (found : Option ℕ) → or_else found None ≡ found
    or_none None = refl
    or_none (Some first) = refl

    pub walk_start : (first : ℕ) → IsWalkedTo first first None
    walk_start first rest least = least

    module _ (first offset : ℕ) (found noted : Option ℕ) (walk : IsWalkedTo first offset found) (fits : Fits image segment starts page offset)
        (note : IsNoted (P offset) (fileoff image segment + offset) found noted) where
      pub walk_on : (next : ℕ) → next ≡ offset + (pointer offset).distance → 8 ≤ (pointer offset).distance → IsWalkedTo first next noted
      walk_on next at far rest least = elim note [
        | inl (has, is) ↦
            let here = walk (Some (fileoff image segment + offset)) (least_here offset fits has) in
            subst (λ (o : Option ℕ). IsLeastPlace (Broken first) (or_else o rest)) (sym is) (subst (IsLeastPlace (Broken first)) (or_noted found (fileoff image segment + offset)) here)
        | inr (kept, same) ↦
            subst (λ (o : Option ℕ). IsLeastPlace (Broken first) (or_else o rest)) (sym same) (walk rest (least_on offset next fits at far kept rest least))
      ]

      pub walk_end : ((pointer offset).distance < 8) ⊎ (¬ Fits image segment starts page (offset + (pointer offset).distance)) → IsLeastPlace (Broken first) noted
      walk_end end = elim note [
        | inl (has, is) ↦
            let here = walk (Some (fileoff image segment + offset)) (least_here offset fits has) in
            subst (IsLeastPlace (Broken first)) (or_noted found (fileoff image segment + offset) ∙ sym is) here
        | inr (kept, same) ↦ subst (IsLeastPlace (Broken first)) (or_none found ∙ sym same) (walk None (least_last offset end kept))
      ]

  -- A step of the walk, at a pointer that was read

  module _ (room limit : ℕ) (is : IsRoom image segment room) (at : limit ≡ min (suc page * starts.page_size) room) (offset : ℕ) (low : offset + 8 ≤ limit)
      (read : ChainPointer) (same : read ≡ pointer offset) where
    here : Fits image segment starts page offset
    here = (limit_fits room limit is at offset).0 low

    abbrev Bad : ℕ → Type 0
    Bad = HasBadNext image segment starts page

    -- the chain ends
    no_next : (read.distance < 8) ⊎ (limit - 8 < offset + read.distance)
        → ((pointer offset).distance < 8) ⊎ (¬ Fits image segment starts page (offset + (pointer offset).distance))
    no_next end = subst (λ (p : ChainPointer). (p.distance < 8) ⊎ (¬ Fits image segment starts page (offset + p.distance))) same (elim end [
      | inl short ↦ inl short
      | inr out ↦ inr (λ fits. let within = (limit_fits room limit is at (offset + read.distance)).1 fits in omega arith)
    ])

    -- there is one
    module _ (next : ℕ) (on : next ≡ offset + read.distance) (far : 8 ≤ read.distance) (within : next ≤ limit - 8) where
      next_at : next ≡ offset + (pointer offset).distance
      next_at = subst (λ (p : ChainPointer). next ≡ offset + p.distance) same on

      next_far : 8 ≤ (pointer offset).distance
      next_far = subst (λ (p : ChainPointer). 8 ≤ p.distance) same far

      good_next : ¬ Bad offset
      good_next bad = elim bad.1 [
        | inl short ↦ let long = next_far in omega arith
        | inr out ↦ out (subst (Fits image segment starts page) next_at ((limit_fits room limit is at next).0 (omega arith)))
      ]

      pub slot_on : (first : ℕ) → IsWalkedTo Bad first offset None → IsWalkedTo Bad first next None
      slot_on first walk = walk_on Bad first offset None None walk here (inr (good_next, refl)) next next_at next_far

    module _ (first : ℕ) (walk : IsWalkedTo Bad first offset None) (end : (read.distance < 8) ⊎ (limit - 8 < offset + read.distance)) where
      pub slot_bad : 0 < read.distance → IsLeastPlace (Broken Bad first) (Some (fileoff image segment + offset))
      slot_bad some = walk_end Bad first offset None (Some (fileoff image segment + offset)) walk here
          (inl ((subst (λ (p : ChainPointer). 0 < p.distance) same some, no_next end), refl)) (no_next end)

      pub slot_last : read.distance ≡ 0 → IsLeastPlace (Broken Bad first) None
      slot_last none = walk_end Bad first offset None None walk here
          (inr (λ bad. let some = bad.0 in let last = subst (λ (p : ChainPointer). p.distance ≡ 0) same none in omega arith, refl)) (no_next end)

    -- what it binds
    module _ (imports start : ℕ) (from : start ≡ fileoff image segment) (first : ℕ) (found noted : Option ℕ) (binds : Bool)
        (says : IsTrue binds ↔ IsSomeAnd read.import (λ import. imports ≤ import)) (note : IsNoted (IsTrue binds) (start + offset) found noted)
        (walk : IsWalkedTo (BindsNone image segment starts imports) first offset found) where
      its_note : IsNoted (BindsNone image segment starts imports offset) (fileoff image segment + offset) found noted
      its_note = elim note [
        | inl (has, is_noted) ↦
            inl (subst (λ (p : ChainPointer). IsSomeAnd p.import (λ import. imports ≤ import)) same (says.0 has), subst (λ n. noted ≡ Some (unwrap_or found (n + offset))) from is_noted)
        | inr (kept, is_noted) ↦
            inr (λ bad. kept (says.1 (subst (λ (p : ChainPointer). IsSomeAnd p.import (λ import. imports ≤ import)) (sym same) bad)), is_noted)
      ]

      pub bind_on : (next : ℕ) → next ≡ offset + read.distance → 8 ≤ read.distance → IsWalkedTo (BindsNone image segment starts imports) first next noted
      bind_on next on far = walk_on (BindsNone image segment starts imports) first offset found noted walk here its_note next
          (subst (λ (p : ChainPointer). next ≡ offset + p.distance) same on) (subst (λ (p : ChainPointer). 8 ≤ p.distance) same far)

      pub bind_end : (read.distance < 8) ⊎ (limit - 8 < offset + read.distance) → IsLeastPlace (Broken (BindsNone image segment starts imports) first) noted
      bind_end end = walk_end (BindsNone image segment starts imports) first offset found noted walk here its_note (no_next end)

  -- The rules of the page

  module _ (table : ℕ) (chains : List ℕ) where
    -- it has no chain
    pub page_unchained : ¬ HasChain chains starts page → IsLeastPlace (BreaksPageSlot image table chains segment starts page) None
    page_unchained none place broken = elim broken [ inl bad ↦ none bad.1.0 | inr (offset, is, comes, bad) ↦ none comes.0 ]

    -- no pointer fits where it begins
    pub page_unstarted : HasChain chains starts page → ¬ Fits image segment starts page (first_offset chains starts page)
        → IsLeastPlace (BreaksPageSlot image table chains segment starts page) (Some (table + page_start_offset starts page))
    page_unstarted has out = (
      inl (refl, (has, out)),
      λ place broken. elim broken [
        | inl bad ↦ let at = bad.0 in omega (arith, at)
        | inr (offset, is, (chain, (before, lead), fits), bad) ↦ absurd (lead_none (first_offset chains starts page) out before offset lead fits)
      ],
    )

    -- one does
    pub page_slot : HasChain chains starts page → Fits image segment starts page (first_offset chains starts page) → (found : Option ℕ)
        → IsLeastPlace (AtPointer image segment starts page (first_offset chains starts page) (HasBadNext image segment starts page)) found
        → IsLeastPlace (BreaksPageSlot image table chains segment starts page) found
    page_slot has fits found =
        least_same (AtPointer image segment starts page (first_offset chains starts page) (HasBadNext image segment starts page)) (BreaksPageSlot image table chains segment starts page) found
        (λ place. (
          λ (offset, is, comes, bad). inr (offset, is, (has, comes.0, comes.1), bad),
          λ broken. elim broken [ inl bad ↦ absurd (bad.1.1 fits) | inr (offset, is, (chain, lead, there), bad) ↦ (offset, is, (lead, there), bad) ],
        ))

  module _ (imports : ℕ) (chains : List ℕ) where
    pub bind_unchained : ¬ HasChain chains starts page → IsLeastPlace (BreaksPageBind imports image chains segment starts page) None
    bind_unchained none place (offset, is, comes, bad) = none comes.0

    pub bind_unstarted : ¬ Fits image segment starts page (first_offset chains starts page) → IsLeastPlace (BreaksPageBind imports image chains segment starts page) None
    bind_unstarted out place (offset, is, (chain, (before, lead), fits), bad) = lead_none (first_offset chains starts page) out before offset lead fits

    pub page_bind : HasChain chains starts page → (found : Option ℕ)
        → IsLeastPlace (AtPointer image segment starts page (first_offset chains starts page) (BindsNone image segment starts imports)) found
        → IsLeastPlace (BreaksPageBind imports image chains segment starts page) found
    page_bind has found =
        least_same (AtPointer image segment starts page (first_offset chains starts page) (BindsNone image segment starts imports)) (BreaksPageBind imports image chains segment starts page) found
        (λ place. (λ (offset, is, comes, bad). (offset, is, (has, comes.0, comes.1), bad), λ (offset, is, (chain, lead, there), bad). (offset, is, (lead, there), bad)))
