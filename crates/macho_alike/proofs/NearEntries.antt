-- An entry of the indirect symbol table lies in the image, and its index fits 32 bits.
use Rattle.std.proofs.Common.{◌≡◌, ◌∙◌, ℕ, ◌+◌, ◌*◌, ◌^◌, ◌≤◌, ◌<◌, List, [], length, map, Contains, Option, None, Some, refl, sym, subst, arith, inl, inr}
use Rattle.std.specs.List.{range_with_len}
use Rattle.std.specs.Option.{option_map, option_map_or}
use Rattle.std.specs.Prelude.{nat_le, if◌then◌else◌, slice_get}
use Rattle.std.proofs.Math.Nat.{mul-le-mul_left}
use Rattle.std.proofs.lemmas.Bool.{cases_Bool, leb-true}
use Rattle.std.proofs.lemmas.Option.{get_or_from_slice_get, none-some, same_Some, slice_get-map, slice_get_within}
use Rattle.macho_fields.specs.Image.{commands_of}
use Rattle.macho_fields.specs.Symbol.{indirectsymoff, nindirectsyms}
use Rattle.macho_fields.specs.declared.header.loader.TheConstants as loader
use Rattle.macho_fields.proofs.Lists.{none_in_nil}
use Rattle.macho_image.specs.Command.{first_with_cmd}
use Rattle.macho_image.specs.Segment.{sections_of}
use Rattle.macho_image.specs.Symbol.{indirect_at, indirects_of, items_inside}
use Rattle.macho_image.specs.declared.indirect.Indirect.{Indirect}
use Rattle.macho_rules.proofs.Searches.{one_of}
use Rattle.macho_rules.proofs.TableItems.{in_items}
use Rattle.macho_alike.specs.Indirects.{HasEntry, IsPointerOf, entry_with}
use Rattle.macho_alike.specs.declared.bounds.Bound.{Bound}

module _ (image : List ℕ) where
  -- an item of a table that lies in the image
  item_near : (start each n p : ℕ) → Contains (items_inside image start each n) p → p ≤ length image
  item_near start each n p has = elim (cases_Bool (nat_le (start + each * n) (length image))) [
    | inl fits ↦
        let (k, less, at) = in_items image start each n p has in
        let steps : each * k ≤ each * n = mul-le-mul_left each (omega (arith, less)) in
        let most = leb-true (start + each * n) (length image) fits in omega (arith, at, steps, most)
    | inr past ↦ absurd (none_in_nil p (subst (λ b. Contains (if b then map (λ k. start + each * k) (range_with_len 0 n) else []) p) past has))
  ]

  indirect_listed : (first : Option ℕ) (p : ℕ)
      → Contains (option_map_or (λ d. items_inside image (indirectsymoff image d) loader.INDIRECT_ENTRY_SIZE (nindirectsyms image d)) first []) p → p ≤ length image
  indirect_listed None p has = absurd (none_in_nil p has)
  indirect_listed (Some d) p has = item_near (indirectsymoff image d) loader.INDIRECT_ENTRY_SIZE (nindirectsyms image d) p has

  pub entry_near : (index : ℕ) (entry : Indirect) → entry_with image index ≡ Some entry → entry.place ≤ length image
  entry_near index entry is = of_place (slice_get (indirects_of image (commands_of image)) index) refl (sym (slice_get-map (indirect_at image) (indirects_of image (commands_of image)) index) ∙ is)
    where
      of_place : (o : Option ℕ) → slice_get (indirects_of image (commands_of image)) index ≡ o → option_map (indirect_at image) o ≡ Some entry → entry.place ≤ length image
      of_place None at none = absurd (none-some entry none)
      of_place (Some p) at some =
          let listed : Contains (indirects_of image (commands_of image)) p = (index, slice_get_within (indirects_of image (commands_of image)) index p at, get_or_from_slice_get (indirects_of image (commands_of image)) index p p at) in
          let near = indirect_listed (first_with_cmd image loader.LC_DYSYMTAB (commands_of image)) p listed in
          subst (λ (e : Indirect). e.place ≤ length image) (same_Some _ _ some) near

  pub index_fits : (bound : Bound) (index : ℕ) → HasEntry image bound index → index < 2 ^ 32
  index_fits bound index any = let (section, has, pointer) = one_of (λ (s : ℕ × ℕ). IsPointerOf image s bound index) (sections_of image (commands_of image)) any in pointer.2
