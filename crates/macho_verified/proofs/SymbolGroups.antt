-- The groups of symbols that the LC_DYSYMTAB of an accepted image names.
use Rattle.std.proofs.Common.{◌≡◌, ◌∙◌, ℕ, zero, suc, ◌+◌, ◌-◌, List, [], map, take, drop, length, length-drop, Contains, Option, Some, None, IfSome, refl, ap, arith, inl, inr}
use Rattle.std.specs.Option.{option_map_or}
use Rattle.std.proofs.lemmas.Bool.{cases_lt}
use Rattle.std.proofs.lemmas.List.{length-take-le, length-map}
use Rattle.macho_fields.specs.Image.{commands_of}
use Rattle.macho_fields.specs.Symbol.{symbol_count, groups_of, PassesSymbols}
use Rattle.macho_fields.specs.declared.header.loader.TheConstants as loader
use Rattle.macho_fields.specs.declared.rule.Rule.TheVariants as rule
use Rattle.macho_image.specs.Command.{first_with_cmd}
use Rattle.macho_image.specs.Symbol.{symbols_of}
use Rattle.macho_rules.proofs.Judged.{opened_commands}
use Rattle.macho_rules.proofs.OneCommand.{is_with_cmd}
use Rattle.macho_rules.proofs.Searches.{any_of}
use Rattle.macho_rules.proofs.Verdicts.{unbroken_opened}
use Rattle.macho_verified.specs.Image.{SymbolView, symbol_view, symbol_group}
use Rattle.macho_verified.specs.Accepted.{IsAccepted}
use Rattle.macho_verified.proofs.Accepted.{accepted_unbroken}
use Rattle.macho_verified.proofs.Counted.{symbols_are_counted}

module _ (image : List ℕ) (keeps : IsAccepted image) where
  -- each group is whole
  pub group_counted : (d first count : ℕ) → first_with_cmd image loader.LC_DYSYMTAB (commands_of image) ≡ Some d → Contains (groups_of image d) (first, count)
      → length (take count (drop first (symbols_of image (commands_of image)))) ≡ count
  group_counted d first zero is has = refl
  group_counted d first (suc n) is has = elim (cases_lt (symbol_count image (commands_of image)) (first + suc n)) [
    | inl past ↦ absurd (accepted_unbroken image keeps rule.SymbolGroup d (inr (
      commands_of image,
      opened_commands image (unbroken_opened image (accepted_unbroken image keeps)),
      (
        is_with_cmd image loader.LC_DYSYMTAB d is,
        any_of (PassesSymbols (symbol_count image (commands_of image))) (groups_of image d) (first, suc n) has (omega arith, past),
      ),
    )))
    | inr most ↦
        let rest : length (drop first (symbols_of image (commands_of image))) ≡ length (symbols_of image (commands_of image)) - first = length-drop first (symbols_of image (commands_of image)) in
        length-take-le (suc n) (drop first (symbols_of image (commands_of image))) (omega (arith, rest, symbols_are_counted image keeps, most))
  ]

-- so the symbols of a group are as many as its LC_DYSYMTAB says
pub group_whole : (image : List ℕ) (first count : List ℕ → ℕ → ℕ) (result : List SymbolView) → result ≡ map (symbol_view image) (symbol_group first count image) → IsAccepted image
    → ((d : ℕ) → Contains (groups_of image d) (first image d, count image d)) → IfSome (first_with_cmd image loader.LC_DYSYMTAB (commands_of image)) (λ d. length result ≡ count image d)
group_whole image first count result is keeps has = by (first_with_cmd image loader.LC_DYSYMTAB (commands_of image)) refl
  where
    within : ℕ → List ℕ
    within d = take (count image d) (drop (first image d) (symbols_of image (commands_of image)))

    by : (o : Option ℕ) → first_with_cmd image loader.LC_DYSYMTAB (commands_of image) ≡ o → IfSome o (λ d. length result ≡ count image d)
    by None none = tt
    by (Some d) some =
        ap length (is ∙ ap (λ o. map (symbol_view image) (option_map_or within o [])) some)
        ∙ (length-map (within d) (symbol_view image) ∙ group_counted image keeps d (first image d) (count image d) some (has d))
