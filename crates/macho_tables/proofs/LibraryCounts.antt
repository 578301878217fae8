-- How many commands of an image are of some kinds, such as those that load libraries.
use Rattle.std.proofs.Common.{◌≡◌, ℕ, ◌^◌, ◌<◌, Bool, List, [], ◌∷◌, suc, length, map, filter, refl, ap, ◌∙◌, arith, inl, inr}
use Rattle.std.proofs.lemmas.Bool.{cases_Bool}
use Rattle.std.proofs.lemmas.List.{length-map}
use Rattle.macho_fields.specs.Image.{command_cmd, commands_of}
use Rattle.macho_image.specs.Command.{CommandView, command_at}
use Rattle.macho_image.specs.Opened.{IsOpened}
use Rattle.macho_rules.proofs.Judged.{opened_facts, opened_commands}
use Rattle.macho_tables.specs.Limits.{loads_library, library_count}
use Rattle.macho_tables.proofs.Roomy.{commands_fit}

abbrev pub loads : CommandView → Bool
loads v = loads_library v.cmd

module _ (image : List ℕ) (all : List CommandView) (are : all ≡ map (command_at image) (commands_of image)) where
  -- their number fits
  pub commands_few : IsOpened image → length image < 2 ^ 64 → length all < 2 ^ 64
  commands_few opened short =
      let inside = (opened_facts image opened).inside in
      let (length_is, next, chain) = opened_commands image opened in
      let fit = commands_fit image 32 (commands_of image) next chain (omega arith) in
      let count : length all ≡ length (commands_of image) = ap length are ∙ length-map (commands_of image) (command_at image) in
      omega (arith, fit, count, inside, short)

  -- all whose cmd passes a test are counted
  pub kinds_counted : (test : ℕ → Bool) → length (filter (λ (v : CommandView). test v.cmd) all) ≡ length (filter (λ command. test (command_cmd image command)) (commands_of image))
  kinds_counted test = ap (λ these. length (filter (λ (v : CommandView). test v.cmd) these)) are ∙ counted (commands_of image)
    where
      counted : (places : List ℕ) → length (filter (λ (v : CommandView). test v.cmd) (map (command_at image) places)) ≡ length (filter (λ command. test (command_cmd image command)) places)
      counted [] = refl
      counted (place ∷ places) = elim (cases_Bool (test (command_cmd image place))) [ inl t ↦ rw t (ap suc (counted places)) | inr f ↦ rw f (counted places) ]

  pub libraries_counted : length (filter loads all) ≡ library_count image
  libraries_counted = kinds_counted loads_library
