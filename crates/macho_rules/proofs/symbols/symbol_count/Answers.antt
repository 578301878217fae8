use Rattle.std.proofs.Common.{◌≡◌, rules, ℕ, Option, None, Some, refl, sym, ap, ◌∙◌}
use Rattle.std.specs.Option.{option_map, option_map_or}
use Rattle.macho_fields.specs.Image.{commands_of}
use Rattle.macho_fields.specs.Symbol.{nsyms}
use Rattle.macho_image.specs.Symbol.{symtab_at}
use Rattle.macho_image.specs.declared.symtab.Symtab.{Symtab}
use Rattle.macho_rules.proofs.OneCommand.{symbols_counted}
use Rattle.macho_rules.proofs.symbols.symbol_count.Goals as goal

pub returns : goal.returns
returns c =
    let count : c.map_or.result ≡ option_map_or (λ (s : Symtab). s.nsyms) c.symtab.result 0 = search rules in
    count ∙ (ap (λ t. option_map_or (λ (s : Symtab). s.nsyms) t 0) c.symtab.ensures ∙ (of_option _ ∙ sym (symbols_counted c.args.image.now (commands_of c.args.image.now))))
  where
    of_option : (o : Option ℕ) → option_map_or (λ (s : Symtab). s.nsyms) (option_map (symtab_at c.args.image.now) o) 0 ≡ option_map_or (nsyms c.args.image.now) o 0
    of_option None = refl
    of_option (Some s) = refl
