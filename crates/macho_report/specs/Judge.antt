-- What a judge says of a file.
use Rattle.std.specs.Prelude.{List, ℕ, ⊤}
use Rattle.macho_fields.specs.declared.rule.Break.{Break}
use Rattle.macho_rules.specs.declared.refusal.Refusal.{Refusal}
use Rattle.macho_rules.specs.declared.refusal.Refusal.TheVariants as refusal

-- the file is refused for this break, or there was no memory
abbrev pub IsRefusalBy : (List ℕ → Break → Type 0) → List ℕ → Refusal → Type 0
IsRefusalBy refuses file (refusal.Broken b) = refuses file b
IsRefusalBy refuses file refusal.Memory = ⊤
