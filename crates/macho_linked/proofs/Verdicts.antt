-- From the answers on a file to the linked verdict.
use Rattle.std.proofs.Common.{List, ℕ, inl, inr}
use Rattle.macho_fields.specs.First.{IsUnbroken}
use Rattle.macho_rules.specs.Profile.{IsRefusalOfImages}
use Rattle.macho_rules.specs.declared.refusal.Refusal.{Refusal}
use Rattle.macho_rules.specs.declared.refusal.Refusal.TheVariants as refusal
use Rattle.macho_strict.specs.First.{IsStrictlyUnbroken}
use Rattle.macho_strict.specs.Verdict.{IsStrictRefusal}
use Rattle.macho_linked.specs.Rules.{BreaksImage}
use Rattle.macho_linked.specs.Verdict.{IsLinkedRefusal, TakesMemory}

-- a refusal by the strict verdict is one of the linked
pub strict_refused : (file : List ℕ) (r : Refusal) → IsStrictRefusal file r → IsLinkedRefusal file r
strict_refused file (refusal.Broken b) refused = inl refused
strict_refused file refusal.Memory takes = inl takes

-- and so is one by the linked rules, where the file breaks no other
pub linked_refused : (file : List ℕ) → IsUnbroken file → IsStrictlyUnbroken file → (r : Refusal) → IsRefusalOfImages BreaksImage file TakesMemory r → IsLinkedRefusal file r
linked_refused file unbroken strictly (refusal.Broken b) first = inr (unbroken, strictly, first)
linked_refused file unbroken strictly refusal.Memory takes = inr (unbroken, strictly, takes)
