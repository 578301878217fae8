use Rattle.std.proofs.Common.{◌≡◌, ◌↔◌, None, Option, IfSome, List, ℕ, sym, subst}
use Rattle.macho_fields.specs.Bytes.{bytes_of}
use Rattle.macho_fields.specs.First.{IsFirstBroken, IsUnbroken}
use Rattle.macho_fields.specs.declared.rule.Break.{Break}
use Rattle.macho_second.proofs.Second.{none_exactly, some_first}
use Rattle.macho_second.proofs.verdict.slow_first.Goals as goal

pub returns-clause-unbroken : goal.returns-clause-unbroken
returns-clause-unbroken c =
    subst (λ (file : List ℕ). (c.err.result ≡ None) ↔ IsUnbroken file) c.new.ensures
    (subst (λ (answer : Option Break). (answer ≡ None) ↔ IsUnbroken (bytes_of c.new.result)) (sym c.err.ensures.value)
    (none_exactly (bytes_of c.new.result) c.judge_file.result c.judge_file.ensures.unbroken c.judge_file.ensures.first))

pub returns-clause-first : goal.returns-clause-first
returns-clause-first c =
    subst (λ (file : List ℕ). IfSome c.err.result (IsFirstBroken file)) c.new.ensures
    (subst (λ (answer : Option Break). IfSome answer (IsFirstBroken (bytes_of c.new.result))) (sym c.err.ensures.value)
    (some_first (bytes_of c.new.result) c.judge_file.result c.judge_file.ensures.first))
