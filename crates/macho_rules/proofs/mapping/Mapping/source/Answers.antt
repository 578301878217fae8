use Rattle.std.proofs.Common.{ℕ, ◌-◌, ◌<◌, length, Some, sym, ◌∙◌, ap, rules}
use Rattle.std.specs.Option.{option_map}
use Rattle.std.proofs.lemmas.List.{get_or_default}
use Rattle.std.proofs.lemmas.List.Elements.{All-contains}
use Rattle.macho_spans.specs.declared.span.Span.{Span}
use Rattle.macho_rules.specs.Mapping.{source_from, source_past}
use Rattle.macho_rules.proofs.Memory.{none_holds, one_holds}
use Rattle.macho_rules.proofs.mapping.Mapping.source.Goals as goal

pub returns-in_err-memory-clause-source : goal.returns-in_err-memory-clause-source
returns-in_err-memory-clause-source c =
    rw c.from_residual.ensures (sym (ap (option_map (source_from c.args.self.now.files.items c.args.addr)) (none_holds c.args.addr c.args.self.now.memory.pairs c.in_err-memory.ensures.found)))

pub returns-clause-source : goal.returns-clause-source
returns-clause-source c =
    let pairs = c.args.self.now.memory.pairs in
    let files = c.args.self.now.files.items in
    let pair : Span × ℕ = (c.in_ok-memory.memory, c.in_ok-memory.index) in
    let sorted = rw c.in_ok-memory.ensures.same at c.in_ok-memory.ensures.sorted in
    let has = c.in_ok-memory.ensures.found.0 in
    let found = ap (option_map (source_from files c.args.addr)) (one_holds c.args.addr pairs pair sorted.apart has c.in_ok-memory.ensures.found.1) in
    let within = All-contains (λ (one : Span × ℕ). one.1 < length files) pairs pair c.args.self.now.indexed has in
    let file = c.index-file.ensures ∙ get_or_default files c.in_ok-memory.index c.index-file.result.now (record { fileoff = 0; filesize = 0 }) within in
    ap Some c.source.ensures ∙ (ap (λ part. Some (source_past (c.args.addr - c.in_ok-memory.memory.start) part)) file ∙ sym found)

pub returns-in_err-memory-clause-counted : goal.returns-in_err-memory-clause-counted
returns-in_err-memory-clause-counted c = search rules

pub returns-in_err-memory-clause-probes : goal.returns-in_err-memory-clause-probes
returns-in_err-memory-clause-probes c = search rules

pub returns-clause-counted : goal.returns-clause-counted
returns-clause-counted c = search rules

pub returns-clause-probes : goal.returns-clause-probes
returns-clause-probes c = search rules
