use Rattle.std.proofs.Common.{◌≡◌, ◌∙◌, length, sym, ap, subst, arith}
use Rattle.std.proofs.lemmas.Bool.{both_ways}
use Rattle.std.proofs.lemmas.List.Elements.{Contains-get_or}
use Rattle.macho_fields.specs.FirstPlace.{IsLeastPlace}
use Rattle.macho_image.specs.Symbol.{symbol_at}
use Rattle.macho_alike.specs.Definitions.{DefinesName, meaning_of}
use Rattle.macho_alike.specs.declared.names.Named.{Named}
use Rattle.macho_alike.proofs.DefinitionGroups.{no_named, at, walked_none, walked_past, walked_noted, walked_kept, head_inside, least_defined, DiffersBelow}
use Rattle.macho_alike.proofs.NameLists.{named_inside, symbol_inside}
use Rattle.macho_alike.proofs.definitions.definition_among.Goals as goal
use Rattle.macho_alike.proofs.definitions.definition_among.Goals.{then-defines_name+then-not-same, then-defines_name+else-not-same, else-defines_name}

pub loop-one-init : goal.loop-one-init
loop-one-init c = walked_none c.args.image.now c.args.names.now

pub read-symbol-requires : goal.read-symbol-requires
read-symbol-requires c =
    let here : Named = at c.args.image.now c.args.names.now c.loop-one.one-index in
    rw c.bytes-bytes.ensures.bytes (symbol_inside c.args.image.now c.requires.unbroken here ((c.requires.named here).0 (Contains-get_or c.args.names.now c.loop-one.one-index no_named c.loop-one-test.true)))

pub first_of_name-first-requires-clause-known : goal.first_of_name-first-requires-clause-known
first_of_name-first-requires-clause-known c =
    let image = c.args.image.now in
    head_inside image c.args.names.now c.loop-one.one-index (omega (arith, c.loop-one-test.true)) c.loop-one.known c.loop-one.found c.loop-one.invariant
    (λ one has. let less = named_inside image c.requires.unbroken one ((c.requires.named one).0 has) in omega (arith, less))

pub first_of_name-first-requires-clause-inside : goal.first_of_name-first-requires-clause-inside
first_of_name-first-requires-clause-inside c =
    let here : Named = at c.args.image.now c.args.names.now c.loop-one.one-index in
    let less = named_inside c.args.image.now c.requires.unbroken here ((c.requires.named here).0 (Contains-get_or c.args.names.now c.loop-one.one-index no_named c.loop-one-test.true)) in
    omega (arith, less)

pub loop-one-preserved : goal.loop-one-preserved
loop-one-preserved c =
    let image = c.args.image.now in
    let names = c.args.names.now in
    let n = c.loop-one.one-index in
    let read : c.read-symbol.result ≡ symbol_at image (at image names n).place = c.read-symbol.ensures ∙ ap (λ xs. symbol_at xs (at image names n).place) c.bytes-bytes.ensures.bytes in
    elim c.if-defines_name.branch [
      | then-defines_name+then-not-same w ↦
          rw (w.known-is, w.found-is, w.lesser-found.ensures)
          (walked_noted image names c.requires.sorted n c.loop-one-test.true c.loop-one.known c.loop-one.found c.loop-one.invariant
          (subst DefinesName read (c.defines_name.ensures.0 w.if-defines_name.true)) w.meaning_of-meaning.result (w.meaning_of-meaning.ensures ∙ ap meaning_of read) w.first_of_name-first.result w.first_of_name-first.ensures
          (λ same. both_ways w.same.result w.if-not-same.true (w.same.ensures.1 same)))
      | then-defines_name+else-not-same w ↦
          rw (w.known-is, w.found-is)
          (walked_kept image names c.requires.sorted n c.loop-one-test.true c.loop-one.known c.loop-one.found c.loop-one.invariant
          (subst DefinesName read (c.defines_name.ensures.0 w.if-defines_name.true)) w.meaning_of-meaning.result (w.meaning_of-meaning.ensures ∙ ap meaning_of read) w.first_of_name-first.result w.first_of_name-first.ensures
          (w.same.ensures.0 w.if-not-same.false))
      | else-defines_name w ↦
          rw (w.known-is, w.found-is)
          (walked_past image names c.requires.sorted n c.loop-one-test.true c.loop-one.known c.loop-one.found c.loop-one.invariant
          (λ defines. both_ways c.defines_name.result w.if-defines_name.false (c.defines_name.ensures.1 (subst DefinesName (sym read) defines))))
    ]

pub returns : goal.returns
returns c =
    let image = c.args.image.now in
    let names = c.args.names.now in
    let all : c.loop-one.one-index ≡ length names = omega (arith, c.loop-one.auto.one-index-end, c.loop-one-test.false) in
    let least = c.loop-one.invariant.least in
    least_defined image c.requires.unbroken names c.requires.named c.loop-one.found (subst (λ n. IsLeastPlace (DiffersBelow image names n) c.loop-one.found) all least)
