use Rattle.std.proofs.Common.{◌≡◌, ◌↔◌, ◌+◌, ℕ, leb, IsTrue, ap, sym, subst, ◌∙◌, refl, arith, inl, inr}
use Rattle.std.proofs.lemmas.Bool.{false≢true}
use Rattle.std.proofs.lemmas.Bool.Decides.{leb_tells}
use Rattle.macho_fields.specs.Bytes.{bytes_of}
use Rattle.macho_chains.specs.ChainImports.{import_at, import_of, import_name_start, HasNoNameEnd, IsNoLibrary}
use Rattle.macho_chains.specs.declared.chain_imports.Import.{Import}
use Rattle.macho_chains.proofs.ChainImports.{AreWalked, import_inside, walked_more, walked_all, walked_apart}
use Rattle.macho_chains.proofs.chain_imports.survey.Goals as goal

pub read-import-requires : goal.read-import-requires
read-import-requires c = rw c.import_offset-offset.ensures (import_inside (bytes_of c.args.chains.bytes) c.args.chains.header c.requires c.loop-index.index c.loop-index-test.true)

pub loop-index-preserved : goal.loop-index-preserved
loop-index-preserved c =
    let chains = bytes_of c.args.chains.bytes in
    let header = c.args.chains.header in
    let index = c.loop-index.index in
    let import : c.read-import.result ≡ import_of chains header index = c.read-import.ensures ∙ ap (import_at chains header.imports_format) c.import_offset-offset.ensures in
    let name : c.name_of-name.result ≡ import_name_start chains header index = c.name_of-name.ensures ∙ ap (λ (i : Import). header.symbols_offset + i.name_offset) import in
    let ends = c.zeros_end-end.ensures (import_name_start chains header index) in
    let endless : IsTrue (leb c.zeros_end-end.result c.name_of-name.result) ↔ HasNoNameEnd chains header index = elim (leb_tells c.zeros_end-end.result c.name_of-name.result) [
      | inl (t, late) ↦ (λ _ has. let before = ends.1 has in omega (arith, name, before, late), λ _. t)
      | inr (f, before) ↦ (λ is. absurd (false≢true (sym f ∙ is)), λ none. absurd (none (ends.0 (omega (arith, name, before)))))
    ] in
    walked_more c.args.libraries chains header index c.loop-index.before c.loop-index.shared c.loop-index.found c.loop-index.invariant c.import_offset-offset.result c.import_offset-offset.ensures
    c.name_of-name.result _ _ _ _ _ name c.may_share-is_shared.ensures endless
    (subst (λ (i : Import). IsTrue c.is_no_library-is_unknown.result ↔ IsNoLibrary c.args.libraries i.ordinal) import c.is_no_library-is_unknown.ensures)
    refl c.note_if.ensures c.note_if-in-loop-index.ensures c.note_if-in-loop-index-2.ensures

pub returns-in-None-None : goal.returns-in-None-None
returns-in-None-None c =
    let all : c.loop-index.index ≡ c.args.chains.header.imports_count = omega (arith, c.loop-index.auto.index-end, c.loop-index-test.false) in
    let walked = subst (λ (n : ℕ). AreWalked c.args.libraries (bytes_of c.args.chains.bytes) c.args.chains.header n c.loop-index.before c.loop-index.shared c.loop-index.found) all c.loop-index.invariant in
    walked_apart c.args.libraries (bytes_of c.args.chains.bytes) c.args.chains.header c.requires c.loop-index.before c.loop-index.shared c.loop-index.found walked c.in-None-None.is-0 c.in-None-None.is-1

pub returns-in_default : goal.returns-in_default
returns-in_default c =
    let all : c.loop-index.index ≡ c.args.chains.header.imports_count = omega (arith, c.loop-index.auto.index-end, c.loop-index-test.false) in
    let walked = subst (λ (n : ℕ). AreWalked c.args.libraries (bytes_of c.args.chains.bytes) c.args.chains.header n c.loop-index.before c.loop-index.shared c.loop-index.found) all c.loop-index.invariant in
    walked_all c.args.libraries (bytes_of c.args.chains.bytes) c.args.chains.header c.requires c.loop-index.before c.loop-index.shared c.loop-index.found walked c.first_past_total.result c.first_past_total.ensures
