use Rattle.std.proofs.Common.{◌≡◌, ◌≢◌, ◌∙◌, ◌+◌, true, false, refl, sym, subst}
use Rattle.std.proofs.lemmas.Bool.{false≢true}
use Rattle.macho_fields.specs.Bytes.{bytes_of}
use Rattle.macho_fields.specs.Field.{string_from, HasZero}
use Rattle.macho_fields.specs.Image.{commands_of}
use Rattle.macho_spans.specs.Span.{end_of}
use Rattle.macho_fields.specs.Symbol.{n_strx}
use Rattle.macho_image.specs.Symbol.{IsNameAt}
use Rattle.macho_verified.specs.Image.{SymbolView}
use Rattle.macho_verified.proofs.Accepted.{strx_read, name_ends, name_is}
use Rattle.macho_verified.proofs.symbol.VerifiedSymbol.name.Goals as goal

pub returns-then-strx-eq0-clause-named : goal.returns-then-strx-eq0-clause-named
returns-then-strx-eq0-clause-named c =
    let image = bytes_of c.self.inside.image in
    let symbol = c.self.inside.symbol in
    let none : n_strx image symbol.place ≡ 0 = sym (strx_read image c.self.inside.strings symbol c.self.invariant) ∙ (sym c.from-strx.ensures ∙ c.if-strx-eq0.true) in
    subst (λ (v : SymbolView). (false ≡ true → n_strx v.image v.place ≢ 0) × (n_strx v.image v.place ≢ 0 → false ≡ true)) c.self.view_is
    (λ some. absurd (false≢true some), λ other. absurd (other none))

pub string_at-requires : goal.string_at-requires
string_at-requires c =
    let strings = c.self.inside.strings in
    subst (λ n. HasZero (bytes_of c.self.inside.image) (strings.start + n) (end_of strings)) (sym c.from-strx.ensures)
    (name_ends (bytes_of c.self.inside.image) strings c.self.inside.symbol c.self.invariant (subst (λ n. n ≢ 0) c.from-strx.ensures c.if-strx-eq0.false))

pub returns-clause-named : goal.returns-clause-named
returns-clause-named c =
    let image = bytes_of c.self.inside.image in
    let symbol = c.self.inside.symbol in
    let read = strx_read image c.self.inside.strings symbol c.self.invariant in
    subst (λ (v : SymbolView). (true ≡ true → n_strx v.image v.place ≢ 0) × (n_strx v.image v.place ≢ 0 → true ≡ true)) c.self.view_is
    (λ given. subst (λ n. n ≢ 0) (c.from-strx.ensures ∙ read) c.if-strx-eq0.false, λ some. refl)

pub returns-clause-name : goal.returns-clause-name
returns-clause-name c =
    let image = bytes_of c.self.inside.image in
    let symbol = c.self.inside.symbol in
    let read = strx_read image c.self.inside.strings symbol c.self.invariant in
    subst (λ (v : SymbolView). IsNameAt v.image (commands_of v.image) (n_strx v.image v.place) c.string_at.result.now) c.self.view_is
    (subst (λ n. IsNameAt image (commands_of image) n c.string_at.result.now) read
    (name_is image c.self.inside.strings symbol c.string_at.result.now c.self.invariant (subst (λ n. n ≢ 0) c.from-strx.ensures c.if-strx-eq0.false)
    (subst (λ n. c.string_at.result.now ≡ string_from (c.self.inside.strings.start + n) image) c.from-strx.ensures c.string_at.ensures)))
