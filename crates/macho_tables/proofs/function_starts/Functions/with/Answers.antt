use Rattle.std.proofs.Common.{◌+◌, refl, sym, ap, ◌∙◌, subst, arith, inl, inr}
use Rattle.std.proofs.lemmas.Bool.{false≢true}
use Rattle.macho_tables.specs.Functions.{IsNextFunction}
use Rattle.macho_tables.specs.StartNumbers.{IsFileAddress}
use Rattle.macho_tables.specs.declared.function_starts.Functions.{Functions}
use Rattle.macho_tables.specs.declared.function_starts.Functions.TheVariants as functions
use Rattle.macho_tables.proofs.FileBytes.{file_address_fits}
use Rattle.macho_tables.proofs.function_starts.Functions.with.Goals as goal

pub returns-in-Some-clause-functions : goal.returns-in-Some-clause-functions
returns-in-Some-clause-functions c =
    let image = c.args.image.now in
    let (fits, is) = c.in-Some.ensures in
    let has = subst (IsFileAddress image) is (c.has.ensures.found.0 c.if-has.true) in
    subst (λ (old : Functions). IsNextFunction image c.args.place c.args.distance old (functions.Sound c.in-Some.address)) (sym c.in-Sound.is) (inl (has, ap functions.Sound is))

pub returns-in_default-checked_add-clause-functions : goal.returns-in_default-checked_add-clause-functions
returns-in_default-checked_add-clause-functions c =
    let image = c.args.image.now in
    let (fits, is) = c.in-Some.ensures in
    let none : ¬ IsFileAddress image (c.in-Sound.from + c.args.distance) = (λ has. false≢true (sym c.if-has.false ∙ c.has.ensures.found.1 (subst (IsFileAddress image) (sym is) has))) in
    subst (λ (old : Functions). IsNextFunction image c.args.place c.args.distance old (functions.Stray c.args.place)) (sym c.in-Sound.is) (inr (none, refl))

pub returns-in_default-checked_add-2-clause-functions : goal.returns-in_default-checked_add-2-clause-functions
returns-in_default-checked_add-2-clause-functions c =
    let image = c.args.image.now in
    let past = c.in_default-checked_add.ensures in
    let none : ¬ IsFileAddress image (c.in-Sound.from + c.args.distance) = (λ has. absurd (let fits = file_address_fits image c.requires.unbroken (c.in-Sound.from + c.args.distance) has in omega (arith, fits, past))) in
    subst (λ (old : Functions). IsNextFunction image c.args.place c.args.distance old (functions.Stray c.args.place)) (sym c.in-Sound.is) (inr (none, refl))
