use Rattle.std.proofs.Common.{◌⊎◌, sym, ap, ◌∙◌, subst}
use Rattle.macho_opcodes.specs.Images.{AreLeast, InStream, InRebases, InBindsOf, InBinds, joined}
use Rattle.macho_opcodes.specs.declared.stream.StreamSurvey.{StreamSurvey}
use Rattle.macho_opcodes.specs.declared.streams.Stream.{Stream}
use Rattle.macho_opcodes.specs.declared.streams.Stream.TheVariants as streams
use Rattle.macho_opcodes.proofs.TableSurveys.{least_of_none, least_of_some, survey_joined}
use Rattle.macho_opcodes.proofs.streams.StreamSurveys.of.Goals as goal

pub returns-in_default-clause-rebases : goal.returns-in_default-clause-rebases
returns-in_default-clause-rebases c =
    subst (AreLeast (InRebases c.args.image.now)) (sym c.unbroken.ensures)
    (least_of_none c.args.image.now (InStream streams.Rebase c.args.image.now) _ (sym c.dyld_info.ensures ∙ c.in_default.is))

pub returns-in_default-clause-binds : goal.returns-in_default-clause-binds
returns-in_default-clause-binds c =
    subst (AreLeast (InBinds c.args.image.now)) (sym c.unbroken-in_default.ensures)
    (least_of_none c.args.image.now (InBindsOf c.args.image.now) _ (sym c.dyld_info.ensures ∙ c.in_default.is))

pub returns-clause-rebases : goal.returns-clause-rebases
returns-clause-rebases c =
    least_of_some (InStream streams.Rebase c.args.image.now) c.survey_of-rebases.result _ c.in-Some.command (sym c.dyld_info.ensures ∙ c.in-Some.is) c.survey_of-rebases.ensures

pub returns-clause-binds : goal.returns-clause-binds
returns-clause-binds c =
    let In = λ (one : Stream). InStream one c.args.image.now c.in-Some.command in
    let two = survey_joined (In streams.Bind) (In streams.WeakBind) c.survey_of-binds.result c.survey_of-weak.result c.survey_of-binds.ensures c.survey_of-weak.ensures in
    let three = survey_joined (λ Rule place. In streams.Bind Rule place ⊎ In streams.WeakBind Rule place) (In streams.LazyBind) _ c.survey_of-lazy.result two c.survey_of-lazy.ensures in
    let same = c.joined-2.ensures ∙ ap (λ (s : StreamSurvey). joined s c.survey_of-lazy.result) c.joined.ensures in
    least_of_some (InBindsOf c.args.image.now) c.joined-2.result _ c.in-Some.command (sym c.dyld_info.ensures ∙ c.in-Some.is)
    (subst (AreLeast (InBindsOf c.args.image.now c.in-Some.command)) (sym same) three)
