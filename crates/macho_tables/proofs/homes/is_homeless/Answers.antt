use Rattle.std.proofs.Common.{◌↔◌, IsTrue, subst}
use Rattle.macho_spans.specs.declared.span.Span.{Span}
use Rattle.macho_tables.specs.Homes.{LacksHome}
use Rattle.macho_tables.proofs.homes.is_homeless.Goals as goal

pub returns : goal.returns
returns c = subst (λ (table : Span). IsTrue c.lacks_home.result ↔ LacksHome c.args.image.now table) c.span_of.ensures c.lacks_home.ensures
