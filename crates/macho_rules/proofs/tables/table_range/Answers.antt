use Rattle.std.proofs.Common.{◌≡◌, List, ℕ, Contains, sym, subst, lit≤}
use Rattle.std.proofs.lemmas.Bool.{both_ways}
use Rattle.macho_fields.specs.Image.{command_cmd, commands_of}
use Rattle.macho_fields.specs.declared.rule.Rule.TheVariants as rule
use Rattle.macho_image.specs.Command.{command_of}
use Rattle.macho_image.specs.Opened.{IsOpened}
use Rattle.macho_image.specs.Table.{HaveTables}
use Rattle.macho_rules.proofs.Judged.{judged_found, judged_ended}
use Rattle.macho_rules.proofs.Searches.{search_next}
use Rattle.macho_rules.proofs.TableRange.{HasTableOutside, views_search, views_break, view_left}
use Rattle.macho_rules.proofs.tables.table_range.Goals as goal

pub loop-command-init : goal.loop-command-init
loop-command-init c = (
  tt,
  tt,
  views_search c.args.image.now _ c.commands_with_tables-command-items.ensures.opened (subst (HaveTables c.args.image.now) (sym c.into_iter-command-iterator.ensures.into_iter_gives) c.commands_with_tables-command-items.ensures.tables) _,
)

pub has_table_outside-requires : goal.has_table_outside-requires
has_table_outside-requires c =
    let have = subst (HaveTables c.args.image.now) (sym c.into_iter-command-iterator.ensures.into_iter_gives) c.commands_with_tables-command-items.ensures.tables in
    let same = sym c.bytes-bytes.ensures.bytes in
    let (listed, cmd) = view_left c.args.image.now _ c.bytes-bytes.ensures.opened have _ _ _
    (command_of c.in-Some.command) c.in-Some.ensures.steps c.loop-command.invariant.2 in
    record {
      opened = subst IsOpened same c.bytes-bytes.ensures.opened;
      listed = subst (λ (bytes : List ℕ). Contains (commands_of bytes) c.in-Some.command.place) same listed;
      cmd = subst (λ (bytes : List ℕ). c.in-Some.command.cmd ≡ command_cmd bytes c.in-Some.command.place) same cmd;
    }

pub returns-then-has_table_outside : goal.returns-then-has_table_outside
returns-then-has_table_outside c =
    let have = subst (HaveTables c.args.image.now) (sym c.into_iter-command-iterator.ensures.into_iter_gives) c.commands_with_tables-command-items.ensures.tables in
    judged_found c.args.image.now rule.TableRange (lit≤ tt) c.requires _ _ _
    (views_break c.args.image.now _ c.bytes-bytes.ensures.opened have) _ c.loop-command.invariant.2
    (command_of c.in-Some.command) _ c.in-Some.ensures.steps
    (subst (λ (bytes : List ℕ). HasTableOutside bytes c.in-Some.command.place) c.bytes-bytes.ensures.bytes (c.has_table_outside.ensures.0 c.if-has_table_outside.true)) c.at.result c.at.ensures.rule
    c.at.ensures.place

pub loop-command-preserved : goal.loop-command-preserved
loop-command-preserved c = (
  tt,
  tt,
  search_next _ _ _ _ _ (command_of c.in-Some.command) c.in-Some.ensures.steps c.loop-command.invariant.2
      (λ named. both_ways c.has_table_outside.result c.if-has_table_outside.false
      (c.has_table_outside.ensures.1 (subst (λ (bytes : List ℕ). HasTableOutside bytes c.in-Some.command.place) (sym c.bytes-bytes.ensures.bytes) named))),
)

pub returns : goal.returns
returns c =
    let have = subst (HaveTables c.args.image.now) (sym c.into_iter-command-iterator.ensures.into_iter_gives) c.commands_with_tables-command-items.ensures.tables in
    judged_ended c.args.image.now rule.TableRange (lit≤ tt) c.requires _ _ _
    (views_break c.args.image.now _ c.bytes-bytes.ensures.opened have) _ c.loop-command.invariant.2
    c.in-None.ensures.steps.0
