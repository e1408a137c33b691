use Rattle.std.proofs.Common.{subst, slice_get, Option}
use Rattle.solid_data.specs.declared.solid.Shell.{Shell}
use Rattle.edge_uses.specs.ShellRows.{EndsMeet, rows_of}
use Rattle.shell_rules.proofs.Rules.{open_place}
use Rattle.open_shells.proofs.OpenRules.{if_some, join_holds, join_fails}
use Rattle.open_shells.proofs.judging.join.Goals as goal

pub unjoined-requires : goal.unjoined-requires
unjoined-requires c =
    open_place c.args.solid.now c.args.shell.now c.in-Some.open.at c.in-Some.open.place
    (if_some _ (slice_get c.args.solid.now.shells 0) c.args.shell.now c.requires c.in-Some.ensures.first)

pub returns-in-Some-clause-fails : goal.returns-in-Some-clause-fails
returns-in-Some-clause-fails c =
    join_fails c.args.solid.now c.args.shell.now c.in-Some.open.at c.in-Some.open.place c.unjoined.result
    (if_some _ (slice_get c.args.solid.now.shells 0) c.args.shell.now c.requires c.in-Some.ensures.first) c.unjoined.ensures

pub returns-in-None-clause-meet : goal.returns-in-None-clause-meet
returns-in-None-clause-meet c = subst (λ (o : Option Shell). EndsMeet (rows_of c.args.solid.now o)) c.requires c.in-None.ensures.meet

pub returns-in-None-clause-holds : goal.returns-in-None-clause-holds
returns-in-None-clause-holds c =
    join_holds c.args.solid.now c.args.shell.now (if_some _ (slice_get c.args.solid.now.shells 0) c.args.shell.now c.requires c.in-None.ensures.first)
