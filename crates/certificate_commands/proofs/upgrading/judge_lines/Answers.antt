use Rattle.certificate_commands.proofs.upgrading.judge_lines.Goals as goal

pub returns : goal.returns
returns c = c.check.ensures.whole c.args.version c.args.solid.now 3 (c.in_ok-checker.ensures {u = tt}).fed
