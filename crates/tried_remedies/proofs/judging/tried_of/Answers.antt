use Rattle.std.proofs.Common.{◌≡◌, rules, ◌++◌, ◌∷◌, []}
use Rattle.std.proofs.lemmas.List.Elements.{All-push, All-same}
use Rattle.tried_remedies.specs.Tried.{IsTried}
use Rattle.tried_remedies.proofs.judging.tried_of.Goals as goal

pub found-preserved-in-Continue-branch-3 : goal.found-preserved-in-Continue-branch-3
found-preserved-in-Continue-branch-3 c =
    let one : IsTried c.args.solid.now c.args.known.now.geometry c.args.shell.number c.in-Some.remedy = search rules in
    let more : c.push.new.self ≡ c.found.tried ++ c.in-Some.remedy ∷ [] = search rules in
    All-same (IsTried c.args.solid.now c.args.known.now.geometry c.args.shell.number) c.push.new.self (c.found.tried ++ c.in-Some.remedy ∷ []) more
    (All-push (IsTried c.args.solid.now c.args.known.now.geometry c.args.shell.number) c.found.tried c.in-Some.remedy c.found.invariant one)
