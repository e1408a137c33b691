use Rattle.std.proofs.Common.{◌≡◌, ◌++◌, flat_map, drop}
use Rattle.where_unjudged.specs.Lines.{member_fact}
use Rattle.where_unjudged.proofs.lines.put_each.Given as goal

abbrev pub invariant-members : goal.invariant-members
invariant-members l = l.out ++ flat_map (member_fact l.member l.file) (drop l.no-index l.list)
    ≡ l.fn.out ++ flat_map (member_fact l.member l.file) l.list
