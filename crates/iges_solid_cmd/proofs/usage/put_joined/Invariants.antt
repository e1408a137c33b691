use Rattle.std.proofs.Common.{◌≡◌, ◌++◌, drop, map}
use Rattle.iges_solid_cmd.specs.Forms.{join_with, joined_after}
use Rattle.iges_solid_cmd.proofs.usage.put_joined.Given as goal

-- what is written, and the texts that are left, are all of them
abbrev pub invariant-others : goal.invariant-others
invariant-others g l = l.out ++ joined_after l.between (map g.T.Shown.text (drop l.next-index l.others)) ≡ l.fn.out
    ++ join_with l.between (map g.T.Shown.text l.shown)
