use Rattle.std.proofs.Common.{◌≡◌, ◌++◌, codes, subst}
use Rattle.std.specs.Prelude.{OnOk}
use Rattle.iges_solid_cmd.specs.Forms.{join_with}
use Rattle.iges_solid_cmd.proofs.FormWords.{slot_texts}
use Rattle.iges_solid_cmd.proofs.usage.FormShown.put.Goals as goal

pub returns : goal.returns
returns c = subst (λ texts. OnOk c.put_joined.result (c.put_joined.new.out ≡ c.args.out.now ++ join_with (codes " ") texts))
    (slot_texts c.args.self.now.slots.now) c.put_joined.ensures
