use Rattle.std.proofs.Common.{sym, ◌∙◌}
use Rattle.std.proofs.lemmas.Result.{on_ok_weaker}
use Rattle.iges_params.proofs.SolidNumbers.{other_entry, solid_entry}
use Rattle.iges_params.proofs.file.File.push_solid.Goals as goal

pub returns-then-not-is_solid_at : goal.returns-then-not-is_solid_at
returns-then-not-is_solid_at c = other_entry c.args.self.now c.args.i _ c.requires (sym c.is_solid_at.ensures ∙ c.if-not-is_solid_at.true)

pub returns : goal.returns
returns c =
    on_ok_weaker c.push.result
    (λ pushed. solid_entry c.args.self.now c.args.i c.entry_no.result _ _ c.requires
    (sym c.is_solid_at.ensures ∙ c.if-not-is_solid_at.false) c.entry_no.ensures pushed)
    c.push.ensures.ok
