use Rattle.std.proofs.Common.{◌+◌, ◌∙◌, ℕ, ap}
use Rattle.iges_params.proofs.Globals.{global_from}
use Rattle.iges_params.proofs.global_pass.read_global.Goals as goal

pub returns : goal.returns
returns c =
    let put = c.in_ok-put_text.ensures {u = tt} in
    global_from c.args.sections.now c.deref.result.now c.global_count.result _ c.global_of_text.result c.global_count.ensures.count
    (c.deref.ensures.value ∙ put.text) (ap (λ (n : ℕ). n + 1) c.start_count.ensures.count) c.global_of_text.ensures
