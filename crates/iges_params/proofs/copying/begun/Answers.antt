use Rattle.std.proofs.Common.{sym, ap, ◌∙◌}
use Rattle.std.specs.Prelude.{option_copied}
use Rattle.iges_params.specs.Contents.{Contents}
use Rattle.iges_params.proofs.Copies.{copied}
use Rattle.iges_params.proofs.copying.begun.Goals as goal

pub lines-preserved : goal.lines-preserved
lines-preserved c =
    let put = (c.in_ok-push_start.ensures {u = tt}).ok in
    record {
      start = copied c.args.file.now.start c.lines.i c.unwrap-in-lines.result.now c.lines.new.start c.push_start.new.self.start
          (sym c.start-in-lines.ensures.line ∙ ap option_copied c.unwrap-in-lines.ensures) c.lines.invariant.start
          (ap (λ (f : Contents). f.start) put);
      global = ap (λ (f : Contents). f.global) put ∙ c.lines.invariant.global;
      entries = ap (λ (f : Contents). f.entries) put ∙ c.lines.invariant.entries;
    }
