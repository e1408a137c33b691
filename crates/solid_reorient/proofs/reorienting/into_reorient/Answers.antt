use Rattle.std.proofs.Common.{ℕ, ◌∙◌, ap}
use Rattle.solid_reorient.specs.Reflagged.{reflagged}
use Rattle.solid_reorient.proofs.reorienting.into_reorient.Goals as goal

pub returns-clause-found : goal.returns-clause-found
returns-clause-found c =
    let found = c.in_ok-extraction.ensures.found in
    record {
      flags = c.args.flags.now;
      fit = c.requires;
      «between» = c.in_ok-extraction.extraction.file;
      extracted = found.extracted;
      is = c.in_ok-new.ensures ∙ ap (λ (m : ℕ). reflagged c.in_ok-extraction.extraction.file m c.args.flags.now) found.is;
    }
