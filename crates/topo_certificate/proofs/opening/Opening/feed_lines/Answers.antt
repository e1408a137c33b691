use Rattle.std.proofs.Common.{sym, ap, ◌∙◌, subst, ⊎_elim}
use Rattle.std.proofs.lemmas.List.{take_rest}
use Rattle.topo_certificate.specs.OpeningFed.{Opened, IsWaiting}
use Rattle.topo_certificate.proofs.OpeningLines.{fed_next, fed_failed, within_more}
use Rattle.topo_certificate.proofs.opening.Opening.feed_lines.Goals as goal

pub returns-in-Failed : goal.returns-in-Failed
returns-in-Failed c =
    let took = c.in-Some.ensures {u = tt} in
    let is = ap (λ (o : Opened). o.stage) (sym c.self.view_is) ∙ c.in-Failed.is in
    let fed = fed_next c.args.self.now c.args.piece.now c.lines.self c.take_line.new.self c.lines.used c.in-Some.len _
    (take_rest c.args.piece.now c.lines.used) c.lines.invariant.fed took.line in
    record { step = λ text shows. (is, fed_failed c.args.self.now c.args.piece.now c.take_line.new.self _ c.in-Failed.bad text is fed shows) }

pub returns-in-Done : goal.returns-in-Done
returns-in-Done c =
    let took = c.in-Some.ensures {u = tt} in
    let is = ap (λ (o : Opened). o.stage) (sym c.self.view_is) ∙ c.in-Done.is in
    let fed = fed_next c.args.self.now c.args.piece.now c.lines.self c.take_line.new.self c.lines.used c.in-Some.len _
    (take_rest c.args.piece.now c.lines.used) c.lines.invariant.fed took.line in
    record {
      step = λ text shows. (
        is,
        within_more c.args.piece.now _ c.lines.used c.in-Some.len c.lines.invariant.within (take_rest c.args.piece.now c.lines.used) took.used.1,
        fed text
            shows,
      );
    }

pub lines-preserved : goal.lines-preserved
lines-preserved c =
    let took = c.in-Some.ensures {u = tt} in
    record {
      within = within_more c.args.piece.now _ c.lines.used c.in-Some.len c.lines.invariant.within (take_rest c.args.piece.now c.lines.used) took.used.1;
      waiting = ⊎_elim (λ e. subst IsWaiting (sym (ap (λ (o : Opened). o.stage) (sym c.self.view_is) ∙ e)) tt)
          (λ e. subst IsWaiting (sym (ap (λ (o : Opened). o.stage) (sym c.self.view_is) ∙ e.1)) tt) c.in-First.is;
      fed = fed_next c.args.self.now c.args.piece.now c.lines.self c.take_line.new.self c.lines.used c.in-Some.len _ (take_rest c.args.piece.now c.lines.used)
          c.lines.invariant.fed took.line;
    }
