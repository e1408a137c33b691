use Rattle.std.proofs.Common.{rules, refl, ap, ◌∙◌, subst, ◌≡◌, ◌+◌, length, true, false}
use Rattle.cert_lines.specs.Line.{end}
use Rattle.topo_certificate.specs.Matching.{CheckerState}
use Rattle.topo_certificate.specs.Room.{dues_of, TakesLine}
use Rattle.topo_certificate.proofs.Checking.{with_end, end_comes}
use Rattle.topo_certificate.proofs.line_checker.LineChecker.take_end.Goals as goal

pub returns-clause-line : goal.returns-clause-line
returns-clause-line c =
    let old : CheckerState =
    record {
      version = c.self.inside.version;
      solid = c.self.inside.solid.now;
      failed = c.self.inside.failed;
      number = c.self.inside.number;
      ended = c.self.inside.ended;
      shell = c.self.inside.shell;
      current = c.self.inside.current;
      waiting = c.self.inside.waiting.items;
    } in
    let going : c.self.inside.ended ≡ false = ap (λ (k : CheckerState). k.ended) c.self.view_is ∙ c.requires in
    let none : dues_of c.self.inside.current ≡ 0 = ap (λ (k : CheckerState). dues_of k.current) c.self.view_is ∙ c.is_done.ensures.0 c.if-not-is_done.false in
    let left : length c.self.inside.waiting.items ≡ 0 = search rules in
    subst (λ k. TakesLine k (with_end old (c.self.inside.number + 1)) end true) c.self.view_is (end_comes old (c.self.inside.number + 1) going none left refl)
