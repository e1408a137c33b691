use Rattle.std.proofs.Common.{sym, ◌∙◌, subst, arith, List, ℕ, length, ◌≤◌, ◌++◌}
use Rattle.topo_certificate.specs.OpeningFed.{Shows}
use Rattle.topo_certificate.proofs.FedLines.{nil}
use Rattle.topo_certificate.proofs.OpeningLines.{whole_line, joined_line, few_kept}
use Rattle.topo_certificate.proofs.opening.Opening.end_line.Goals as goal

pub returns-then-len-eq0 : goal.returns-then-len-eq0
returns-then-len-eq0 c =
    let waiting = rw (sym c.self.view_is) at c.requires.waiting in
    let empty : length c.self.inside.start ≤ 0 = omega (arith, c.len.ensures, c.if-len-eq0.true) in
    rw (sym c.self.view_is) (λ text front h is shows.
    subst (λ (k : List ℕ). Shows c.stage_after-self-inside.result k (text ++ c.args.line.now)) (sym (nil c.self.inside.start empty))
    (whole_line (record { kept = c.self.inside.start; stage = c.self.inside.stage }) text front c.args.line.now c.stage_after-self-inside.result waiting empty
    h is c.stage_after-self-inside.ensures shows))

pub push-requires : goal.push-requires
push-requires c = omega (arith, few_kept c.keep.new.self _ c.keep.ensures)

pub returns : goal.returns
returns c =
    let waiting = rw (sym c.self.view_is) at c.requires.waiting in
    rw (sym c.self.view_is) (λ text front h is shows.
    subst (λ (k : List ℕ). Shows c.stage_after-self-inside-2.result k (text ++ c.args.line.now)) (sym c.clear.ensures)
    (joined_line (record { kept = c.self.inside.start; stage = c.self.inside.stage }) text front c.args.line.now c.keep.new.self c.as_slice.result.now
    c.stage_after-self-inside-2.result waiting h is c.keep.ensures
    (c.as_slice.ensures ∙ c.push.ensures) c.stage_after-self-inside-2.ensures shows))
