use Rattle.std.proofs.Common.{rules, ap, subst, sym, ◌∙◌, ◌≡◌, List, ℕ}
use Rattle.std.specs.Prelude.{IfOk}
use Rattle.cert_lines.specs.Line.{cut_lines}
use Rattle.topo_certificate.specs.Upgraded.{starts_with}
use Rattle.topo_certificate.proofs.UpgradedText.{kept_empty, kept_other, upgraded_one}
use Rattle.topo_certificate.proofs.upgrading.upgraded_text.Goals as goal

pub returns-in_default : goal.returns-in_default
returns-in_default c = subst (λ x. IfOk c.copy.result (λ t. t ≡ x)) (kept_empty c.args.solid.now c.args.text.now c.in_default.ensures) c.copy.ensures

pub returns-then-not-begins : goal.returns-then-not-begins
returns-then-not-begins c =
    subst (λ x. IfOk c.copy-then-not-begins.result (λ t. t ≡ x))
    (kept_other c.args.solid.now c.args.text.now c.in-Some.first.now (cut_lines c.in-Some.rest.now) c.in-Some.ensures.0
    (ap (λ (w : List ℕ). starts_with w c.in-Some.first.now) (sym c.head_text.ensures) ∙ sym c.begins.ensures ∙ c.if-not-begins.true))
    c.copy-then-not-begins.ensures

pub returns : goal.returns
returns c =
    upgraded_one c.args.solid.now c.args.text.now c.in-Some.first.now (cut_lines c.in-Some.rest.now) c.put_head_line.new.out c.into_bytes.result
    c.in-Some.ensures.0 (ap (λ (w : List ℕ). starts_with w c.in-Some.first.now) (sym c.head_text.ensures) ∙ sym c.begins.ensures ∙ c.if-not-begins.false)
    (search rules) (search rules)
