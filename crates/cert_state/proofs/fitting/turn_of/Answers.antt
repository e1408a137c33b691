use Rattle.std.proofs.Common.{rules, ◌≡◌, subst, sym}
use Rattle.cert_state.specs.Progress.{TurnsTo}
use Rattle.std.specs.Prelude.{◌↔◌, Some}
use Rattle.cert_state.proofs.Holding.{turn_none, turn_end, turn_iff}
use Rattle.cert_state.proofs.fitting.turn_of.Goals as goal

pub returns-in_default : goal.returns-in_default
returns-in_default c = λ pairs hm s. (λ e. absurd cc, λ h. absurd (turn_none c.args.rows.now pairs c.args.mates.now c.args.row s hm (search rules) h))

pub returns-in-Some-follows : goal.returns-in-Some-follows
returns-in-Some-follows c = λ pairs hm s.
    let iff = turn_iff c.args.rows.now pairs c.args.mates.now c.args.row c.in-Some.mate c.in-Some-follows.next.0 s hm (search rules) (search rules) in
    subst (λ z. (Some z ≡ Some s) ↔ TurnsTo c.args.rows.now pairs c.args.row s) (sym c.from_one.ensures) iff

pub returns-in-None : goal.returns-in-None
returns-in-None c = λ pairs hm s.
    (λ e. absurd cc, λ h. absurd (turn_end c.args.rows.now pairs c.args.mates.now c.args.row c.in-Some.mate s hm (search rules) (search rules) h))
