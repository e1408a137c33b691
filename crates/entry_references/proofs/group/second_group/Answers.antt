use Rattle.std.proofs.Common.{sym, ◌∙◌, ap, arith, refl, ◌≡◌, ◌≤◌, length, min}
use Rattle.entry_references.specs.Layout.{Own}
use Rattle.entry_references.proofs.Groups.{no_end, second_is, both_groups}
use Rattle.entry_references.proofs.group.second_group.Goals as goal

pub returns-then-not-are_left_out : goal.returns-then-not-are_left_out
returns-then-not-are_left_out c =
    let own = c.args.own.now in
    let vs = c.args.values.now in
    let place : c.min.result ≡ min own.count (length vs) = omega (arith, c.min.ensures, c.len.ensures.is, ap (λ (o : Own). o.count) c.own.view_is) in
    let f = c.in_ok-first.ensures {u = tt} in
    let s = c.in_ok-second.ensures {u = tt} in
    no_end own vs c.min.result place c.in_ok-first.first.before c.in_ok-first.first.count _ f.1 refl c.in_ok-second.second.before c.in_ok-second.second.count _
    s.1 refl (sym c.are_left_out.ensures ∙ c.if-not-are_left_out.true)

pub returns : goal.returns
returns c =
    let own = c.args.own.now in
    let vs = c.args.values.now in
    let place : c.min.result ≡ min own.count (length vs) = omega (arith, c.min.ensures, c.len.ensures.is, ap (λ (o : Own). o.count) c.own.view_is) in
    let few : length vs ≤ 164000000 = c.requires in
    let f = c.in_ok-first.ensures {u = tt} in
    let s = c.in_ok-second.ensures {u = tt} in (
      both_groups own vs c.min.result place c.in_ok-first.first.before c.in_ok-first.first.count _ f.1 refl c.in_ok-second.second.before
          c.in_ok-second.second.count _ s.1 refl f.0 s.0
          (sym c.are_left_out.ensures ∙ c.if-not-are_left_out.false),
      second_is own vs c.min.result place c.in_ok-first.first.before c.in_ok-first.first.count _ f.1 refl c.in_ok-second.second.before
          c.in_ok-second.second.count _ s.1 refl,
      omega (arith, few, place, f.2, f.3, s.2),
      omega (arith, few, s.3),
    )
