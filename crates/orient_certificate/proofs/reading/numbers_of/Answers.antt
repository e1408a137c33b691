use Rattle.std.proofs.Common.{rules, subst, ◌≡◌, [], length}
use Rattle.std.proofs.lemmas.List.{append-nil}
use Rattle.cert_text.specs.Text.{AreNumbers}
use Rattle.cert_text.proofs.Digits.{none_spaced, begins_more, empty_spaced}
use Rattle.orient_certificate.proofs.Lines.{more_numbers}
use Rattle.orient_certificate.proofs.reading.numbers_of.Goals as goal

pub returns-in_default : goal.returns-in_default
returns-in_default c = λ spaced. none_spaced c.numbers.rest.now (search rules) c.in_default.ensures (c.numbers.invariant.spaced spaced)

pub numbers-preserved : goal.numbers-preserved
numbers-preserved c = record {
  spaced = λ h. (begins_more c.numbers.rest.now c.in-Some.after.now c.in-Some.number c.in-Some.ensures).1 (c.numbers.invariant.spaced h);
  read = λ ns a. more_numbers c.args.text.now c.numbers.rest.now c.in-Some.after.now c.numbers.list c.push.new.self ns c.in-Some.number c.in-Some.ensures
      c.in_ok-push.ensures.ok c.numbers.invariant.read a;
}

pub returns : goal.returns
returns c =
    let none : length c.numbers.rest.now ≡ 0 = search rules in
    subst (AreNumbers c.args.text.now) (append-nil c.numbers.list) (c.numbers.invariant.read [] (empty_spaced c.numbers.rest.now none))
