use Rattle.std.proofs.Common.{rules, sym, ap, ◌∙◌, arith, Ok, Err, length, ◌≤◌, ◌≡◌, ◌++◌, ◌∷◌, []}
use Rattle.std.proofs.lemmas.Bool.{eqb-true}
use Rattle.topo_certificate.specs.Feeding.{FedState}
use Rattle.topo_certificate.specs.Matching.{CheckerState}
use Rattle.cert_state.specs.Progress.{FitsLine}
use Rattle.topo_certificate.proofs.FedLines.{whole_line, joined_line, nil}
use Rattle.topo_certificate.proofs.checker.Checker.end_line.Goals as goal

pub returns-in-Ok-clause-fed : goal.returns-in-Ok-clause-fed
returns-in-Ok-clause-fed c =
    let none = ap (λ (k : FedState). k.failed) c.self.view_is ∙ c.requires.open in
    let empty : length c.self.inside.kept.items ≤ 0 = omega (arith, c.self.inside.kept.ok.0, eqb-true _ 0 (sym (c.if-is_empty.ensures {u = tt}))) in
    let judged = c.in-Ok.ensures {u = tt} in
    rw (sym c.self.view_is)
    (λ v s first text front h is fed. whole_line v s FitsLine first _ _ text front c.args.line.now (Ok c.in-Ok.field-0) none empty h is judged.same
    judged.line (none, nil c.self.inside.kept.items empty) fed)

pub returns-in-Err-clause-fed : goal.returns-in-Err-clause-fed
returns-in-Err-clause-fed c =
    let none = ap (λ (k : FedState). k.failed) c.self.view_is ∙ c.requires.open in
    let empty : length c.self.inside.kept.items ≤ 0 = omega (arith, c.self.inside.kept.ok.0, eqb-true _ 0 (sym (c.if-is_empty.ensures {u = tt}))) in
    let judged = c.in-Err.ensures {u = tt} in
    rw (sym c.self.view_is)
    (λ v s first text front h is fed. whole_line v s FitsLine first _ c.fail.new.self text front c.args.line.now (Err c.in-Err.bad) none empty h is
    (ap (λ (k : CheckerState). k.version) c.fail.ensures.checker ∙ judged.same.0, ap (λ (k : CheckerState). k.solid) c.fail.ensures.checker ∙ judged.same.1)
    (λ number lines at. (judged.line number lines at).0) c.fail.ensures.failed fed)

pub slice_bounds-keep-count : goal.slice_bounds-keep-count
slice_bounds-keep-count c = omega (arith, c.requires.some)

pub returns-in-Ok-judged-clause-fed : goal.returns-in-Ok-judged-clause-fed
returns-in-Ok-judged-clause-fed c =
    let judged = c.in-Ok-judged.ensures {u = tt} in
    let k = rw (sym c.self-2.view_is) at c.keep.ensures in
    let mid : FedState = record { checker = c.self-2.inside.checker; kept = c.self-2.inside.kept.items; failed = c.self-2.inside.failed } in
    let grown : c.extend_from_slice.new.self.items ≡ c.self-2.inside.kept.items ++ 10 ∷ [] = (rw c.unwrap.ensures at c.extend_from_slice.ensures).items in
    λ v s first text front h is fed. joined_line v s FitsLine first c.args.self.now mid _ text front c.args.line.now c.as_slice.result.now
    (Ok c.in-Ok-judged.field-0) c.requires.open h is k.kept k.checker (c.as_slice.ensures.value ∙ grown)
    judged.same judged.line (k.failed ∙ c.requires.open, c.truncate.ensures.items) fed

pub returns-in-Err-judged-clause-fed : goal.returns-in-Err-judged-clause-fed
returns-in-Err-judged-clause-fed c =
    let judged = c.in-Err-judged.ensures {u = tt} in
    let k = rw (sym c.self-2.view_is) at c.keep.ensures in
    let mid : FedState = record { checker = c.self-2.inside.checker; kept = c.self-2.inside.kept.items; failed = c.self-2.inside.failed } in
    let grown : c.extend_from_slice.new.self.items ≡ c.self-2.inside.kept.items ++ 10 ∷ [] = search rules in
    λ v s first text front h is fed. joined_line v s FitsLine first c.args.self.now mid c.fail-in-Err-judged.new.self text front c.args.line.now
    c.as_slice.result.now (Err c.in-Err-judged.bad) c.requires.open h is k.kept k.checker (c.as_slice.ensures.value ∙ grown) (
      ap (λ (x : CheckerState). x.version) c.fail-in-Err-judged.ensures.checker ∙ judged.same.0,
      ap (λ (x : CheckerState). x.solid) c.fail-in-Err-judged.ensures.checker
          ∙ judged.same.1,
    ) (λ number lines at. (judged.line number lines at).0) c.fail-in-Err-judged.ensures.failed fed
