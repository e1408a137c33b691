use Rattle.std.proofs.Common.{◌≡◌, ◌+◌, ◌++◌, ◌≤◌, length, refl, sym, ap, subst, ◌∙◌, arith, List, ℕ, [], ◌∷◌, Ok, Err}
use Rattle.std.proofs.lemmas.Bool.{eqb-true}
use Rattle.std.proofs.lemmas.Result.{err_from_is_err_and}
use Rattle.line_layout.specs.declared.judging.Judged.{Judged}
use Rattle.line_layout.specs.Judging.{lines_after}
use Rattle.line_layout.specs.Marks.{unmarked}
use Rattle.line_layout.specs.Relaid.{Gives, before, laid, pieces}
use Rattle.line_layout.specs.Strays.{stray_at, strays_from}
use Rattle.line_layout.proofs.Looping.{few_good, fails_so, gives_so, laid_lines, loop_more, loop_done, loop_failed, loop_end, noted_all, noted_end, noted_more, strays_in}
use Rattle.line_layout.proofs.relaying.relaid.Goals as goal

pub note_stray-requires-clause-next : goal.note_stray-requires-clause-next
note_stray-requires-clause-next c = λ s e. few_good c.pieces.counts c.first_piece.result.0.now s (sym c.judge-judged.ensures ∙ e)

pub returns-in_err-more : goal.returns-in_err-more
returns-in_err-more c =
    let p = err_from_is_err_and c.from_residual-in_err-more.result c.from_residual-in_err-more.ensures.1 in
    let go = laid (pieces c.end_byte-ending.result c.first_piece.result.1.now) (c.pieces.number + 1) in
    rw (p.1, p.2) (fails_so c.args.bytes.now c.in_err-more.field-0.0
    (loop_failed c.end_byte-ending.result c.pieces.number c.pieces.counts c.pieces.out c.pieces.left.now c.first_piece.result.0.now
    c.first_piece.result.1.now (laid_lines c.args.bytes.now)
    c.first_piece.ensures.pieces c.pieces.invariant.same c.take_piece.new.out _ ((c.in_err-more.ensures {u = tt}).takes go)))

pub returns-in-Nothing : goal.returns-in-Nothing
returns-in-Nothing c =
    let e = c.end_byte-ending.result in
    let counts = c.pieces.counts in
    let piece = c.first_piece.result.0.now in
    let go = laid (pieces e c.first_piece.result.1.now) (c.pieces.number + 1) in
    let old = c.pieces.strays.items in
    let noted = c.in_ok-note_stray.ensures
    ∙ ap (λ (l : List ℕ). old ++ stray_at c.pieces.number counts l c.judge-judged.result) c.unmarked.ensures
    ∙ ap (λ (j : Judged). old ++ stray_at c.pieces.number counts (unmarked piece) j) c.judge-judged.ensures in
    let after = sym (ap (lines_after counts) c.judge-judged.ensures) ∙ (rw c.in-Nothing.is at ((c.in_ok-more.ensures {u = tt}).after)) in
    gives_so c.args.bytes.now c.unless_shuffled.result c.into_bytes.result c.as_slice.result.now
    (c.as_slice.ensures.value ∙ noted_all e c.pieces.number counts old c.pieces.left.now piece c.first_piece.result.1.now (strays_in c.args.bytes.now)
    c.first_piece.ensures.pieces c.pieces.invariant.noted c.note_stray.new.strays.items noted after)
    (loop_done e c.pieces.number counts c.pieces.out c.pieces.left.now piece c.first_piece.result.1.now
    (laid_lines c.args.bytes.now)
    c.first_piece.ensures.pieces c.pieces.invariant.same c.take_piece.new.out (rw c.in-Nothing.is at ((c.in_ok-more.ensures {u = tt}).takes go))
    ∙ ap (λ (t : List ℕ). Ok t) (sym c.into_bytes.ensures))
    c.unless_shuffled.ensures

pub pieces-preserved : goal.pieces-preserved
pieces-preserved c =
    let e = c.end_byte-ending.result in
    let counts = c.pieces.counts in
    let piece = c.first_piece.result.0.now in
    let go = laid (pieces e c.first_piece.result.1.now) (c.pieces.number + 1) in
    let old = c.pieces.strays.items in
    let noted = c.in_ok-note_stray.ensures
    ∙ ap (λ (l : List ℕ). old ++ stray_at c.pieces.number counts l c.judge-judged.result) c.unmarked.ensures
    ∙ ap (λ (j : Judged). old ++ stray_at c.pieces.number counts (unmarked piece) j) c.judge-judged.ensures in
    let after = sym (ap (lines_after counts) c.judge-judged.ensures) ∙ (rw c.in-More.is at ((c.in_ok-more.ensures {u = tt}).after)) in
    let shorter = c.first_piece.ensures.shorter in
    let numbers = c.pieces.invariant.numbers in
    record {
      few = rw c.in-More.is at (c.in_ok-more.ensures {u = tt}).few;
      numbers = omega (arith, shorter, numbers);
      same = loop_more e c.pieces.number counts c.pieces.out c.pieces.left.now piece c.first_piece.result.1.now (laid_lines c.args.bytes.now)
          c.first_piece.ensures.pieces c.pieces.invariant.same c.take_piece.new.out c.in-More.more
          (rw c.in-More.is at ((c.in_ok-more.ensures {u = tt}).takes go));
      noted = noted_more e c.pieces.number counts old c.pieces.left.now piece c.first_piece.result.1.now (strays_in c.args.bytes.now)
          c.first_piece.ensures.pieces c.pieces.invariant.noted c.note_stray.new.strays.items noted c.in-More.more after;
    }

nil : (r : List ℕ) → length r ≤ 0 → r ≡ []
nil [] h = refl
nil (x ∷ r) h = absurd (omega arith)

pub returns-in_err-text : goal.returns-in_err-text
returns-in_err-text c =
    let p = err_from_is_err_and c.from_residual-in_err-text.result c.from_residual-in_err-text.ensures.1 in
    let none : c.pieces.left.now ≡ [] = nil c.pieces.left.now (let k = eqb-true (length c.pieces.left.now) 0 (sym c.is_empty.ensures
    ∙ c.pieces-test.false) in omega (arith, k)) in
    rw (p.1, p.2) (fails_so c.args.bytes.now c.in_err-text.field-0.0
    (subst (Gives (Err c.in_err-text.field-0.0)) (loop_end c.end_byte-ending.result c.pieces.number c.pieces.counts c.pieces.out (laid_lines c.args.bytes.now)
    (subst (λ (l : List ℕ). before c.pieces.out (laid (pieces c.end_byte-ending.result l) c.pieces.number c.pieces.counts) ≡ laid_lines c.args.bytes.now) none
    c.pieces.invariant.same)) c.in_err-text.ensures))

pub returns : goal.returns
returns c =
    let none : c.pieces.left.now ≡ [] = nil c.pieces.left.now (let k = eqb-true (length c.pieces.left.now) 0 (sym c.is_empty.ensures
    ∙ c.pieces-test.false) in omega (arith, k)) in
    let e = c.end_byte-ending.result in
    gives_so c.args.bytes.now c.unless_shuffled-2.result c.in_ok-text.text c.as_slice-2.result.now
    (c.as_slice-2.ensures.value ∙ noted_end e c.pieces.number c.pieces.counts c.pieces.strays.items (strays_in c.args.bytes.now)
    (subst (λ (l : List ℕ). c.pieces.strays.items ++ strays_from (pieces e l) c.pieces.number c.pieces.counts ≡ strays_in c.args.bytes.now) none
    c.pieces.invariant.noted))
    (sym (loop_end e c.pieces.number c.pieces.counts c.pieces.out (laid_lines c.args.bytes.now)
    (subst (λ (l : List ℕ). before c.pieces.out (laid (pieces e l) c.pieces.number c.pieces.counts) ≡ laid_lines c.args.bytes.now) none
    c.pieces.invariant.same)) ∙ c.in_ok-text.ensures)
    c.unless_shuffled-2.ensures
