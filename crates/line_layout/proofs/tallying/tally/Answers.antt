use Rattle.std.proofs.Common.{◌≡◌, ◌+◌, ◌≤◌, length, sym, ap, subst, ◌∙◌, arith, List, ℕ, [], ◌∷◌, refl}
use Rattle.std.proofs.lemmas.Bool.{eqb-true}
use Rattle.line_layout.specs.declared.judging.Judged.{Judged}
use Rattle.line_layout.specs.Changes.{changed_from, changed_lines, cuts, dropped, happens, noted, once, tally_of}
use Rattle.line_layout.specs.Counts.{AreFew}
use Rattle.line_layout.specs.Judging.{judge, lines_after}
use Rattle.line_layout.proofs.Joined.{begins_so, ends_so, goes_no_further, goes_on, joined}
use Rattle.line_layout.proofs.Looping.{few_good, none_few}
use Rattle.line_layout.proofs.tallying.tally.Goals as goal

pub pieces-init : goal.pieces-init
pieces-init c = record {
  few = subst AreFew (sym c.no_lines-counts.ensures) none_few;
  numbers = let h = c.requires in omega (arith, h);
  small = omega arith;
  same = rw (c.no_lines-counts.ensures) (begins_so c.args.change c.args.bytes.now c.end_byte-ending.result c.end_byte-ending.ensures);
}

pub happens-requires-clause-next : goal.happens-requires-clause-next
happens-requires-clause-next c = λ s e. few_good c.pieces.counts c.first_piece.result.0.now s (sym c.judge-judged.ensures ∙ e)

pub lines_after-requires-clause-next : goal.lines_after-requires-clause-next
lines_after-requires-clause-next c = λ s e. few_good c.pieces.counts c.first_piece.result.0.now s (sym c.judge-judged.ensures ∙ e)

pub returns-in-None : goal.returns-in-None
returns-in-None c =
    let k = c.args.change in
    let counts = c.pieces.counts in
    let piece = c.first_piece.result.0.now in
    let after = c.first_piece.result.1.now in
    let happened = c.happens.ensures ∙ ap (λ (j : Judged). happens k counts j piece c.has_feed-feed.result) c.judge-judged.ensures
    ∙ ap (happens k counts (judge counts piece) piece) c.has_feed-feed.ensures in
    let new = c.noted-found.ensures.is ∙ ap (noted c.pieces.found c.pieces.number) (c.once.ensures.is ∙ ap once happened) in
    let stops = sym (c.lines_after.ensures.is ∙ ap (lines_after counts) c.judge-judged.ensures) ∙ c.in-None.is in
    c.noted.ensures.is
    ∙ ap (noted c.noted-found.result (c.pieces.number + 1)) (c.dropped.ensures.is ∙ ap (λ (j : Judged). dropped k j after) c.judge-judged.ensures)
    ∙ goes_no_further k c.end_byte-ending.result c.pieces.number counts c.pieces.found c.pieces.left.now piece after
    (tally_of (changed_lines k c.args.bytes.now))
    c.first_piece.ensures.cuts c.pieces.invariant.same c.noted-found.result new stops

pub pieces-preserved : goal.pieces-preserved
pieces-preserved c =
    let k = c.args.change in
    let counts = c.pieces.counts in
    let piece = c.first_piece.result.0.now in
    let after = c.first_piece.result.1.now in
    let happened = c.happens.ensures ∙ ap (λ (j : Judged). happens k counts j piece c.has_feed-feed.result) c.judge-judged.ensures
    ∙ ap (happens k counts (judge counts piece) piece) c.has_feed-feed.ensures in
    let new = c.noted-found.ensures.is ∙ ap (noted c.pieces.found c.pieces.number) (c.once.ensures.is ∙ ap once happened) in
    let goes = sym (c.lines_after.ensures.is ∙ ap (lines_after counts) c.judge-judged.ensures) ∙ c.in-Some.is in
    let shorter = c.first_piece.ensures.shorter in
    let numbers = c.pieces.invariant.numbers in
    let small = c.pieces.invariant.small in
    let times = c.noted-found.ensures.times in
    let once_at_most = c.once.ensures.few in
    record {
      few = c.in-Some.ensures.few;
      numbers = omega (arith, shorter, numbers);
      small = omega (arith, small, times, once_at_most);
      same = goes_on k c.end_byte-ending.result c.pieces.number counts c.pieces.found c.pieces.left.now piece after
          (tally_of (changed_lines k c.args.bytes.now))
          c.first_piece.ensures.cuts c.pieces.invariant.same c.noted-found.result new c.in-Some.more goes;
    }

nil : (r : List ℕ) → length r ≤ 0 → r ≡ []
nil [] h = refl
nil (x ∷ r) h = absurd (omega arith)

pub returns : goal.returns
returns c =
    let k = c.args.change in
    let total = tally_of (changed_lines k c.args.bytes.now) in
    let none : c.pieces.left.now ≡ [] = nil c.pieces.left.now (let e = eqb-true (length c.pieces.left.now) 0 (sym c.is_empty.ensures
    ∙ c.pieces-test.false) in omega (arith, e)) in
    let same = subst (λ (l : List ℕ). joined c.pieces.found (changed_from k (cuts c.end_byte-ending.result l) c.pieces.number c.pieces.counts) ≡ total) none
    c.pieces.invariant.same in
    c.noted-2.ensures.is
    ∙ ap (noted c.pieces.found c.pieces.number) (c.once-2.ensures.is ∙ ap once c.is_of_counts.ensures)
    ∙ ends_so k c.end_byte-ending.result c.pieces.number c.pieces.counts c.pieces.found total same
