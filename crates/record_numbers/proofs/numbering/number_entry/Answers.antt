use Rattle.std.proofs.Common.{◌≡◌, ℤ, List, ℕ, Some, sym, ap, subst, ◌∙◌, rules, w64}
use mir.Val.{SFits}
use Rattle.std.specs.Prelude.{IfSome}
use Rattle.std.proofs.lemmas.Int.{to_z-of_z}
use Rattle.record_numbers.specs.Keys.{number_by}
use Rattle.record_numbers.specs.Marked.{IsKey, IsNumbering, mark_of, with_mark}
use Rattle.record_numbers.specs.declared.marks.Mark.{Mark}
use Rattle.record_numbers.proofs.MarkLemmas.{key_both, one_marked}
use Rattle.record_numbers.proofs.numbering.number_entry.Goals as goal

pub returns : goal.returns
returns c h =
    let f = c.args.file.now in
    let old = c.args.marks.now.items in
    let fits : SFits w64 c.args.number = search rules in
    let same = to_z-of_z w64 c.args.number fits in
    let seen = c.as_slice-seen.ensures.value in
    subst (λ (ms : List Mark). IsNumbering f ms c.mark_by.new.keys) (sym (c.set_mark.ensures ∙ ap (λ (z : ℤ). with_mark old z c.in_ok-mark.mark) same))
    (one_marked f old c.args.keys.now c.mark_by.new.keys c.args.number c.in_ok-mark.mark
    (ap (λ (ms : List Mark). mark_of ms c.args.number) (sym seen)
    ∙ (ap (mark_of c.as_slice-seen.result.now) (sym same) ∙ (sym c.mark_of.ensures ∙ c.is_unknown.ensures c.if-not-is_unknown.false)))
    (λ x e. key_both c.in_ok-key.key (IsKey f old c.args.number) (λ k. number_by c.mark_by.new.keys k ≡ Some x)
    (subst (λ (ms : List Mark). IfSome c.in_ok-key.key (λ k. IsKey f ms c.args.number k.items)) seen
    (subst (λ (z : ℤ). IfSome c.in_ok-key.key (λ k. IsKey f c.as_slice-seen.result.now z k.items)) same c.in_ok-key.ensures))
    (c.in_ok-mark.ensures.number x e)) c.in_ok-mark.ensures.kept c.in_ok-mark.ensures.numbers h)
