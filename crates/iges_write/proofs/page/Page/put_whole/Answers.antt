use Rattle.std.proofs.Common.{◌≡◌, ap, subst, sym, ◌∙◌, ◌∷◌, ◌++◌, [], List, ℕ, refl}
use Rattle.iges_write.specs.Sheet.{Fails, Sheet, add, end_line, put_lines, tail_bytes}
use Rattle.iges_write.proofs.Endings.{line_done, line_fails}
use Rattle.iges_write.proofs.Sheets.{full_done, same_fails}
use Rattle.iges_write.proofs.page.Page.put_whole.Goals as goal

pub returns-in_err-put_ended : goal.returns-in_err-put_ended
returns-in_err-put_ended c =
    let line : List ℕ = c.args.line.now in
    let s : Sheet = record {
      text = c.self.inside.text.items;
      line = line;
      tail = tail_bytes c.self.inside.tail;
      letter = c.self.inside.letter;
      number = c.self.inside.number;
      width = c.self.inside.width;
      limit = c.self.inside.limit;
    } in
    let empty : c.self.inside.line ≡ [] = ap (λ (t : Sheet). t.line) c.self.view_is ∙ c.requires.empty in
    let mid : s ≡ add c.args.self.now line = ap (λ (l : List ℕ). record {
      text = c.self.inside.text.items;
      line = l ++ line;
      tail = tail_bytes c.self.inside.tail;
      letter = c.self.inside.letter;
      number = c.self.inside.number;
      width = c.self.inside.width;
      limit = c.self.inside.limit;
    }) (sym empty) ∙ ap (λ (t : Sheet). add t line) c.self.view_is in
    let done : end_line s ≡ put_lines c.args.self.now (line ∷ []) =
    full_done c.args.self.now s line c.requires.empty c.requires.long mid in
    same_fails c.from_residual.result _ _ _
    (subst (λ (t : Sheet). Fails c.in_err-put_ended.field-0.0 t) done
    (line_fails s c.end.new.self c.self.inside.ending c.self.invariant.ending_is c.end.ensures _ c.in_err-put_ended.ensures.large))
    c.from_residual.ensures.1

pub returns : goal.returns
returns c =
    let line : List ℕ = c.args.line.now in
    let s : Sheet = record {
      text = c.self.inside.text.items;
      line = line;
      tail = tail_bytes c.self.inside.tail;
      letter = c.self.inside.letter;
      number = c.self.inside.number;
      width = c.self.inside.width;
      limit = c.self.inside.limit;
    } in
    let empty : c.self.inside.line ≡ [] = ap (λ (t : Sheet). t.line) c.self.view_is ∙ c.requires.empty in
    let mid : s ≡ add c.args.self.now line = ap (λ (l : List ℕ). record {
      text = c.self.inside.text.items;
      line = l ++ line;
      tail = tail_bytes c.self.inside.tail;
      letter = c.self.inside.letter;
      number = c.self.inside.number;
      width = c.self.inside.width;
      limit = c.self.inside.limit;
    }) (sym empty) ∙ ap (λ (t : Sheet). add t line) c.self.view_is in
    let done : end_line s ≡ put_lines c.args.self.now (line ∷ []) =
    full_done c.args.self.now s line c.requires.empty c.requires.long mid in
    line_done s c.end.new.self c.self.inside.ending c.self.invariant.ending_is c.end.ensures c.put_ended.new.text.items c.self.inside.line _
    c.in_ok-put_ended.ensures.ok.0 empty refl
    ∙ done
