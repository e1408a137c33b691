use Rattle.std.proofs.Common.{◌≡◌, ◌∙◌, ◌+◌, ◌∷◌, ◌++◌, [], ap, rules, length, vec_len}
use Rattle.list_compact.proofs.RowSteps.{ends_pushed, row_pushed}
use Rattle.list_compact.proofs.entry_rows.EntryRows.push.Goals as goal

pub invariant_of-self-2 : goal.invariant_of-self-2
invariant_of-self-2 g c =
    let sum : c.in-Some.end ≡ vec_len c.self.inside.items + c.args.count = search rules in
    let long : vec_len c.self.inside.items ≡ length c.self.inside.items.items = search rules in
    ends_pushed c.self.inside.ends.items c.push_reserved.new.self.items c.self.inside.items.items c.resize.new.self.items c.in-Some.end c.args.count
    (vec_len c.self.inside.items) c.args.item c.self.invariant sum long c.in_ok-resize.ensures.items
    (c.push_reserved.ensures.items ∙ ap (λ es. es ++ c.in-Some.end ∷ []) c.in_ok-reserve.ensures.items)

pub returns : goal.returns
returns g c =
    let sum : c.in-Some.end ≡ vec_len c.self.inside.items + c.args.count = search rules in
    let long : vec_len c.self.inside.items ≡ length c.self.inside.items.items = search rules in
    row_pushed c.self.inside.ends.items c.push_reserved.new.self.items c.self.inside.items.items c.resize.new.self.items c.args.self.now c.in-Some.end
    c.args.count (vec_len c.self.inside.items) c.args.item c.self.view_is c.self.invariant sum long c.in_ok-resize.ensures.items
    (c.push_reserved.ensures.items ∙ ap (λ es. es ++ c.in-Some.end ∷ []) c.in_ok-reserve.ensures.items)
