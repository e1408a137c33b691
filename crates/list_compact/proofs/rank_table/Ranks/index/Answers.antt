use Rattle.std.proofs.Common.{◌≡◌, ◌∙◌, pos, sym, ap, rules, SFits, w64, to_z, of_z}
use Rattle.std.proofs.lemmas.Int.{to_z-of_z}
use Rattle.solid_data.specs.Obligations.{entry_number}
use Rattle.list_compact.specs.Used.{ranked}
use Rattle.list_compact.proofs.RankSteps.{stays_index, rank_index}
use Rattle.list_compact.proofs.rank_table.Ranks.index.Goals as goal

pub returns-then-rank-eq0 : goal.returns-then-rank-eq0
returns-then-rank-eq0 c used ranks covers =
    let fits : SFits w64 c.args.index = search rules in
    let list_fits : SFits w64 c.args.list = search rules in
    let rank_fits : SFits w64 c.rank-rank.result = search rules in
    let none : c.rank-rank.result ≡ pos 0 = sym (to_z-of_z w64 c.rank-rank.result rank_fits) ∙ ap (to_z w64) c.if-rank-eq0.true in
    stays_index c.args.self.now used ranks covers (to_z w64 (of_z w64 c.args.list)) (to_z w64 (of_z w64 c.args.index)) c.rank-rank.result
    c.rank-rank.ensures.item c.rank-rank.ensures.found none
    ∙ (ap (λ z. ranked (used (entry_number z)) (to_z w64 (of_z w64 c.args.index))) (to_z-of_z w64 c.args.list list_fits)
    ∙ ap (ranked (used (entry_number c.args.list))) (to_z-of_z w64 c.args.index fits))

pub returns-else-rank-eq0 : goal.returns-else-rank-eq0
returns-else-rank-eq0 c used ranks covers =
    let fits : SFits w64 c.args.index = search rules in
    let list_fits : SFits w64 c.args.list = search rules in
    let rank_fits : SFits w64 c.rank-rank.result = search rules in
    to_z-of_z w64 c.rank-rank.result rank_fits
    ∙ (rank_index c.args.self.now used ranks covers (to_z w64 (of_z w64 c.args.list)) (to_z w64 (of_z w64 c.args.index)) c.rank-rank.result
    c.rank-rank.ensures.item c.rank-rank.ensures.found (λ none. c.if-rank-eq0.false (ap (of_z w64) none))
    ∙ (ap (λ z. ranked (used (entry_number z)) (to_z w64 (of_z w64 c.args.index))) (to_z-of_z w64 c.args.list list_fits)
    ∙ ap (ranked (used (entry_number c.args.list))) (to_z-of_z w64 c.args.index fits)))
