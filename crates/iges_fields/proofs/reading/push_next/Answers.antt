use Rattle.std.proofs.Common.{ℤ, [], ◌∷◌, ◌++◌, take, ap, ◌∙◌, rules, SFits, w64}
use Rattle.std.proofs.lemmas.Int.{to_z-of_z}
use Rattle.iges_fields.specs.declared.value.Value.TheVariants as value
use Rattle.iges_fields.specs.declared.plain_word.PlainWord.TheVariants as plain
use Rattle.iges_fields.specs.Fronts.{value_of}
use Rattle.iges_fields.proofs.Loop.{good_at}
use Rattle.iges_fields.proofs.PlainWords.{front_reads}
use Rattle.iges_fields.proofs.reading.push_next.Goals as goal

pub returns-in-Some-clause-ok : goal.returns-in-Some-clause-ok
returns-in-Some-clause-ok c =
    let number = c.in-Some.number in
    let fits : SFits w64 number = search rules in (
      value.Int number,
      good_at c.args.delims.now c.args.at c.args.text.now _ (c.in-Some.ensures {u = tt}),
      (c.in_ok-push.ensures {u = tt}).ok ∙ ap (λ (n : ℤ). c.args.values.now ++ value.Int n ∷ []) (to_z-of_z w64 number fits),
    )

pub returns-clause-ok : goal.returns-clause-ok
returns-clause-ok c =
    let len = c.in-Some-unsigned_real.len in
    let is = c.in-Some-unsigned_real.ensures {u = tt} in (
      value_of plain.Real (take len c.args.text.now),
      front_reads c.args.delims.now c.requires.permitted c.args.at c.args.text.now c.args.text.now is.1 plain.Real len is.0 c.split_at.result.1.now
          c.split_at.ensures.back,
      c.in_ok-push_real.ensures {u = tt},
    )
