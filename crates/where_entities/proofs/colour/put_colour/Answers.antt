use Rattle.std.proofs.Common.{◌≡◌, ◌++◌, OnOk, rules, subst, sym, to_z, of_z, w64}
use Rattle.std.specs.Prelude.{IsTrue}
use Rattle.iges_directory.specs.Bounds.{fits_columns}
use Rattle.where_entities.specs.Facts.{colour_fact}
use Rattle.where_entities.proofs.colour.put_colour.Goals as goal

pub put_colour_fact-requires : goal.put_colour_fact-requires
put_colour_fact-requires c =
    let is : to_z w64 (of_z w64 c.args.entry.now.colour) ≡ c.args.entry.now.colour = search rules in
    subst (λ n. IsTrue (fits_columns n)) (sym is) c.requires.colour

pub returns : goal.returns
returns c =
    let is : to_z w64 (of_z w64 c.args.entry.now.colour) ≡ c.args.entry.now.colour = search rules in
    subst (λ n. OnOk c.put_colour_fact.result (c.put_colour_fact.new.out ≡ c.args.out.now ++ colour_fact c.args.file.now n)) is c.put_colour_fact.ensures
