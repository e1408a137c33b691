use Rattle.std.specs.Prelude.{◌≡◌, List, length}
use Rattle.std.proofs.lemmas.List.{length-map}
use Rattle.solid_data.specs.Ring.{numbers_from}
use Rattle.solid_data.specs.SolidData.{SolidData}
use Rattle.solid_data.specs.declared.solid.VertexKey.{VertexKey}
use Rattle.solid_data.proofs.Occurring.{length-numbers}
use Rattle.change_pieces.specs.Reading.{own_key}
use Rattle.std.proofs.Common.{◌∙◌, ap, subst}
use Rattle.change_pieces.specs.Numbered.{AreNumbered}
use Rattle.change_pieces.proofs.Numbered.{solid_numbered}
use Rattle.change_pieces.proofs.parts.numbered_solid.Goals as goal

pub new-requires : goal.new-requires
new-requires c =
    solid_numbered c.args.entity c.args.shells c.args.edges _ c.args.vertex_count c.requires
    (subst (λ hs. AreNumbered hs c.args.edges c.args.vertex_count) c.as_slice-shell_slice.ensures
    (subst (λ es. AreNumbered c.as_slice-shell_slice.result.now es c.args.vertex_count) c.as_slice-edge_slice.ensures (c.in_ok-numbered.ensures c.if-not-numbered.false))) c.in_ok-vertices.ensures

pub returns : goal.returns
returns c =
    let long : length c.in_ok-vertices.vertices ≡ c.args.vertex_count =
    ap (λ (ks : List VertexKey). length ks) c.in_ok-vertices.ensures ∙ (length-map (numbers_from 0 c.args.vertex_count) own_key ∙ length-numbers 0 c.args.vertex_count) in
    (ap (λ (t : SolidData). t.shells) c.new.ensures, ap (λ (t : SolidData). t.edges) c.new.ensures, ap (λ (t : SolidData). length t.vertices) c.new.ensures ∙ long)
