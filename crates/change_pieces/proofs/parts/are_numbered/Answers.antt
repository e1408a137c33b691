use Rattle.std.specs.Prelude.{◌≡◌, ◌<◌, length, flat_map}
use Rattle.std.proofs.Common.{refl, sym, ◌∙◌, ap, subst, arith}
use Rattle.solid_data.specs.SolidData.{shell_uses, edge_used, vertices_used}
use Rattle.solid_data.specs.declared.TheConstants.{PART_LIMIT}
use Rattle.change_pieces.specs.Reading.{appeared}
use Rattle.change_pieces.proofs.parts.are_numbered.Goals as goal

pub returns : goal.returns
returns c = λ t.
    let uses : c.as_slice-uses.result.now ≡ flat_map shell_uses c.args.shells.now = c.as_slice-uses.ensures.value ∙ c.in_ok-all.ensures in
    record {
      filled = c.if-not-are_filled.ensures refl;
      keys = c.if-not-keys_climb.ensures refl;
      few = subst (λ us. length us < PART_LIMIT) uses (omega arith);
      edge_count = ap (λ us. appeared (flat_map edge_used us) 0) (sym uses) ∙ (sym c.edges_appear-edge_count.ensures ∙ c.if-not-is_count.ensures refl);
      vertices = λ s e. ap (λ us. appeared (flat_map (vertices_used s) us) 0) (sym uses) ∙ (sym (c.vertices_appear-found.ensures s e) ∙ c.is_count-2.ensures t);
    }
