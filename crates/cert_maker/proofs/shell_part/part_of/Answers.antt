use Rattle.std.proofs.Common.{refl, sym, ◌∙◌, ap, subst, length, List, arith}
use Rattle.std.specs.List.{AllZip}
use Rattle.edge_uses.specs.ShellRows.{ShellRows}
use Rattle.vertex_link.specs.Corners.{LiesAt}
use Rattle.solid_data.specs.declared.linked.Corner.{Corner}
use Rattle.cert_maker.proofs.shell_part.part_of.Goals as goal

pub returns : goal.returns
returns c =
    let d : ShellRows = c.args.paired.now in
    record {
      rows = c.len.ensures.count ∙ ap (λ (e : ShellRows). length e.rows) c.rows-rows.ensures.rows;
      edges = c.in_ok-edges.ensures;
      corners = subst (λ (cs : List Corner). AllZip (LiesAt d) d.vertices cs) (sym c.into_corners.ensures) c.requires.links;
      faces = c.face_count.ensures ∙ ap (λ (e : ShellRows). e.face_count) c.rows-rows.ensures.rows;
      reach = c.requires.reach;
      order = c.requires.order;
      vertices = c.vertex_count.ensures ∙ ap (λ (e : ShellRows). length e.vertices) c.rows-rows.ensures.rows;
      loops = refl;
    }

pub overflow_cast-result-3 : goal.overflow_cast-result-3
overflow_cast-result-3 c = omega (arith, c.requires.few, c.vertex_count.ensures, ap (λ (e : ShellRows). length e.vertices) c.rows-rows.ensures.rows)
