use Rattle.std.proofs.Common.{◌≡◌, IfOk, sym, subst}
use Rattle.entry_references.specs.Refs.{own_of_kind}
use Rattle.entry_references.proofs.own_kinds.own_of_kind.Goals as goal

pub returns-in-Solid : goal.returns-in-Solid
returns-in-Solid c = subst (λ k. IfOk c.of_solid.result (λ own. own ≡ own_of_kind k c.args.values.now)) (sym c.in-Solid.is) c.of_solid.ensures

pub returns-in-Shell : goal.returns-in-Shell
returns-in-Shell c = subst (λ k. IfOk c.of_shell.result (λ own. own ≡ own_of_kind k c.args.values.now)) (sym c.in-Shell.is) c.of_shell.ensures

pub returns-in-Face : goal.returns-in-Face
returns-in-Face c = subst (λ k. IfOk c.of_face.result (λ own. own ≡ own_of_kind k c.args.values.now)) (sym c.in-Face.is) c.of_face.ensures

pub returns-in-Loop : goal.returns-in-Loop
returns-in-Loop c = subst (λ k. IfOk c.of_loop.result (λ own. own ≡ own_of_kind k c.args.values.now)) (sym c.in-Loop.is) c.of_loop.ensures

pub returns-in-EdgeList : goal.returns-in-EdgeList
returns-in-EdgeList c = subst (λ k. IfOk c.of_edge_list.result (λ own. own ≡ own_of_kind k c.args.values.now)) (sym c.in-EdgeList.is) c.of_edge_list.ensures

pub returns-in-VertexList : goal.returns-in-VertexList
returns-in-VertexList c = subst (λ k. c.of_vertex_list.result ≡ own_of_kind k c.args.values.now) (sym c.in-VertexList.is) c.of_vertex_list.ensures
