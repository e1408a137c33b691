use Rattle.std.proofs.lemmas.Option.{slice_get_within}
use Rattle.std.proofs.Common.{◌∷◌, [], ◌<◌, length, ◌∙◌, sym, subst, arith, false}
use Rattle.edge_uses.specs.ShellRows.{ShellRows}
use Rattle.edge_uses.specs.RowRelations.{OnFace}
use Rattle.solid_data.proofs.Members.{Has}
use Rattle.edge_uses.proofs.Steps.{default_apart, ok_weaker}
use Rattle.edge_uses.proofs.RowNumbers.{numbers_pushed}
use Rattle.shell_reach.specs.Reaching.{row_numbers}
use Rattle.shell_reach.specs.Flood.{face_numbers}
use Rattle.shell_tables.proofs.FaceHeads.{face_low}
use Rattle.shell_reach.proofs.Floods.{faces_pushed, crossed_before, crossed_now, flood_more, flood_as, ok_three}
use Rattle.shell_reach.proofs.Crossings.{crosses_lone, crosses_old, crosses_new}
use Rattle.shell_reach.proofs.flood.Flood.cross.Goals as goal

pub returns-then-index-clause-there : goal.returns-then-index-clause-there
returns-then-index-clause-there g c =
    let on : OnFace (g.M.Mates.shell c.args.mates.now) c.face_of-other.result c.in-Some.mate.0 =
    subst (λ (d : ShellRows). OnFace d c.face_of-other.result c.in-Some.mate.0) c.table-rows.ensures.rows c.face_of-other.ensures in
    let low = face_low (g.M.Mates.shell c.args.mates.now) c.face_of-other.result c.in-Some.mate.0 c.requires.whole.rows on in
    crossed_before (g.M.Mates.shell c.args.mates.now) c.args.self.now.marks.items (face_numbers c.args.self.now.order.items) (row_numbers c.args.self.now.rows) c.args.r.0
    c.in-Some.mate.0 c.face_of-other.result c.requires.whole c.requires.flood c.in-Some.ensures on
    (default_apart c.args.self.now.marks.items c.face_of-other.result false c.index.result.now (omega (arith, low, c.requires.flood.faces))
    ∙ (sym c.index.ensures ∙ c.if-index.true))

pub add-requires : goal.add-requires
add-requires g c =
    let on : OnFace (g.M.Mates.shell c.args.mates.now) c.face_of-other.result c.in-Some.mate.0 =
    subst (λ (d : ShellRows). OnFace d c.face_of-other.result c.in-Some.mate.0) c.table-rows.ensures.rows c.face_of-other.ensures in
    let low = face_low (g.M.Mates.shell c.args.mates.now) c.face_of-other.result c.in-Some.mate.0 c.requires.whole.rows on in
    omega (arith, low, c.requires.flood.faces)

pub returns-clause-flood : goal.returns-clause-flood
returns-clause-flood g c =
    let on : OnFace (g.M.Mates.shell c.args.mates.now) c.face_of-other.result c.in-Some.mate.0 =
    subst (λ (d : ShellRows). OnFace d c.face_of-other.result c.in-Some.mate.0) c.table-rows.ensures.rows c.face_of-other.ensures in
    let low = face_low (g.M.Mates.shell c.args.mates.now) c.face_of-other.result c.in-Some.mate.0 c.requires.whole.rows on in
    let more = flood_more (g.M.Mates.shell c.args.mates.now) c.args.self.now.marks.items (face_numbers c.args.self.now.order.items) (row_numbers c.args.self.now.rows) c.args.face.0 c.args.r.0
    c.in-Some.mate.0 c.face_of-other.result c.requires.whole c.requires.flood c.requires.known c.requires.row c.in-Some.ensures on
    (default_apart c.args.self.now.marks.items c.face_of-other.result false c.index.result.now (omega (arith, low, c.requires.flood.faces))
    ∙ (sym c.index.ensures ∙ c.if-index.false)) in
    ok_three c.add.result _ _ _ _
    (λ x m o r. flood_as (g.M.Mates.shell c.args.mates.now) _ c.add.new.self.marks.items _ (face_numbers c.add.new.self.order.items) _ (row_numbers c.add.new.self.rows) more m (faces_pushed c.args.self.now.order.items c.add.new.self.order.items (record { 0 = c.face_of-other.result }) o)
    (numbers_pushed c.args.self.now.rows c.add.new.self.rows c.in-Some.mate.0 r))
    c.add.ensures.marks c.add.ensures.order c.add.ensures.rows

pub returns-clause-there : goal.returns-clause-there
returns-clause-there g c =
    let on : OnFace (g.M.Mates.shell c.args.mates.now) c.face_of-other.result c.in-Some.mate.0 =
    subst (λ (d : ShellRows). OnFace d c.face_of-other.result c.in-Some.mate.0) c.table-rows.ensures.rows c.face_of-other.ensures in
    ok_weaker c.add.result _ _
    (λ x o m f a b. subst (λ os. Has os f) (sym (faces_pushed c.args.self.now.order.items c.add.new.self.order.items (record { 0 = c.face_of-other.result }) o))
    (crossed_now (g.M.Mates.shell c.args.mates.now) (face_numbers c.args.self.now.order.items) c.args.r.0 c.in-Some.mate.0 c.face_of-other.result c.requires.whole
    c.in-Some.ensures on m f a b)) c.add.ensures.order

pub returns-then-index-clause-crossed : goal.returns-then-index-clause-crossed
returns-then-index-clause-crossed g c =
    let on : OnFace (g.M.Mates.shell c.args.mates.now) c.face_of-other.result c.in-Some.mate.0 =
    subst (λ (d : ShellRows). OnFace d c.face_of-other.result c.in-Some.mate.0) c.table-rows.ensures.rows c.face_of-other.ensures in
    let low = face_low (g.M.Mates.shell c.args.mates.now) c.face_of-other.result c.in-Some.mate.0 c.requires.whole.rows on in
    crosses_old (g.M.Mates.shell c.args.mates.now) c.args.self.now.marks.items (face_numbers c.args.self.now.order.items) (row_numbers c.args.self.now.rows) c.args.r.0 c.in-Some.mate.0
    c.face_of-other.result c.requires.flood c.in-Some.ensures on
    (default_apart c.args.self.now.marks.items c.face_of-other.result false c.index.result.now (omega (arith, low, c.requires.flood.faces))
    ∙ (sym c.index.ensures ∙ c.if-index.true))

pub returns-clause-crossed : goal.returns-clause-crossed
returns-clause-crossed g c =
    let on : OnFace (g.M.Mates.shell c.args.mates.now) c.face_of-other.result c.in-Some.mate.0 =
    subst (λ (d : ShellRows). OnFace d c.face_of-other.result c.in-Some.mate.0) c.table-rows.ensures.rows c.face_of-other.ensures in
    let low = face_low (g.M.Mates.shell c.args.mates.now) c.face_of-other.result c.in-Some.mate.0 c.requires.whole.rows on in
    let unmarked = default_apart c.args.self.now.marks.items c.face_of-other.result false c.index.result.now (omega (arith, low, c.requires.flood.faces))
    ∙ (sym c.index.ensures ∙ c.if-index.false) in
    ok_three c.add.result _ _ _ _
    (λ x o r k. crosses_new (g.M.Mates.shell c.args.mates.now) c.args.self.now.marks.items (face_numbers c.args.self.now.order.items) (face_numbers c.add.new.self.order.items)
    (row_numbers c.args.self.now.rows) (row_numbers c.add.new.self.rows) c.args.r.0 c.in-Some.mate.0 c.face_of-other.result
    c.requires.flood c.in-Some.ensures on unmarked (faces_pushed c.args.self.now.order.items c.add.new.self.order.items (record { 0 = c.face_of-other.result }) o) (numbers_pushed c.args.self.now.rows c.add.new.self.rows c.in-Some.mate.0 r))
    c.add.ensures.order c.add.ensures.rows c.add.ensures.order

pub returns-in_default-clause-there : goal.returns-in_default-clause-there
returns-in_default-clause-there g c = λ m other pair on. absurd (c.in_default.ensures m pair)

pub returns-in_default-clause-crossed : goal.returns-in_default-clause-crossed
returns-in_default-clause-crossed g c = crosses_lone (g.M.Mates.shell c.args.mates.now) (face_numbers c.args.self.now.order.items)
    (row_numbers c.args.self.now.rows) c.args.face.0 c.args.r.0 c.requires.row c.in_default.ensures

pub face_of-other-requires : goal.face_of-other-requires
face_of-other-requires g c = subst (λ (d : ShellRows). c.in-Some.mate.0 < length d.rows) (sym c.table-rows.ensures.rows)
    (slice_get_within (g.M.Mates.shell c.args.mates.now).rows c.in-Some.mate.0 c.in-Some.ensures.mate c.in-Some.ensures.at_m)

pub index-requires : goal.index-requires
index-requires g c =
    let on : OnFace (g.M.Mates.shell c.args.mates.now) c.face_of-other.result c.in-Some.mate.0 =
    subst (λ (d : ShellRows). OnFace d c.face_of-other.result c.in-Some.mate.0) c.table-rows.ensures.rows c.face_of-other.ensures in
    let low = face_low (g.M.Mates.shell c.args.mates.now) c.face_of-other.result c.in-Some.mate.0 c.requires.whole.rows on in
    omega (arith, low, c.requires.flood.faces)

pub mate_of-requires : goal.mate_of-requires
mate_of-requires g c = slice_get_within (g.M.Mates.shell c.args.mates.now).rows c.args.r.0 c.requires.row.0 c.requires.row.1

pub returns-clause-grows : goal.returns-clause-grows
returns-clause-grows g c = ok_weaker c.add.result _ _
    (λ x o. (c.face_of-other.result ∷ [], faces_pushed c.args.self.now.order.items c.add.new.self.order.items (record { 0 = c.face_of-other.result }) o))
    c.add.ensures.order
