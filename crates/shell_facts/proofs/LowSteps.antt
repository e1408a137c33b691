-- Marks of the least part at each vertex.
use Rattle.std.specs.Prelude.{◌≡◌, ◌<◌, ◌≤◌, ◌+◌, ◌==◌, ◌&&◌, ◌||◌, nat_lt, ℕ, Bool, true, false, All, Contains, List, ◌∷◌, length, drop, flat_map, get_or}
use Rattle.std.specs.Prelude.{if◌then◌else◌}
use Rattle.std.specs.List.{list_any}
use Rattle.std.proofs.Common.{refl, sym, ◌∙◌, ap, subst, arith}
use Rattle.std.proofs.lemmas.List.{drop_more, get_or_default}
use Rattle.std.proofs.lemmas.List.Elements.{All-get_or}
use Rattle.std.proofs.lemmas.List.Folds.{list_any-append}
use Rattle.solid_data.specs.SolidData.{SolidData}
use Rattle.solid_data.specs.declared.solid.FaceUse.{FaceUse}
use Rattle.solid_data.specs.Cells.{Celled}
use Rattle.solid_data.specs.Ranges.{IsWithin, IsSpanOf}
use Rattle.solid_data.specs.declared.spanning.Span.{Span}
use Rattle.edge_uses.specs.Before.{face_vertices}
use Rattle.shell_components.specs.Trees.{AreTrees}
use Rattle.shell_facts.specs.PartFacts.{faces_where}
use Rattle.shell_facts.specs.PartTables.{is_low, AreKept, AreMarks}
use Rattle.shell_facts.proofs.PartSteps.{vertices_within}

-- Numbers that are no greater than their places are within the range of these.
pub trees_within : (xs : List ℕ) (range : Span) → AreTrees xs → range.least ≡ 0 → range.count ≡ length xs → All (IsWithin range) xs
trees_within xs range low least count i d lt =
    let at : get_or xs i d ≡ get_or xs i 0 = get_or_default xs i d 0 lt in
    let below : get_or xs i 0 ≤ i = low i lt in
    (omega (arith, least), omega (arith, at, below, lt, least, count))

pub kept_more : (old mid new : Celled ℕ) → AreKept old mid → AreKept mid new → AreKept old new
kept_more old mid new a b = record { numbers = b.numbers ∙ a.numbers; span = b.span ∙ a.span; each = b.each ∙ a.each }

pub marks_kept : (old new : Celled ℕ) → AreMarks old → AreKept old new → AreMarks new
marks_kept old new m k = record {
  span = subst (IsSpanOf new.span) (sym k.numbers) (subst (λ s. IsSpanOf s old.numbers) (sym k.span) m.span);
  each = k.each ∙ (m.each ∙ sym (ap (λ s. s.count) k.span));
}

-- a vertex whose mark is looked at
pub low_known : (old mid : Celled ℕ) (vs : List ℕ) (i : ℕ) → AreKept old mid → All (Contains old.numbers) vs → i < length vs
    → Contains mid.numbers (get_or vs i 0)
low_known old mid vs i k known lt = subst (λ ns. Contains ns (get_or vs i 0)) (sym k.numbers) (All-get_or (Contains old.numbers) vs i 0 lt known)

pub low_within : (old mid : Celled ℕ) (vs : List ℕ) (i : ℕ) → AreKept old mid → AreMarks old → All (Contains old.numbers) vs → i < length vs
    → IsWithin mid.span (get_or vs i 0)
low_within old mid vs i k m known lt =
    subst (λ s. IsWithin s (get_or vs i 0)) (sym k.span) (All-get_or (IsWithin old.span) vs i 0 lt (vertices_within old.numbers vs old.span m.span known))

one_more : (a x y c : Bool) → ((a || (x && c)) || (y && c)) ≡ (a || ((x || y) && c))
one_more true x y c = refl
one_more false true y true = refl
one_more false true true false = refl
one_more false true false false = refl
one_more false false y c = refl

pub low_step : (mid new : Celled ℕ) (vs : List ℕ) (i part v p : ℕ) (target : Bool) → i < length vs
    → is_low new p v ≡ (is_low mid p v || ((get_or vs i 0 == v) && nat_lt part p))
    → (is_low mid p v || (list_any (λ m. m == v) (drop i vs) && nat_lt part p)) ≡ target
    → (is_low new p v || (list_any (λ m. m == v) (drop (i + 1) vs) && nat_lt part p)) ≡ target
low_step mid new vs i part v p target lt e before =
    ap (λ b. b || (list_any (λ m. m == v) (drop (i + 1) vs) && nat_lt part p)) e
    ∙ (one_more (is_low mid p v) (get_or vs i 0 == v) (list_any (λ m. m == v) (drop (i + 1) vs)) (nat_lt part p)
    ∙ (ap (λ ms. is_low mid p v || (list_any (λ m. m == v) ms && nat_lt part p)) (sym (drop_more vs i 0 lt))
    ∙ before))

face_more : (s : SolidData) (f : FaceUse) (fs : List FaceUse) (a b : Bool) (v : ℕ)
    → ((a || (list_any (λ m. m == v) (face_vertices s f) && b)) || list_any (λ m. m == v) (flat_map (face_vertices s) fs))
    ≡ (a || list_any (λ m. m == v) (flat_map (face_vertices s) (if b then f ∷ fs else fs)))
face_more s f fs a true v =
    joined a (list_any (λ m. m == v) (face_vertices s f)) (list_any (λ m. m == v) (flat_map (face_vertices s) fs))
    ∙ ap (λ t. a || t) (sym (list_any-append (λ m. m == v) (face_vertices s f) (flat_map (face_vertices s) fs)))
  where
    joined : (a x r : Bool) → ((a || (x && true)) || r) ≡ (a || (x || r))
    joined true x r = refl
    joined false true r = refl
    joined false false r = refl
face_more s f fs a false v = left a (list_any (λ m. m == v) (face_vertices s f)) (list_any (λ m. m == v) (flat_map (face_vertices s) fs))
  where
    left : (a x r : Bool) → ((a || (x && false)) || r) ≡ (a || r)
    left true x r = refl
    left false true r = refl
    left false false r = refl

-- the marks of one face's vertices are lowered
pub face_step : (s : SolidData) (fs : List FaceUse) (firsts : List ℕ) (f : FaceUse) (i v p : ℕ) (mid new : Celled ℕ) (vs : List ℕ) (target : Bool)
    → i < length fs → length firsts ≡ length fs → f ≡ get_or fs i f → vs ≡ face_vertices s f
    → is_low new p v ≡ (is_low mid p v || (list_any (λ m. m == v) vs && nat_lt (get_or firsts i 0) p))
    → (is_low mid p v || list_any (λ m. m == v) (flat_map (face_vertices s) (faces_where (λ q. nat_lt q p) (drop i fs) (drop i firsts)))) ≡ target
    → (is_low new p v || list_any (λ m. m == v) (flat_map (face_vertices s) (faces_where (λ q. nat_lt q p) (drop (i + 1) fs) (drop (i + 1) firsts)))) ≡ target
face_step s fs firsts f i v p mid new vs target lt each at is e before =
    let q : ℕ = get_or firsts i 0 in
    let rest : List FaceUse = faces_where (λ q. nat_lt q p) (drop (i + 1) fs) (drop (i + 1) firsts) in
    let here : faces_where (λ q. nat_lt q p) (drop i fs) (drop i firsts) ≡ (if nat_lt q p then f ∷ rest else rest) =
    ap (λ gs. faces_where (λ q. nat_lt q p) gs (drop i firsts)) (drop_more fs i f lt ∙ ap (λ g. g ∷ drop (i + 1) fs) (sym at))
    ∙ ap (λ ps. faces_where (λ q. nat_lt q p) (f ∷ drop (i + 1) fs) ps) (drop_more firsts i 0 (omega (arith, lt, each))) in
    ap (λ b. b || list_any (λ m. m == v) (flat_map (face_vertices s) rest)) (e ∙ ap (λ us. is_low mid p v || (list_any (λ m. m == v) us && nat_lt q p)) is)
    ∙ (face_more s f rest (is_low mid p v) (nat_lt q p) v
    ∙ (ap (λ gs. is_low mid p v || list_any (λ m. m == v) (flat_map (face_vertices s) gs)) (sym here)
    ∙ before))
