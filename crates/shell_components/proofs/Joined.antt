-- Labels of nodes stay labels while they are lowered.
use Rattle.std.specs.Prelude.{◌≡◌, ◌<◌, ◌≤◌, ◌+◌, ℕ, zero, suc, List, [], ◌∷◌, ◌++◌, length, slice_get, Some, slice_set, ◌≢◌}
use Rattle.std.proofs.Common.{refl, sym, ◌∙◌, ap, subst, arith, inl, inr, ⊎_elim, get_or}
use Rattle.std.proofs.lemmas.Bool.Decides.{eqb_tells}
use Rattle.std.proofs.lemmas.List.{length-set}
use Rattle.solid_data.specs.Chain.{Steps}
use Rattle.solid_data.specs.Ring.{numbers_from}
use Rattle.solid_data.proofs.Members.{Has, All-at}
use Rattle.solid_data.proofs.Occurring.{number_get, length-numbers}
use Rattle.solid_data.proofs.Trail.{leads_here, leads_one, leads_last, leads_trans}
use Rattle.std.proofs.lemmas.Option.{slice_get_within, same_Some}
use Rattle.edge_uses.proofs.Steps.{number_pushed}
use Rattle.edge_uses.proofs.Tallies.{set_same, set_other}
use Rattle.shell_components.specs.Components.{Linked, AreJoined, AreInside, AreLabels, AreComponents}
use Rattle.shell_components.specs.Trees.{AreTrees, IsEven, AreInOneTree, AreRehung, AreTopsKept, AreSettled, AreHung}

-- where a member stands
pub has_place : {A : Type 0} (xs : List A) (x : A) → Has xs x → (k : ℕ) × (slice_get xs k ≡ Some x)
has_place [] x h = absurd h
has_place (y ∷ xs) x (inl e) = (0, ap Some e)
has_place (y ∷ xs) x (inr h) = let k = has_place xs x h in (suc k.0, k.1)

pub linked_back : (pairs : List (ℕ × ℕ)) (a b : ℕ) → Linked pairs a b → Linked pairs b a
linked_back pairs a b h = ⊎_elim (λ x. inr x) (λ y. inl y) h

joined_steps : (pairs : List (ℕ × ℕ)) (n a b : ℕ) → Steps (Linked pairs) n a b → AreJoined pairs b a
joined_steps pairs zero a b e = subst (λ x. AreJoined pairs x a) e (leads_here (Linked pairs) a)
joined_steps pairs (suc n) a b (c, h, rest) = leads_last (Linked pairs) b c a (joined_steps pairs n c b rest) (linked_back pairs a c h)

pub joined_back : (pairs : List (ℕ × ℕ)) (a b : ℕ) → AreJoined pairs a b → AreJoined pairs b a
joined_back pairs a b h = joined_steps pairs h.0 a b h.1

pub joined_on : (pairs : List (ℕ × ℕ)) (a b c : ℕ) → AreJoined pairs a b → AreJoined pairs b c → AreJoined pairs a c
joined_on pairs a b c h k = leads_trans (Linked pairs) a b c h.0 h.1 k

-- one label is set to a lower one
pub set_kept : (pairs : List (ℕ × ℕ)) (count : ℕ) (labels : List ℕ) (x v : ℕ) → AreLabels pairs count labels → x < count → v ≤ x → AreJoined pairs x v
    → AreLabels pairs count (slice_set labels x v)
set_kept pairs count labels x v h lt le joined = record {
  each = length-set labels x v ∙ h.each;
  low = λ y in_y. ⊎_elim
      (λ same. subst (λ z. get_or (slice_set labels x v) z 0 ≤ z) same.1 (subst (λ w. w ≤ x) (sym (set_same labels x v 0 (omega (arith, lt, h.each)))) le))
      (λ other. subst (λ w. w ≤ y) (sym (set_other labels x y v 0 other.1)) (h.low y in_y)) (eqb_tells x y);
  joined = λ y in_y. ⊎_elim
      (λ same. subst (λ z. AreJoined pairs z (get_or (slice_set labels x v) z 0)) same.1
      (subst (λ w. AreJoined pairs x w) (sym (set_same labels x v 0 (omega (arith, lt, h.each)))) joined))
      (λ other. subst (λ w. AreJoined pairs y w) (sym (set_other labels x y v 0 other.1)) (h.joined y in_y)) (eqb_tells x y);
}

-- Labels as trees.

set_trees : (labels : List ℕ) (x v : ℕ) → AreTrees labels → x < length labels → v ≤ x → AreTrees (slice_set labels x v)
set_trees labels x v trees in_x le y in_y =
    ⊎_elim (λ same. subst (λ z. get_or (slice_set labels x v) z 0 ≤ z) same.1 (subst (λ w. w ≤ x) (sym (set_same labels x v 0 in_x)) le))
    (λ other. subst (λ w. w ≤ y) (sym (set_other labels x y v 0 other.1)) (trees y (omega (arith, in_y, length-set labels x v)))) (eqb_tells x y)

-- along the trees in which x hangs at v
hung_alike : (labels : List ℕ) (x v : ℕ) (f : ℕ → ℕ) → x < length labels → IsEven (slice_set labels x v) f → f v ≡ f x
hung_alike labels x v f in_x even = ap f (sym (set_same labels x v 0 in_x)) ∙ even x (omega (arith, in_x, length-set labels x v))

hung_other : (labels : List ℕ) (x v y : ℕ) (f : ℕ → ℕ) → x ≢ y → y < length labels → IsEven (slice_set labels x v) f → f (get_or labels y 0) ≡ f y
hung_other labels x v y f apart in_y even = sym (ap f (set_other labels x y v 0 apart)) ∙ even y (omega (arith, in_y, length-set labels x v))

-- x hangs one step higher: where its label hangs
climbed_even : (labels : List ℕ) (x : ℕ) (f : ℕ → ℕ) → AreTrees labels → x < length labels
    → IsEven (slice_set labels x (get_or labels (get_or labels x 0) 0)) f → f (get_or labels x 0) ≡ f x
climbed_even labels x f trees in_x even =
    let l : ℕ = get_or labels x 0 in
    let t : ℕ = get_or labels l 0 in
    let in_l : l < length labels = omega (arith, trees x in_x, in_x) in
    ⊎_elim (λ same. ap f (sym same.1)) (λ other. sym (hung_other labels x t l f other.1 in_l even) ∙ hung_alike labels x t f in_x even) (eqb_tells x l)

pub climbed : (labels : List ℕ) (x : ℕ) → AreTrees labels → x < length labels → AreRehung labels (slice_set labels x (get_or labels (get_or labels x 0) 0))
climbed labels x trees in_x =
    let l : ℕ = get_or labels x 0 in
    let t : ℕ = get_or labels l 0 in
    let in_l : l < length labels = omega (arith, trees x in_x, in_x) in
    let le : t ≤ x = omega (arith, trees x in_x, trees l in_l) in
    record {
      each = length-set labels x t;
      low = set_trees labels x t trees in_x le;
      kept = λ f even y in_y. ⊎_elim (λ same. subst (λ z. f (get_or labels z 0) ≡ f z) same.1 (climbed_even labels x f trees in_x even))
          (λ other. hung_other labels x t y f other.1 in_y even) (eqb_tells x y);
      labels = λ pairs h. set_kept pairs (length labels) labels x t h in_x le (joined_on pairs x l t (h.joined x in_x) (h.joined l in_l));
    }

pub climbed_tops : (labels : List ℕ) (x : ℕ) → x < length labels → AreTopsKept labels (slice_set labels x (get_or labels (get_or labels x 0) 0))
climbed_tops labels x in_x y top =
    let t : ℕ = get_or labels (get_or labels x 0) 0 in
    ⊎_elim
    (λ same.
    let at_x : get_or labels x 0 ≡ x = subst (λ z. get_or labels z 0 ≡ z) (sym same.1) top in
    subst (λ z. get_or (slice_set labels x t) z 0 ≡ z) same.1 (set_same labels x t 0 in_x ∙ (ap (λ n. get_or labels n 0) at_x ∙ at_x)))
    (λ other. set_other labels x y t 0 other.1 ∙ top) (eqb_tells x y)

pub rehung_here : (labels : List ℕ) → AreTrees labels → AreRehung labels labels
rehung_here labels trees = record { each = refl; low = trees; kept = λ f even. even; labels = λ pairs h. h }

pub labels_on : (a b : List ℕ) (pairs : List (ℕ × ℕ)) → AreRehung a b → AreLabels pairs (length a) a → AreLabels pairs (length b) b
labels_on a b pairs h m = subst (λ n. AreLabels pairs n b) (sym h.each) (h.labels pairs m)

pub rehung_on : (a b c : List ℕ) → AreRehung a b → AreRehung b c → AreRehung a c
rehung_on a b c h k = record {
  each = k.each ∙ h.each;
  low = k.low;
  kept = λ f even. h.kept f (k.kept f even);
  labels = λ pairs m. subst (λ n. AreLabels pairs n c) h.each (k.labels pairs (labels_on a b pairs h m));
}

-- a way goes on from at to the label of its label
pub way_on : (old new : List ℕ) (x at to : ℕ) → AreRehung old new → new ≡ slice_set old at to → at < length old → AreInOneTree old x at → AreInOneTree new x to
way_on old new x at to h set in_at one f even =
    one f (h.kept f even) ∙ sym (hung_alike old at to f in_at (subst (λ ls. IsEven ls f) set even))

pub way_joined : (pairs : List (ℕ × ℕ)) (old new : List ℕ) (n x at to : ℕ) → AreLabels pairs n new → new ≡ slice_set old at to → at < n → n ≡ length old
    → AreJoined pairs x at → AreJoined pairs x to
way_joined pairs old new n x at to h set in_at long joined =
    let label : get_or new at 0 ≡ to = ap (λ ls. get_or ls at 0) set ∙ set_same old at to 0 (omega (arith, in_at, long)) in
    joined_on pairs x at to joined (subst (λ y. AreJoined pairs at y) label (h.joined at in_at))

-- after both ways, the top x of one node hangs at the top v of the other
pub hung : (old mid new : List ℕ) (a b x v : ℕ) → AreRehung old mid → get_or mid x 0 ≡ x → x < length old → v ≤ x → AreInOneTree mid a x → AreInOneTree mid b v
    → ((pairs : List (ℕ × ℕ)) → AreLabels pairs (length old) old → AreJoined pairs a x)
    → ((pairs : List (ℕ × ℕ)) → AreLabels pairs (length old) old → AreJoined pairs b v)
    → new ≡ slice_set mid x v → AreHung old new a b
hung old mid new a b x v h top in_x le one_a one_b to_x to_v set =
    let in_mid : x < length mid = omega (arith, in_x, h.each) in
    let kept : (f : ℕ → ℕ) → IsEven new f → IsEven mid f = λ f even y in_y. ⊎_elim
    (λ same. subst (λ z. f (get_or mid z 0) ≡ f z) same.1 (ap f top))
    (λ other. hung_other mid x v y f other.1 in_y (subst (λ ls. IsEven ls f) set even)) (eqb_tells x y) in
    record {
      each = ap length set ∙ (length-set mid x v ∙ h.each);
      low = subst AreTrees (sym set) (set_trees mid x v h.low in_mid le);
      kept = λ f even. h.kept f (kept f even);
      one_tree = λ f even. one_a f (kept f even) ∙ (sym (hung_alike mid x v f in_mid (subst (λ ls. IsEven ls f) set even)) ∙ sym (one_b f (kept f even)));
      labels = λ pairs link m. subst (AreLabels pairs (length old)) (sym set)
          (set_kept pairs (length old) mid x v (h.labels pairs m) in_x le
          (joined_on pairs x a v (joined_back pairs a x (to_x pairs m)) (leads_one (Linked pairs) a b v link (to_v pairs m))));
    }

pub hung_back : (old new : List ℕ) (a b : ℕ) → AreHung old new b a → AreHung old new a b
hung_back old new a b h =
    record {
      each = h.each;
      low = h.low;
      kept = h.kept;
      one_tree = λ f even. sym (h.one_tree f even);
      labels =
          λ pairs link. h.labels pairs (linked_back pairs a b link);
    }

-- where all hang at tops, nodes of one tree are marked alike
pub settled_alike : (labels : List ℕ) (count a b : ℕ) → length labels ≡ count → AreSettled labels count → AreInOneTree labels a b
    → get_or labels a 0 ≡ get_or labels b 0
settled_alike labels count a b long settled one = one (λ x. get_or labels x 0) (λ x in_x. settled x (omega (arith, in_x, long)))

-- where the label of i's label is a top
label_top : (old : List ℕ) (i to : ℕ) → AreTrees old → i < length old → AreSettled old i → to ≡ get_or old (get_or old i 0) 0 → i ≢ to → get_or old to 0 ≡ to
label_top old i to trees in_i before is apart =
    let l : ℕ = get_or old i 0 in
    ⊎_elim
    (λ same. let e : i ≡ to = sym (is ∙ (ap (λ n. get_or old n 0) same.1 ∙ same.1)) in absurd (apart e))
    (λ other. let low : l < i = omega (arith, trees i in_i, other.1) in subst (λ n. get_or old n 0 ≡ n) (sym is) (before l low))
    (eqb_tells l i)

set_to : (old : List ℕ) (i to : ℕ) → i < length old → (i ≢ to → get_or old to 0 ≡ to) → get_or (slice_set old i to) to 0 ≡ to
set_to old i to in_i top =
    ⊎_elim (λ same. subst (λ z. get_or (slice_set old i to) z 0 ≡ to) same.1 (set_same old i to 0 in_i))
    (λ other. set_other old i to to 0 other.1 ∙ top other.1) (eqb_tells i to)

settled_other : (old : List ℕ) (i to x : ℕ) → AreTrees old → i < length old → AreSettled old i → x < i
    → get_or (slice_set old i to) (get_or (slice_set old i to) x 0) 0 ≡ get_or (slice_set old i to) x 0
settled_other old i to x trees in_i before low =
    let apart : i ≢ x = λ e. absurd (omega (arith, e, low)) in
    let below : get_or old x 0 ≤ x = trees x (omega (arith, low, in_i)) in
    let apart_label : i ≢ get_or old x 0 = λ e. absurd (omega (arith, e, below, low)) in
    let label : get_or (slice_set old i to) x 0 ≡ get_or old x 0 = set_other old i x to 0 apart in
    ap (λ n. get_or (slice_set old i to) n 0) label ∙ (set_other old i (get_or old x 0) to 0 apart_label ∙ (before x low ∙ sym label))

-- one node more hangs at a top
pub settled_more : (old new : List ℕ) (i to : ℕ) → AreTrees old → i < length old → AreSettled old i → to ≡ get_or old (get_or old i 0) 0
    → new ≡ slice_set old i to → AreSettled new (i + 1)
settled_more old new i to trees in_i before is set x in_x =
    let there : get_or (slice_set old i to) to 0 ≡ to = set_to old i to in_i (label_top old i to trees in_i before is) in
    let at_i : get_or (slice_set old i to) i 0 ≡ to = set_same old i to 0 in_i in
    subst (λ ls. get_or ls (get_or ls x 0) 0 ≡ get_or ls x 0) (sym set)
    (⊎_elim
    (λ same. subst (λ z. get_or (slice_set old i to) (get_or (slice_set old i to) z 0) 0 ≡ get_or (slice_set old i to) z 0) same.1
    (ap (λ n. get_or (slice_set old i to) n 0) at_i ∙ (there ∙ sym at_i)))
    (λ other. settled_other old i to x trees in_i before (omega (arith, in_x, other.1)))
    (eqb_tells i x))

pub numbers_are_labels : (pairs : List (ℕ × ℕ)) (count : ℕ) → AreLabels pairs count (numbers_from 0 count)
numbers_are_labels pairs count = record {
  each = length-numbers 0 count;
  low = λ x lt. omega (arith, number_get 0 count x 0 lt);
  joined = λ x lt. let e : x ≡ get_or (numbers_from 0 count) x 0 = omega (arith, number_get 0 count x 0 lt) in subst (λ y. AreJoined pairs x y) e
      (leads_here (Linked pairs) x);
}

-- Joined nodes are marked alike.

linked_same : (pairs : List (ℕ × ℕ)) (count : ℕ) (labels : List ℕ) (a b : ℕ) → AreComponents pairs count labels → Linked pairs a b
    → get_or labels a 0 ≡ get_or labels b 0
linked_same pairs count labels a b h link = ⊎_elim (λ x. h.settled a b x) (λ y. sym (h.settled b a y)) link

linked_inside : (pairs : List (ℕ × ℕ)) (count a b : ℕ) → AreInside pairs count → Linked pairs a b → b < count
linked_inside pairs count a b inside link =
    ⊎_elim (λ x. (All-at (λ (p : ℕ × ℕ). (p.0 < count) × (p.1 < count)) pairs inside (a, b) x).1)
    (λ y. (All-at (λ (p : ℕ × ℕ). (p.0 < count) × (p.1 < count)) pairs inside (b, a) y).0) link

same_steps : (pairs : List (ℕ × ℕ)) (count : ℕ) (labels : List ℕ) (n a b : ℕ) → AreComponents pairs count labels → Steps (Linked pairs) n a b
    → get_or labels a 0 ≡ get_or labels b 0
same_steps pairs count labels zero a b h e = ap (λ x. get_or labels x 0) e
same_steps pairs count labels (suc n) a b h (c, link, rest) = linked_same pairs count labels a c h link ∙ same_steps pairs count labels n c b h rest

inside_steps : (pairs : List (ℕ × ℕ)) (count n a b : ℕ) → AreInside pairs count → a < count → Steps (Linked pairs) n a b → b < count
inside_steps pairs count zero a b inside lt e = subst (λ x. x < count) e lt
inside_steps pairs count (suc n) a b inside lt (c, link, rest) = inside_steps pairs count n c b inside (linked_inside pairs count a c inside link) rest

-- so each is marked by the least of them
pub least_of_joined : (pairs : List (ℕ × ℕ)) (count : ℕ) (labels : List ℕ) (a b : ℕ) → AreInside pairs count → AreComponents pairs count labels → a < count
    → AreJoined pairs a b → get_or labels a 0 ≤ b
least_of_joined pairs count labels a b inside h lt joined =
    omega (arith, same_steps pairs count labels joined.0 a b h joined.1, h.marks.low b (inside_steps pairs count joined.0 a b inside lt joined.1))

-- what is shown of each pair up to the end is shown of all
pub all_joined : (pairs : List (ℕ × ℕ)) (labels : List ℕ) (i : ℕ) → length pairs ≤ i
    → ((j : ℕ) (p : ℕ × ℕ) → j < i → slice_get pairs j ≡ Some p → AreInOneTree labels p.0 p.1)
    → (a b : ℕ) → Has pairs (a, b) → AreInOneTree labels a b
all_joined pairs labels i past h a b has =
    let k = has_place pairs (a, b) has in
    h k.0 (a, b) (omega (arith, slice_get_within pairs k.0 (a, b) k.1, past)) k.1

-- one pair more is in one tree
pub pair_joined : (pairs : List (ℕ × ℕ)) (old new : List ℕ) (i : ℕ) (pair : ℕ × ℕ) → slice_get pairs i ≡ Some pair → AreInOneTree new pair.0 pair.1
    → ((f : ℕ → ℕ) → IsEven new f → IsEven old f)
    → ((j : ℕ) (p : ℕ × ℕ) → j < i → slice_get pairs j ≡ Some p → AreInOneTree old p.0 p.1)
    → (j : ℕ) (p : ℕ × ℕ) → j < i + 1 → slice_get pairs j ≡ Some p → AreInOneTree new p.0 p.1
pair_joined pairs old new i pair at here kept before j p lt at_j =
    ⊎_elim
    (λ same.
    let e : pair ≡ p = same_Some pair p (sym at ∙ (ap (λ n. slice_get pairs n) (sym same.1) ∙ at_j)) in
    subst (λ q. AreInOneTree new q.0 q.1) e here)
    (λ other f even. before j p (omega (arith, lt, other.1)) at_j f (kept f even))
    (eqb_tells j i)

-- where all pairs are in one tree, and then each node hangs at its top
pub joined_components : (pairs : List (ℕ × ℕ)) (count : ℕ) (old mid new : List ℕ) → length old ≡ count → AreLabels pairs (length old) mid
    → ((a b : ℕ) → Has pairs (a, b) → AreInOneTree mid a b) → AreRehung mid new → AreSettled new (length mid)
    → AreComponents pairs count new
joined_components pairs count old mid new long kept one rehung settled = record {
  marks = subst (λ n. AreLabels pairs n new) (kept.each ∙ long) (rehung.labels pairs (subst (λ n. AreLabels pairs n mid) (sym kept.each) kept));
  settled = λ a b has. settled_alike new (length mid) a b rehung.each settled (λ f even. one a b has f (rehung.kept f even));
}
