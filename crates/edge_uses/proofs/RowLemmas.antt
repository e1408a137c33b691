-- Where the loops of a shell join, each row ends where the row that follows it starts.
use Rattle.std.specs.Prelude.{◌≡◌, ℕ, zero, suc, ◌+◌, ◌<◌, Bool, true, false, not, List, [], ◌∷◌, ◌++◌, length, map, flat_map, filter_map, reverse, slice_index}
use Rattle.std.specs.Prelude.{slice_get, Option, Some, None, if◌then◌else◌}
use Rattle.std.specs.List.{AllByRecursion, cons_option}
use Rattle.std.proofs.Common.{refl, sym, ◌∙◌, ap, subst, arith, length-append, append_assoc}
use Rattle.std.proofs.lemmas.List.{map-append, reverse-append, reverse-reverse, get_or-append-add, length-map}
use Rattle.std.proofs.Math.ListN.{get_or-append}
use Rattle.std.proofs.lemmas.Option.{same_Some}
use Rattle.solid_data.specs.Ring.{next_of_each, previous_of_each, numbers_from}
use Rattle.solid_data.specs.SolidData.{SolidData, PlacedLoop, placed_loops, same_flag}
use Rattle.solid_data.specs.declared.solid.Edge.{Edge}
use Rattle.solid_data.specs.declared.solid.EdgeId.{EdgeId}
use Rattle.solid_data.specs.declared.solid.LoopAt.{LoopAt}
use Rattle.solid_data.specs.declared.solid.LoopUse.{LoopUse}
use Rattle.solid_data.specs.declared.solid.LoopUse.TheVariants.{EdgeUse, VertexUse}
use Rattle.solid_data.specs.declared.solid.Shell.{Shell}
use Rattle.edge_uses.specs.declared.row.Row.{Row}
use Rattle.edge_uses.specs.ShellRows.{row_of_edge, row_of, loop_rows, follows_from, shell_rows, EndsMeet}
use Rattle.edge_uses.specs.Joins.{begin_of, start_of, end_of, IsJoined}

-- Chains of things with a start and an end.

abbrev pub Linked : {A : Type 0} → (A → ℕ) → (A → ℕ) → ℕ → List A → ℕ → Type 0
Linked st en a [] b = a ≡ b
Linked st en a (u ∷ us) b = (a ≡ st u) × Linked st en (en u) us b

abbrev first_or : ℕ → List ℕ → ℕ
first_or d [] = d
first_or d (x ∷ xs) = x

abbrev rest_of : List ℕ → List ℕ
rest_of [] = []
rest_of (x ∷ xs) = xs

chain_from : {A : Type 0} (st en : A → ℕ) (e : ℕ) (us : List A) (z : ℕ) → e ∷ map en us ≡ map st us ++ z ∷ [] → Linked st en e us z
chain_from st en e [] z h = ap (first_or 0) h
chain_from st en e (u ∷ us) z h = (ap (first_or 0) h, chain_from st en (en u) us z (ap rest_of h))

list_from : {A : Type 0} (st en : A → ℕ) (e : ℕ) (us : List A) (z : ℕ) → Linked st en e us z → e ∷ map en us ≡ map st us ++ z ∷ []
list_from st en e [] z h = ap (λ x. x ∷ []) h
list_from st en e (u ∷ us) z h = ap (λ x. x ∷ en u ∷ map en us) h.0 ∙ ap (λ xs. st u ∷ xs) (list_from st en (en u) us z h.1)

-- a ring of things, each of which ends where the next starts
abbrev pub IsRing : {A : Type 0} → (A → ℕ) → (A → ℕ) → List A → Type 0
IsRing st en us = map en us ≡ next_of_each (map st us)

closed_from_ring : {A : Type 0} (st en : A → ℕ) (u : A) (us : List A) → IsRing st en (u ∷ us) → Linked st en (st u) (u ∷ us) (st u)
closed_from_ring st en u us h = (refl, chain_from st en (en u) us (st u) h)

ring_from_closed : {A : Type 0} (st en : A → ℕ) (a : ℕ) (us : List A) → Linked st en a us a → IsRing st en us
ring_from_closed st en a [] h = refl
ring_from_closed st en a (u ∷ us) h = list_from st en (en u) us (st u) (subst (λ z. Linked st en (en u) us z) h.0 h.1)

-- what is read of a use: nothing, where it ends as it starts, or a row with these ends
abbrev RowFits : (Row → ℕ) → (Row → ℕ) → Option Row → ℕ → ℕ → Type 0
RowFits rs re None a b = a ≡ b
RowFits rs re (Some r) a b = (rs r ≡ a) × (re r ≡ b)

filtered_step : (rs re : Row → ℕ) (o : Option Row) (a x y b : ℕ) (rows : List Row) → RowFits rs re o x y → a ≡ x → Linked rs re y rows b
    → Linked rs re a (cons_option o rows) b
filtered_step rs re None a x y b rows fits e h = subst (λ z. Linked rs re z rows b) (sym (e ∙ fits)) h
filtered_step rs re (Some r) a x y b rows fits e h = (e ∙ sym fits.0, subst (λ z. Linked rs re z rows b) (sym fits.1) h)

filtered : {A : Type 0} (rs re : Row → ℕ) (st en : A → ℕ) (g : A → Option Row) → ((u : A) → RowFits rs re (g u) (st u) (en u)) → (a b : ℕ) (us : List A)
    → Linked st en a us b → Linked rs re a (filter_map g us) b
filtered rs re st en g fits a b [] h = h
filtered rs re st en g fits a b (u ∷ us) h = filtered_step rs re (g u) a (st u) (en u) b (filter_map g us) (fits u) h.0
    (filtered rs re st en g fits (en u) b us h.1)

filtered_ring : {A : Type 0} (rs re : Row → ℕ) (st en : A → ℕ) (g : A → Option Row) → ((u : A) → RowFits rs re (g u) (st u) (en u)) → (us : List A)
    → IsRing st en us → IsRing rs re (filter_map g us)
filtered_ring rs re st en g fits [] h = refl
filtered_ring rs re st en g fits (u ∷ us) h =
    ring_from_closed rs re (st u) (filter_map g (u ∷ us)) (filtered rs re st en g fits (st u) (st u) (u ∷ us) (closed_from_ring st en u us h))

abbrev pub row_from : Row → ℕ
row_from r = r.from.0

abbrev pub row_to : Row → ℕ
row_to r = r.to.0

forwards_edge : (at : LoopAt) (edge : EdgeId) (along : Bool) (o : Option Edge)
    → RowFits row_from row_to (row_of_edge at edge (same_flag along true) o) (begin_of o along) (begin_of o (not along))
forwards_edge at edge along None = refl
forwards_edge at edge true (Some e) = (refl, refl)
forwards_edge at edge false (Some e) = (refl, refl)

backwards_edge : (at : LoopAt) (edge : EdgeId) (along : Bool) (o : Option Edge)
    → RowFits row_to row_from (row_of_edge at edge (same_flag along false) o) (begin_of o along) (begin_of o (not along))
backwards_edge at edge along None = refl
backwards_edge at edge true (Some e) = (refl, refl)
backwards_edge at edge false (Some e) = (refl, refl)

forwards_use : (s : SolidData) (p : PlacedLoop) → p.forwards ≡ true → (u : LoopUse) → RowFits row_from row_to (row_of s p u) (start_of s u) (end_of s u)
forwards_use s p h (EdgeUse edge along) =
    let o : Option Edge = slice_get s.edges edge.0 in
    subst (λ f. RowFits row_from row_to (row_of_edge p.at edge (same_flag along f) o) (begin_of o along) (begin_of o (not along))) (sym h)
    (forwards_edge p.at edge along o)
forwards_use s p h (VertexUse vertex) = refl

backwards_use : (s : SolidData) (p : PlacedLoop) → p.forwards ≡ false → (u : LoopUse) → RowFits row_to row_from (row_of s p u) (start_of s u) (end_of s u)
backwards_use s p h (EdgeUse edge along) =
    let o : Option Edge = slice_get s.edges edge.0 in
    subst (λ f. RowFits row_to row_from (row_of_edge p.at edge (same_flag along f) o) (begin_of o along) (begin_of o (not along))) (sym h)
    (backwards_edge p.at edge along o)
backwards_use s p h (VertexUse vertex) = refl

previous-next : (xs : List ℕ) → previous_of_each (next_of_each xs) ≡ xs
previous-next [] = refl
previous-next (x ∷ xs) =
    ap (λ ys. reverse (next_of_each ys)) (reverse-append xs (x ∷ []))
    ∙ (reverse-append (reverse xs) (x ∷ []) ∙ ap (λ ys. x ∷ ys) (reverse-reverse xs))

-- The rows of a loop, in the order in which they follow one another.
abbrev ordered : Bool → List ℕ → List ℕ
ordered forwards ring = if forwards then next_of_each ring else previous_of_each ring

loop_ring : (s : SolidData) (p : PlacedLoop) (forwards : Bool) → p.forwards ≡ forwards → IsJoined s p.loop
    → map row_to (loop_rows s p) ≡ ordered forwards (map row_from (loop_rows s p))
loop_ring s p true h joined = filtered_ring row_from row_to (start_of s) (end_of s) (row_of s p) (forwards_use s p h) p.loop.uses joined
loop_ring s p false h joined =
    let ring = filtered_ring row_to row_from (start_of s) (end_of s) (row_of s p) (backwards_use s p h) p.loop.uses joined in
    sym (ap previous_of_each ring ∙ previous-next (map row_to (loop_rows s p)))

map-next : (g : ℕ → ℕ) (xs : List ℕ) → map g (next_of_each xs) ≡ next_of_each (map g xs)
map-next g [] = refl
map-next g (x ∷ xs) = map-append g xs (x ∷ [])

map-reverse_ℕ : (g : ℕ → ℕ) (xs : List ℕ) → map g (reverse xs) ≡ reverse (map g xs)
map-reverse_ℕ g [] = refl
map-reverse_ℕ g (x ∷ xs) =
    ap (map g) (reverse-append (x ∷ []) xs)
    ∙ (map-append g (reverse xs) (x ∷ []) ∙ (ap (λ ys. ys ++ g x ∷ []) (map-reverse_ℕ g xs) ∙ sym (reverse-append (g x ∷ []) (map g xs))))

map-ordered : (g : ℕ → ℕ) (forwards : Bool) (xs : List ℕ) → map g (ordered forwards xs) ≡ ordered forwards (map g xs)
map-ordered g true xs = map-next g xs
map-ordered g false xs = map-reverse_ℕ g (next_of_each (reverse xs)) ∙ ap reverse (map-next g (reverse xs) ∙ ap next_of_each (map-reverse_ℕ g xs))

-- g reads the list at the numbers from base on
reads_list : (g : ℕ → ℕ) (base : ℕ) (xs : List ℕ) → ((i : ℕ) → i < length xs → g (base + i) ≡ slice_index xs i) → map g (numbers_from base (length xs)) ≡ xs
reads_list g base [] h = refl
reads_list g base (x ∷ xs) h =
    let zero_more : base + 0 ≡ base = omega arith in
    let at_head : g base ≡ x = subst (λ n. g n ≡ x) zero_more (h 0 (omega arith)) in
    ap (λ y. y ∷ map g (numbers_from (base + 1) (length xs))) at_head
    ∙ ap (λ ys. x ∷ ys) (reads_list g (base + 1) xs (λ i lt.
    let more : base + suc i ≡ base + 1 + i = omega arith in
    subst (λ n. g n ≡ slice_index xs i) more (h (suc i) (omega (arith, lt)))))

-- what f tells of the row numbered n
abbrev pub told_at : (Row → ℕ) → List Row → ℕ → ℕ
told_at f rows n = slice_index (map f rows) n

reads_loop : (f : Row → ℕ) (before mid after : List Row) → map (told_at f (before ++ (mid ++ after))) (numbers_from (length before) (length mid)) ≡ map f mid
reads_loop f before mid after =
    let xs : List ℕ = map f before in
    let ys : List ℕ = map f mid in
    let zs : List ℕ = map f after in
    let whole : map f (before ++ (mid ++ after)) ≡ xs ++ (ys ++ zs) = map-append f before (mid ++ after) ∙ ap (λ us. xs ++ us) (map-append f mid after) in
    let g : ℕ → ℕ = told_at f (before ++ (mid ++ after)) in
    let at : (i : ℕ) → i < length ys → g (length before + i) ≡ slice_index ys i =
    λ i lt. ap (λ us. slice_index us (length before + i)) whole
    ∙ (ap (λ n. slice_index (xs ++ (ys ++ zs)) (n + i)) (sym (length-map before f))
    ∙ (get_or-append-add xs (ys ++ zs) i 0 ∙ get_or-append ys zs 0 i lt)) in
    subst (λ n. map g (numbers_from (length before) n) ≡ ys) (length-map mid f) (reads_list g (length before) ys at)

-- f of the rows that follow is g of the rows, where that holds in each loop
abbrev pub EachFollows : SolidData → (Row → ℕ) → (Row → ℕ) → PlacedLoop → Type 0
EachFollows s f g p = map g (loop_rows s p) ≡ (if p.forwards then next_of_each (map f (loop_rows s p)) else previous_of_each (map f (loop_rows s p)))

pub follows_read : (s : SolidData) (f g : Row → ℕ) (before : List Row) (ps : List PlacedLoop) → AllByRecursion (EachFollows s f g) ps
    → map (told_at f (before ++ flat_map (loop_rows s) ps)) (follows_from s (length before) ps) ≡ map g (flat_map (loop_rows s) ps)
follows_read s f g before [] each = refl
follows_read s f g before (p ∷ ps) each =
    let mid : List Row = loop_rows s p in
    let after : List Row = flat_map (loop_rows s) ps in
    let told : ℕ → ℕ = told_at f (before ++ (mid ++ after)) in
    let ring : List ℕ = numbers_from (length before) (length mid) in
    let here : map told (ordered p.forwards ring) ≡ map g mid =
    map-ordered told p.forwards ring ∙ (ap (ordered p.forwards) (reads_loop f before mid after) ∙ sym each.0) in
    let counted : length (before ++ mid) ≡ length before + length mid = length-append before mid in
    let later : map (told_at f (before ++ mid ++ after)) (follows_from s (length (before ++ mid)) ps) ≡ map g after =
    follows_read s f g (before ++ mid) ps each.1 in
    let rest : map told (follows_from s (length before + length mid) ps) ≡ map g after =
    subst (λ rows. map (told_at f rows) (follows_from s (length before + length mid) ps) ≡ map g after) (append_assoc before mid after)
    (subst (λ n. map (told_at f (before ++ mid ++ after)) (follows_from s n ps) ≡ map g after) counted later) in
    map-append told (ordered p.forwards ring) (follows_from s (length before + length mid) ps)
    ∙ (ap (λ us. us ++ map told (follows_from s (length before + length mid) ps)) here
    ∙ (ap (λ us. map g mid ++ us) rest
    ∙ sym (map-append g mid after)))

slice_get-map : (f : Row → ℕ) (rows : List Row) (n : ℕ) (r : Row) → slice_get rows n ≡ Some r → slice_index (map f rows) n ≡ f r
slice_get-map f [] n r h = absurd (cc)
slice_get-map f (x ∷ rows) zero r h = ap f (same_Some x r h)
slice_get-map f (x ∷ rows) (suc n) r h = slice_get-map f rows n r h

slice_index-map : (g : ℕ → ℕ) (ns : List ℕ) (n m : ℕ) → slice_get ns n ≡ Some m → slice_index (map g ns) n ≡ g m
slice_index-map g [] n m h = absurd (cc)
slice_index-map g (x ∷ ns) zero m h = ap g (same_Some x m h)
slice_index-map g (x ∷ ns) (suc n) m h = slice_index-map g ns n m h

-- what g tells of a row f tells of the row that follows it
pub follows_tell : (s : SolidData) (f g : Row → ℕ) (ps : List PlacedLoop) (r t : ℕ) (a b : Row) → AllByRecursion (EachFollows s f g) ps
    → slice_get (follows_from s 0 ps) r ≡ Some t → slice_get (flat_map (loop_rows s) ps) r ≡ Some a → slice_get (flat_map (loop_rows s) ps) t ≡ Some b
    → g a ≡ f b
follows_tell s f g ps r t a b each follows at_r at_t =
    let rows : List Row = flat_map (loop_rows s) ps in
    sym (slice_get-map g rows r a at_r)
    ∙ (sym (ap (λ us. slice_index us r) (follows_read s f g [] ps each))
    ∙ (slice_index-map (told_at f rows) (follows_from s 0 ps) r t follows
    ∙ slice_get-map f rows t b at_t))

each_joined : (s : SolidData) (ps : List PlacedLoop) → AllByRecursion (λ (p : PlacedLoop). IsJoined s p.loop) ps
    → AllByRecursion (EachFollows s row_from row_to) ps
each_joined s [] joined = tt
each_joined s (p ∷ ps) joined = (loop_ring s p p.forwards refl joined.0, each_joined s ps joined.1)

-- Where the loops join, each row ends where the row that follows it starts.
pub ends_meet : (s : SolidData) (shell : Shell) → AllByRecursion (λ (p : PlacedLoop). IsJoined s p.loop) (placed_loops shell) → EndsMeet (shell_rows s shell)
unfolding shell_rows
ends_meet s shell joined r t a b follows at_r at_t =
    let ends : a.to.0 ≡ b.from.0 = follows_tell s row_from row_to (placed_loops shell) r t a b (each_joined s (placed_loops shell) joined) follows at_r at_t in
    ap (λ n. record { 0 = n }) ends
