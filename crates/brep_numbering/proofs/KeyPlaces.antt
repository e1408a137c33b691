-- Keys that are put at the end where they are new, and their places.
use Rattle.std.specs.Prelude.{◌≡◌, ℕ, suc, ◌||◌, Bool, true, false, List, [], ◌∷◌, ◌++◌, Result, Ok, Err, OnOk, if◌then◌else◌}
use Rattle.std.specs.List.{list_any}
use Rattle.std.proofs.Common.{refl, sym, ◌∙◌, ap, append_assoc}
use Rattle.std.proofs.lemmas.List.{append-nil}
use Rattle.indexmap.specs.IndexSet.{insert_key, insert_all}
use Rattle.solid_data.specs.Ring.{place_of}
use Rattle.solid_data.specs.declared.solid.EdgeKey.{EdgeKey}
use Rattle.solid_data.specs.declared.solid.VertexId.{VertexId}
use Rattle.solid_data.specs.declared.solid.VertexKey.{VertexKey}
use Rattle.solid_data.specs.SolidData.{same_edge, same_vertex}
use Rattle.brep_numbering.specs.Numbered.{Numbered}
use Rattle.brep_numbering.proofs.SameKeys.{vertex_itself}

pub any_append : {A : Type 0} (p : A → Bool) (xs ys : List A) → list_any p xs ≡ true → list_any p (xs ++ ys) ≡ true
any_append p [] ys h = absurd (let g : false ≡ true = h in cc)
any_append p (x ∷ xs) ys h = by_test (p x) h (any_append p xs ys)
  where
    by_test : (b : Bool) → (b || list_any p xs) ≡ true → (list_any p xs ≡ true → list_any p (xs ++ ys) ≡ true) → (b || list_any p (xs ++ ys)) ≡ true
    by_test true h rest = refl
    by_test false h rest = rest h

module _ {A : Type 0} (same : A → A → Bool) where
  -- a key that is there keeps its place
  pub place_stays : (ks more : List A) (k : A) → list_any (same k) ks ≡ true → place_of same (ks ++ more) k ≡ place_of same ks k
  place_stays [] more k h = absurd (let g : false ≡ true = h in cc)
  place_stays (y ∷ ys) more k h = by_test (same k y) h (place_stays ys more k)
    where
      by_test : (b : Bool) → (b || list_any (same k) ys) ≡ true → (list_any (same k) ys ≡ true → place_of same (ys ++ more) k ≡ place_of same ys k)
          → (if b then 0 else suc (place_of same (ys ++ more) k)) ≡ (if b then 0 else suc (place_of same ys k))
      by_test true h rest = refl
      by_test false h rest = ap suc (rest h)

  module _ (itself : (a : A) → same a a ≡ true) where
    any_itself : (ks : List A) (k : A) → list_any (same k) (ks ++ k ∷ []) ≡ true
    any_itself [] k = ap (λ b. b || false) (itself k)
    any_itself (y ∷ ys) k = by_test (same k y) (any_itself ys k)
      where
        by_test : (b : Bool) → list_any (same k) (ys ++ k ∷ []) ≡ true → (b || list_any (same k) (ys ++ k ∷ [])) ≡ true
        by_test true h = refl
        by_test false h = h

    -- an inserted key is there
    pub inserted : (ks : List A) (k : A) → list_any (same k) (insert_key same ks k) ≡ true
    inserted ks k = by_test (list_any (same k) ks) refl
      where
        by_test : (b : Bool) → list_any (same k) ks ≡ b → list_any (same k) (if b then ks else ks ++ k ∷ []) ≡ true
        by_test true e = e
        by_test false e = any_itself ks k

    -- the place of a key that was inserted stays so when another key is
    pub numbered_still : (old mid new : List A) (a b : A) (i : ℕ) → mid ≡ insert_key same old a → new ≡ insert_key same mid b → i ≡ place_of same mid a →
        i ≡ place_of same new a
    numbered_still old mid new a b i first second e =
        e ∙ (sym (by_test (list_any (same b) mid)) ∙ ap (λ ks. place_of same ks a) (sym second))
      where
        there : list_any (same a) mid ≡ true
        there = ap (list_any (same a)) first ∙ inserted old a

        by_test : (c : Bool) → place_of same (if c then mid else mid ++ b ∷ []) a ≡ place_of same mid a
        by_test true = refl
        by_test false = place_stays mid (b ∷ []) a there

  -- the old keys come first
  pub insert_more : (ks : List A) (k : A) → (more : List A) × (insert_key same ks k ≡ ks ++ more)
  insert_more ks k = by_test (list_any (same k) ks)
    where
      by_test : (b : Bool) → (more : List A) × ((if b then ks else ks ++ k ∷ []) ≡ ks ++ more)
      by_test true = ([], sym (append-nil ks))
      by_test false = (k ∷ [], refl)

  pub insert_all_more : (ks xs : List A) → (more : List A) × (insert_all same ks xs ≡ ks ++ more)
  insert_all_more ks [] = ([], sym (append-nil ks))
  insert_all_more ks (x ∷ xs) =
      let a = insert_more ks x in
      let b = insert_all_more (insert_key same ks x) xs in
      (a.0 ++ b.0, b.1 ∙ (ap (λ l. l ++ b.0) a.1 ∙ append_assoc ks a.0 b.0))

  pub insert_all-append : (ks xs ys : List A) → insert_all same ks (xs ++ ys) ≡ insert_all same (insert_all same ks xs) ys
  insert_all-append ks [] ys = refl
  insert_all-append ks (x ∷ xs) ys = insert_all-append (insert_key same ks x) xs ys

-- An edge that is new goes last, with its vertices numbered one after the other.
pub edge_put : (s0 s1 s2 s3 : Numbered) (key : EdgeKey) (start end : VertexKey) (from to : VertexId) {T E : Type 0} (r : Result T E)
    → list_any (same_edge key) s0.keys.edges ≡ false
    → s1 ≡ record { keys = record { edges = s0.keys.edges; vertices = insert_key same_vertex s0.keys.vertices start }; edges = s0.edges }
    → from.0 ≡ place_of same_vertex s1.keys.vertices start
    → s2 ≡ record { keys = record { edges = s1.keys.edges; vertices = insert_key same_vertex s1.keys.vertices end }; edges = s1.edges }
    → to.0 ≡ place_of same_vertex s2.keys.vertices end
    → OnOk r (s3 ≡ record {
      keys = record { edges = insert_key same_edge s2.keys.edges key; vertices = s2.keys.vertices };
      edges = s2.edges ++ record { key = key; from = from; to = to } ∷ [];
    })
    → OnOk r (s3.edges ≡ (if list_any (same_edge key) s0.keys.edges then s0.edges else s0.edges ++ record {
      key = key;
      from = record { 0 = place_of same_vertex s3.keys.vertices start };
      to = record { 0 = place_of same_vertex s3.keys.vertices end };
    } ∷ []))
edge_put s0 s1 s2 s3 key start end from to (Err e) fresh first i second j put = tt
edge_put s0 s1 s2 s3 key start end from to (Ok t) fresh first i second j put =
    ap (λ (s : Numbered). s.edges) put
    ∙ (ap (λ es. es ++ record { key = key; from = from; to = to } ∷ []) before
    ∙ (ap (λ n. s0.edges ++ record { key = key; from = record { 0 = n }; to = to } ∷ []) still
    ∙ (ap (λ n. s0.edges ++ record { key = key; from = record { 0 = place_of same_vertex s3.keys.vertices start }; to = record { 0 = n } } ∷ [])
    (j ∙ ap (λ ks. place_of same_vertex ks end) (sym vertices))
    ∙ sym (ap (λ b. if b then s0.edges else s0.edges ++ record {
      key = key;
      from = record { 0 = place_of same_vertex s3.keys.vertices start };
      to = record { 0 = place_of same_vertex s3.keys.vertices end };
    } ∷ []) fresh))))
  where
    before : s2.edges ≡ s0.edges
    before = ap (λ (s : Numbered). s.edges) second ∙ ap (λ (s : Numbered). s.edges) first

    vertices : s3.keys.vertices ≡ s2.keys.vertices
    vertices = ap (λ (s : Numbered). s.keys.vertices) put

    still : from.0 ≡ place_of same_vertex s3.keys.vertices start
    still = numbered_still same_vertex vertex_itself s0.keys.vertices s1.keys.vertices s2.keys.vertices start end from.0
        (ap (λ (s : Numbered). s.keys.vertices) first) (ap (λ (s : Numbered). s.keys.vertices) second) i
        ∙ ap (λ ks. place_of same_vertex ks start) (sym vertices)
