-- Which rows the reach lines name matters for the faces that are reached, and for nothing else where the lines stand.
use Rattle.std.specs.Prelude.{◌≡◌, ℕ, suc, ◌-◌, ◌⊎◌, ◌||◌, Bool, true, false, cond, List, [], ◌∷◌, length, map, find, filter, filter_map, Option, Some}
use Rattle.std.specs.List.{cons_option, list_any}
use Rattle.std.proofs.Common.{refl, sym, ◌∙◌, ap, inl, inr}
use Rattle.solid_data.specs.SolidData.{SolidData}
use Rattle.edge_uses.specs.ShellRows.{ShellRows}
use Rattle.cert_lines.specs.Line.{CertLine, reach}
use Rattle.cert_lines.specs.declared.version.Version.{Version}
use Rattle.cert_state.specs.Progress.{Progress, progress_from_latest, asked, mates_of, edge_of, vertex_of, first_of, is_shell, is_edge, is_corner_or_point}
use Rattle.cert_state.specs.Progress.{is_reach, is_tally, is_last, number_of, since_shell, rows_of_shell, current_rows}
use Rattle.cert_state.specs.declared.due.Due.{Due}
use Rattle.topo_certificate.proofs.LineKinds.{plain, plain_or_reach, plainly, shell_line}

-- Lines that are plainly the same are the same, or both are reach lines.
pub same_or_reach : (a b : CertLine) → plain a ≡ plain b → (a ≡ b) ⊎ ((r : ℕ) × (s : ℕ) × (a ≡ reach r) × (b ≡ reach s))
same_or_reach a b same = by_kind (plain_or_reach a) (plain_or_reach b)
  where
    by_kind : (plain a ≡ a) ⊎ ((r : ℕ) × (a ≡ reach r)) → (plain b ≡ b) ⊎ ((r : ℕ) × (b ≡ reach r))
        → (a ≡ b) ⊎ ((r : ℕ) × (s : ℕ) × (a ≡ reach r) × (b ≡ reach s))
    by_kind (inl p) (inl q) = inl (sym p ∙ (same ∙ q))
    by_kind (inl p) (inr (s, q)) = inr (0, s, sym p ∙ (same ∙ ap plain q), q)
    by_kind (inr (r, p)) (inl q) = inr (r, 0, p, sym q ∙ (sym same ∙ ap plain p))
    by_kind (inr (r, p)) (inr (s, q)) = inr (r, s, p, q)

number_plain : (kind : CertLine → Bool) → ((r s : ℕ) → kind (reach r) ≡ kind (reach s)) → (ls : List CertLine)
    → number_of kind (map plain ls) ≡ number_of kind ls
number_plain kind alike [] = refl
number_plain kind alike (l ∷ ls) = by_test (kind (plain l)) (kind l) (plainly kind alike l) (filter kind (map plain ls)) (filter kind ls)
    (number_plain kind alike ls)
  where
    by_test : (b c : Bool) → b ≡ c → (xs ys : List CertLine) → length xs ≡ length ys → length (cond b (plain l ∷ xs) xs) ≡ length (cond c (l ∷ ys) ys)
    by_test true true e xs ys h = ap suc h
    by_test true false e xs ys h = absurd cc
    by_test false true e xs ys h = absurd cc
    by_test false false e xs ys h = h

filter_map_plain : {A : Type 0} (f : CertLine → Option A) → ((r s : ℕ) → f (reach r) ≡ f (reach s)) → (ls : List CertLine)
    → filter_map f (map plain ls) ≡ filter_map f ls
filter_map_plain f alike [] = refl
filter_map_plain f alike (l ∷ ls) = ap (λ o. cons_option o (filter_map f (map plain ls))) (plainly f alike l)
    ∙ ap (λ xs. cons_option (f l) xs) (filter_map_plain f alike ls)

ended_plain : (ls : List CertLine) → list_any is_last (map plain ls) ≡ list_any is_last ls
ended_plain [] = refl
ended_plain (l ∷ ls) = ap (λ b. b || list_any is_last (map plain ls)) (plainly is_last (λ r s. refl) l) ∙ ap (λ b. is_last l || b) (ended_plain ls)

since_plain : (ls : List CertLine) → since_shell (map plain ls) ≡ map plain (since_shell ls)
since_plain [] = refl
since_plain (l ∷ ls) = ap (λ b. cond b [] (plain l ∷ since_shell (map plain ls))) (plainly is_shell (λ r s. refl) l)
    ∙ by_test (is_shell l) (since_shell (map plain ls)) (since_shell ls) (since_plain ls)
  where
    by_test : (b : Bool) (xs ys : List CertLine) → xs ≡ map plain ys → cond b [] (plain l ∷ xs) ≡ map plain (cond b [] (l ∷ ys))
    by_test true xs ys h = refl
    by_test false xs ys h = ap (λ zs. plain l ∷ zs) h

find_plain : (ls : List CertLine) → find is_shell (map plain ls) ≡ find is_shell ls
find_plain [] = refl
find_plain (l ∷ ls) = ap (λ b. cond b (Some (plain l)) (find is_shell (map plain ls))) (plainly is_shell (λ r s. refl) l)
    ∙ by_test (is_shell l) refl (find is_shell (map plain ls)) (find is_shell ls) (find_plain ls)
  where
    by_test : (b : Bool) → is_shell l ≡ b → (xs ys : Option CertLine) → xs ≡ ys → cond b (Some (plain l)) xs ≡ cond b (Some l) ys
    by_test true e xs ys h = let begun = shell_line l e in ap (λ x. Some (plain x)) begun.2 ∙ ap (λ x. Some x) (sym begun.2)
    by_test false e xs ys h = h

-- the progress, but for the faces that are reached
abbrev pub but_reached : Progress → Progress
but_reached at = record {
  ended = at.ended;
  shell = at.shell;
  due = at.due;
  mates = at.mates;
  last_edge = at.last_edge;
  last_vertex = at.last_vertex;
  reached =
      [];
}

abbrev progress_from : Bool → ℕ → ℕ → ℕ → ℕ → ℕ → List (ℕ × ℕ) → Option ℕ → Option ℕ → Progress
progress_from b k e c r t ms le lv =
    record { ended = b; shell = k; due = record { edges = e; corners = c; reach = r; tally = t }; mates = ms; last_edge = le; last_vertex = lv; reached = [] }

same_progress : (b b2 : Bool) (k k2 e e2 c c2 r r2 t t2 : ℕ) (ms ms2 : List (ℕ × ℕ)) (le le2 lv lv2 : Option ℕ) → b ≡ b2 → k ≡ k2 → e ≡ e2 → c ≡ c2 → r ≡ r2
    → t ≡ t2 → ms ≡ ms2 → le ≡ le2 → lv ≡ lv2
    → progress_from b k e c r t ms le lv ≡ progress_from b2 k2 e2 c2 r2 t2 ms2 le2 lv2
same_progress b b2 k k2 e e2 c c2 r r2 t t2 ms ms2 le le2 lv lv2 hb hk he hc hr ht hm hl hv = cc

since_number : (kind : CertLine → Bool) → ((r s : ℕ) → kind (reach r) ≡ kind (reach s)) → (ls : List CertLine) → number_of kind (since_shell (map plain ls))
    ≡ number_of kind (since_shell ls)
since_number kind alike ls = ap (number_of kind) (since_plain ls) ∙ number_plain kind alike (since_shell ls)

since_map : {A : Type 0} (f : CertLine → Option A) → ((r s : ℕ) → f (reach r) ≡ f (reach s)) → (ls : List CertLine) → filter_map f (since_shell (map plain ls))
    ≡ filter_map f (since_shell ls)
since_map f alike ls = ap (filter_map f) (since_plain ls) ∙ filter_map_plain f alike (since_shell ls)

progress_plain : (v : Version) (s : SolidData) (ls : List CertLine) → but_reached (progress_from_latest v s (map plain ls)) ≡ but_reached (progress_from_latest v s ls)
unfolding progress_from_latest
progress_plain v s ls =
    let shells : number_of is_shell (map plain ls) ≡ number_of is_shell ls = number_plain is_shell (λ r t. refl) ls in
    let asks : asked v (find is_shell (map plain ls)) ≡ asked v (find is_shell ls) = ap (asked v) (find_plain ls) in
    let rows : current_rows s (map plain ls) ≡ current_rows s ls = ap (rows_of_shell s) shells in
    same_progress _ _ _ _ _ _ _ _ _ _ _ _ _ _ _ _ _ _ (ended_plain ls) shells
    (ap (λ (a : Due). a.edges - number_of is_edge (since_shell (map plain ls))) asks ∙ ap (λ n. (asked v (find is_shell ls)).edges - n)
    (since_number is_edge (λ r t. refl) ls))
    (ap (λ (a : Due). a.corners - number_of is_corner_or_point (since_shell (map plain ls))) asks ∙ ap (λ n. (asked v (find is_shell ls)).corners - n)
    (since_number is_corner_or_point (λ r t. refl) ls))
    (ap (λ (a : Due). a.reach - number_of is_reach (since_shell (map plain ls))) asks ∙ ap (λ n. (asked v (find is_shell ls)).reach - n)
    (since_number is_reach (λ r t. refl) ls))
    (ap (λ (a : Due). a.tally - number_of is_tally (since_shell (map plain ls))) asks ∙ ap (λ n. (asked v (find is_shell ls)).tally - n)
    (since_number is_tally (λ r t. refl) ls))
    (since_map mates_of (λ r t. refl) ls)
    (ap (λ (d : ShellRows). first_of (filter_map (edge_of d) (since_shell (map plain ls)))) rows
    ∙ ap first_of (since_map (edge_of (current_rows s ls)) (λ r t. refl) ls))
    (ap (λ (d : ShellRows). first_of (filter_map (vertex_of d) (since_shell (map plain ls)))) rows
    ∙ ap first_of (since_map (vertex_of (current_rows s ls)) (λ r t. refl) ls))

-- Behind lines that are plainly the same the stands are the same, but for the faces that are reached.
pub plain_stands : (v : Version) (s : SolidData) (xs ys : List CertLine) → map plain xs ≡ map plain ys
    → but_reached (progress_from_latest v s xs) ≡ but_reached (progress_from_latest v s ys)
plain_stands v s xs ys same = sym (progress_plain v s xs) ∙ (ap (λ ls. but_reached (progress_from_latest v s ls)) same ∙ progress_plain v s ys)
