-- Two accepted certificates of one version that name the same solids differ in reach lines alone.
use Rattle.std.specs.Prelude.{◌≡◌, ℕ, List, [], ◌∷◌, ◌++◌, flat_map}
use Rattle.std.specs.List.{AllByRecursion, AllZip}
use Rattle.std.proofs.Common.{refl, sym, ◌∙◌, ap, subst, inl}
use Rattle.iges_params.specs.Contents.{Contents}
use Rattle.brep_walk.specs.SolidOf.{solid_of}
use Rattle.brep_walk.proofs.KnownVertices.{vertices_known}
use Rattle.cert_lines.specs.Line.{solid, end, spelling, cut_lines}
use Rattle.cert_lines.specs.declared.version.Version.{Version}
use Rattle.cert_lines.specs.declared.version.Version.TheVariants.{One, Two, Three}
use Rattle.topo_certificate.proofs.Forward.{legal_behind}
use Rattle.cert_accept.specs.Accepted.{Certify, IsAcceptedAlone, Part, part_lines, solids_named, IsGoodPart, IsAcceptedBook}
use Rattle.cert_accept.specs.Laws.{AlikeButReach, AcceptedDifferInReach}
use Rattle.cert_accept.proofs.Sound.{good_rows}
use Rattle.cert_accept.proofs.SameLines.{lines_alike}

-- what certifies one solid
certified_alike : (v : Version) (f : Contents) (n : ℕ) (xs ys : List (List ℕ)) → Certify v f n xs → Certify v f n ys → AllZip AlikeButReach xs ys
unfolding solid_of
certified_alike v f n xs ys a b =
    lines_alike v (solid_of f n) (good_rows (solid_of f n) a.joined (vertices_known f n)) [] [] tt tt refl xs ys (legal_behind v (solid_of f n) xs a.legal)
    (legal_behind v (solid_of f n) ys b.legal)

-- certificates of one solid
alone_alike : (v : Version) (f : Contents) (n : ℕ) (a b : List ℕ) → IsAcceptedAlone v f n a → IsAcceptedAlone v f n b
    → AllZip AlikeButReach (cut_lines a) (cut_lines b)
alone_alike v f n a b p q =
    subst (λ ls. AllZip AlikeButReach ls (cut_lines b)) (sym p.opens.cut)
    (subst (λ ls. AllZip AlikeButReach (p.opens.first ∷ p.opens.second ∷ p.rest) ls) (sym q.opens.cut) (
      inl (p.opens.is_head.1.1 ∙ sym q.opens.is_head.1.1),
      (inl (p.opens.names.1.1 ∙ sym q.opens.names.1.1), certified_alike v f n p.rest q.rest p.certified q.certified),
    ))

-- two lists with one more behind each, and two lists behind two others
none_zip_left : {A B : Type 0} (R : A → B → Type 0) (ys : List B) (g : B) → AllZip R [] (ys ++ g ∷ []) → ⊥
none_zip_left R [] g h = h
none_zip_left R (y ∷ ys) g h = h

none_zip_right : {A B : Type 0} (R : A → B → Type 0) (xs : List A) (e : A) → AllZip R (xs ++ e ∷ []) [] → ⊥
none_zip_right R [] e h = h
none_zip_right R (x ∷ xs) e h = h

zip_less : {A B : Type 0} (R : A → B → Type 0) (xs : List A) (ys : List B) (e : A) (g : B) → AllZip R (xs ++ e ∷ []) (ys ++ g ∷ []) → AllZip R xs ys
zip_less R [] [] e g h = tt
zip_less R [] (y ∷ ys) e g h = absurd (none_zip_left R ys g h.1)
zip_less R (x ∷ xs) [] e g h = absurd (none_zip_right R xs e h.1)
zip_less R (x ∷ xs) (y ∷ ys) e g h = (h.0, zip_less R xs ys e g h.1)

zip_both : {A B : Type 0} (R : A → B → Type 0) (xs : List A) (ys : List B) (us : List A) (vs : List B) → AllZip R xs ys → AllZip R us vs
    → AllZip R (xs ++ us) (ys ++ vs)
zip_both R [] [] us vs h k = k
zip_both R [] (y ∷ ys) us vs h k = absurd h
zip_both R (x ∷ xs) [] us vs h k = absurd h
zip_both R (x ∷ xs) (y ∷ ys) us vs h k = (h.0, zip_both R xs ys us vs h.1 k)

none_named : (n : ℕ) (ns : List ℕ) → [] ≡ n ∷ ns → ⊥
none_named n ns h = cc

named_none : (n : ℕ) (ns : List ℕ) → n ∷ ns ≡ [] → ⊥
named_none n ns h = cc

same_first : (n m : ℕ) (ns ms : List ℕ) → n ∷ ns ≡ m ∷ ms → n ≡ m
same_first n m ns ms h = cc

same_others : (n m : ℕ) (ns ms : List ℕ) → n ∷ ns ≡ m ∷ ms → ns ≡ ms
same_others n m ns ms h = cc

-- parts of books that name one solid
part_alike : (f : Contents) (p q : Part) → p.solid ≡ q.solid → IsGoodPart f p → IsGoodPart f q → AllZip AlikeButReach (part_lines p) (part_lines q)
part_alike f p q same h g =
    let there : Certify Two f p.solid (q.further ++ spelling end ∷ []) = subst (λ n. Certify Two f n (q.further ++ spelling end ∷ [])) (sym same) g.certified
    in (
      inl (h.names.1 ∙ (ap (λ n. spelling (solid n)) same ∙ sym g.names.1)),
      zip_less AlikeButReach p.further q.further (spelling end) (spelling end)
          (certified_alike Two f p.solid (p.further ++ spelling end ∷ []) (q.further ++ spelling end ∷ []) h.certified there),
    )

parts_alike : (f : Contents) (ps qs : List Part) → solids_named ps ≡ solids_named qs → AllByRecursion (IsGoodPart f) ps → AllByRecursion (IsGoodPart f) qs
    → AllZip AlikeButReach (flat_map part_lines ps) (flat_map part_lines qs)
parts_alike f [] [] same h g = tt
parts_alike f [] (q ∷ qs) same h g = absurd (none_named q.solid (solids_named qs) same)
parts_alike f (p ∷ ps) [] same h g = absurd (named_none p.solid (solids_named ps) same)
parts_alike f (p ∷ ps) (q ∷ qs) same h g =
    zip_both AlikeButReach (part_lines p) (part_lines q) (flat_map part_lines ps) (flat_map part_lines qs)
    (part_alike f p q (same_first p.solid q.solid (solids_named ps) (solids_named qs) same) h.0 g.0)
    (parts_alike f ps qs (same_others p.solid q.solid (solids_named ps) (solids_named qs) same) h.1 g.1)

book_alike : (f : Contents) (a b : List ℕ) (ps qs : List Part) → solids_named ps ≡ solids_named qs → IsAcceptedBook f a ps → IsAcceptedBook f b qs
    → AllZip AlikeButReach (cut_lines a) (cut_lines b)
book_alike f a b ps qs same h g =
    subst (λ ls. AllZip AlikeButReach ls (cut_lines b)) (sym h.headed.cut)
    (subst (λ ls. AllZip AlikeButReach (h.headed.first ∷ (flat_map part_lines ps ++ spelling end ∷ [])) ls) (sym g.headed.cut) (
      inl (h.headed.is_head.1.1 ∙ sym g.headed.is_head.1.1),
      zip_both AlikeButReach (flat_map part_lines ps) (flat_map part_lines qs) (spelling end ∷ []) (spelling end ∷ []) (parts_alike f ps qs same h.good g.good)
          (inl refl, tt),
    ))

pub differ_in_reach : AcceptedDifferInReach
differ_in_reach f One ns a b (n, n_is, p) (m, m_is, q) =
    alone_alike One f n a b p (subst (λ k. IsAcceptedAlone One f k b) (same_first m n [] [] (sym m_is ∙ n_is)) q)
differ_in_reach f Two ns a b (n, n_is, p) (m, m_is, q) =
    alone_alike Two f n a b p (subst (λ k. IsAcceptedAlone Two f k b) (same_first m n [] [] (sym m_is ∙ n_is)) q)
differ_in_reach f Three ns a b (ps, ps_is, p) (qs, qs_is, q) = book_alike f a b ps qs (sym ps_is ∙ qs_is) p q
