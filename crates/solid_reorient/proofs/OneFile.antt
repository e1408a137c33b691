-- A solid is reoriented in one way.
use Rattle.std.specs.Prelude.{◌≡◌, ℕ, List}
use Rattle.std.proofs.Common.{sym, ◌∙◌, ap}
use Rattle.iges_params.specs.Contents.{Contents}
use Rattle.brep_walk.specs.SolidOf.{solid_of}
use Rattle.entry_references.proofs.RisingLists.{In, in_at, contains_at, same_increasing}
use Rattle.solid_extract.specs.Extracted.{Reaches, new_number, IsExtracted}
use Rattle.solid_extract.proofs.One.{IsExtracted-unique}
use Rattle.solid_reorient.specs.Reflagged.{reflagged}
use Rattle.solid_reorient.specs.Once.{OneReoriented, NoOtherFlags}
use Rattle.flag_choice.proofs.Two.{one_flags}

one_kept : (f : Contents) (n : ℕ) (a b : Contents) (p : IsExtracted f n a) (q : IsExtracted f n b) → p.kept ≡ q.kept
one_kept f n a b p q =
    same_increasing p.kept q.kept p.rising q.rising
    (λ m i. into b q m ((p.reached m).0 (contains_at p.kept m i)))
    (λ m i. into a p m ((q.reached m).0 (contains_at q.kept m i)))
  where
    into : (x : Contents) (e : IsExtracted f n x) (m : ℕ) → Reaches f n m → In e.kept m
    into x e m r = let c = (e.reached m).1 r in in_at e.kept c.0 m c.1 c.2

pub one_file : OneReoriented
one_file f n a b p q =
    let same : p.«between» ≡ q.«between» = IsExtracted-unique f n p.«between» q.«between» p.extracted q.extracted in
    let kept : p.extracted.kept ≡ q.extracted.kept = one_kept f n p.«between» q.«between» p.extracted q.extracted in
    let flags : p.flags ≡ q.flags = one_flags (solid_of f n) p.flags q.flags p.fit.suit q.fit.suit in
    p.is
    ∙ (ap (λ (g : Contents). reflagged g (new_number p.extracted.kept n) p.flags) same
    ∙ (ap (λ (ks : List ℕ). reflagged q.«between» (new_number ks n) p.flags) kept
    ∙ (ap (reflagged q.«between» (new_number q.extracted.kept n)) flags ∙ sym q.is)))

pub no_other_flags : NoOtherFlags
no_other_flags f n x y a b = one_flags (solid_of f n) x y a.suit b.suit
