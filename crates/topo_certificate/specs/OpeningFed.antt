-- The first two lines of a certificate that comes in pieces.
use Rattle.std.specs.Prelude.{◌≡◌, ℕ, ◌≤◌, List, ◌++◌, length, take, IsTrue, Result, Ok, Err, ⊤}
use Rattle.iges_base.specs.Ended.{ended}
use Rattle.iges_base.specs.InLine.{is_in_line}
use Rattle.cert_lines.specs.declared.version.Version.{Version}
use Rattle.cert_text.specs.declared.fault.Illegal.{Illegal}
use Rattle.cert_lines.specs.Line.{head, solid, cut_lines, IsLine, first_limit}
use Rattle.cert_lines.specs.Opening.{Opens, IsBadOpening, IsHeadLine, IsSolid, IsWrong}
use Rattle.topo_certificate.specs.declared.opening.Stage.{Stage}
use Rattle.topo_certificate.specs.declared.opening.Stage.TheVariants as stage
use Rattle.topo_certificate.specs.declared.opening.OpeningStep.{OpeningStep}
use Rattle.topo_certificate.specs.declared.opening.OpeningStep.TheVariants as step

-- what it keeps: the first bytes of an unfinished line, and how far it has come
pub record Opened : Type 0 where
  pub kept : List ℕ
  pub stage : Stage

-- the bytes that are kept stand for this rest of a line
abbrev pub StandsForRest : List ℕ → List ℕ → Type 0
StandsForRest kept rest = (kept ≡ take first_limit rest) × IsTrue (is_in_line rest)

-- The first line, which is the head of this version, has come, and then a rest.
pub record HasHead (v : Version) (kept text : List ℕ) : Type 0 where
  pub first : List ℕ
  pub rest : List ℕ
  pub in_line : IsTrue (is_in_line first)
  pub whole : text ≡ ended first ++ rest
  pub is_head : IsLine first_limit (ended first) (head v)
  pub stands : StandsForRest kept rest

-- What the text shows so far. After two good lines the certificate opens so, and after a bad one it opens so badly, whatever follows.
abbrev pub Shows : Stage → List ℕ → List ℕ → Type 0
Shows stage.First kept text = StandsForRest kept text
Shows (stage.Second v) kept text = HasHead v kept text
Shows (stage.Done v number) kept text = (more : List ℕ) → Opens (text ++ more) v number.0 (cut_lines more)
Shows (stage.Failed bad) kept text = (more : List ℕ) → IsBadOpening (text ++ more) bad

-- the opening was fed this text
abbrev pub IsOpening : Opened → List ℕ → Type 0
IsOpening o text = Shows o.stage o.kept text

-- fewer than two lines have come, and none of them is bad
abbrev pub IsWaiting : Stage → Type 0
IsWaiting stage.First = ⊤
IsWaiting (stage.Second v) = ⊤
IsWaiting _ = ⊥

-- What a step says: all bytes of the piece were taken and more are needed, or those up to the end of line 2 were.
abbrev pub IsStep : Opened → List ℕ → List ℕ → OpeningStep → Type 0
IsStep new text piece step.More = IsWaiting new.stage × IsOpening new (text ++ piece)
IsStep new text piece (step.Solid v number used) = (new.stage ≡ stage.Done v number) × (used ≤ length piece) × IsOpening new (text ++ take used piece)

-- how far it has come after a line
abbrev pub StageAfter : Stage → List ℕ → Stage → Type 0
StageAfter stage.First line (stage.Second v) = IsLine first_limit line (head v)
StageAfter stage.First line (stage.Failed bad) = IsWrong IsHeadLine 1 line bad
StageAfter (stage.Second v) line (stage.Done w number) = (w ≡ v) × IsLine first_limit line (solid number.0)
StageAfter (stage.Second v) line (stage.Failed bad) = IsWrong IsSolid 2 line bad
StageAfter _ line new = ⊥

-- Once both lines have come, or one was bad, the answer is the same and nothing changes.
abbrev pub Stays : Opened → Opened → Result OpeningStep Illegal → Type 0
Stays old new result = elim old.stage [
  | stage.First ↦ ⊤
  | stage.Second v ↦ ⊤
  | stage.Done v number ↦ (result ≡ Ok (step.Solid v number 0)) × (new ≡ old)
  | stage.Failed bad ↦ (result ≡ Err bad) × (new ≡ old)
]

abbrev pub StaysAtEnd : Opened → Opened → Result (Unit {0}) Illegal → Type 0
StaysAtEnd old new result = elim old.stage [
  | stage.First ↦ ⊤
  | stage.Second v ↦ ⊤
  | stage.Done v number ↦ (result ≡ Ok tt) × (new ≡ old)
  | stage.Failed bad ↦ (result ≡ Err bad) × (new ≡ old)
]

-- both lines have come
abbrev pub HasCome : Stage → Type 0
HasCome (stage.Done v number) = ⊤
HasCome _ = ⊥
