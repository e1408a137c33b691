-- The words of the steps of a remedy, and the sentences, cut into lines of at most 78 columns.
use Rattle.std.specs.Prelude.{ℕ, List, codes}
use Rattle.remedy_text.specs.declared.sentences.Step.{Step}
use Rattle.remedy_text.specs.declared.sentences.Step.TheVariants as step

-- what a step does, and of what it tells how many
abbrev pub step_words : Step → List ℕ
step_words step.Remove = codes "step remove faces"
step_words step.Turn = codes "step turn faces"
step_words step.Reverse = codes "step reverse loops"
step_words step.Flags = codes "step flags uses"
step_words step.Sew = codes "step sew seams"
step_words step.Copy = codes "step copy vertices"
step_words step.Renew = codes "step renew edges"
step_words step.Part = codes "step part bodies"
step_words step.Fill = codes "step fill rims"

unfoldable pub step_sentence : Step → List ℕ
step_sentence step.Remove = codes "  These faces go. If they are a copy, a wall inside or left over, delete them.\n  If they are a body of their own, close it instead, and write it as a solid.\n"
step_sentence step.Turn = codes "  The flags of these faces change in the shell: their normals point the other\n  way.\n"
step_sentence step.Reverse = codes "  These loops run the other way: their tuples in opposite order, each edge\n  with the other flag.\n"
step_sentence step.Flags = codes "  These tuples run the other way on their edges, and have the flags told; of a\n  loop that is reversed, before it is.\n"
step_sentence step.Sew = codes "  Sew (join, knit, stitch) the faces at these pairs of edges: the first edge\n  stays, and uses of the second take it. sure: the ends have equal coordinates\n  and both are lines, or start, end and curve are equal. places: the ends have\n  equal coordinates; if the curves don't coincide, a face is missing between\n  them instead. curve: the curves are equal, the ends aren't: sew with a\n  tolerance.\n"
step_sentence step.Copy = codes "  New vertices, each with the coordinates of the one told. If bodies or sides\n  touch there, each gets its own; if the touch isn't meant, part them, or let\n  them overlap.\n"
step_sentence step.Renew = codes "  New edges, each with the curve of the one told, between these vertices or\n  new ones like them.\n"
step_sentence step.Part = codes "  The shell falls into these bodies. Write each as a solid of its own, or, if\n  it lies inside of another, as a void of that. Bodies of a void stay voids.\n"
step_sentence step.Fill = codes "  Each rim is a ring of edges, told by its first, on which a face must be made\n  anew. If two of these edges lie at one place, although coordinates or curves\n  differ, sew them with a tolerance instead.\n"

unfoldable pub remedy_sentence : List ℕ
remedy_sentence = codes "  With all changes below this shell keeps the rules, or each body that it\n  falls into does: that was tried on the records. Of several remedies the\n  records don't tell which is meant.\n"

unfoldable pub stuck_sentence : List ℕ
stuck_sentence = codes "  None of the changes that were tried makes this shell keep the rules. The\n  rules below tell where it fails.\n"
