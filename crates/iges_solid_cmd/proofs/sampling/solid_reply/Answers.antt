use Rattle.std.proofs.Common.{◌≡◌, refl, rules, length}
use Rattle.sample_solids.specs.Laws.{faces_in}
use Rattle.iges_solid_cmd.specs.Texts.{sample_line}
use Rattle.iges_solid_cmd.proofs.SampleFacts.{sample_told}
use Rattle.iges_solid_cmd.proofs.sampling.solid_reply.Goals as goal

pub returns : goal.returns
returns c =
    let s = c.args.solid.now in
    let told : c.in_ok-line_of.field-0 ≡ sample_line c.args.n (length (faces_in s.shells)) (length s.edges) (length s.vertices) (length c.args.text.now)
    (length c.in_ok-certificate.certificate) = search rules in
    sample_told c.args.n c.requires.size s c.args.text.now c.in_ok-certificate.certificate c.in_ok-line_of.field-0 _ c.requires.sample
    c.requires.text c.in_ok-certificate.ensures refl told
