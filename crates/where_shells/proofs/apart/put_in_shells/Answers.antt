use Rattle.std.proofs.Common.{ℕ, refl, take}
use Rattle.iges_base.specs.declared.entry_no.EntryNo.{EntryNo}
use Rattle.solid_faults.proofs.GapSteps.{mapped_step, plain_step}
use Rattle.where_shells.specs.Apart.{in_shell_line}
use Rattle.where_shells.proofs.ItemSteps.{among_first}
use Rattle.where_shells.proofs.apart.put_in_shells.Goals as goal

pub faces-preserved : goal.faces-preserved
faces-preserved c =
    let here = among_first c.args.faces.now c.faces.i c.args.count c.face.result c.faces-test.true c.face.ensures in
    record {
      text = plain_step (in_shell_line c.args.view.now.file.now) (take c.args.count c.args.faces.now) c.face.result c.faces.i c.faces.page.out
          c.put_in_shell.new.page.out _ here
          c.faces.invariant.text c.in_ok-put_in_shell.ensures.text;
      named = mapped_step (λ (x : ℕ × EntryNo). x.1) (take c.args.count c.args.faces.now) c.face.result c.faces.i c.face.result.1 c.faces.page.named
          c.put_in_shell.new.page.named _ here c.faces.invariant.named refl c.in_ok-put_in_shell.ensures.named;
    }
