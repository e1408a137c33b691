-- Private: what a row of the table of forms in the code means.
use Rattle.std.specs.Prelude.{ℕ, map}
use Rattle.iges_solid_cmd.specs.declared.form.Command.{Command}
use Rattle.iges_solid_cmd.specs.declared.form.Command.TheVariants as command
use Rattle.iges_solid_cmd.specs.declared.form.FileCommand.TheVariants as of_file
use Rattle.iges_solid_cmd.specs.declared.form.CommandKind.{CommandKind}
use Rattle.iges_solid_cmd.specs.declared.form.CommandKind.TheVariants as kind
use Rattle.iges_solid_cmd.specs.declared.form_slot.FormSlot.{FormSlot as CodeSlot}
use Rattle.iges_solid_cmd.specs.declared.form_slot.FormSlot.TheVariants as slot
use Rattle.iges_solid_cmd.specs.declared.form.Form.{Form as Row}
use Rattle.iges_solid_cmd.specs.Forms.{Form, FormSlot, certificate, file, number, word}

abbrev pub slot_meant : CodeSlot → FormSlot
slot_meant (slot.Word text) = word text.now
slot_meant slot.File = file
slot_meant slot.Certificate = certificate
slot_meant (slot.Number digits least greatest) = number digits least greatest

-- the command of this kind for the number n
abbrev pub command_for : CommandKind → ℕ → Command
command_for (kind.Whole c) n = command.File (of_file.Whole c)
command_for (kind.Entity c) n = command.File (of_file.Entity c n)
command_for (kind.Certificate c) n = command.File (of_file.Certificate c)
command_for kind.Sample n = command.Sample n

abbrev pub form_meant : Row → Form
form_meant row = record { slots = map slot_meant row.slots.now; command = command_for row.kind }
