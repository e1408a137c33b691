use Rattle.std.proofs.Common.{rules}
use Rattle.iges_params.specs.Refusal.{Refusal}
use Rattle.command_replies.proofs.Owing.{owed_so}
use Rattle.where_command.specs.Due.{OfNoFile, bad_file}
use Rattle.where_command.proofs.reading.contents_of.Goals as goal

pub returns-in_ok-bad_file_reply-in-Err-Bad-clause-found : goal.returns-in_ok-bad_file_reply-in-Err-Bad-clause-found
returns-in_ok-bad_file_reply-in-Err-Bad-clause-found c =
    let refused : Refusal c.args.bytes.now c.in-Err-Bad.fault = search rules in
    let made = c.in_ok-bad_file_reply-in-Err-Bad.ensures in
    owed_so (OfNoFile c.args.bytes.now) _ _ _ _ (bad_file c.requires c.in-Err-Bad.fault refused) made.0 made.1
