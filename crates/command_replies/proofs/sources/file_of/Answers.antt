use Rattle.command_replies.proofs.Owing.{owed_so}
use Rattle.command_replies.specs.Due.{OfNoFile, bad_file}
use Rattle.command_replies.proofs.sources.file_of.Goals as goal

pub returns-in_ok-bad_file-in-Err-Bad-clause-found : goal.returns-in_ok-bad_file-in-Err-Bad-clause-found
returns-in_ok-bad_file-in-Err-Bad-clause-found c = λ bytes fed few.
    let fault = rw c.in-Err-Bad.field-0-is at (c.in-Err-Bad.ensures.fault bytes fed) in
    owed_so (OfNoFile bytes) _ _ _ _ (bad_file few c.in-Err-Bad.fault fault) c.in_ok-bad_file-in-Err-Bad.ensures.0 c.in_ok-bad_file-in-Err-Bad.ensures.1
