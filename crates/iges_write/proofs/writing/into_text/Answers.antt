use Rattle.iges_write.proofs.WholeFile.{found_text, only_text, large_text, only_large_text, text_back}
use Rattle.iges_write.proofs.writing.into_text.Goals as goal

pub returns-clause-found : goal.returns-clause-found
returns-clause-found c = found_text c.args.limit c.args.file c.write_taken.result c.write_taken.ensures.text

pub returns-clause-only : goal.returns-clause-only
returns-clause-only c = only_text c.args.limit c.args.file c.write_taken.result c.write_taken.ensures.text

pub returns-clause-large : goal.returns-clause-large
returns-clause-large c = large_text c.args.limit c.args.file c.write_taken.result c.write_taken.ensures.text

pub returns-clause-only_large : goal.returns-clause-only_large
returns-clause-only_large c = only_large_text c.args.limit c.args.file c.write_taken.result c.write_taken.ensures.text

pub returns-clause-back : goal.returns-clause-back
returns-clause-back c = text_back c.args.limit c.args.file c.requires c.write_taken.result c.write_taken.ensures.text c.write_taken.ensures.writable
