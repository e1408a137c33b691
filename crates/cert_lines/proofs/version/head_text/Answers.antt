use Rattle.cert_lines.proofs.Heads.{head_one, head_two, head_three}
use Rattle.cert_lines.proofs.version.head_text.Goals as goal

pub returns-in-One : goal.returns-in-One
returns-in-One c = rw c.in-One.is head_one

pub returns-in-Two : goal.returns-in-Two
returns-in-Two c = rw c.in-Two.is head_two

pub returns-in-Three : goal.returns-in-Three
returns-in-Three c = rw c.in-Three.is head_three
