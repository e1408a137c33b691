use Rattle.library_example.proofs.judge.Goals as goal

pub returns-in-Err-Bad : goal.returns-in-Err-Bad
returns-in-Err-Bad c =
    let refused = rw c.in-Err-Bad.field-0-is at c.in-Err-Bad.ensures.fault in
    let only = rw c.in-Err-Bad.field-0-is at c.in-Err-Bad.ensures.only_fault in
    rw c.in-Err-Bad.field-0-is (refused, λ y is. let e = only y is in cc)

pub returns-in-Ok-Closed : goal.returns-in-Ok-Closed
returns-in-Ok-Closed c =
    let all = rw c.in-Ok-Closed.field-0-is at c.in-Ok-Closed.ensures.verdict in
    let only = rw c.in-Ok-Closed.field-0-is at c.in-Ok-Closed.ensures.only in
    (c.in-Ok.file, (c.in-Ok.ensures.found, λ g is. let e = c.in-Ok.ensures.only g is in cc), (all, λ v is. let e = only v is in cc))

pub returns-in-Ok-Fails : goal.returns-in-Ok-Fails
returns-in-Ok-Fails c =
    let first = rw c.in-Ok-Fails.field-0-is at c.in-Ok-Fails.ensures.verdict in
    let only = rw c.in-Ok-Fails.field-0-is at c.in-Ok-Fails.ensures.only in
    (c.in-Ok.file, (c.in-Ok.ensures.found, λ g is. let e = c.in-Ok.ensures.only g is in cc), (first, λ v is. let e = only v is in cc))
