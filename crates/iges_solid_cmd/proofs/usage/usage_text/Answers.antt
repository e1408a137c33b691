use Rattle.std.proofs.Common.{◌++◌, ◌∙◌, ap, codes}
use Rattle.iges_solid_cmd.proofs.FormWords.{usage_is}
use Rattle.iges_solid_cmd.proofs.usage.usage_text.Goals as goal

pub returns : goal.returns
returns c =
    let start = c.in_ok-put.ensures.ok ∙ ap (λ text. text ++ codes "usage: igesolid ") c.new-out.ensures in
    usage_is c.listed.result.now c.put.new.self c.put_joined.new.out c.into_bytes.result c.listed.ensures start c.in_ok-put_joined.ensures
    (c.into_bytes.ensures ∙ c.in_ok-put-2.ensures.ok)
