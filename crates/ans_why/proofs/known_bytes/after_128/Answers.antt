use Rattle.std.proofs.Common.{◌∙◌, ap, drop}
use Rattle.std.proofs.lemmas.List.{drop_min}
use Rattle.ans_why.proofs.known_bytes.after_128.Goals as goal

pub returns : goal.returns
returns c =
    let bytes = c.args.bytes.now in
    c.split_at.ensures.back ∙ ap (λ n. drop n bytes) c.min.ensures ∙ drop_min 128 bytes
