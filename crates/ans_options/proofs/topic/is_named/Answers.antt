use Rattle.std.proofs.Common.{sym, ◌∙◌}
use Rattle.ans_options.proofs.TopicLemmas.{numbered}
use Rattle.ans_options.proofs.topic.is_named.Goals as goal

pub returns-then-eq_ignore_ascii_case : goal.returns-then-eq_ignore_ascii_case
returns-then-eq_ignore_ascii_case c =
    rw (c.as_bytes.ensures.value) at (numbered _ c.as_bytes.result.now _ c.args.letter c.in-len1-up.len_at_least
    (sym c.eq_ignore_ascii_case.ensures ∙ c.if-eq_ignore_ascii_case.true)
    (rw (c.as_bytes-then-eq_ignore_ascii_case.ensures.value, c.format.ensures.text)
    at c.eq_ignore_ascii_case-then-eq_ignore_ascii_case.ensures.test))
