use Rattle.std.proofs.Common.{rules, ℕ, ◌++◌, codes, decimal}
use Rattle.std.specs.Fmt.{digits}
use Rattle.ans_show.proofs.Tables.{text_at}
use Rattle.ans_show.proofs.page.foreground_text.Goals as goal

pub returns : goal.returns
unfolding digits
returns c = search (rules, text_at (λ (n : ℕ). codes "<span class=\"f" ++ decimal n))
