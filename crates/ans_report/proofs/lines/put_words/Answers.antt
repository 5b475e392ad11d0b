use Rattle.std.proofs.Common.{◌≡◌, ◌-◌, ℕ, List, [], take, length, get_or, drop, sym, rules}
use Rattle.std.proofs.lemmas.List.{take_rest}
use Rattle.std.specs.Borrow.{Bor}
use Rattle.ans_write.proofs.PutsLemmas.{Puts-same, Puts-then}
use Rattle.ans_report.proofs.WordLemmas.{words_text_is}
use Rattle.ans_report.proofs.lines.put_words.Goals as goal

-- what stands past the end of a slice
abbrev none : Bor (List ℕ)
none = record { ref_ptr = (0, 0); now = [] }

pub returns : goal.returns
returns g c =
    let words = c.args.words.now in
    let first : c.as_bytes.result.now ≡ (get_or words 0 none).now = search rules in
    let later : take (length words - 1) (drop 1 words) ≡ drop 1 words = take_rest words 1 in
    Puts-same (sym (words_text_is words none c.in-len1-up.len_at_least))
    (Puts-then (rw first at c.put.ensures) (rw later at c.put_later_words.ensures))
