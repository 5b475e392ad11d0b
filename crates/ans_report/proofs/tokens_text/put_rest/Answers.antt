use Rattle.std.proofs.Common.{◌≡◌, List, ℕ, ◌++◌, codes, append_assoc}
use Rattle.ans_model.specs.Inside.ShownKind.{shown_kind}
use Rattle.ans_report.specs.TokenLines.{numbers_of}
use Rattle.ans_write.proofs.PutsLemmas.{Puts-same, Puts-then}
use Rattle.std.proofs.Common.{decimal}
use Rattle.ans_report.proofs.tokens_text.put_rest.Goals as goal

-- the name is its word and its numbers
rest_is : (length word numbers name : List ℕ) → word ++ numbers ≡ name
    → codes " " ++ (length ++ (codes " " ++ (word ++ (numbers ++ codes "\n"))))
    ≡ codes " " ++ (length ++ (codes " " ++ (name ++ codes "\n")))
rest_is length word numbers name e = rw (← e) (simp append_assoc)

pub returns : goal.returns
returns g c =
    let kind = shown_kind c.args.kind.now in
    Puts-same (rest_is (decimal c.args.length) c.kind_word.result.now (numbers_of kind) _ c.kind_word.ensures)
    (Puts-then c.put.ensures (Puts-then c.put_decimal.ensures (Puts-then c.put-2.ensures
    (Puts-then c.put-3.ensures (Puts-then c.put_numbers_of.ensures c.put-4.ensures)))))
