use Rattle.std.proofs.Common.{◌≡◌, ℕ, ◌≤◌, ◌-◌, take, List, [], ◌∷◌, ◌++◌, length, get_or, drop, decimal, ap, sym}
use Rattle.std.proofs.Common.{rules, arith, append-nil}
use Rattle.std.specs.List.{flat_map}
use Rattle.std.proofs.lemmas.List.{take_rest}
use Rattle.ans_model.specs.Bytes.{semicolon}
use Rattle.ans_report.specs.TokenLines.{numbers_text, later_number}
use Rattle.ans_write.proofs.PutsLemmas.{Puts-same, Puts-then}
use Rattle.ans_report.proofs.tokens_text.put_numbers.Goals as goal

numbers_text-cons : (n : ℕ) (ns : List ℕ) → numbers_text (n ∷ ns) ≡ decimal n ++ flat_map later_number ns
numbers_text-cons n [] = sym (append-nil (decimal n))
numbers_text-cons n (m ∷ ns) = ap (λ (v : List ℕ). decimal n ++ (semicolon ∷ v)) (numbers_text-cons m ns)

-- the first number and the later ones
numbers_text_is : (ns : List ℕ) → 1 ≤ length ns
    → numbers_text ns ≡ decimal (get_or ns 0 0) ++ flat_map later_number (drop 1 ns)
numbers_text_is [] some = absurd (omega arith)
numbers_text_is (n ∷ ns) some = numbers_text-cons n ns

pub returns : goal.returns
returns g c =
    let numbers = c.args.numbers.now in
    let first : c.from.result ≡ get_or numbers 0 0 = search rules in
    let later : take (length numbers - 1) (drop 1 numbers) ≡ drop 1 numbers = take_rest numbers 1 in
    Puts-same (sym (numbers_text_is numbers c.in-len1-up.len_at_least))
    (Puts-then (rw first at c.put_decimal.ensures) (rw later at c.put_later_numbers.ensures))
