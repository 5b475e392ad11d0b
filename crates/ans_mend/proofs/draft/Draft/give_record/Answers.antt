use Rattle.std.proofs.Common.{◌≡◌, ◌∙◌, ap, sym, ℕ, List, [], ◌∷◌, ◌++◌, length, take, drop, true, append_assoc}
use Rattle.std.proofs.lemmas.List.{take-append-drop}
use Rattle.std.proofs.Math.Seq.{take-append_seam}
use Rattle.ans_model.specs.Bytes.{end_mark}
use Rattle.ans_model.specs.File.Layout.{content}
use Rattle.ans_mend.specs.NewRecord.{new_record, takes_record}
use Rattle.ans_mend.proofs.draft.Draft.give_record.Goals as goal

-- as many of the first bytes as a front has are that front
front_again : (xs : List ℕ) (n : ℕ) → take (length (take n xs)) xs ≡ take n xs
front_again xs n =
    ap (take (length (take n xs))) (sym (take-append-drop n xs)) ∙ take-append_seam (take n xs) (drop n xs)

pub returns-clause-file : goal.returns-clause-file
returns-clause-file c =
    let file = c.args.self.now.file in
    let takes : takes_record file ≡ true = rw c.file.ensures at c.in-Some.ensures.takes in
    let bytes : c.in-Some.content.now ≡ content file = rw c.file.ensures at c.in-Some.ensures.content in
    let front : c.cut.new.self.file ≡ content file =
    ap (λ v. v.file) c.cut.ensures ∙ ap (λ (v : List ℕ). take (length v) file) bytes ∙ front_again file _ in
    rw takes (
    ap (λ v. v.file) c.append-2.ensures
    ∙ ap (λ (v : List ℕ). v ++ c.new_record.result)
    (ap (λ v. v.file) c.append.ensures ∙ ap (λ (v : List ℕ). v ++ end_mark ∷ []) front)
    ∙ ap (λ (v : List ℕ). (content file ++ end_mark ∷ []) ++ v) c.new_record.ensures
    ∙ append_assoc (content file) (end_mark ∷ []) (new_record c.args.width)
    )
