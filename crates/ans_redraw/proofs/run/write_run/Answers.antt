use Rattle.std.proofs.Common.{◌++◌, ℕ, List, take, drop, ap, sym, ◌∙◌, arith, append_assoc}
use Rattle.std.specs.Simd.Lanes.{zip2}
use Rattle.std.proofs.lemmas.List.{take-take}
use Rattle.ans_model.specs.Screen.State.{cell}
use Rattle.ans_redraw.specs.Form.{drawn, pen, texts}
use Rattle.ans_redraw.proofs.RunTexts.{run_behind, run_drawn}
use Rattle.ans_redraw.proofs.run.write_run.Goals as goal

pub returns-clause-text : goal.returns-clause-text
returns-clause-text c =
    let bytes = c.args.bytes.now in
    let attributes = c.args.attributes.now in
    let a = c.args.attribute in
    let run = c.count_run-count in
    let n = run.result in
    let front = take c.args.end c.args.text.now in
    let rest = texts (drawn (pen a 0) (zip2 cell (drop n bytes) (drop n attributes))) in
    ap (λ (m : ℕ). take m c.write.new.text ++ rest) (sym c.write.ensures.end)
    ∙ ap (λ (v : List ℕ). v ++ rest)
    (c.write.ensures.text ∙ ap (λ (v : List ℕ). front ++ v) (take-take n 16 bytes run.ensures.within))
    ∙ append_assoc front (take n bytes) rest
    ∙ ap (λ (v : List ℕ). front ++ v)
    (sym (run_drawn a n bytes attributes c.requires.same (omega arith) run.ensures.same run.ensures.no_blanks))

pub returns-clause-pen : goal.returns-clause-pen
returns-clause-pen c =
    let run = c.count_run-count in
    run_behind c.args.attribute run.result c.args.bytes.now c.args.attributes.now c.requires.same (omega arith)
    run.ensures.same run.ensures.no_blanks
