use Rattle.std.proofs.Common.{◌≡◌, ◌∙◌, ◌+◌, ℕ, List, ◌++◌, All, ap, append_assoc, arith, drop, get_or, subst, sym}
use Rattle.std.proofs.lemmas.List.{drop-drop, get_or-drop, take_all, take_rest}
use Rattle.std.proofs.lemmas.List.Elements.{All-more}
use Rattle.ans_model.specs.Bytes.{IsByte}
use Rattle.ans_write.proofs.PutsLemmas.{Puts-then}
use Rattle.ans_table.specs.NameText.{name_after}
use Rattle.ans_table.proofs.NameLemmas.{shown_utf8}
use Rattle.ans_table.proofs.name_text.put_name.Goals as goal

pub loop-i-preserved : goal.loop-i-preserved
loop-i-preserved g c =
    let name = c.args.name.now in
    let (front, put, is) = c.loop-i.invariant.0 in
    let (text, more, then) =
    rw (take_rest name c.loop-i.i, drop-drop 1 c.loop-i.i name) at c.put_first-copied.ensures.shown in
    let here : c.loop-i.i + 0 ≡ c.loop-i.i = omega arith in
    let byte : IsByte (get_or name c.loop-i.i 0) =
    subst (λ (i : ℕ). IsByte (get_or name i 0)) here
    (subst IsByte (get_or-drop c.loop-i.i name 0 0)
    (rw (take_rest name c.loop-i.i) at c.put_first-copied.ensures.byte)) in (
      (
        front ++ text,
        Puts-then put more,
        is ∙ ap (λ (v : List ℕ). front ++ v) then
            ∙ sym (append_assoc front text (name_after c.put_first-copied.result (drop (c.loop-i.i + 1) name))),
      ),
      All-more IsByte name c.loop-i.i 0 c.loop-i-test.true c.loop-i.invariant.1 byte,
    )

pub returns-clause-utf8 : goal.returns-clause-utf8
returns-clause-utf8 g c =
    let name = c.args.name.now in
    shown_utf8 name
    (subst (λ (v : List ℕ). All IsByte v) (take_all c.loop-i.i name (omega arith)) c.loop-i.invariant.1)
