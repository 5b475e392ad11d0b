use Rattle.std.proofs.Common.{◌≡◌, ◌-◌, ℕ, List, length, take, drop, arith, subst}
use Rattle.std.proofs.lemmas.List.{take_all, length-drop}
use Rattle.ans_why.specs.Blamed.{IsReadFirst}
use Rattle.ans_why.proofs.BlamedLemmas.{to_blame}
use Rattle.ans_why.proofs.blamed.bytes_to_blame.Goals as goal

pub returns : goal.returns
returns c =
    let a = c.args in
    let rest : take (length a.content.now - a.fault.offset) (drop a.fault.offset a.content.now)
    ≡ drop a.fault.offset a.content.now =
    take_all (length a.content.now - a.fault.offset) (drop a.fault.offset a.content.now)
    (simp length-drop (omega arith)) in
    to_blame a.size a.start a.content.now a.fault c.read_first.result.now c.requires.deserved
    (subst (λ (v : List ℕ). IsReadFirst v c.read_first.result.now) rest c.read_first.ensures)
