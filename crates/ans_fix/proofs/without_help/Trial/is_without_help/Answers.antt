use Rattle.std.proofs.Common.{◌≡◌, ◌∙◌, ap, Bool, Result, subst, sym, true, false}
use Rattle.std.specs.Prelude.{MatchBool}
use Rattle.ans_mend.specs.declared.outcome.Mended.{Mended}
use Rattle.ans_mend.specs.declared.outcome.Unmended.{Unmended}
use Rattle.ans_model.specs.MendFlags.{with_step}
use Rattle.ans_fix.specs.Trials.{ComesTo, comes_to_same}
use Rattle.ans_fix.proofs.without_help.Trial.is_without_help.Goals as goal

pub returns-in-Ok : goal.returns-in-Ok
returns-in-Ok c =
    let comes : ComesTo (with_step c.args.step true c.args.self.now.asked.now) c.args.self.now.file.now
    c.in_ok-tried.field-0 =
    rw c.with.ensures at c.in_ok-tried.ensures in
    let known : false ≡ comes_to_same c.args.self.now.reason.now c.in_ok-tried.field-0 =
    ap (comes_to_same c.args.self.now.reason.now) (sym c.in-Ok.is) in
    subst (λ (is_asked : Bool). MatchBool is_asked (false ≡ true)
    ((answer : Result Mended Unmended)
    × ComesTo (with_step c.args.step true c.args.self.now.asked.now) c.args.self.now.file.now answer
    × (false ≡ comes_to_same c.args.self.now.reason.now answer))) (sym c.if-is_asked.false)
    (c.in_ok-tried.field-0, comes, known)

pub returns-in-Err : goal.returns-in-Err
returns-in-Err c =
    let comes : ComesTo (with_step c.args.step true c.args.self.now.asked.now) c.args.self.now.file.now
    c.in_ok-tried.field-0 =
    rw c.with.ensures at c.in_ok-tried.ensures in
    let known : c.is_same_reason.result ≡ comes_to_same c.args.self.now.reason.now c.in_ok-tried.field-0 =
    c.is_same_reason.ensures ∙ ap (comes_to_same c.args.self.now.reason.now) (sym c.in-Err.is) in
    subst (λ (is_asked : Bool). MatchBool is_asked (c.is_same_reason.result ≡ true)
    ((answer : Result Mended Unmended)
    × ComesTo (with_step c.args.step true c.args.self.now.asked.now) c.args.self.now.file.now answer
    × (c.is_same_reason.result ≡ comes_to_same c.args.self.now.reason.now answer))) (sym c.if-is_asked.false)
    (c.in_ok-tried.field-0, comes, known)
