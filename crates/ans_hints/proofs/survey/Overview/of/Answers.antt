use Rattle.std.proofs.Common.{Bool, [], refl, sym, subst, subst₂}
use Rattle.ans_model.specs.Screen.State.{Size}
use Rattle.ans_model.specs.Screen.StartClass.{all_known}
use Rattle.ans_model.specs.Verdict.Good.{IsGood}
use Rattle.ans_model.proofs.ClassLemmas.{covers_all_known}
use Rattle.ans_hints.specs.Hints.{AreHints}
use Rattle.ans_kinds.specs.KindsUsed.{IsTold, used_of}
use Rattle.ans_hints.proofs.SurveyFound.{hints_of_all, moves_of_all, nothing_surveyed, told_of_all}
use Rattle.ans_hints.proofs.survey.Overview.of.Goals as goal

pub walk-requires-clause-begins : goal.walk-requires-clause-begins
walk-requires-clause-begins c =
    let hints = c.begun.ensures.walked c.args.content.now in
    nothing_surveyed c.args.content.now _ hints refl
    (record { pen_is = hints.pen; sync_is = refl; names_are = refl }) refl refl

pub by-reach-requires-clause-told : goal.by-reach-requires-clause-told
by-reach-requires-clause-told c kind =
    let content = c.args.content.now in
    let good = (c.requires.needs all_known).1 (covers_all_known c.args.needs) in
    let now = c.walk.new.walker in
    subst (λ (z : Size). IsTold z content kind (used_of now.used kind)) c.begun.ensures.size
    (told_of_all content _ now c.walk.result c.walk.ensures
    (subst (λ (z : Size). IsGood z all_known content) (sym c.begun.ensures.size) good) kind)

pub by-reach-requires-clause-moves : goal.by-reach-requires-clause-moves
by-reach-requires-clause-moves c tokens texts reads =
    moves_of_all c.args.content.now _ c.walk.new.walker c.walk.result c.walk.ensures tokens texts reads

pub returns-clause-hints : goal.returns-clause-hints
returns-clause-hints c tokens texts reads =
    subst₂ (λ (z : Size) (non_blink : Bool). AreHints z non_blink tokens texts [] c.walk.new.walker.walk.hints)
    c.begun.ensures.size c.begun.ensures.non_blink
    (hints_of_all c.args.content.now _ _ c.walk.result c.walk.ensures tokens texts reads)
