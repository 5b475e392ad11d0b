use Rattle.std.proofs.Common.{List, ℕ, take, drop, ◌∙◌, ap, sym, subst, refl}
use Rattle.std.proofs.lemmas.Result.{err_from_is_err_and}
use Rattle.std.specs.Slice.Iter.{chunks_rest}
use Rattle.ans_model.specs.Verdict.Good.{GoodWith}
use Rattle.ans_play.specs.Stands.{Stands}
use Rattle.ans_verdict.specs.FileVerdict.{Deserves}
use Rattle.ans_verdict.proofs.PlayLemmas.{Cut, cut, SamePlay-then, fed_fault, last_faults, stands_whole}
use Rattle.ans_verdict.proofs.VerdictLemmas.{ok_of_parts}
use Rattle.ans_verdict.proofs.verdict.play_content.Goals as goal

pub loop-piece-preserved : goal.loop-piece-preserved
loop-piece-preserved g c =
    let content = c.args.content.now in
    let old = c.loop-piece.player in
    let here = c.loop-piece.invariant in
    let steps = c.in-Some.ensures.steps in
    let more = c.in_ok-feed.ensures.ok in
    let k : Cut content c.in-Some.piece.now (chunks_rest c.next.new.self) old.fed =
    cut content c.in-Some.piece.now (chunks_rest c.next.new.self) old.fed here.fed (sym here.rest ∙ steps.1.0) in
    record {
      size = steps.0 ∙ here.size;
      rest = sym k.left ∙ ap (λ (v : ℕ). drop v content) (sym more.fed);
      fed = rw more.fed k.fits;
      no_fault = more.none;
      same = SamePlay-then c.args.player old c.feed.new.self here.same c.in_ok-feed.ensures.same;
      stands = subst (λ (v : List ℕ). Stands c.feed.new.self v)
          (sym (ap (λ (v : ℕ). take v content) more.fed ∙ k.taken))
          (c.in_ok-feed.ensures.fed (take old.fed content) here.stands).stands;
    }

pub returns-in_err-feed-clause-refused : goal.returns-in_err-feed-clause-refused
returns-in_err-feed-clause-refused g c =
    let content = c.args.content.now in
    let old = c.loop-piece.player in
    let here = c.loop-piece.invariant in
    let k : Cut content c.in-Some.piece.now (chunks_rest c.next.new.self) old.fed =
    cut content c.in-Some.piece.now (chunks_rest c.next.new.self) old.fed here.fed
    (sym here.rest ∙ c.in-Some.ensures.steps.1.0) in
    let f = c.in_err-feed.field-0.0 in
    let found : Deserves c.args.player.size c.args.player.start content f =
    fed_fault c.args.player old content c.in-Some.piece.now (chunks_rest c.next.new.self) old.fed f here.same k
    (c.in_err-feed.ensures.fed (take old.fed content) here.stands).first in
    let told = err_from_is_err_and c.from_residual.result c.from_residual.ensures.1 in
    rw told.1 (subst (Deserves c.args.player.size c.args.player.start content) (sym told.2) found)

pub returns-clause-good : goal.returns-clause-good
returns-clause-good g c =
    let here = c.loop-piece.invariant in
    let stands = stands_whole c.loop-piece.player c.args.content.now (chunks_rest c.loop-piece.piece-iterator)
    c.loop-piece.player.fed here.rest c.in-None.ensures.steps.1.0 here.fed here.stands in
    ok_of_parts c.finish.result GoodWith here.same.size here.same.start refl
    (c.finish.ensures.finished c.args.content.now stands).good

pub returns-clause-refused : goal.returns-clause-refused
returns-clause-refused g c =
    let here = c.loop-piece.invariant in
    let stands = stands_whole c.loop-piece.player c.args.content.now (chunks_rest c.loop-piece.piece-iterator)
    c.loop-piece.player.fed here.rest c.in-None.ensures.steps.1.0 here.fed here.stands in
    last_faults c.finish.result c.args.player c.loop-piece.player c.args.content.now here.same
    ((c.finish.ensures.finished c.args.content.now stands).last here.no_fault)
