use Rattle.std.proofs.Common.{◌<◌, get_or, refl, arith}
use Rattle.ans_tokens.proofs.ComingNext.{glyph_front}
use Rattle.ans_tokens.proofs.WalkSteps.{walks_run}
use Rattle.ans_tokens.proofs.handing.Here.hand_glyphs.Goals as goal

pub hand-requires-clause-front : goal.hand-requires-clause-front
hand-requires-clause-front g c =
    let here = c.args.self.now in
    let place = c.requires.place in
    glyph_front here place c.requires.some (get_or here.content.now here.at 0) refl
    (place.bytes here.at (omega (arith, c.requires.some, place.end))) c.requires.glyph

pub returns : goal.returns
returns g c =
    let here = c.args.self.now in
    let place = c.requires.place in
    let run = c.count_run-count.ensures in
    let some : 0 < c.count_run-count.result = omega (arith, c.if-count-eq0.false) in
    record {
      some = some;
      over = λ first before.
          walks_run g.W.Walker.walked here.content.now here.end first place.end here.at c.args.walker.now before
          place.within c.count_run-count.result (omega (arith, run.most, c.min-most.ensures, place.within))
          g.W.Walker.ready c.take.new.self place.bytes run.plain run.codes (run.ends some) c.take.ensures.ready
          c.take.ensures.walked;
    }
