use Rattle.std.proofs.Common.{◌∙◌, ◌≡◌, arith}
use Rattle.ans_mend.proofs.Returns.{all_written, has_room, next_done, next_left, next_place}
use Rattle.ans_mend.proofs.line_ends.close_gap.Goals as goal

pub write_returned-written-requires : goal.write_returned-written-requires
write_returned-written-requires c =
    let i = c.loop-index.invariant in
    has_room c.args.memory.now c.loop-index.memory c.args.gap c.args.count c.loop-index.index c.loop-index.written
    c.loop-index.last c.loop-index-test.true c.requires.within c.requires.room i.0 i.1 i.2 i.3

pub loop-index-preserved : goal.loop-index-preserved
loop-index-preserved c =
    let i = c.loop-index.invariant in
    let w = c.write_returned-written in (
      w.ensures.same_length ∙ i.0,
      next_place c.args.memory.now c.loop-index.memory c.args.gap c.args.count c.loop-index.index c.loop-index.written
          c.loop-index.last c.loop-index-test.true c.requires.within c.requires.room i.0 i.1 i.2 i.3 w.result
          w.new.memory w.ensures.count
          w.ensures.same_length w.ensures.written w.ensures.behind,
      next_done c.args.memory.now c.loop-index.memory c.args.gap c.args.count c.loop-index.index c.loop-index.written
          c.loop-index.last c.loop-index-test.true c.requires.within c.requires.room i.0 i.1 i.2 i.3 w.result
          w.new.memory w.ensures.count
          w.ensures.same_length w.ensures.written w.ensures.behind,
      next_left c.args.memory.now c.loop-index.memory c.args.gap c.args.count c.loop-index.index c.loop-index.written
          c.loop-index.last c.loop-index-test.true c.requires.within c.requires.room i.0 i.1 i.2 i.3 w.result
          w.new.memory w.ensures.count
          w.ensures.same_length w.ensures.written w.ensures.behind,
    )

pub returns-clause-written : goal.returns-clause-written
returns-clause-written c =
    let i = c.loop-index.invariant in
    let end : c.loop-index.index ≡ c.args.count =
    omega (arith, c.loop-index-test.false, c.loop-index.auto.index-end) in
    all_written c.args.memory.now c.loop-index.memory c.args.gap c.args.count c.loop-index.written c.loop-index.last
    c.requires.within (rw end at i.1) (rw end at i.2)
