use Rattle.std.proofs.Common.{◌+◌, refl, arith}
use Rattle.ans_hints.proofs.FullRowsFound.{first_left, found_behind, none_left, still_stands}
use Rattle.ans_hints.proofs.row_play.RowPlay.next_end.Goals as goal

pub returns-in_err-end-clause-ends : goal.returns-in_err-end-clause-ends
returns-in_err-end-clause-ends c ends over =
    rw c.from_residual.ensures
    (none_left c.args.self.now c.args.bytes.now _ c.walk.new.walker refl refl refl refl ends over c.walk.result
    c.walk.ensures c.in_err-end.was)

pub overflow_add-self : goal.overflow_add-self
overflow_add-self c =
    let play = c.args.self.now in
    let behind = found_behind c.args.bytes.now _ c.walk.new.walker play
    (record { size = play.size; pen = play.pen; played = c.in_ok-end.end.line_feed + 1; stands = play.stands })
    c.walk.result c.in_ok-end.end refl c.walk.ensures c.in_ok-end.was refl in
    omega (arith, behind.within, c.requires)

pub invariant_of-self : goal.invariant_of-self
invariant_of-self c = record {
  stands = still_stands c.args.bytes.now _ c.walk.new.walker c.walk.result c.walk.ensures;
}

pub returns-clause-behind : goal.returns-clause-behind
returns-clause-behind c =
    found_behind c.args.bytes.now _ c.walk.new.walker c.args.self.now _ c.walk.result c.in_ok-end.end refl
    c.walk.ensures
    c.in_ok-end.was refl

pub returns-clause-ends : goal.returns-clause-ends
returns-clause-ends c ends over =
    first_left c.args.self.now c.args.bytes.now _ c.walk.new.walker refl refl refl refl ends over c.walk.result
    c.in_ok-end.end _ c.walk.ensures c.in_ok-end.was refl refl refl
