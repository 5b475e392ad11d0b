use Rattle.std.proofs.Common.{◌≡◌, ◌≤◌, ◌+◌, refl, sym, ap, ◌∙◌, length, None, arith, rules}
use Rattle.ans_play.specs.PlayerView.{PlayerView, play_of}
use Rattle.ans_play.specs.Stands.{GoesOn}
use Rattle.ans_play.proofs.Feeding.{plays_more, plays_all, piece_first, feeds_all, feeds_fault, feeds_again}
use Rattle.ans_play.proofs.Feeding.{plays_to_start}
use Rattle.ans_play.proofs.player.Player.feed.Goals as goal

pub returns-in-Some-clause-fed : goal.returns-in-Some-clause-fed
returns-in-Some-clause-fed g c s st =
    feeds_again c.args.self.now c.args.piece.now s c.in-Some.fault
    (ap (λ (p : PlayerView). p.fault) (sym c.self.view_is) ∙ c.in-Some.is) st

pub loop-played-preserved : goal.loop-played-preserved
loop-played-preserved g c =
    let here = c.loop-played.invariant in
    record {
      plays = plays_more (play_of c.args.self.now) c.loop-played.self-inside.play c.advance.new.self
          c.args.piece.now c.loop-played.played c.in-Ok.count here.plays c.in-Ok.ensures.played;
      start = here.start;
      fed = here.fed;
      fault = here.fault;
    }

pub returns-in-Err-clause-same : goal.returns-in-Err-clause-same
returns-in-Err-clause-same g c =
    record {
      size = c.in-Err.ensures.stopped.0 ∙ c.loop-played.invariant.plays.goes_on.size;
      start =
          c.loop-played.invariant.start;
    }

pub returns-in-Err-clause-fed : goal.returns-in-Err-clause-fed
returns-in-Err-clause-fed g c s st =
    let here = c.loop-played.invariant in
    let none : c.args.self.now.fault ≡ None = search rules in
    feeds_fault c.args.self.now _ c.args.piece.now s c.in-Err.fault
    (piece_first (play_of c.args.self.now) c.loop-played.self-inside.play c.args.piece.now c.loop-played.played
    c.in-Err.fault here.plays c.in-Err.ensures.stopped.1)
    (record { size = c.in-Err.ensures.stopped.0 ∙ here.plays.goes_on.size; start = here.start }) none refl st

pub invariant_of-self-2 : goal.invariant_of-self-2
invariant_of-self-2 g c =
    let here = c.loop-played.invariant in
    let none : c.self.inside.fault ≡ None = search rules in
    let fed_none : c.args.self.now.fault ≡ None = search rules in
    let end : length c.args.piece.now ≤ c.loop-played.played = omega arith in
    let whole : GoesOn (play_of c.args.self.now) c.args.piece.now c.loop-played.self-inside.play
    = plays_all (play_of c.args.self.now) c.loop-played.self-inside.play c.args.piece.now c.loop-played.played
    here.plays end in
    record {
      scanned = λ n. omega (
        arith,
        whole.offset,
        here.fed,
        c.self.invariant.scanned none,
        ap (λ (p : PlayerView). p.scanner.offset) c.self.view_is,
        ap (λ (p : PlayerView). p.fed) c.self.view_is,
      );
      in_limit = omega (arith, here.fed, c.requires);
      fault_in_limit = rw (here.fault ∙ fed_none) tt;
    }

pub returns-clause-same : goal.returns-clause-same
returns-clause-same g c = record {
  size = c.loop-played.invariant.plays.goes_on.size;
  start =
      c.loop-played.invariant.start;
}

pub returns-clause-ok : goal.returns-clause-ok
returns-clause-ok g c =
    let none : c.args.self.now.fault ≡ None = search rules in
    record {
      no_fault = none;
      none = c.loop-played.invariant.fault ∙ none;
      fed =
          ap (λ n. n + length c.args.piece.now) c.loop-played.invariant.fed;
    }

pub returns-clause-fed : goal.returns-clause-fed
returns-clause-fed g c s st =
    let here = c.loop-played.invariant in
    let none : c.args.self.now.fault ≡ None = search rules in
    let end : length c.args.piece.now ≤ c.loop-played.played = omega arith in
    feeds_all c.args.self.now _ c.args.piece.now s
    (plays_all (play_of c.args.self.now) c.loop-played.self-inside.play c.args.piece.now c.loop-played.played here.plays
    end)
    (record { size = here.plays.goes_on.size; start = here.start })
    (record { no_fault = none; none = here.fault ∙ none; fed = ap (λ n. n + length c.args.piece.now) here.fed }) st

pub loop-played-init : goal.loop-played-init
loop-played-init g c = record {
  plays = rw (← c.self.view_is) (plays_to_start c.self.inside.play c.args.piece.now);
  start = ap (λ (p : PlayerView). p.start) c.self.view_is;
  fed = ap (λ (p : PlayerView). p.fed) c.self.view_is;
  fault = ap (λ (p : PlayerView). p.fault) c.self.view_is;
}
