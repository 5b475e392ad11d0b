use Rattle.std.proofs.Common.{◌≡◌, ◌<◌, ℕ, List, arith, subst}
use Rattle.ans_model.specs.Sequence.TokenKind.{TokenKind}
use Rattle.ans_model.specs.Verdict.TokenFault.{then_blanks}
use Rattle.ans_pens.specs.CellPlays.{AreKept}
use Rattle.ans_pens.proofs.TabBlanks.{Decides, no_blanks, decided, undecided, clean_with_blank, blanks_more}
use Rattle.ans_pens.proofs.TabBlanks.{within_tab}
use Rattle.ans_pens.proofs.two_cell_plays.TwoCellPlays.blanks.Goals as goal

pub loop-init : goal.loop-init
loop-init c = record {
  stand = c.requires.stand;
  kept = λ class tokens cause fault prints clean was.
      no_blanks c.args.size class c.args.at tokens cause fault c.args.self.now was;
}

pub returns-then-decides-clause-kept : goal.returns-then-decides-clause-kept
returns-then-decides-clause-kept c class tokens cause fault prints clean was =
    let z = c.args.size in
    let n = c.loop.counter in
    let h = c.loop.invariant.kept class tokens cause fault prints clean was in
    let decides : Decides z c.loop.self = c.decides.ensures.0 c.if-decides.true in
    let there : n ≡ fault.blanks_before =
    decided z class c.args.at tokens cause fault (omega arith) n c.loop.self h decides in
    subst (λ (m : ℕ). AreKept z class c.args.at (then_blanks tokens m) c.loop.self) there h.kept

pub loop-preserved : goal.loop-preserved
loop-preserved c = record {
  stand = c.step.ensures.stand;
  kept = λ class tokens cause fault prints clean was.
      let z = c.args.size in
      let n = c.loop.counter in
      let h = c.loop.invariant.kept class tokens cause fault prints clean was in
      let not : ¬ Decides z c.loop.self = λ d. absurd (cc (c.decides.ensures.1 d, c.if-decides.false)) in
      let less : n < fault.blanks_before =
      undecided z class c.args.at tokens cause fault (omega arith) n c.loop.self h prints clean not in
      record {
        before = omega (arith, less);
        kept = subst (λ (ts : List TokenKind). AreKept z class c.args.at ts c.step.new.self)
            (blanks_more tokens n) (c.step.ensures.kept class (then_blanks tokens n)
            (clean_with_blank z class c.args.at tokens cause fault (omega arith) n c.loop.self h prints clean not)
            h.kept);
      };
}

pub returns-clause-kept : goal.returns-clause-kept
returns-clause-kept c class tokens cause fault prints clean was =
    let h = c.loop.invariant.kept class tokens cause fault prints clean was in
    let within = within_tab c.args.size class c.args.at tokens cause fault c.args.self.now (omega arith) was in
    absurd (omega (arith, within, h.before, c.tab_blanks-most.ensures, c.loop-test.false))
