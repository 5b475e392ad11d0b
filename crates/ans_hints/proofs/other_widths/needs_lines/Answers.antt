use Rattle.std.proofs.Common.{◌-◌, ◌≤◌, ◌↔◌, ℕ, List, Bool, true, false, true≢false, not, arith, refl, sym}
use Rattle.std.specs.Prelude.{IsTrue}
use Rattle.ans_pens.specs.Lines.{IsGoodOn, IsLeastLines}
use Rattle.ans_pens.proofs.MoreLines.{good_from_on}
use Rattle.ans_hints.proofs.other_widths.needs_lines.Goals as goal

-- where it is good with these lines, they are the least if and only if it is not with one less
least_if : (width lines : ℕ) (content : List ℕ) (b : Bool) → 1 ≤ lines → IsGoodOn width content lines
    → (IsTrue b ↔ IsGoodOn width content (lines - 1)) → IsTrue (not b) ↔ IsLeastLines width content lines
least_if width lines content true some good less = (
  λ e. absurd (true≢false (sym e)),
  λ least. absurd (least.fewer (lines - 1) (omega (arith, some)) (less.0 refl)),
)
least_if width lines content false some good less = (
  λ e. record {
    enough = good;
    fewer = λ n lt is.
        let more = good_from_on width n (lines - 1) content (omega (arith, lt)) is in
        absurd (true≢false (sym (less.1 more)));
  },
  λ least. refl,
)

pub returns-else-lines-eq1 : goal.returns-else-lines-eq1
returns-else-lines-eq1 c =
    let good = rw c.new.ensures at c.is_good.ensures in
    let less = rw c.new-else-lines-eq1.ensures at c.is_good-else-lines-eq1.ensures in
    least_if c.args.width c.args.lines c.args.content.now c.is_good-else-lines-eq1.result c.requires.some_lines
    (good.0 c.if-is_good.true) less
