use Rattle.std.proofs.Common.{ℕ, ◌<◌, ◌≡◌, None, get_or, length, take}
use Rattle.ans_hints.specs.OtherWidths.{IsFitting, IsPlaceOf, tried_widths}
use Rattle.ans_hints.proofs.other_widths.fitting_widths.Given as goal

-- the places before this one are filled
abbrev pub invariant-loop-i : goal.invariant-loop-i
invariant-loop-i l = record {
  eight : length l.fitting ≡ 8;
  places : (k : ℕ) → k < l.i → IsPlaceOf (get_or (tried_widths l.width) k 0)
      (IsFitting l.width l.lines l.fn.hints l.content (take k (tried_widths l.width))
      (get_or (tried_widths l.width) k 0))
      (get_or l.fitting k None);
}
