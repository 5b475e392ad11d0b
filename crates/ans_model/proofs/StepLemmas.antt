-- Where a step takes the cursor above the spare row.
use Rattle.std.proofs.Common.{◌≡◌, ◌+◌, ◌<◌, Bool, true, false, refl, ap, ◌∙◌, arith}
use Rattle.std.specs.Prelude.{if◌then◌else◌, nat_lt}
use Rattle.std.proofs.lemmas.Bool.{ne_eqb}
use Rattle.ans_model.specs.Screen.State.{Size, State, at}
use Rattle.ans_model.specs.declared.cell.Position.{Position}
use Rattle.ans_model.specs.Screen.Step.{line_feed, advanced}

pub line_feed_is : (z : Size) (s : State) → s.cursor.row < z.lines
    → line_feed z s ≡ record s { cursor = at (s.cursor.row + 1) s.cursor.column }
line_feed_is z s h = rw (ne_eqb s.cursor.row z.lines (λ e. omega arith)) refl

if_cursor : (b : Bool) (s : State) (p q : Position)
    → (if b then record s { cursor = p } else record s { cursor = q }) ≡ record s { cursor = if b then p else q }
if_cursor true s p q = refl
if_cursor false s p q = refl

-- where the cursor goes on to, above the spare row
pub advanced_is : (z : Size) (s : State) → s.cursor.row < z.lines
    → advanced z s ≡ record s {
      cursor = if nat_lt (s.cursor.column + 1) z.width then at s.cursor.row
          (s.cursor.column + 1) else if s.wrap then at (s.cursor.row + 1) 0 else s.cursor;
    }
advanced_is z s h =
    let r : State = record s { cursor = at (s.cursor.row + 1) 0 } in
    let q : Position = at s.cursor.row (s.cursor.column + 1) in
    rw (line_feed_is z (record s { cursor = at s.cursor.row 0 }) h)
    (ap (λ (x : State). if nat_lt (s.cursor.column + 1) z.width then record s { cursor = q } else x)
    (if_cursor s.wrap s r.cursor s.cursor)
    ∙ if_cursor (nat_lt (s.cursor.column + 1) z.width) s q (if s.wrap then r.cursor else s.cursor))
