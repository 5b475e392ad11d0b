-- What it means that content plays on every taller screen as on the stated one.
use Rattle.std.specs.Prelude.{◌≡◌, ℕ, ◌≤◌, List}
use Rattle.ans_model.specs.Sequence.TokenKind.{TokenKind}
use Rattle.ans_model.specs.Screen.State.{Size, State, IsStated, cell_at, sized}
use Rattle.ans_model.specs.Screen.Step.{final}
use Rattle.ans_model.specs.Screen.StartClass.{IsStart}
use Rattle.ans_model.specs.Verdict.Good.{Picture, GoodWith, PlaysWell}
use Rattle.ans_model.specs.declared.cell.Position.{Position}
use Rattle.ans_model.specs.declared.start.Start.{Start}
use Rattle.ans_pens.specs.Taller.{IsTaller}

-- on a screen of this many lines the tokens play well from every start of the class, so that nothing scrolls, and the
-- first lines show the picture
pub record ShowsOn (z : Size) (class : Start) (tokens : List TokenKind) (picture : Picture) (lines : ℕ) : Type 0 where
  pub plays : PlaysWell (sized z.width lines) class tokens
  pub shown : (s : State) (p : Position) → IsStart (sized z.width lines) class s → IsStated z p
      → cell_at (sized z.width lines) (final (sized z.width lines) s tokens).screen p ≡ cell_at z picture.cells p

-- Good content whose moves are free shows its picture on every taller screen of its width. (Some content does so whose
-- moves are not free.)
abbrev pub TallerShowsTheSame : Type 0
TallerShowsTheSame = (z : Size) (class : Start) (content : List ℕ) (picture : Picture) (lines : ℕ)
    → (good : GoodWith z class content picture) → IsTaller z class content → z.lines ≤ lines
    → ShowsOn z class good.tokens picture lines
