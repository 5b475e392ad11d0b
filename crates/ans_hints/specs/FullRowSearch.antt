-- What the search for line ends after full rows has found so far. Only private contracts cite it.
use Rattle.std.specs.Prelude.{◌≡◌, ⊤, ℕ, ◌+◌, ◌<◌, ◌≤◌, Bool, true, false, List, [], ◌∷◌, ◌++◌, length, Option, None}
use Rattle.std.specs.Prelude.{Some}
use Rattle.std.specs.List.{concat}
use Rattle.ans_model.specs.Sequence.TokenKind.{TokenKind, LineFeed}
use Rattle.ans_model.specs.Screen.State.{State}
use Rattle.ans_model.specs.Screen.Step.{final}
use Rattle.ans_tokens.specs.Walk.{Front}
use Rattle.ans_hints.specs.FullRowEnds.{end_behind, ends_from, row_end, StandsBetween}
use Rattle.ans_pens.specs.Pens.{pen_of, StandsOn}
use Rattle.ans_hints.specs.RowEnds.{is_wrapped}
use Rattle.ans_hints.specs.declared.full_row_ends.Behind.{Behind}
use Rattle.ans_hints.specs.declared.full_row_ends.Behind.TheVariants as behind
use Rattle.ans_hints.specs.declared.full_row_ends.FullRowEnd.{FullRowEnd}
use Rattle.ans_hints.specs.declared.full_row_ends.Search.{Search}
use Rattle.ans_hints.specs.declared.row.Row.{Row}
use Rattle.ans_hints.specs.declared.row.Seam.{Seam}

abbrev pub found_list : Option FullRowEnd → List FullRowEnd
found_list None = []
found_list (Some e) = e ∷ []

abbrev pub is_full : Behind → Bool
is_full behind.Full = true
is_full _ = false

-- the line end that a line feed at this offset makes of it
abbrev pub line_end : Behind → ℕ → Option FullRowEnd
line_end behind.Other offset = None
line_end behind.Full offset = Some (row_end None offset)
line_end (behind.Returned at) offset = Some (row_end (Some at) offset)

-- the line end that a token at this offset makes of it
abbrev pub end_by : Behind → ℕ → TokenKind → Option FullRowEnd
end_by seen offset LineFeed = line_end seen offset
end_by seen offset _ = None

-- what came last in the row says of line ends what its seam says
pub record Agrees (seen : Behind) (seam : Seam) : Type 0 where
  pub full : is_full seen ≡ is_wrapped seam
  pub ends : (offset : ℕ) → found_list (line_end seen offset) ≡ end_behind seam offset

-- a return that was seen is between these offsets
abbrev pub SeenBetween : ℕ → Behind → ℕ → Type 0
SeenBetween from (behind.Returned at) to = (from ≤ at) × (at < to)
SeenBetween from _ to = ⊤

-- a line end is found once the search stops, at its line feed
abbrev pub IsFoundAt : ℕ → Bool → Option FullRowEnd → ℕ → Type 0
IsFoundAt from true found to = found ≡ None
IsFoundAt from false None to = ⊥
IsFoundAt from false (Some e) to = StandsBetween from e.return_at e.line_feed × (e.line_feed + 1 ≡ to)

-- From this state in this row the search has played the front's tokens. The tokens after them have their line ends
-- besides what is found.
pub record HasFound (first : Search) (s : State) (from : Row) (front : Front) (goes_on : Bool) (now : Search)
    : Type 0 where
  pub row : Row
  pub pen : now.pen ≡ pen_of (final first.size s front.tokens)
  pub agrees : Agrees now.behind row.seam
  pub ends : (more : List TokenKind) (more_texts : List (List ℕ))
      → ends_from first.size s first.base from (front.tokens ++ more) (front.texts ++ more_texts)
      ≡ found_list now.found ++ ends_from first.size (final first.size s front.tokens)
      (first.base + length (concat front.texts)) row more more_texts

-- over the front the first has become the other, which goes on until it has found a line end
pub record HasSought (first : Search) (front : Front) (goes_on : Bool) (now : Search) : Type 0 where
  pub size : now.size ≡ first.size
  pub base : now.base ≡ first.base
  pub stands : StandsOn first.size now.pen
  pub texts : length front.texts ≡ length front.tokens
  pub seen : SeenBetween first.base now.behind (first.base + length (concat front.texts))
  pub found : IsFoundAt first.base goes_on now.found (first.base + length (concat front.texts))
  pub ended : goes_on ≡ false → now.behind ≡ behind.Other
  pub from : (s : State) (row : Row) → first.pen ≡ pen_of s → Agrees first.behind row.seam
      → HasFound first s row front goes_on now
