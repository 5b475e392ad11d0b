-- The rows of a grid whose memory is lent.
use Rattle.std.specs.Prelude.{◌≡◌, ℕ, ◌*◌, ◌≤◌, ◌==◌, not, List, length, map}
use Rattle.std.specs.List.{All}
use Rattle.std.proofs.lemmas.List.{length-map}
use Rattle.std.proofs.lemmas.List.Elements.{All-map}
use Rattle.std.proofs.Common.{◌∙◌}
use Rattle.ans_model.specs.Bytes.{most_columns}
use Rattle.ans_screen.specs.GridEdits.{most_rows}
use Rattle.ans_screen.specs.declared.lent_row.LentRow.{LentRow}
use Rattle.ans_screen.specs.declared.row_planes.RowState.{RowState}

-- the row that a lent record stands for: it is known where that number is not 0
abbrev pub row_of : LentRow → RowState
row_of r = record { round = r.round; known = not (r.known == 0); first = r.first; end = r.end }

-- a record of a row that was never written
abbrev pub never_lent : LentRow
never_lent = record { round = 0; known = 1; first = 0; end = 0 }

pub rows_whole : (held : List LentRow) (rows : ℕ) → length held ≡ rows → length (map row_of held) ≡ rows
rows_whole held rows e = length-map held row_of ∙ e

pub rows_of_rounds : (held : List LentRow) (round : ℕ) → All (λ (row : LentRow). row.round ≤ round) held
    → All (λ (row : RowState). row.round ≤ round) (map row_of held)
rows_of_rounds held round older = All-map (λ (row : RowState). row.round ≤ round) row_of held older

-- what is lent has room for a grid of this size
pub record HasRoom (width rows records bytes : ℕ) : Type 0 where
  pub some_width : 1 ≤ width
  pub columns : width ≤ most_columns
  pub some_rows : 1 ≤ rows
  pub most : rows ≤ most_rows
  pub held : rows ≤ records
  pub planes : 4 * (width * rows) ≤ bytes
