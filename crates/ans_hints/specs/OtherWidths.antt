-- Whether a record shows that its drawing was made for another width than the one that it states.
use Rattle.std.specs.Prelude.{◌≡◌, ℕ, ◌*◌, ◌≤◌, ◌<◌, Bool, true, false, not, ◌&&◌, ◌||◌, ◌==◌, nat_eq, nat_le, nat_lt}
use Rattle.std.specs.Prelude.{List, [], ◌∷◌, length, take, get_or, Option, None, is_some, MatchOption, if◌then◌else◌}
use Rattle.std.specs.List.{list_any}
use Rattle.ans_model.specs.Bytes.{most_columns}
use Rattle.ans_pens.specs.Lines.{IsLeastLines}
use Rattle.ans_hints.specs.declared.hints.Hints.{Hints}
use Rattle.ans_hints.specs.declared.row_ends.RowEnds.{RowEnds}
use Rattle.ans_hints.specs.declared.other_widths.OtherWidths.{OtherWidths}

-- the widths that are tried: common ones, and twice and three times the stated one
abbrev pub tried_widths : ℕ → List ℕ
tried_widths width = 40 ∷ 80 ∷ 100 ∷ 120 ∷ 132 ∷ 160 ∷ 2 * width ∷ 3 * width ∷ []

-- it leaves lines empty
abbrev pub is_short : Hints → Bool
is_short hints = nat_lt 0 hints.empty_rows

-- A drawing that leaves lines empty may be one for fewer columns, and any other one for more.
abbrev pub is_on_its_side : Hints → ℕ → ℕ → Bool
is_on_its_side hints width other = if is_short hints then nat_lt other width else nat_lt width other

-- it is a width of a screen, on that side of the stated one, and not among these
abbrev pub is_another : Hints → ℕ → List ℕ → ℕ → Bool
is_another hints width before other =
    is_on_its_side hints width other && nat_le other most_columns && not (list_any (λ w. nat_eq w other) before)

-- Some lines are stated, and on the stated width the content leaves some of them empty or needs others. Nothing in it
-- ends a line.
pub record MayFit (width lines : ℕ) (hints : Hints) (content : List ℕ) : Type 0 where
  pub some_lines : 1 ≤ lines
  pub no_line_end : hints.row_ends.line_ends ≡ 0
  pub others : is_short hints ≡ false → ¬ IsLeastLines width content lines

-- a width that is tried after these, and on which the content needs the stated lines
pub record IsFitting (width lines : ℕ) (hints : Hints) (content : List ℕ) (before : List ℕ) (other : ℕ) : Type 0 where
  pub another : is_another hints width before other ≡ true
  pub needs_stated : IsLeastLines other content lines

-- the place of this width in a result: it is there if and only if it fits
abbrev pub IsPlaceOf : ℕ → Type 0 → Option ℕ → Type 0
IsPlaceOf other Fits place = MatchOption place (¬ Fits) (λ found. (found ≡ other) × Fits)

-- Columns and lines are exchanged in the record: it states few columns and the lines that are a common width, and
-- something is printed in the last column and wraps.
abbrev pub are_exchanged : ℕ → ℕ → RowEnds → Bool
are_exchanged width lines ends =
    nat_lt width 40 && (lines == 80 || lines == 132 || lines == 160) && nat_lt 0 ends.full

-- What a record with this width and these lines shows of other widths, where the content has these hints on the stated
-- width, with the lines that it needs there or with the stated ones. With 0 lines it states none.
pub record AreOtherWidths (width lines : ℕ) (hints : Hints) (content : List ℕ) (result : OtherWidths) : Type 0 where
  pub eight : length result.fitting ≡ 8
  pub fitting : (k : ℕ) → k < 8 → IsPlaceOf (get_or (tried_widths width) k 0)
      (MayFit width lines hints content
      × IsFitting width lines hints content (take k (tried_widths width)) (get_or (tried_widths width) k 0))
      (get_or result.fitting k None)
  pub exchanged : result.exchanged ≡ are_exchanged width lines hints.row_ends

-- it shows some
abbrev pub has_other_widths : OtherWidths → Bool
has_other_widths other = other.exchanged || list_any is_some other.fitting
