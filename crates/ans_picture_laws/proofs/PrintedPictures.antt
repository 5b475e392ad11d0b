-- The cells that good content shows.
use Rattle.std.proofs.Common.{◌≡◌, inl, inr, ℕ, zero, suc, fold, ◌+◌, ◌*◌, ◌/◌, ◌%◌, ◌<◌, Bool, true, false, refl, ◌∙◌}
use Rattle.std.proofs.Common.{arith, List, [], ◌∷◌, drop, set, replicate, All, Some, get_or, subst}
use Rattle.std.specs.Prelude.{slice_get, if◌then◌else◌}
use Rattle.std.specs.List.{AllByRecursion}
use Rattle.std.proofs.Math.Nat.{div-lt_iff_lt-mul}
use Rattle.std.proofs.lemmas.Bool.{cases_lt, lt-ltb, le-ltb, eq-eqb, ne_eqb, cases_eq}
use Rattle.std.proofs.lemmas.List.Elements.{All-append, All-drop, All-replicate, All-set}
use Rattle.std.proofs.lemmas.Option.{slice_get-get_or, slice_get_within, get_or_from_slice_get}
use Rattle.ans_model.specs.Bytes.{blank}
use Rattle.ans_model.specs.declared.cell.Cell.{Cell}
use Rattle.ans_model.specs.declared.cell.Position.{Position}
use Rattle.ans_model.specs.declared.start.Start.{Start}
use Rattle.ans_model.specs.Sequence.TokenKind.{TokenKind, Glyph, LineFeed, Tab, Clear, EraseLine}
use Rattle.ans_model.specs.Screen.State.{Size, State, IsStated, at, cell, cell_count, index}
use Rattle.ans_model.specs.Screen.Step.{blank_cell, next_row_start, line_feed, advanced, put, step, final}
use Rattle.ans_model.specs.Screen.StartClass.{low_start}
use Rattle.ans_model.proofs.FilledLemmas.{All-filled}
use Rattle.ans_model.proofs.StartLemmas.{low_is_start}
use Rattle.ans_picture_laws.specs.Drawable.{IsPrinted}
use Rattle.ans_picture_laws.specs.FormLaws.{GoodPicturesAreDrawable}
use Rattle.ans_picture_laws.proofs.Pieces.{blank_printed}
use Rattle.ans_picture_laws.proofs.PrintedBytes.{PrintsPrinted, tokens_printed}

-- the cell's byte is printed
abbrev HasPrinted : Cell → Type 0
HasPrinted c = IsPrinted c.byte

abbrev AllPrinted : State → Type 0
AllPrinted s = All HasPrinted s.screen

zero_is_printed : IsPrinted 0
zero_is_printed = record {
  is_byte = omega arith;
  not_escape = λ e. omega arith;
  not_end_mark = λ e. omega arith;
  means_itself = refl;
}

-- ---- after a token
after_feed : (z : Size) (s : State) → AllPrinted s → AllPrinted (line_feed z s)
after_feed z s h = elim (cases_eq s.cursor.row z.lines) [
  | inl e ↦ rw (eq-eqb s.cursor.row z.lines e)
      (All-append HasPrinted (drop z.width s.screen) (replicate z.width (blank_cell s.attribute))
      (All-drop HasPrinted z.width s.screen h)
      (All-replicate HasPrinted z.width (blank_cell s.attribute) blank_printed))
  | inr ne ↦ rw (ne_eqb s.cursor.row z.lines ne) h
]

after_print : (z : Size) (s : State) → AllPrinted s → AllPrinted (advanced z s)
after_print z s h = elim (cases_lt (s.cursor.column + 1) z.width) [
  | inl more ↦ rw (lt-ltb (s.cursor.column + 1) z.width more) h
  | inr last ↦ rw (le-ltb (s.cursor.column + 1) z.width last) (wrapped s.wrap)
]
  where
    wrapped : (b : Bool) → AllPrinted (if b then line_feed z (record s { cursor = at s.cursor.row 0 }) else s)
    wrapped true = after_feed z (record s { cursor = at s.cursor.row 0 }) h
    wrapped false = h

after_put : (z : Size) (s : State) (byte : ℕ) → IsPrinted byte → AllPrinted s → AllPrinted (put z s byte)
after_put z s byte b h =
    let c : Cell = cell byte s.attribute in
    after_print z (record s { screen = set s.screen (index z s.cursor) c })
    (All-set HasPrinted s.screen (index z s.cursor) c b h)

after_blanks : (z : Size) (s : State) (count : ℕ) → AllPrinted s
    → AllPrinted (fold (put z) s (replicate count blank))
after_blanks z s zero h = h
after_blanks z s (suc count) h =
    after_blanks z (put z s blank) count (after_put z s blank blank_printed h)

after_step : (z : Size) (s : State) (t : TokenKind) → PrintsPrinted t → AllPrinted s → AllPrinted (step z s t)
after_step z s Clear b h = All-replicate HasPrinted (cell_count z) (blank_cell s.attribute) blank_printed
after_step z s EraseLine b h =
    All-filled HasPrinted s.screen (index z s.cursor) (next_row_start z s.cursor) (blank_cell s.attribute)
    blank_printed h
after_step z s LineFeed b h = after_feed z s h
after_step z s (Glyph byte) b h = after_put z s byte b h
after_step z s Tab b h = search (h, after_blanks)
after_step z s t b h = h

after_tokens : (z : Size) (s : State) (ts : List TokenKind) → AllByRecursion PrintsPrinted ts → AllPrinted s
    → AllPrinted (final z s ts)
after_tokens z s [] b h = h
after_tokens z s (t ∷ ts) b h = after_tokens z (step z s t) ts b.1 (after_step z s t b.0 h)

-- the low start of a class
low_printed : (z : Size) (class : Start) → AllPrinted (low_start z class)
low_printed z class = by_part class.screen
  where
    by_part : (known : Bool)
        → All HasPrinted
        (if known then replicate (cell_count z) (blank_cell 0x07) else replicate (cell_count z) (cell 0 0))
    by_part true = All-replicate HasPrinted (cell_count z) (blank_cell 0x07) blank_printed
    by_part false = All-replicate HasPrinted (cell_count z) (cell 0 0) zero_is_printed

-- ---- each cell of the picture
-- where a cell of the picture stands
pub position_of : Size → ℕ → Position
position_of z i = at (i / z.width) (i % z.width)

pub position_index : (z : Size) (i : ℕ) → 0 < z.width → index z (position_of z i) ≡ i
unfolding position_of
position_index z i w = omega arith

pub position_stated : (z : Size) (i : ℕ) → 0 < z.width → i < z.lines * z.width → IsStated z (position_of z i)
unfolding position_of
position_stated z i w l = ((div-lt_iff_lt-mul w).1 l, omega arith)

pub good_pictures_are_drawable : GoodPicturesAreDrawable
good_pictures_are_drawable z class content picture good unmarked =
    let w = good.size.some_columns in
    let low : State = low_start z class in
    let printed : AllPrinted (final z low good.tokens) =
    after_tokens z low good.tokens
    (tokens_printed good.tokens good.reads.0 good.reads.1.each (rw good.reads.1.whole at unmarked))
    (low_printed z class) in
    let screen : List Cell = (final z low good.tokens).screen in
    let is_picture = good.shows.is_picture in
    record {
      size = good.size;
      is_picture = is_picture;
      printed = λ k d lt.
          let x : Cell = get_or picture.cells k d in
          let within : k < z.lines * z.width = omega (arith, is_picture.count) in
          let shown : slice_get screen k ≡ slice_get picture.cells k =
          subst (λ (n : ℕ). slice_get screen n ≡ slice_get picture.cells n) (position_index z k w)
          (good.shows.shown low (position_of z k) (low_is_start z class w) (position_stated z k w within)) in
          let there : slice_get screen k ≡ Some x = shown ∙ slice_get-get_or picture.cells k d lt in
          subst (λ (c : Cell). IsPrinted c.byte) (get_or_from_slice_get screen k x d there)
          (printed k d (slice_get_within screen k x there));
    }
