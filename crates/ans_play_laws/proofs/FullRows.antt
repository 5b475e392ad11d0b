-- Full rows that a line feed ends, by the shape of the tokens before it.
use Rattle.std.proofs.Common.{◌≡◌, ◌⊎◌, inl, inr, ℕ, ◌+◌, ◌≤◌, Bool, true, false, List, [], ◌∷◌, ◌++◌, length, refl}
use Rattle.std.proofs.Common.{ap, arith, sym, ◌∙◌, length-append}
use Rattle.std.specs.Prelude.{◌&&◌, ◌==◌, if◌then◌else◌, IsTrue}
use Rattle.std.specs.List.{AllByRecursion}
use Rattle.std.proofs.lemmas.Bool.{false≢true}
use Rattle.ans_model.specs.Sequence.TokenKind.{TokenKind, Glyph, Bell, CarriageReturn, EraseLine}
use Rattle.ans_model.specs.Sequence.TokenKind.{Save, Colours, Wrap}
use Rattle.ans_model.specs.Screen.State.{Size, State}
use Rattle.ans_model.specs.Screen.Step.{step, final}
use Rattle.ans_model.specs.Screen.StartClass.{cleared}
use Rattle.ans_hints.specs.declared.row.EndedRow.{EndedRow}
use Rattle.ans_hints.specs.declared.row.Row.{Row}
use Rattle.ans_hints.specs.declared.row.Seam.TheVariants.{Other, Wrapped, Stuck}
use Rattle.ans_hints.specs.RowEnds.{Written, ended_by_line_feed, first_row, is_wrapped, nothing_written, returned_or}
use Rattle.ans_hints.specs.RowEnds.{row_with, wraps, written_after, written_with}
use Rattle.ans_play_laws.specs.RowEndLaws.{IsQuiet, EndsFull, EndsReturned, LineFeedEndsFullRow}
use Rattle.ans_hints.specs.RowEnds.{written_by}

-- ---- the last token that is not quiet

-- the tokens end in this one, which is not quiet, and then only in quiet tokens
record LastLoud (tokens : List TokenKind) : Type 0 where
  front : List TokenKind
  token : TokenKind
  quiet : List TokenKind
  are : tokens ≡ front ++ token ∷ quiet
  loud : IsQuiet token → ⊥
  are_quiet : AllByRecursion IsQuiet quiet

quiet_or_loud : (t : TokenKind) → IsQuiet t ⊎ (IsQuiet t → ⊥)
quiet_or_loud Bell = inl tt
quiet_or_loud EraseLine = inl tt
quiet_or_loud Save = inl tt
quiet_or_loud (Colours parameters) = inl tt
quiet_or_loud (Wrap on) = inl tt
quiet_or_loud _ = inr (λ h. h)

last_loud : (tokens : List TokenKind) → AllByRecursion IsQuiet tokens ⊎ LastLoud tokens
last_loud [] = inl tt
last_loud (t ∷ tokens) = elim (last_loud tokens) [
  | inr h ↦ inr (record {
    front = t ∷ h.front;
    token = h.token;
    quiet = h.quiet;
    are = ap (λ (rest : List TokenKind). t ∷ rest) h.are;
    loud = h.loud;
    are_quiet = h.are_quiet;
  })
  | inl all ↦ elim (quiet_or_loud t) [
    | inl quiet ↦ inl (quiet, all)
    | inr loud ↦ inr (record { front = []; token = t; quiet = tokens; are = refl; loud = loud; are_quiet = all })
  ]
]

-- ---- the row behind it

quiet_keeps : (z : Size) (s : State) (offset : ℕ) (row : Row) (t : TokenKind) → IsQuiet t
    → row_with z s offset row t ≡ row
quiet_keeps z s offset row Bell quiet = refl
quiet_keeps z s offset row EraseLine quiet = refl
quiet_keeps z s offset row Save quiet = refl
quiet_keeps z s offset row (Colours parameters) quiet = refl
quiet_keeps z s offset row (Wrap on) quiet = refl
quiet_keeps z s offset row _ quiet = absurd quiet

all_quiet_keep : (z : Size) (s : State) (offset : ℕ) (w : Written) (tokens : List TokenKind) (texts : List (List ℕ))
    → AllByRecursion IsQuiet tokens → (written_after z s offset w tokens texts).row ≡ w.row
all_quiet_keep z s offset w [] texts quiet = refl
all_quiet_keep z s offset w (t ∷ tokens) [] quiet = refl
all_quiet_keep z s offset w (t ∷ tokens) (text ∷ texts) quiet =
    all_quiet_keep z (step z s t) (offset + length text) (written_with z s offset w t) tokens texts quiet.1
    ∙ quiet_keeps z s offset w.row t quiet.0

-- the row is what the token has made of the one before it, at some offset
abbrev IsMadeBy : Size → State → Row → TokenKind → Row → Type 0
IsMadeBy z s before t after = (offset : ℕ) × (after ≡ row_with z s offset before t)

made_by : (z : Size) (s : State) (offset : ℕ) (w : Written) (front : List TokenKind) (t : TokenKind)
    (quiet : List TokenKind) (texts : List (List ℕ)) → length (front ++ t ∷ quiet) ≤ length texts
    → AllByRecursion IsQuiet quiet
    → IsMadeBy z (final z s front) (written_after z s offset w front texts).row t
    (written_after z s offset w (front ++ t ∷ quiet) texts).row
made_by z s offset w [] t quiet [] long are_quiet = absurd (omega (arith, long))
made_by z s offset w [] t quiet (text ∷ texts) long are_quiet = (
  offset,
  all_quiet_keep z (step z s t) (offset + length text) (written_with z s offset w t) quiet texts are_quiet,
)
made_by z s offset w (u ∷ front) t quiet [] long are_quiet = absurd (omega (arith, long))
made_by z s offset w (u ∷ front) t quiet (text ∷ texts) long are_quiet =
    made_by z (step z s u) (offset + length text) (written_with z s offset w u) front t quiet texts
    (omega (arith, long)) are_quiet

-- ---- what a token that is not quiet makes of the row

-- behind a glyph
wrapped_behind : (last wrap : Bool)
    → is_wrapped (if last then (if wrap then Wrapped else Stuck) else Other) ≡ (last && wrap)
wrapped_behind true true = refl
wrapped_behind true false = refl
wrapped_behind false wrap = refl

-- a line feed there ends a row that no return has ended
no_return_behind : (last wrap : Bool) (row : EndedRow)
    → returned_or (if last then (if wrap then Wrapped else Stuck) else Other) row ≡ row
no_return_behind true true row = refl
no_return_behind true false row = refl
no_return_behind false wrap row = refl

-- the token is a glyph that wraps
abbrev WrappingGlyph : Size → State → TokenKind → Type 0
WrappingGlyph z s t = (byte : ℕ) × (t ≡ Glyph byte) × IsTrue (wraps z s)

wrapped_by : (z : Size) (s : State) (offset : ℕ) (row : Row) (t : TokenKind) → (IsQuiet t → ⊥)
    → IsTrue (is_wrapped (row_with z s offset row t).seam) → WrappingGlyph z s t
wrapped_by z s offset row (Glyph byte) loud h =
    (byte, refl, sym (wrapped_behind (s.cursor.column + 1 == z.width) s.wrap) ∙ h)
wrapped_by z s offset row Bell loud h = absurd (loud tt)
wrapped_by z s offset row EraseLine loud h = absurd (loud tt)
wrapped_by z s offset row Save loud h = absurd (loud tt)
wrapped_by z s offset row (Colours parameters) loud h = absurd (loud tt)
wrapped_by z s offset row (Wrap on) loud h = absurd (loud tt)
wrapped_by z s offset row _ loud h = absurd (false≢true h)

-- the row that a line feed ends behind a glyph is full where the glyph wraps
glyph_fills : (z : Size) (s here : State) (offset at : ℕ) (row : Row) (byte : ℕ)
    → (ended_by_line_feed z here at (row_with z s offset row (Glyph byte))).is_full ≡ wraps z s
glyph_fills z s here offset at row byte =
    ap (λ (ended : EndedRow). ended.is_full) (no_return_behind (s.cursor.column + 1 == z.width) s.wrap _)
    ∙ wrapped_behind (s.cursor.column + 1 == z.width) s.wrap

full_by : (z : Size) (s here : State) (offset at : ℕ) (row : Row) (t : TokenKind) → (IsQuiet t → ⊥)
    → IsTrue (ended_by_line_feed z here at (row_with z s offset row t)).is_full
    → WrappingGlyph z s t ⊎ ((t ≡ CarriageReturn) × IsTrue (is_wrapped row.seam))
full_by z s here offset at row (Glyph byte) loud h =
    inl (byte, refl, sym (glyph_fills z s here offset at row byte) ∙ h)
full_by z s here offset at row CarriageReturn loud h = inr (refl, h)
full_by z s here offset at row Bell loud h = absurd (loud tt)
full_by z s here offset at row EraseLine loud h = absurd (loud tt)
full_by z s here offset at row Save loud h = absurd (loud tt)
full_by z s here offset at row (Colours parameters) loud h = absurd (loud tt)
full_by z s here offset at row (Wrap on) loud h = absurd (loud tt)
full_by z s here offset at row _ loud h = absurd (false≢true h)

-- ---- the play from the cleared start
module _ (z : Size) (texts : List (List ℕ)) where
  abbrev row_behind : List TokenKind → Row
  row_behind tokens = (written_by z tokens texts).row

  abbrev at_end : List TokenKind → State
  at_end tokens = final z (cleared z) tokens

  made : (tokens front : List TokenKind) (t : TokenKind) (quiet : List TokenKind) → tokens ≡ front ++ t ∷ quiet
      → length tokens ≤ length texts → AllByRecursion IsQuiet quiet
      → IsMadeBy z (at_end front) (row_behind front) t (row_behind tokens)
  made tokens front t quiet are long are_quiet =
      let e : length tokens ≡ length (front ++ t ∷ quiet) = ap length are in
      let h : IsMadeBy z (at_end front) (row_behind front) t (row_behind (front ++ t ∷ quiet)) =
      made_by z (cleared z) 0 (nothing_written z) front t quiet texts (omega (arith, e, long)) are_quiet in
      (h.0, ap row_behind are ∙ h.1)

  front_fits : (tokens front : List TokenKind) (t : TokenKind) (quiet : List TokenKind) → tokens ≡ front ++ t ∷ quiet
      → length tokens ≤ length texts → length front ≤ length texts
  front_fits tokens front t quiet are long =
      let e : length tokens ≡ length (front ++ t ∷ quiet) = ap length are in
      omega (arith, e, long, length-append front (t ∷ quiet))

  ends_full : (tokens : List TokenKind) (h : LastLoud tokens) → WrappingGlyph z (at_end h.front) h.token
      → EndsFull z (cleared z) tokens
  ends_full tokens h (byte, is, wraps) = record {
    front = h.front;
    byte = byte;
    quiet = h.quiet;
    are = h.are ∙ ap (λ (t : TokenKind). h.front ++ t ∷ h.quiet) is;
    wraps = wraps;
    are_quiet = h.are_quiet;
  }

  wrapped_ends_full : (tokens : List TokenKind) → length tokens ≤ length texts
      → IsTrue (is_wrapped (row_behind tokens).seam) → EndsFull z (cleared z) tokens
  wrapped_ends_full tokens long wrapped = elim (last_loud tokens) [
    | inl all ↦
        let same : row_behind tokens ≡ first_row =
        all_quiet_keep z (cleared z) 0 (nothing_written z) tokens texts all in
        absurd (false≢true (sym (ap (λ (row : Row). is_wrapped row.seam) same) ∙ wrapped))
    | inr h ↦
        let m : IsMadeBy z (at_end h.front) (row_behind h.front) h.token (row_behind tokens) =
        made tokens h.front h.token h.quiet h.are long h.are_quiet in
        ends_full tokens h (wrapped_by z (at_end h.front) m.0 (row_behind h.front) h.token h.loud
        (sym (ap (λ (row : Row). is_wrapped row.seam) m.1) ∙ wrapped))
  ]

  full_ends_wrapped : (tokens : List TokenKind) → length tokens ≤ length texts → EndsFull z (cleared z) tokens
      → IsTrue (is_wrapped (row_behind tokens).seam)
  full_ends_wrapped tokens long h =
      let m : IsMadeBy z (at_end h.front) (row_behind h.front) (Glyph h.byte) (row_behind tokens) =
      made tokens h.front (Glyph h.byte) h.quiet h.are long h.are_quiet in
      let here : State = at_end h.front in
      ap (λ (row : Row). is_wrapped row.seam) m.1
      ∙ wrapped_behind (here.cursor.column + 1 == z.width) here.wrap ∙ h.wraps

  ends_as_told : (tokens : List TokenKind) (offset : ℕ) → length tokens ≤ length texts
      → IsTrue (ended_by_line_feed z (at_end tokens) offset (row_behind tokens)).is_full
      → EndsFull z (cleared z) tokens ⊎ EndsReturned z (cleared z) tokens
  ends_as_told tokens offset long full = elim (last_loud tokens) [
    | inl all ↦
        let same : row_behind tokens ≡ first_row =
        all_quiet_keep z (cleared z) 0 (nothing_written z) tokens texts all in
        absurd (false≢true (sym (ap (λ (row : Row). (ended_by_line_feed z (at_end tokens) offset row).is_full) same)
        ∙ full))
    | inr h ↦
        let m : IsMadeBy z (at_end h.front) (row_behind h.front) h.token (row_behind tokens) =
        made tokens h.front h.token h.quiet h.are long h.are_quiet in
        elim (full_by z (at_end h.front) (at_end tokens) m.0 offset (row_behind h.front) h.token h.loud
        (sym (ap (λ (row : Row). (ended_by_line_feed z (at_end tokens) offset row).is_full) m.1) ∙ full)) [
          | inl wraps ↦ inl (ends_full tokens h wraps)
          | inr (is, wrapped) ↦ inr (record {
            front = h.front;
            quiet = h.quiet;
            are = h.are ∙ ap (λ (t : TokenKind). h.front ++ t ∷ h.quiet) is;
            full = wrapped_ends_full h.front (front_fits tokens h.front h.token h.quiet h.are long) wrapped;
            are_quiet = h.are_quiet;
          })
        ]
  ]

  full_ends : (tokens : List TokenKind) (offset : ℕ) → length tokens ≤ length texts
      → EndsFull z (cleared z) tokens ⊎ EndsReturned z (cleared z) tokens
      → IsTrue (ended_by_line_feed z (at_end tokens) offset (row_behind tokens)).is_full
  full_ends tokens offset long (inl h) =
      let m : IsMadeBy z (at_end h.front) (row_behind h.front) (Glyph h.byte) (row_behind tokens) =
      made tokens h.front (Glyph h.byte) h.quiet h.are long h.are_quiet in
      ap (λ (row : Row). (ended_by_line_feed z (at_end tokens) offset row).is_full) m.1
      ∙ glyph_fills z (at_end h.front) (at_end tokens) m.0 offset (row_behind h.front) h.byte ∙ h.wraps
  full_ends tokens offset long (inr h) =
      let m : IsMadeBy z (at_end h.front) (row_behind h.front) CarriageReturn (row_behind tokens) =
      made tokens h.front CarriageReturn h.quiet h.are long h.are_quiet in
      ap (λ (row : Row). (ended_by_line_feed z (at_end tokens) offset row).is_full) m.1
      ∙ full_ends_wrapped h.front (front_fits tokens h.front CarriageReturn h.quiet h.are long) h.full

pub line_feed_ends_full_row : LineFeedEndsFullRow
line_feed_ends_full_row z tokens texts offset long = (
  ends_as_told z texts tokens offset (omega (arith, long)),
  full_ends z texts tokens offset (omega (arith, long)),
)
