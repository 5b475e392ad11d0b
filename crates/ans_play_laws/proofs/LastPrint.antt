-- What is counted as in front of something printed, by the last token that prints.
use Rattle.std.proofs.Common.{◌≡◌, ℕ, ◌+◌, ◌≤◌, List, [], ◌∷◌, ◌++◌, length, take, refl, sym, ap, arith, subst}
use Rattle.std.specs.List.{AllByRecursion}
use Rattle.ans_model.specs.Sequence.TokenKind.{TokenKind, Glyph, Tab, LineFeed, CarriageReturn}
use Rattle.ans_model.specs.Screen.State.{Size, State}
use Rattle.ans_model.specs.Screen.Step.{final, step}
use Rattle.ans_model.specs.Screen.StartClass.{cleared}
use Rattle.ans_hints.specs.declared.row.Row.{Row}
use Rattle.ans_hints.specs.declared.row_ends.RowEnds.{RowEnds}
use Rattle.ans_hints.specs.RowEnds.{Written, nothing_written, row_ends_with, written_after, written_with}
use Rattle.ans_play_laws.specs.RowEndLaws.{Prints, CountsBefore, CountsBeforeLastPrint}
use Rattle.ans_hints.specs.RowEnds.{written_by}

-- the token that prints takes over what has been counted
print_counts : (z : Size) (s : State) (offset : ℕ) (row : Row) (ends : RowEnds) (t : TokenKind) → Prints t
    → CountsBefore (row_ends_with z s offset row ends t) ends s.cursor.row
print_counts z s offset row ends (Glyph byte) prints = record { full = refl; ended = refl }
print_counts z s offset row ends Tab prints = record { full = refl; ended = refl }
print_counts z s offset row ends _ prints = absurd prints

-- another token leaves it
other_keeps : (z : Size) (s : State) (offset : ℕ) (row : Row) (ends before : RowEnds) (there : ℕ) (t : TokenKind)
    → ¬ Prints t → CountsBefore ends before there → CountsBefore (row_ends_with z s offset row ends t) before there
other_keeps z s offset row ends before there (Glyph byte) none h = absurd (none tt)
other_keeps z s offset row ends before there Tab none h = absurd (none tt)
other_keeps z s offset row ends before there LineFeed none h = record { full = h.full; ended = h.ended }
other_keeps z s offset row ends before there CarriageReturn none h = record { full = h.full; ended = h.ended }
other_keeps z s offset row ends before there _ none h = h

others_keep : (z : Size) (s : State) (offset : ℕ) (w : Written) (before : RowEnds) (there : ℕ)
    (tokens : List TokenKind) (texts : List (List ℕ)) → AllByRecursion (λ t. ¬ Prints t) tokens
    → CountsBefore w.ends before there → CountsBefore (written_after z s offset w tokens texts).ends before there
others_keep z s offset w before there [] texts none h = h
others_keep z s offset w before there (t ∷ tokens) [] none h = h
others_keep z s offset w before there (t ∷ tokens) (text ∷ texts) none h =
    others_keep z (step z s t) (offset + length text) (written_with z s offset w t) before there tokens texts none.1
    (other_keeps z s offset w.row w.ends before there t none.0 h)

last_counts : (z : Size) (s : State) (offset : ℕ) (w : Written) (front : List TokenKind) (t : TokenKind)
    (later : List TokenKind) (texts : List (List ℕ)) → length (front ++ t ∷ later) ≤ length texts → Prints t
    → AllByRecursion (λ t. ¬ Prints t) later
    → CountsBefore (written_after z s offset w (front ++ t ∷ later) texts).ends
    (written_after z s offset w front (take (length front) texts)).ends (final z s front).cursor.row
last_counts z s offset w [] t later [] long prints none = absurd (omega (arith, long))
last_counts z s offset w [] t later (text ∷ texts) long prints none =
    others_keep z (step z s t) (offset + length text) (written_with z s offset w t) w.ends s.cursor.row later texts none
    (print_counts z s offset w.row w.ends t prints)
last_counts z s offset w (u ∷ front) t later [] long prints none = absurd (omega (arith, long))
last_counts z s offset w (u ∷ front) t later (text ∷ texts) long prints none =
    last_counts z (step z s u) (offset + length text) (written_with z s offset w u) front t later texts
    (omega (arith, long)) prints none

pub counts_before_last_print : CountsBeforeLastPrint
counts_before_last_print z tokens front texts long h =
    let e : length tokens ≡ length (front ++ h.token ∷ h.later) = ap length h.are in
    subst (λ (all : List TokenKind). CountsBefore (written_by z all texts).ends
    (written_by z front (take (length front) texts)).ends (final z (cleared z) front).cursor.row) (sym h.are)
    (last_counts z (cleared z) 0 (nothing_written z) front h.token h.later texts (omega (arith, long, e)) h.prints
    h.none_later)
