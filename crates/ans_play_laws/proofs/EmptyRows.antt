-- The rows down to the lowest in which something is printed.
use Rattle.std.proofs.Common.{◌≡◌, ◌⊎◌, inl, inr, ℕ, zero, suc, ◌+◌, ◌-◌, ◌%◌, ◌<◌, ◌≤◌, List, []}
use Rattle.std.proofs.Common.{◌∷◌, take, refl, sym, ◌∙◌, arith, Some, subst}
use Rattle.std.proofs.Math.Nat.{mod-lt}
use Rattle.std.proofs.lemmas.Bool.{cases_lt}
use Rattle.std.specs.Prelude.{slice_get}
use Rattle.ans_model.specs.Sequence.TokenKind.{TokenKind, Glyph, Tab}
use Rattle.ans_model.specs.Screen.State.{Size, State}
use Rattle.ans_model.specs.Screen.Step.{final, step, tab_blanks}
use Rattle.ans_model.specs.Screen.StartClass.{cleared}
use Rattle.ans_pens.specs.Pens.{before_last_blank}
use Rattle.ans_pens.proofs.PenSteps.{more_blanks_lower}
use Rattle.ans_hints.specs.Rows.{empty_with, empty_after, empty_rows}
use Rattle.ans_play_laws.specs.RowLaws.{PrintsIn, SomePrintsIn, EmptyRowsHoldNothing, NoMoreRowsAreEmpty}

-- ---- the rows never become more
with_fewer : (z : Size) (s : State) (empty : ℕ) (t : TokenKind) → empty_with z s empty t ≤ empty
with_fewer z s empty (Glyph byte) = omega arith
with_fewer z s empty Tab = omega arith
with_fewer z s empty _ = omega arith

after_fewer : (z : Size) (s : State) (empty : ℕ) (tokens : List TokenKind) → empty_after z s empty tokens ≤ empty
after_fewer z s empty [] = omega arith
after_fewer z s empty (t ∷ tokens) =
    omega (arith, with_fewer z s empty t, after_fewer z (step z s t) (empty_with z s empty t) tokens)

-- ---- no row in which something is printed is one of them
token_counts : (z : Size) (s : State) (empty : ℕ) (t : TokenKind) (row : ℕ) → PrintsIn z s t row → row < z.lines
    → row + empty_with z s empty t < z.lines
token_counts z s empty (Glyph byte) row h stated = omega (arith, h, stated)
token_counts z s empty Tab row (n, less, h) stated =
    omega (arith, h, stated, more_blanks_lower z s n (tab_blanks s.cursor.column - 1) (omega (arith, less)))
token_counts z s empty _ row h stated = absurd h

counts : (z : Size) (s : State) (empty : ℕ) (tokens : List TokenKind) (row k : ℕ) (t : TokenKind)
    → slice_get tokens k ≡ Some t → PrintsIn z (final z s (take k tokens)) t row → row < z.lines
    → row + empty_after z s empty tokens < z.lines
counts z s empty [] row k t e h stated = absurd (cc)
counts z s empty (u ∷ tokens) row zero t e h stated =
    let same : u ≡ t = cc in
    omega (
      arith,
      token_counts z s empty u row (subst (λ (v : TokenKind). PrintsIn z s v row) (sym same) h) stated,
      after_fewer z (step z s u) (empty_with z s empty u) tokens,
    )
counts z s empty (u ∷ tokens) row (suc k) t e h stated =
    counts z (step z s u) (empty_with z s empty u) tokens row k t e h stated

pub empty_rows_hold_nothing : EmptyRowsHoldNothing
empty_rows_hold_nothing z tokens row h stated =
    counts z (cleared z) z.lines tokens row h.k h.token h.is_token h.prints stated

some_blank : (column : ℕ) → tab_blanks column - 1 < tab_blanks column
some_blank column = let less : column % 8 < 8 = mod-lt column (omega arith) in omega (arith, less)

-- ---- in the row above them something is printed
with_last : (z : Size) (s : State) (empty : ℕ) (t : TokenKind) → (empty_with z s empty t ≡ empty)
    ⊎ ((row : ℕ) × PrintsIn z s t row × (empty_with z s empty t ≡ z.lines - (row + 1)))
with_last z s empty (Glyph byte) = elim (cases_lt (z.lines - (s.cursor.row + 1)) empty) [
  | inl less ↦ inr (s.cursor.row, refl, omega (arith, less))
  | inr more ↦ inl (omega (arith, more))
]
with_last z s empty Tab = elim (cases_lt (z.lines - ((before_last_blank z s).cursor.row + 1)) empty) [
  | inl less ↦ inr (
    (before_last_blank z s).cursor.row,
    (tab_blanks s.cursor.column - 1, some_blank s.cursor.column, refl),
    omega (arith, less),
  )
  | inr more ↦ inl (omega (arith, more))
]
with_last z s empty _ = inl refl

after_last : (z : Size) (s : State) (empty : ℕ) (tokens : List TokenKind) → (empty_after z s empty tokens ≡ empty)
    ⊎ ((row : ℕ) × SomePrintsIn z s tokens row × (empty_after z s empty tokens ≡ z.lines - (row + 1)))
after_last z s empty [] = inl refl
after_last z s empty (t ∷ tokens) = elim (after_last z (step z s t) (empty_with z s empty t) tokens) [
  | inr (row, h, e) ↦ inr (row, record { k = suc h.k; token = h.token; is_token = h.is_token; prints = h.prints }, e)
  | inl same ↦ elim (with_last z s empty t) [
    | inl kept ↦ inl (same ∙ kept)
    | inr (row, h, e) ↦ inr (row, record { k = 0; token = t; is_token = refl; prints = h }, same ∙ e)
  ]
]

pub no_more_rows_are_empty : NoMoreRowsAreEmpty
no_more_rows_are_empty z tokens some less = elim (after_last z (cleared z) z.lines tokens) [
  | inl none ↦ absurd (omega (arith, none, less))
  | inr (row, h, e) ↦
      let here : row ≡ z.lines - empty_rows z tokens - 1 = omega (arith, e, some) in
      subst (λ (n : ℕ). SomePrintsIn z (cleared z) tokens n) here h
]
