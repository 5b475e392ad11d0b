-- What stands before a fault that is deserved: clean tokens, and a tab's fault where the rest begins with a tab.
use Rattle.std.proofs.Common.{◌≡◌, ◌⊎◌, inl, inr, ℕ, Bool, true, false, List, [], ◌∷◌, ◌++◌, refl, sym, ap}
use Rattle.std.proofs.Common.{arith, subst, lit<}
use Rattle.std.proofs.lemmas.Bool.{eqb-true}
use Rattle.std.proofs.lemmas.List.{append-nil}
use Rattle.ans_model.specs.Sequence.TokenKind.{TokenKind, Tab}
use Rattle.ans_model.specs.Sequence.Reads.{IsReadUpTo, SpellsToken}
use Rattle.ans_model.specs.Screen.State.{Size, IsSize}
use Rattle.ans_model.specs.declared.cell.Position.{Position}
use Rattle.ans_model.specs.declared.fault.Fault.{Fault}
use Rattle.ans_model.specs.declared.start.Start.{Start}
use Rattle.ans_model.specs.Verdict.TokenFault.{HasFault, HasTabFault, IsClean, then_blanks}
use Rattle.ans_model.specs.Verdict.FirstFault.{IsToBlame, IsRefused}
use Rattle.ans_model.proofs.CleanLemmas.{read_before_first, read_before_sequence, read_to_the_end}
use Rattle.ans_model.proofs.Reading.{one_token_in_front, refused_no_token, unfinished_first}
use Rattle.ans_model.proofs.Spelling.{first_or}
use Rattle.ans_pens.specs.CellPlays.{AreKept}
use Rattle.ans_model.specs.Verdict.LastFault.{IsDeserved}
use Rattle.ans_pens.specs.Evidence.{IsPlayedBefore, ShowsCursors, begins_with_tab}
use Rattle.ans_pens.specs.declared.cell_play.CellPlay.{CellPlay}
use Rattle.ans_pens.specs.declared.two_cell_plays.TwoCellPlays.{TwoCellPlays}

-- the content before the fault is read as clean tokens
pub record IsBefore (z : Size) (class : Start) (content : List ℕ) (fault : Fault) : Type 0 where
  pub size : IsSize z
  pub tokens : List TokenKind
  pub rest : List ℕ
  pub read : IsReadUpTo content fault.offset tokens rest
  pub clean : IsClean z class tokens
  pub tab : begins_with_tab rest ≡ true → HasTabFault z class tokens fault.cause

-- a tab is a byte alone
tab_alone : SpellsToken Tab (0x09 ∷ [])
tab_alone = inl (record {
  byte = 0x09;
  is_byte = lit< tt;
  not_escape = λ e. absurd (omega (arith, e));
  whole = refl;
  means = refl;
})

-- bytes that begin with a tab are a tab and others
tab_first : (bytes : List ℕ) → begins_with_tab bytes ≡ true → (more : List ℕ) × (bytes ≡ (0x09 ∷ []) ++ more)
tab_first [] e = absurd (cc)
tab_first (b ∷ bytes) e = (bytes, ap (λ (n : ℕ). n ∷ bytes) (eqb-true b 0x09 e))

module _ (z : Size) (class : Start) (content : List ℕ) (fault : Fault) where
  -- a token whose text begins with a tab is one
  tab_blamed : (tokens : List TokenKind) (text rest : List ℕ)
      → IsToBlame z class tokens text fault.cause ⊎ IsRefused text fault.cause
      → begins_with_tab (text ++ rest) ≡ true → HasTabFault z class tokens fault.cause
  tab_blamed tokens text rest (inl b) e =
      let (more, first) = tab_first (text ++ rest) e in
      let same = one_token_in_front b.token Tab text (0x09 ∷ []) rest more b.spelled tab_alone first in
      of_tab (subst (λ (t : TokenKind). HasFault z class tokens t fault.cause) same.0 b.fault)
    where
      of_tab : HasFault z class tokens Tab fault.cause → HasTabFault z class tokens fault.cause
      of_tab (inl f) = absurd f
      of_tab (inr f) = f
  tab_blamed tokens text rest (inr refused) e =
      let (more, first) = tab_first (text ++ rest) e in
      absurd (refused_no_token Tab text (0x09 ∷ []) rest more fault.cause refused tab_alone first)

  pub stands_before : IsDeserved z class content fault → IsBefore z class content fault
  stands_before (inl h) = record {
    size = h.size;
    tokens = h.tokens;
    rest = h.text ++ h.rest;
    read = read_before_first z class content fault h;
    clean = h.clean;
    tab = tab_blamed h.tokens h.text h.rest h.faulty;
  }
  stands_before (inr (inl h)) = record {
    size = h.size;
    tokens = h.tokens;
    rest = h.text;
    read = read_before_sequence z class content fault h;
    clean = h.clean;
    tab = λ e.
        let (more, first) = tab_first h.text e in
        let escape : first_or 0 (h.text ++ []) ≡ 0x1B = unfinished_first h.text [] h.unfinished in
        let tab : first_or 0 (h.text ++ []) ≡ 0x09 = rw (append-nil h.text, first) refl in
        absurd (omega (arith, escape, tab));
  }
  stands_before (inr (inr h)) = record {
    size = h.size;
    tokens = h.tokens;
    rest = [];
    read = read_to_the_end z class content fault h;
    clean = h.clean;
    tab = λ e. absurd (cc);
  }

-- ---- what the plays before the fault show
module _ (z : Size) (class : Start) (content : List ℕ) (fault : Fault) (b : IsBefore z class content fault)
    (p : Position) (w : TwoCellPlays) where
  -- these tokens are played before the fault
  shows_after : (played : List TokenKind)
      → IsPlayedBefore z class b.tokens (begins_with_tab b.rest) fault.cause played → AreKept z class p played w
      → ShowsCursors z class content fault w.low.pen.cursor w.high.pen.cursor
  shows_after played before plays = record {
    played = played;
    stands = record { tokens = b.tokens; rest = b.rest; read = b.read; before = before };
    low_is = ap (λ (v : CellPlay). v.pen.cursor) plays.low;
    high_is = ap (λ (v : CellPlay). v.pen.cursor) plays.high;
  }

  -- before a token
  pub shows_before_token : begins_with_tab b.rest ≡ false → AreKept z class p b.tokens w
      → ShowsCursors z class content fault w.low.pen.cursor w.high.pen.cursor
  shows_before_token no_tab =
      shows_after b.tokens
      (subst (λ (t : Bool). IsPlayedBefore z class b.tokens t fault.cause b.tokens) (sym no_tab) refl)

  -- before a blank of a tab
  pub shows_before_blank : (tab : begins_with_tab b.rest ≡ true)
      → AreKept z class p (then_blanks b.tokens (b.tab tab).blanks_before) w
      → ShowsCursors z class content fault w.low.pen.cursor w.high.pen.cursor
  shows_before_blank tab =
      let played : List TokenKind = then_blanks b.tokens (b.tab tab).blanks_before in
      shows_after played
      (subst (λ (t : Bool). IsPlayedBefore z class b.tokens t fault.cause played) (sym tab) (b.tab tab, refl))
