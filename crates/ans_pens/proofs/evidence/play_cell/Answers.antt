use Rattle.std.proofs.Common.{◌≡◌, inl, inr, ℕ, ◌+◌, ◌-◌, List, length, Option, Some, refl, sym, ap, ◌∙◌, arith, subst}
use Rattle.std.specs.Prelude.{unwrap_or}
use Rattle.std.proofs.lemmas.Option.{slice_get-get_or}
use Rattle.ans_model.specs.Screen.State.{Size, State, FitsScreen, IsOnScreen, at, cell_at, index}
use Rattle.ans_model.specs.Screen.StartClass.{low_start, high_start}
use Rattle.ans_model.specs.Screen.Step.{blank_cell}
use Rattle.ans_model.specs.Verdict.LastFault.{IsLastFault}
use Rattle.ans_model.specs.File.Refusals.{fault_at}
use Rattle.ans_model.specs.declared.cell.Cell.{Cell}
use Rattle.ans_model.specs.declared.cell.Position.{Position}
use Rattle.ans_model.specs.declared.fault.Cause.TheVariants.{UnknownCell}
use Rattle.ans_model.specs.declared.fault.Fault.{Fault}
use Rattle.ans_model.specs.declared.start.Start.{Start}
use Rattle.ans_model.specs.Sequence.TokenKind.{TokenKind}
use Rattle.ans_model.specs.Sequence.Reads.{Reads}
use Rattle.ans_model.specs.Verdict.TokenFault.{IsClean}
use Rattle.ans_model.proofs.PositionLemmas.{index-lt, same_position}
use Rattle.ans_model.proofs.StartLemmas.{low_is_start, high_is_start}
use Rattle.ans_pens.specs.CellPlays.{kept, AreKept}
use Rattle.ans_pens.specs.Evidence.{ShowsCells}
use Rattle.ans_pens.specs.declared.cell_play.CellPlay.{CellPlay}
use Rattle.ans_pens.specs.declared.two_cell_plays.TwoCellPlays.{TwoCellPlays}
use Rattle.ans_pens.proofs.CleanSteps.{fits_there}
use Rattle.ans_pens.proofs.evidence.play_cell.Goals as goal

-- the cell that is kept is that of the screen
cell_is : (z : Size) (p : Position) (s : State) (w : CellPlay) → FitsScreen z s → IsOnScreen z p → w ≡ kept z p s
    → cell_at z s.screen p ≡ Some w.cell
cell_is z p s w fits on e =
    let here = slice_get-get_or s.screen (index z p) (blank_cell 0x07) (omega (arith, index-lt z p on, fits.cells)) in
    here ∙ sym (ap (λ (o : Option Cell). Some (unwrap_or o (blank_cell 0x07))) here)
    ∙ ap (λ (v : CellPlay). Some v.cell) (sym e)

-- what the plays show at the named cell
shows : (z : Size) (class : Start) (content : List ℕ) (row column : ℕ) (w : TwoCellPlays) (p : Position)
    → p ≡ at (row - 1) (column - 1)
    → IsLastFault z class content (fault_at (length content) (UnknownCell row column))
    → ((tokens : List TokenKind) → Reads content tokens → IsClean z class tokens → AreKept z class p tokens w)
    → ShowsCells z class content row column w.low.cell w.high.cell
shows z class content row column w p there (inl h) told =
    let cause = ap (λ (f : Fault). f.cause) h.fault_is in
    let no : ◌≡◌ {A = ℕ} 0 1 = cc in
    absurd (omega (arith, no))
shows z class content row column w p there (inr h) told =
    let some = h.size.some_columns in
    let cause = ap (λ (f : Fault). f.cause) h.fault_is in
    let row_is : row ≡ h.position.row + 1 = cc in
    let column_is : column ≡ h.position.column + 1 = cc in
    let same : p ≡ h.position =
    same_position p h.position (omega (arith, ap (λ (q : Position). q.row) there, row_is))
    (omega (arith, ap (λ (q : Position). q.column) there, column_is)) in
    let on : IsOnScreen z h.position = (omega (arith, h.first.stated.0), h.first.stated.1) in
    let here : AreKept z class h.position h.tokens w =
    subst (λ (q : Position). AreKept z class q h.tokens w) same (told h.tokens h.reads h.clean) in
    record {
      tokens = h.tokens;
      reads = h.reads;
      position = h.position;
      row_is = row_is;
      column_is = column_is;
      low_is = cell_is z h.position _ w.low
          (fits_there z class h.tokens some (low_start z class) (low_is_start z class some)) on here.low;
      high_is = cell_is z h.position _ w.high
          (fits_there z class h.tokens some (high_start z class) (high_is_start z class some)) on here.high;
    }

pub returns : goal.returns
returns c =
    shows c.args.size c.args.start c.args.content.now c.args.row c.args.column c.play_tokens-plays.result _ refl
    c.requires.named c.play_tokens-plays.ensures.kept
