use Rattle.std.proofs.Common.{◌≡◌, ◌+◌, ◌*◌, ◌/◌, ◌%◌, ◌<◌, ◌≤◌, sym, ap, ◌∙◌, List, [], ℕ, Some, None, arith, rules}
use Rattle.std.proofs.Common.{length, length-append, inl}
use Rattle.std.specs.Prelude.{Err}
use Rattle.std.proofs.lemmas.Nat.{mul-le}
use Rattle.std.proofs.Math.Nat.{div-lt_iff_lt-mul}
use Rattle.ans_model.specs.Bytes.{most_columns, most_lines}
use Rattle.ans_model.specs.Screen.State.{IsPlayableSize, Size}
use Rattle.ans_screen.specs.GridEdits.{first_unknown}
use Rattle.ans_screen.specs.declared.cell.HalfCell.{HalfCell}
use Rattle.ans_tokens.specs.ScannerView.{Holds}
use Rattle.ans_play.specs.PlayView.{PlayView}
use Rattle.ans_play.proofs.Finishing.{known_if, ends_good, ends_unknown, no_cell}
use Rattle.ans_play.proofs.KnownCells.{found_unknown}
use Rattle.ans_model.specs.File.Refusals.{fault_at}
use Rattle.ans_model.specs.Sequence.Spelling.{IsUnfinished}
use Rattle.ans_model.specs.Verdict.LastFault.{IsLastFault}
use Rattle.ans_model.specs.declared.fault.Cause.TheVariants.{EndInSequence}
use Rattle.ans_model.specs.declared.fault.Fault.{Fault}
use Rattle.ans_model.specs.declared.start.Start.{Start}
use Rattle.ans_play.specs.HalfState.{HalfState}
use Rattle.ans_play.specs.Stands.{IsPlayed}
use Rattle.ans_tokens.specs.ScannerView.{ScannerView}
use Rattle.ans_play.proofs.play.Play.finish.Goals as goal

-- the row and the column of a cell of the stated lines, counted from 1, are small
record IsPlace (row column : ℕ) : Type 0 where
  row_fits : row + 1 < 65536
  column_fits : column + 1 < 65536

place_fits : {z : Size} {lines width i : ℕ} (cells : List HalfCell) → IsPlayableSize z → lines ≡ z.lines
    → width ≡ z.width → first_unknown cells (lines * width) ≡ Some i → IsPlace (i / width) (i % width)
place_fits {z} {lines} {width} {i} cells limits same_lines same_width found =
    let some : 0 < width = omega (arith, limits.some_columns, same_width) in
    let row : i / width < lines =
    (div-lt_iff_lt-mul some).1 (found_unknown cells (lines * width) i no_cell found).within in
    let column : i % width < width = omega arith in
    record {
      row_fits = omega (arith, row, limits.lines, same_lines);
      column_fits = omega (arith, column, limits.columns, same_width);
    }

pub new-requires : goal.new-requires
new-requires g c = record {
  shown = record {
    enough = omega (
      arith,
      c.self.invariant.cells,
      mul-le c.self.inside.size.lines c.self.inside.size.width (c.self.inside.size.lines + 1) c.self.inside.size.width
          (omega arith) (omega arith),
    );
    known = known_if (g.G.Screen.cells_of c.self.inside.grid) (c.self.inside.size.lines * c.self.inside.size.width)
        (rw (c.lines.ensures.lines, c.width-width.ensures.width) at (sym c.first_unknown.ensures ∙ c.in-None.is));
    bytes = c.self.invariant.bytes;
  };
  width = c.self.inside.grid_width;
  rows = omega (arith, c.self.inside.grid_rows);
}

pub returns-in-None-clause-ends : goal.returns-in-None-clause-ends
returns-in-None-clause-ends g c class s p =
    let same : c.self.inside.scanner ≡ c.args.self.scanner = ap (λ (v : PlayView). v.scanner) c.self.view_is in
    let closed : c.args.self.scanner.fault ≡ None → (y : List ℕ) → Holds c.args.self.scanner y → y ≡ [] =
    rw same at c.in_ok-end.ensures.ends in
    let found : first_unknown c.args.self.state.screen (c.args.self.size.lines * c.args.self.size.width) ≡ None
    = rw (← c.self.view_is) (rw (c.lines.ensures.lines, c.width-width.ensures.width) at
    (sym c.first_unknown.ensures ∙ c.in-None.is)) in
    ends_good c.args.self class s p closed c.new.result found (rw (← c.self.view_is) c.new.ensures)

pub returns-in-Some-clause-ends : goal.returns-in-Some-clause-ends
returns-in-Some-clause-ends g c class s p =
    let same : c.self.inside.scanner ≡ c.args.self.scanner = ap (λ (v : PlayView). v.scanner) c.self.view_is in
    let closed : c.args.self.scanner.fault ≡ None → (y : List ℕ) → Holds c.args.self.scanner y → y ≡ [] =
    rw same at c.in_ok-end.ensures.ends in
    let found : first_unknown c.args.self.state.screen (c.args.self.size.lines * c.args.self.size.width)
    ≡ Some c.in-Some.i
    = rw (← c.self.view_is) (rw (c.lines.ensures.lines, c.width-width.ensures.width) at
    (sym c.first_unknown.ensures ∙ c.in-Some.is)) in
    ends_unknown c.args.self class s p closed c.in-Some.i c.offset.result c.width-width.result found
    (ap (λ (v : PlayView). v.scanner.offset) (sym c.self.view_is) ∙ sym c.offset.ensures)
    (ap (λ (v : PlayView). v.size.width) (sym c.self.view_is) ∙ sym c.width-width.ensures.width)

pub overflow_add-result : goal.overflow_add-result
overflow_add-result g c =
    let place = place_fits _ c.lines.ensures.limits c.lines.ensures.lines c.width-width.ensures.width
    (sym c.first_unknown.ensures ∙ c.in-Some.is) in
    omega (arith, place.row_fits)

pub overflow_cast-result : goal.overflow_cast-result
overflow_cast-result g c =
    let place = place_fits _ c.lines.ensures.limits c.lines.ensures.lines c.width-width.ensures.width
    (sym c.first_unknown.ensures ∙ c.in-Some.is) in
    omega (arith, place.row_fits)

pub overflow_add-result-in-Some : goal.overflow_add-result-in-Some
overflow_add-result-in-Some g c =
    let place = place_fits _ c.lines.ensures.limits c.lines.ensures.lines c.width-width.ensures.width
    (sym c.first_unknown.ensures ∙ c.in-Some.is) in
    omega (arith, place.column_fits)

pub overflow_cast-result-in-Some : goal.overflow_cast-result-in-Some
overflow_cast-result-in-Some g c =
    let place = place_fits _ c.lines.ensures.limits c.lines.ensures.lines c.width-width.ensures.width
    (sym c.first_unknown.ensures ∙ c.in-Some.is) in
    omega (arith, place.column_fits)

pub returns-in_err-end-clause-within : goal.returns-in_err-end-clause-within
returns-in_err-end-clause-within g c =
    let same : c.from_residual.result ≡ Err c.in_err-end.field-0.0 = search rules in
    let offset = ap (λ (v : PlayView). v.scanner.offset) c.self.view_is in
    rw same (omega (arith, offset, c.in_err-end.ensures.within))

pub overflow_mul-lines : goal.overflow_mul-lines
overflow_mul-lines g c =
    let size = c.lines.ensures.limits in
    let small : c.lines.result * c.width-width.result ≤ most_lines * most_columns =
    mul-le c.lines.result c.width-width.result most_lines most_columns
    (omega (arith, size.lines, c.lines.ensures.lines)) (omega (arith, size.columns, c.width-width.ensures.width)) in
    omega (arith, small)

-- a sequence that is not finished is the last fault
ends_unfinished : (z : Size) (class : Start) (s : List ℕ) (scanner : ScannerView) (h : HalfState) (fault : Fault)
    → (p : IsPlayed z class s scanner h) → IsUnfinished p.so_far.open_part → fault.cause ≡ EndInSequence
    → fault.offset + length p.so_far.open_part ≡ scanner.offset → IsLastFault z class s fault
ends_unfinished z class s scanner h fault p open_part cause place =
    let whole : length s ≡ length p.so_far.front + length p.so_far.open_part =
    ap length p.so_far.whole ∙ length-append p.so_far.front p.so_far.open_part in
    let at : fault.offset ≡ length p.so_far.front = omega (arith, whole, place, p.so_far.offset) in
    inl (record {
      size = p.size;
      front = p.so_far.front;
      text = p.so_far.open_part;
      whole = p.so_far.whole;
      tokens = p.so_far.tokens;
      reads = p.so_far.reads;
      clean = p.clean;
      unfinished = open_part;
      fault_is = ap (λ (n : ℕ). fault_at n fault.cause) at ∙ ap (fault_at (length p.so_far.front)) cause;
    })

pub returns-in_err-end-clause-ends : goal.returns-in_err-end-clause-ends
returns-in_err-end-clause-ends g c class s p =
    let same : c.from_residual.result ≡ Err c.in_err-end.field-0.0 = search rules in
    let scanner : c.self.inside.scanner ≡ c.args.self.scanner = ap (λ (v : PlayView). v.scanner) c.self.view_is in
    let told = (rw scanner at c.in_err-end.ensures.ends) p.so_far.unrefused p.so_far.open_part p.so_far.holds in
    rw same
    (ends_unfinished c.args.self.size class s c.args.self.scanner c.args.self.state c.in_err-end.field-0.0 p told.0
    told.1 told.2)
