use Rattle.std.proofs.Common.{◌≡◌, ◌≢◌, ◌∙◌, ◌+◌, ◌*◌, ap, sym, refl, arith, rules, length, true, Some, None}
use Rattle.std.specs.Prelude.{Err}
use Rattle.ans_model.specs.Bytes.{IsByte}
use Rattle.ans_model.specs.Screen.State.{cell_count}
use Rattle.ans_model.specs.Screen.Step.{tab_blanks}
use Rattle.ans_play.specs.HalfState.{HalfState}
use Rattle.ans_play.specs.HalfStep.{half_blank}
use Rattle.ans_play.specs.HalfFault.{is_one_position}
use Rattle.ans_play.specs.HalfBlanks.{fault_of_blanks}
use Rattle.ans_play.specs.PlayView.{PlayView, play_view}
use Rattle.ans_play.proofs.BlankRuns.{tab_is_refused, tab_is_played, tab_refused_as_print, same_run, filled_bytes}
use Rattle.ans_play.proofs.play.Play.tab.Goals as goal
use Rattle.ans_play.proofs.play.Play.tab.Goals.{After-tab_blanks-blanks}
use Rattle.ans_play.proofs.play.Play.tab.Given.{Over}
use Rattle.ans_model.specs.declared.cell.Position.{Position}

-- the tab is printed where the cursor stands
here : (g : Over) (c : After-tab_blanks-blanks g) → c.in_ok-position.position ≡ c.self.inside.cursor.low
here g c = c.in_ok-position.ensures.one.0 ∙ sym (ap (λ (p : PlayView). p.state.cursor.low) c.self.view_is)

one : (g : Over) (c : After-tab_blanks-blanks g) → is_one_position c.self.inside.cursor ≡ true
one g c = ap (λ (p : PlayView). is_one_position p.state.cursor) c.self.view_is ∙ c.in_ok-position.ensures.one.1

above : (g : Over) (c : After-tab_blanks-blanks g) → c.self.inside.cursor.low.row ≢ c.self.inside.size.lines
above g c e =
    let row = ap (λ (p : Position). p.row) (here g c) in
    let lines = ap (λ (p : PlayView). p.size.lines) c.self.view_is in
    omega (arith, row, lines, e, c.in_ok-position.ensures.above)

pub returns-in_err-position : goal.returns-in_err-position
returns-in_err-position g c =
    let same : c.from_residual.result ≡ Err c.in_err-position.field-0.0 = search rules in
    rw same (tab_refused_as_print c.args.self.now.size c.args.self.now.state _ c.in_err-position.ensures.fault, refl)

pub returns-in_err-cursor : goal.returns-in_err-cursor
returns-in_err-cursor g c =
    let at = (goal.at.returns-in_err-cursor g c).After-tab_blanks-blanks in
    let same : c.from_residual-in_err-cursor.result ≡ Err c.in_err-cursor.field-0.0 = search rules in
    let some : fault_of_blanks c.self.inside.size c.self.inside.wrap c.self.inside.cursor.low
    (tab_blanks c.self.inside.cursor.low.column) ≡ Some c.in_err-cursor.field-0.0 =
    rw (c.tab_blanks-blanks.ensures, here g at) at c.in_err-cursor.ensures.fault in
    rw (same, ← c.self.view_is) (
      tab_is_refused c.self.inside.size (g.G.Screen.cells_of c.self.inside.grid) c.self.inside.cursor
          c.self.inside.saved c.self.inside.attribute c.self.inside.wrap c.self.invariant.cursor (one g at) (above g at)
          c.in_err-cursor.field-0.0 some,
      refl,
    )

pub invariant_of-self : goal.invariant_of-self
invariant_of-self g c =
    let attribute : IsByte c.args.self.now.state.attribute.value = rw (← c.self.view_is) c.self.invariant.attribute in
    record {
      cells = cc (g.met.G.Screen.whole c.fill_from.new.grid, g.met.G.Screen.whole c.self.inside.grid);
      bytes = filled_bytes _ (c.in_ok-position.position.row * g.G.Screen.width_of c.self.inside.grid
          + c.in_ok-position.position.column)
          c.end_of_blanks-to.result c.fill_from.ensures.cells c.blank-blank.ensures attribute c.self.invariant.bytes;
      attribute = c.self.invariant.attribute;
      cursor = c.in_ok-cursor.ensures.on_screen;
      saved = c.self.invariant.saved;
    }

pub returns : goal.returns
returns g c =
    let at = (goal.at.returns g c).After-tab_blanks-blanks in
    let none : fault_of_blanks c.self.inside.size c.self.inside.wrap c.self.inside.cursor.low
    (tab_blanks c.self.inside.cursor.low.column) ≡ None =
    rw (c.tab_blanks-blanks.ensures, here g at) at c.in_ok-cursor.ensures.ok in
    let cells : length (g.G.Screen.cells_of c.self.inside.grid) ≡ cell_count c.self.inside.size =
    c.self.invariant.cells in
    let blank : c.blank-blank.result ≡ half_blank c.self.inside.attribute =
    c.blank-blank.ensures ∙ ap (λ (p : PlayView). half_blank p.state.attribute) (sym c.self.view_is) in
    let run = tab_is_played c.self.inside.size (g.G.Screen.cells_of c.self.inside.grid) c.self.inside.cursor
    c.self.inside.saved c.self.inside.attribute c.self.inside.wrap c.self.invariant.cursor (one g at) (above g at)
    cells none in
    rw (← c.self.view_is) (
      run.0,
      ap (λ (h : HalfState). play_view c.self.inside.size c.self.inside.scanner h)
          (same_run _ _ _ _ c.self.inside.saved c.self.inside.attribute c.self.inside.wrap
          (rw (c.self.inside.grid_width, c.end_of_blanks-to.ensures, c.tab_blanks-blanks.ensures, here g at, blank)
          at c.fill_from.ensures.cells)
          (rw (c.tab_blanks-blanks.ensures, here g at) at c.in_ok-cursor.ensures.after)
          ∙ sym run.1),
    )
