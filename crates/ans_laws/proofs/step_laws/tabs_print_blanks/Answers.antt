use Rattle.std.proofs.Common.{◌≡◌, ℕ, ◌+◌, ◌*◌, ◌/◌, ◌%◌, ◌<◌, arith, lit<}
use Rattle.std.proofs.Math.Nat.{mod-lt, div-add-mod}
use Rattle.ans_model.specs.Screen.Step.{tab_blanks}
use Rattle.ans_model.proofs.TabLemmas.{blanks_are_glyphs}
use Rattle.ans_laws.proofs.step_laws.tabs_print_blanks.Goals as goal

pub returns : goal.returns
returns c = λ z s.
    let column : ℕ = s.cursor.column in
    let below : column % 8 < 8 = mod-lt column (lit< tt) in
    let parts : 8 * (column / 8) + column % 8 ≡ column = div-add-mod column 8 in (
      tab_blanks column,
      record {
        some = omega (arith, below);
        most = omega arith;
        to_stop = (column / 8 + 1, omega (arith, below, parts));
        played = blanks_are_glyphs z s (tab_blanks column);
      },
    )
