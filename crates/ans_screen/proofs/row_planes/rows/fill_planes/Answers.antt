use Rattle.std.proofs.Common.{ℕ, List, ap, inl, inr, ◌∙◌}
use Rattle.ans_model.specs.Screen.Step.{filled}
use Rattle.ans_screen.proofs.Widened.{same_both}
use Rattle.ans_screen.proofs.row_planes.rows.fill_planes.Goals as goal

pub returns-then-not-known : goal.returns-then-not-known
returns-then-not-known o c =
    let x = c.args.bytes in
    let before = c.fill_shown.ensures in
    let after = c.fill_known.ensures in
    record {
      glyphs = after.shown.glyphs ∙ before.glyphs;
      values = after.shown.values ∙ before.values;
      marks = inl (
        c.if-not-known.true,
        after.glyphs_known
            ∙ ap (λ (xs : List ℕ). filled xs c.args.from c.args.to x.glyph_known) before.known.glyphs_known,
        after.bits_known ∙ ap (λ (xs : List ℕ). filled xs c.args.from c.args.to x.bits_known) before.known.bits_known,
      );
      same = same_both before.same after.same;
    }

pub returns-else-not-known : goal.returns-else-not-known
returns-else-not-known o c =
    let before = c.fill_shown.ensures in
    let full = c.requires.known c.if-not-known.false in
    record {
      glyphs = before.glyphs;
      values = before.values;
      marks = inr (c.if-not-known.false, before.known, full.0, full.1);
      same = before.same;
    }
