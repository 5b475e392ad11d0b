use Rattle.std.proofs.Common.{ap, ap₂, ◌∙◌, length}
use Rattle.ans_pens.specs.Pens.{further}
use Rattle.ans_hints.specs.declared.hints.Hints.{Hints}
use Rattle.ans_pens.specs.declared.pen.Pen.{Pen}
use Rattle.ans_hints.specs.declared.row.Row.{Row}
use Rattle.ans_hints.specs.declared.row.Seam.TheVariants.{Other}
use Rattle.ans_hints.specs.declared.walk.Walk.{Walk}
use Rattle.ans_hints.proofs.walk.Walk.go_past.Goals as goal

pub returns-clause-past : goal.returns-clause-past
returns-clause-past c =
    let old = c.args.self.now in
    let looked = c.look_at_run.new.self in
    let n = length c.args.run.now in
    ap₂ (λ (p : Pen) (r : Row). record looked { pen = p; row = r }) c.go_on-2.ensures.pen c.go_on.ensures
    ∙ ap (λ (w : Walk). record w { pen = further w.pen n; row = record w.row { seam = Other } })
    c.look_at_run.ensures.kept
    ∙ ap (λ (hints : Hints). record old {
      pen = further old.pen n;
      row = record old.row { seam = Other };
      loose_before = old.hints.loose_line_feeds;
      hints = hints;
    }) c.look_at_run.ensures.hints
