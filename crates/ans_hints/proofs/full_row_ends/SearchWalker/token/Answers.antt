use Rattle.std.proofs.Common.{ℕ, ◌+◌, ◌<◌, length, refl, ◌∙◌, ap}
use Rattle.ans_model.specs.Inside.ShownKind.{shown_kind}
use Rattle.ans_tokens.specs.Token.{kind_of}
use Rattle.ans_hints.proofs.FullRowsFound.{sought_token}
use Rattle.ans_hints.proofs.full_row_ends.SearchWalker.token.Goals as goal

pub returns-clause-walked : goal.returns-clause-walked
returns-clause-walked c first front text next h =
    let long : 0 < length text = rw next.long at c.requires.some in
    sought_token first c.args.self.now _ front (shown_kind (kind_of c.args.token.now)) text c.args._behind.now h
    next.spelled long _ (ap (λ (v : ℕ). c.args.self.now.base + v) (c.start.ensures ∙ next.starts)) refl refl
    (rw c.kind-kind.ensures at c.end_by-self.ensures) (rw c.kind-kind.ensures at c.with-self.ensures.agrees)
    c.with-self.ensures.seen (rw c.kind-kind.ensures at c.with-self.ensures.ended) c.step.ensures.stands
    (rw c.kind-kind.ensures at c.step.ensures.pen) c.is_none.result c.is_none.ensures
