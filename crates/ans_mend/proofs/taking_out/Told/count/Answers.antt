use Rattle.std.proofs.Common.{◌≡◌, ℕ, Bool, List, ap, ap₂, ◌∙◌, Option, Some, None, slice_index_or}
use Rattle.std.specs.Prelude.{set}
use Rattle.ans_mend.specs.TakingOut.{gone_at, index_of, one_more}
use Rattle.ans_mend.specs.declared.taking_out.TakenOut.{TakenOut}
use Rattle.ans_mend.specs.declared.taking_out.Told.{Told}
use Rattle.ans_mend.proofs.taking_out.Told.count.Goals as goal

told : List (Option TakenOut) → Option Bool → Told
told kinds on = record { kinds = kinds; bright_backgrounds = on }

pub returns : goal.returns
unfolding told
returns c =
    let kinds = c.args.self.now.kinds in
    let one : c.one_more-taken.result ≡ one_more (slice_index_or kinds (index_of c.args.kind) None)
    (gone_at c.args.kind c.args.place c.args.text.now) =
    c.one_more-taken.ensures ∙ ap (λ (n : ℕ). one_more (slice_index_or kinds n None)
    (gone_at c.args.kind c.args.place c.args.text.now)) c.index_of-index.ensures in
    ap (λ (v : List (Option TakenOut)). told v c.args.self.now.bright_backgrounds)
    (ap₂ (λ (n : ℕ) (t : TakenOut). set kinds n (Some t)) c.index_of-index.ensures one)
