use Rattle.std.proofs.Common.{◌≡◌, ℕ, ◌-◌, List, ◌++◌, length, take, ap, ap₂, ◌∙◌}
use Rattle.std.specs.Prelude.{min, replicate}
use Rattle.std.proofs.lemmas.List.{drop-replicate}
use Rattle.ans_mend.specs.declared.taking_out.Excerpt.{Excerpt}
use Rattle.ans_mend.proofs.taking_out.excerpt_of.Goals as goal

excerpt : List ℕ → ℕ → Excerpt
excerpt bytes long = record { bytes = bytes; length = long }

pub returns : goal.returns
unfolding excerpt
returns c =
    let is : c.min-count.result ≡ min (length c.args.text.now) 32 = c.min-count.ensures in
    ap (λ (v : List ℕ). excerpt v (length c.args.text.now))
    (ap₂ (λ (v w : List ℕ). v ++ w)
    (c.copy_from_slice.ensures.after ∙ ap (λ (n : ℕ). take n c.args.text.now) is)
    (drop-replicate c.min-count.result 32 0 ∙ ap (λ (n : ℕ). replicate (32 - n) 0) is))
