use Rattle.std.proofs.Common.{◌≡◌, ℕ, ◌+◌, ◌-◌, List, take, drop, sym, ap, ◌∙◌, subst, arith}
use Rattle.ans_model.specs.Sequence.Reads.{ReadsAs}
use Rattle.ans_players.specs.Situations.{spelled}
use Rattle.ans_mend.specs.NamedColours.{named_content}
use Rattle.ans_mend.proofs.MovedUp.{filled_front, from_start, moved, moved_content}
use Rattle.ans_mend.proofs.name_colours.name_in.Goals as goal

pub returns-clause-named : goal.returns-clause-named
returns-clause-named c tokens texts reads =
    let memory : List ℕ = c.args.memory.now in
    let used : ℕ = c.args.used in
    let count : ℕ = c.args.count in
    let gap : ℕ = c.args.gap in
    let there : c.copy_within.new.self ≡ moved memory used count gap c.requires.room c.requires.within =
    c.copy_within.ensures.after ∙ from_start memory used gap in
    let bytes : take (gap + count - gap) (drop gap c.copy_within.new.self) ≡ take count memory =
    ap (λ (n : ℕ). take n (drop gap c.copy_within.new.self)) (omega arith)
    ∙ ap (λ (v : List ℕ). take count (drop gap v)) there
    ∙ moved_content memory used count gap c.requires.room c.requires.within in
    filled_front memory used count gap c.requires.room c.requires.within c.write_named.new.memory
    (named_content (spelled tokens texts))
    (c.write_named.ensures.written tokens texts (subst (λ (v : List ℕ). ReadsAs v tokens texts) (sym bytes) reads))
    (c.write_named.ensures.behind ∙ ap (drop (gap + count)) there)
