use Rattle.std.proofs.Common.{◌≡◌, ◌∙◌, ℕ, List, length, take, subst, sym, ap, arith}
use Rattle.std.proofs.lemmas.Bool.{eq-eqb, eqb-true}
use Rattle.std.proofs.lemmas.List.{take_all}
use Rattle.ans_model.specs.Sequence.Reads.{ReadsAs}
use Rattle.ans_pens.specs.Counted.{count_of}
use Rattle.ans_hints.specs.RowEnds.{written_by}
use Rattle.ans_hints.specs.declared.row_ends.RowEnds.{RowEnds}
use Rattle.ans_hints.specs.FullRowEnds.{full_row_ends}
use Rattle.ans_mend.proofs.full_rows.ends_count.Goals as goal

pub returns : goal.returns
returns c tokens texts reads =
    let content : List ℕ = c.args.content.now in
    let whole : take (length content) content ≡ content = take_all (length content) content (omega arith) in
    let hints = c.of-hints.ensures tokens texts (subst (λ (v : List ℕ). ReadsAs v tokens texts) (sym whole) reads) in
    let ended : c.count_of.result ≡ count_of (written_by c.args.size tokens texts).ends.ended =
    c.count_of.ensures ∙ ap (λ (ends : RowEnds). count_of ends.ended) hints.row_ends in
    let counted : c.count_ends.result ≡ length (full_row_ends c.args.size tokens texts) =
    c.count_ends.ensures (full_row_ends c.args.size tokens texts) (c.new.ensures.ends content tokens texts reads) in (
      λ e. sym ended ∙ eqb-true c.count_of.result c.count_ends.result e ∙ counted,
      λ e. eq-eqb c.count_of.result c.count_ends.result (ended ∙ e ∙ sym counted),
    )
