use Rattle.std.proofs.Common.{◌≡◌, ◌∙◌, ◌∷◌, [], ap, append_assoc, rules, sym}
use Rattle.ans_model.specs.Text.Words.{texts_of, words_text}
use Rattle.ans_players.specs.Kinds.{kind_word}
use Rattle.ans_players.specs.declared.difference.Difference.TheVariants.{OwnColours}
use Rattle.ans_kinds.specs.KindsUsed.{words_used}
use Rattle.ans_write.proofs.PutsLemmas.{Puts-same, Puts-then}
use Rattle.ans_table.specs.Columns.{players_columns, tab}
use Rattle.ans_table.proofs.columns.put_players.Goals as goal

pub returns-in-Any : goal.returns-in-Any
returns-in-Any g c =
    Puts-same (sym (ap players_columns c.in-Any.is))
    (Puts-then c.put.ensures (Puts-then c.put_needed_parts.ensures c.put-in-Any.ensures))

pub returns-in-InNamedColours : goal.returns-in-InNamedColours
returns-in-InNamedColours g c =
    let word : c.as_bytes.result.now ≡ kind_word OwnColours = search rules in
    Puts-same (sym (ap players_columns c.in-InNamedColours.is))
    (Puts-then (rw word at c.put_column.ensures)
    (Puts-then c.put_needed_parts-in-InNamedColours.ensures c.put-in-InNamedColours.ensures))

pub returns-in-Agreeing : goal.returns-in-Agreeing
returns-in-Agreeing g c =
    let kinds = words_used c.in-Agreeing.used in
    let put : texts_of c.as_slice.result.now ≡ kinds = search rules in
    Puts-same (sym (append_assoc (words_text kinds) (tab ∷ []) (tab ∷ [])) ∙ sym (ap players_columns c.in-Agreeing.is))
    (Puts-then (rw put at c.put_words.ensures) c.put-in-Agreeing.ensures)
