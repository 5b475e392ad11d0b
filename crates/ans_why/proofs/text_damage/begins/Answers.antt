use Rattle.ans_why.proofs.text_damage.begins.Goals as goal

pub returns-in-Lost : goal.returns-in-Lost
returns-in-Lost c = rw c.in-Lost.is (c.is_lost_escape.ensures c.args.before)

pub returns-in-Shown : goal.returns-in-Shown
returns-in-Shown c = rw c.in-Shown.is (c.is_shown_escape.ensures c.args.before)

pub returns-in-Pairs : goal.returns-in-Pairs
returns-in-Pairs c = rw c.in-Pairs.is (c.is_pair_of_pairs.ensures c.args.before)

pub returns-in-Wide : goal.returns-in-Wide
returns-in-Wide c = rw c.in-Wide.is (c.is_wide_character.ensures c.args.before)

pub returns-in-MovesRow : goal.returns-in-MovesRow
returns-in-MovesRow c = rw c.in-MovesRow.is (c.is_row_move.ensures c.args.before)
