use Rattle.ans_mend.proofs.last_ends.+count_before_sequences.Given as goal

abbrev pub decreases-count_before_sequences : goal.decreases-count_before_sequences
decreases-count_before_sequences l = l.sequences
