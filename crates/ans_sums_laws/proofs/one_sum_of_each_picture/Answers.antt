use Rattle.ans_sums_laws.proofs.SumsTell.{sums_tell_drawings, sums_tell_pictures}
use Rattle.ans_sums_laws.proofs.one_sum_of_each_picture.Goals as goal

pub returns : goal.returns
returns c = record { pictures = sums_tell_pictures; drawings = sums_tell_drawings }
