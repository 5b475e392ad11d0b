use Rattle.std.proofs.Common.{inl, refl}
use Rattle.ans_check.proofs.RowsLemmas.{out_in_part, out_whole}
use Rattle.ans_check.proofs.rows.tell_header.Goals as goal

pub returns-in-Ok : goal.returns-in-Ok
returns-in-Ok g c =
    out_whole c.args.out.now c.put_header_in.new.out c.finish.new.self c.finish.result c.requires
    c.put_header_in.ensures c.finish.ensures.handed c.finish.ensures.device c.finish.ensures.empty _ _ c.in-Ok.is

pub returns-in-Err : goal.returns-in-Err
returns-in-Err g c =
    out_in_part c.args.out.now c.put_header_in.new.out c.finish.new.self c.finish.result c.requires
    c.put_header_in.ensures c.finish.ensures.handed c.finish.ensures.device c.finish.ensures.empty _ c.in-Err.is
    (inl refl)
