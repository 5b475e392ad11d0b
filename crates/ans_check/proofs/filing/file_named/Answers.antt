use Rattle.std.proofs.Common.{◌≡◌, rules, subst}
use Rattle.ans_write.specs.Puts.{Puts, device_of}
use Rattle.ans_check.specs.Fates.{all_said}
use Rattle.ans_check.specs.Naming.{unnamed}
use Rattle.ans_check.specs.declared.naming.Naming.{Naming}
use Rattle.ans_check.proofs.FilesLemmas.{filed_named, never_unwritten}
use Rattle.ans_check.proofs.filing.file_named.Goals as goal

pub returns-clause-filed : goal.returns-clause-filed
returns-clause-filed g c =
    let ending = c.end_of_files-ending.result in
    let said : Puts g.E.Write.contents c.file_all.new.out c.put_said.new.out (all_said unnamed ending) =
    subst (λ (n : Naming). Puts g.E.Write.contents c.file_all.new.out c.put_said.new.out (all_said n ending))
    c.unnamed.ensures c.put_said.ensures in
    let same : device_of c.finish.new.self ≡ _ = search rules in
    filed_named _ _ _ _ _ _ _ _ c.args.errors.now _ c.new-out.result c.file_all.new.out c.put_said.new.out
    c.finish.new.self c.finish.result ending c.new-out.ensures.unchanged c.new-out.ensures.empty said
    c.finish.ensures.handed c.finish.ensures.device c.finish.ensures.empty same c.file_all.result
    c.end_of_files-ending.ensures c.file_all.ensures.filed c.file_all.ensures.untouched

pub returns-clause-write : goal.returns-clause-write
returns-clause-write g c =
    never_unwritten c.file_all.result c.end_of_files-ending.result c.end_of_files-ending.ensures
