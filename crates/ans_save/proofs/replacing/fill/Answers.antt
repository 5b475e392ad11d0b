use Rattle.std.proofs.Common.{rules}
use Rattle.ans_save.proofs.FollowsLemmas.{follows_work}
use Rattle.ans_save.proofs.replacing.fill.Goals as goal

pub returns : goal.returns
returns g c =
    follows_work g.D.Disk.did c.args.disk.now c.write.new.self c.permit.new.disk c.sync.new.disk c.rename.new.self
    c.args.name.now c.args.target.now c.args.work.now _ (search rules) (search rules) (search rules) (search rules)
