use Rattle.std.proofs.Common.{refl}
use Rattle.ans_model.specs.Screen.StartClass.{all_known}
use Rattle.ans_sauce.specs.Parts.{content_of, size_of}
use Rattle.ans_mend.proofs.MendLemmas.{faulty_wants, good_reads, nothing_needed, parted_wants, same_wants}
use Rattle.ans_mend.proofs.judging.wants_mending.Goals as goal

pub returns-in-Some-clause-wants : goal.returns-in-Some-clause-wants
returns-in-Some-clause-wants c = (
  λ on. faulty_wants c.args.mends.now (size_of c.args.parts.now) (content_of c.args.parts.now) c.requires.cleared _
      (rw c.in-Some.is at c.requires.ends),
  λ wants. refl,
)

pub is_same_where_cleared-requires-clause-needs : goal.is_same_where_cleared-requires-clause-needs
is_same_where_cleared-requires-clause-needs c =
    rw (c.size.ensures, c.content.ensures)
    (nothing_needed (size_of c.args.parts.now) (content_of c.args.parts.now) (rw c.in-None.is at c.requires.ends))

pub returns-then-not-is_same_where_cleared-clause-wants :
    goal.returns-then-not-is_same_where_cleared-clause-wants
returns-then-not-is_same_where_cleared-clause-wants c = (
  λ on. parted_wants c.args.mends.now (size_of c.args.parts.now) (content_of c.args.parts.now)
      c.is_same_where_cleared.result (rw (c.size.ensures, c.content.ensures) at c.is_same_where_cleared.ensures)
      c.if-not-is_same_where_cleared.true,
  λ wants. refl,
)

pub wants_names-requires-clause-reads : goal.wants_names-requires-clause-reads
wants_names-requires-clause-reads c =
    rw c.content-in-None.ensures
    (good_reads (size_of c.args.parts.now) all_known (content_of c.args.parts.now) c.requires.cleared)

pub returns-else-not-is_same_where_cleared-clause-wants :
    goal.returns-else-not-is_same_where_cleared-clause-wants
returns-else-not-is_same_where_cleared-clause-wants c =
    same_wants c.args.mends.now (size_of c.args.parts.now) (content_of c.args.parts.now)
    c.is_same_where_cleared.result c.wants_names.result
    (rw (c.size.ensures, c.content.ensures) at c.is_same_where_cleared.ensures) c.if-not-is_same_where_cleared.false
    (rw c.content-in-None.ensures at c.wants_names.ensures)
