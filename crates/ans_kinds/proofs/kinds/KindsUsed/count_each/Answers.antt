use Rattle.std.specs.List.{list_any}
use Rattle.ans_players.specs.Kinds.{is_kind}
use Rattle.ans_kinds.specs.SyncShown.{kinds_of}
use Rattle.ans_kinds.proofs.KindsFound.{few_more}
use Rattle.ans_kinds.proofs.KindsCounted.{all_counted, few_later, has, one_of_three, one_of_two}
use Rattle.ans_kinds.proofs.KindsCounted.{three_counted, two_counted}
use Rattle.ans_kinds.proofs.kinds.KindsUsed.count_each.Goals as goal

pub count_kind-requires-2 : goal.count_kind-requires-2
count_kind-requires-2 c = record {
  few = few_later c.args.self.now c.count_kind.new.self (has c.args.situations.now.unsure) c.args.offset c.requires.few
      c.requires.room c.count_kind.ensures.used;
}

pub count_kind-requires-3 : goal.count_kind-requires-3
count_kind-requires-3 c =
    let old = c.args.self.now in
    let s = c.args.situations.now in
    record {
      few = few_later old c.count_kind-2.new.self (one_of_two old s c.args.offset) c.args.offset c.requires.few
          c.requires.room
          (two_counted old s c.args.offset _ _ _ c.unless.ensures c.count_kind.ensures.used
          c.count_kind-2.ensures.used);
    }

pub count_kind-requires-4 : goal.count_kind-requires-4
count_kind-requires-4 c =
    let old = c.args.self.now in
    let s = c.args.situations.now in
    record {
      few = few_later old c.count_kind-3.new.self (one_of_three old s c.args.offset) c.args.offset c.requires.few
          c.requires.room
          (three_counted old s c.args.offset _ _ _ _ c.unless-2.ensures c.unless-3.ensures
          (two_counted old s c.args.offset _ _ _ c.unless.ensures c.count_kind.ensures.used c.count_kind-2.ensures.used)
          c.count_kind-3.ensures.used);
    }

pub returns-clause-used : goal.returns-clause-used
returns-clause-used c =
    let old = c.args.self.now in
    let s = c.args.situations.now in
    all_counted old s c.args.offset _ _ _ _ _ _ c.kind_if-unnamed.ensures c.unless-4.ensures c.unless-5.ensures
    c.unless-6.ensures
    (three_counted old s c.args.offset _ _ _ _ c.unless-2.ensures c.unless-3.ensures
    (two_counted old s c.args.offset _ _ _ c.unless.ensures c.count_kind.ensures.used c.count_kind-2.ensures.used)
    c.count_kind-3.ensures.used) c.count_kind-4.ensures.used

pub returns-clause-few : goal.returns-clause-few
returns-clause-few c =
    few_more c.args.self.now c.count_kind-4.new.self (λ kind. list_any (is_kind kind) (kinds_of c.args.situations.now))
    c.args.offset c.requires.few (returns-clause-used c)
