use Rattle.std.proofs.Common.{rules, string_bytes}
use Rattle.std.proofs.lemmas.Cmp.{nat_list_cmp_total}
use Rattle.std.proofs.lemmas.List.Sorted.{answers_always, ranks_by}
use Rattle.ans_folders.specs.declared.entry.Entry.{Entry}
use Rattle.ans_folders.proofs.walking.sort.Goals as goal

pub returns : goal.returns
returns c = record {
  same = c.sort_unstable_by.ensures.permutation;
  order = c.sort_unstable_by.ensures.sorted _ (ranks_by nat_list_cmp_total (λ (entry : Entry). string_bytes entry.name))
      (answers_always _ _ _ (λ f a r f' k. search rules));
}
